-- Each field of a token is a part of its writing.
use Rattle.std.proofs.Common.{◌≡◌, ℕ, List, [], ◌++◌, IfOk, Some, None, Ok, Err, Option, Result, sym, ap, ◌∙◌, subst}
use Rattle.std.proofs.lemmas.List.{append-nil, append_assoc}
use Rattle.sspi.specs.declared.fault.Fault.{Fault}
use Rattle.der.specs.Elements.{element}
use Rattle.spnego.specs.declared.part.Kind.{Kind}
use Rattle.spnego.specs.declared.part.Kind.TheVariants.{Element, MechTypes, Oid, BitString, OctetString}
use Rattle.spnego.specs.Tokens.{wrapper, wrapped, inside, field, Fields, four_fields, sequence, Targ, targ_fields, targ_bytes, Init, init_fields, init_content, init_bytes}
use Rattle.spnego.specs.Reading.{read_targ, read_init}
use Rattle.spnego.specs.Places.{Within, Parts}
use Rattle.spnego.proofs.Whole.{targ_read_lem, init_read_lem}

whole : (p : List ℕ) → Within p p
whole p = ([], [], sym (append-nil p))

on_left : (p a b : List ℕ) → Within p a → Within p (a ++ b)
on_left p a b w = (w.0, w.1 ++ b, ap (λ v. v ++ b) w.2 ∙ simp append_assoc)

on_right : (p a b : List ℕ) → Within p b → Within p (a ++ b)
on_right p a b w = (a ++ w.0, w.1, ap (λ v. a ++ v) w.2 ∙ sym (append_assoc a w.0 (p ++ w.1)))

in_element : (t : ℕ) (p c : List ℕ) → Within p c → Within p (element t c)
unfolding element
in_element t p c w = on_right p _ c w

in_wrapped : (o : Option ℕ) (p : List ℕ) → Within p (wrapped o p)
in_wrapped None p = whole p
in_wrapped (Some t) p = in_element t p p (whole p)

in_field : (t : ℕ) (k : Kind) (o : Option (List ℕ)) (p : List ℕ) → o ≡ Some p → Within p (field t k o)
in_field t k o p e = subst (λ (v : Option (List ℕ)). Within p (field t k v)) (sym e) (in_element t p (inside k p) (in_wrapped (wrapper k) p))

-- wherever the sequence of the four fields stands, each is a part
sequence_parts : (k l : Kind) (f : Fields) (xs : List ℕ) → ((p : List ℕ) → Within p (sequence k l f) → Within p xs) → Parts xs f
unfolding sequence four_fields
sequence_parts k l f xs up =
    let F1 : List ℕ = field 0xA0 k f.first in
    let F2 : List ℕ = field 0xA1 l f.second in
    let F3 : List ℕ = field 0xA2 OctetString f.third in
    let F4 : List ℕ = field 0xA3 OctetString f.fourth in
    record {
      first = λ p e. up p (in_element 0x30 p (four_fields k l f) (on_left p F1 (F2 ++ (F3 ++ F4)) (in_field 0xA0 k f.first p e)));
      second = λ p e. up p (in_element 0x30 p (four_fields k l f) (on_right p F1 (F2 ++ (F3 ++ F4)) (on_left p F2 (F3 ++ F4) (in_field 0xA1 l f.second p e))));
      third = λ p e.
          up p (in_element 0x30 p (four_fields k l f) (on_right p F1 (F2 ++ (F3 ++ F4)) (on_right p F2 (F3 ++ F4) (on_left p F3 F4 (in_field 0xA2 OctetString f.third p e)))));
      fourth = λ p e.
          up p (in_element 0x30 p (four_fields k l f) (on_right p F1 (F2 ++ (F3 ++ F4)) (on_right p F2 (F3 ++ F4) (on_right p F3 F4 (in_field 0xA3 OctetString f.fourth p e)))));
    }

targ_parts : (t : Targ) → Parts (targ_bytes t) (targ_fields t)
unfolding targ_bytes
targ_parts t = sequence_parts Element Oid (targ_fields t) (targ_bytes t) (λ p w. in_element 0xA1 p _ w)

pub parts_at_targ : (xs : List ℕ) (r : Result Targ Fault) → r ≡ read_targ xs → IfOk r (λ t. Parts xs (targ_fields t))
parts_at_targ xs (Ok t) e = subst (λ (v : List ℕ). Parts v (targ_fields t)) (sym (targ_read_lem xs t (sym e)).0) (targ_parts t)
parts_at_targ xs (Err d) e = tt

abbrev InitParts : List ℕ → Init → Type 0
InitParts xs t = Within t.this_mech xs × Parts xs (init_fields t)

init_parts : (t : Init) → InitParts (init_bytes t) t
unfolding init_bytes init_content
init_parts t =
    let M : List ℕ = element 0x06 t.this_mech in
    let S : List ℕ = sequence MechTypes BitString (init_fields t) in (
      in_element 0x60 t.this_mech (init_content t) (on_left t.this_mech M (element 0xA0 S) (in_element 0x06 t.this_mech t.this_mech (whole t.this_mech))),
      sequence_parts MechTypes BitString (init_fields t) (init_bytes t) (λ p w. in_element 0x60 p (init_content t) (on_right p M (element 0xA0 S) (in_element 0xA0 p S w))),
    )

pub parts_at_init : (xs : List ℕ) (r : Result Init Fault) → r ≡ read_init xs → IfOk r (λ t. Within t.this_mech xs × Parts xs (init_fields t))
parts_at_init xs (Ok t) e = subst (λ (v : List ℕ). InitParts v t) (sym (init_read_lem xs t (sym e)).0) (init_parts t)
parts_at_init xs (Err d) e = tt

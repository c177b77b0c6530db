-- What stands inside a field, and one field: what is written is read back, and what is read is the writing.
use Rattle.std.proofs.Common.{◌≡◌, ℕ, ◌<◌, true, false, cond, List, ◌++◌, length, is_ok, Some, None, Ok, Err, Option, Result, sym, refl, ap, ◌∙◌, subst, arith}
use Rattle.std.specs.Option.{option_map}
use Rattle.std.proofs.lemmas.Bool.{cond-true, false≢true}
use Rattle.sspi.specs.declared.fault.Fault.{Fault}
use Rattle.der.specs.Elements.{tag, Short}
use Rattle.der.specs.Reading.{illegal, and_then, one_element, begins, optional_of}
use Rattle.der.proofs.Ways.{let_through}
use Rattle.der.proofs.Taking.{both, length-element, only_written, only_read, element_one, one_element_lem, optional_written, optional_read}
use Rattle.mech_types.specs.Reading.{read_mech_type_list}
use Rattle.spnego.specs.declared.part.Kind.{Kind}
use Rattle.spnego.specs.declared.part.Kind.TheVariants.{Element, MechTypes, Oid, BitString, OctetString}
use Rattle.spnego.specs.Tokens.{wrapper, wrapped, Legal, inside, field, LegalField}
use Rattle.spnego.specs.Reading.{legal_test, unwrapped, part_of, inner_of, Field, within_of, field_of}
use Rattle.mech_types.proofs.Listing.{list_written, list_read_lem}

ok_value : {X : Type 0} (r : Result X Fault) → is_ok r ≡ true → (x : X) × (r ≡ Ok x)
ok_value (Ok x) h = (x, refl)
ok_value (Err e) h = absurd (false≢true h)

-- the test says which parts are legal
pub legal_passes : (k : Kind) (part : List ℕ) → Legal k part → legal_test k part ≡ true
legal_passes Element part h = ap one_element h.2 ∙ element_one h.0 h.1 h.3 h.4
legal_passes MechTypes part h = ap (λ xs. is_ok (read_mech_type_list xs)) h.1 ∙ ap is_ok (list_written h.0 h.2.all h.2.short)
legal_passes Oid part h = h
legal_passes BitString part h = h
legal_passes OctetString part h = refl

pub passes_legal : (k : Kind) (part : List ℕ) → legal_test k part ≡ true → Legal k part
passes_legal Element part h = one_element_lem part h
passes_legal MechTypes part h = let v = ok_value (read_mech_type_list part) h in let f = list_read_lem part v.0 v.1 in (v.0, f.0, record { all = f.1; short = f.2 })
passes_legal Oid part h = h
passes_legal BitString part h = h
passes_legal OctetString part h = tt

-- what stands around a part has a legal tag
tag_legal : (k : Kind) (t : ℕ) → wrapper k ≡ Some t → tag t ≡ true
tag_legal Element t e = cc
tag_legal MechTypes t e = cc
tag_legal Oid t e = let s : 0x06 ≡ t = cc in ap tag (sym s)
tag_legal BitString t e = let s : 0x03 ≡ t = cc in ap tag (sym s)
tag_legal OctetString t e = let s : 0x04 ≡ t = cc in ap tag (sym s)

part_written : (o : Option ℕ) (part : List ℕ) → ((t : ℕ) → o ≡ Some t → tag t ≡ true) → length (wrapped o part) < 65536 → unwrapped o (wrapped o part) ≡ Ok part
part_written None part h l = refl
part_written (Some t) part h l = let n = length-element t part in only_written t part (h t refl) (omega arith)

part_read_lem : (o : Option ℕ) (content part : List ℕ) → unwrapped o content ≡ Ok part → content ≡ wrapped o part
part_read_lem None content part r = cc
part_read_lem (Some t) content part r = (only_read t content part r).0

inner_written : (k : Kind) (part : List ℕ) → Legal k part → length (inside k part) < 65536 → inner_of k (inside k part) ≡ Ok part
inner_written k part h l =
    ap (λ r. and_then r (λ p. cond (legal_test k p) (Ok p) (Err illegal))) (part_written (wrapper k) part (tag_legal k) l) ∙ cond-true (legal_test k part) (Ok part) (Err illegal) (legal_passes k part h)

inner_read : (k : Kind) (content part : List ℕ) → inner_of k content ≡ Ok part → (content ≡ inside k part) × Legal k part
inner_read k content part r =
    let b = both (part_of k content) _ part r in
    let p = let_through (legal_test k b.0) illegal (Ok b.0) part b.2 in
    let e : b.0 ≡ part = cc p.1 in
    (part_read_lem (wrapper k) content b.0 b.1 ∙ ap (inside k) e, subst (Legal k) e (passes_legal k b.0 p.0))

within_written : (k : Kind) (o : Option (List ℕ)) (rest : List ℕ) → LegalField k o → Short (option_map (inside k) o) → within_of k (option_map (inside k) o) rest ≡ Ok (o, rest)
within_written k None rest h s = refl
within_written k (Some part) rest h s = ap (λ r. and_then r (λ p. Ok (Some p, rest))) (inner_written k part h s)

-- what reading inside a field says of its content
abbrev Within : Kind → Option (List ℕ) → List ℕ → Field → Type 0
Within k content rest y = (content ≡ option_map (inside k) y.0) × (rest ≡ y.1) × LegalField k y.0

within_read : (k : Kind) (content : Option (List ℕ)) (rest : List ℕ) (y : Field) → within_of k content rest ≡ Ok y → Within k content rest y
within_read k None rest y r = let e : (None, rest) ≡ y = cc in subst (Within k None rest) e (refl, refl, tt)
within_read k (Some content) rest y r =
    let b = both (inner_of k content) _ y r in
    let f = inner_read k content b.0 b.1 in
    let e : (Some b.0, rest) ≡ y = cc b.2 in
    subst (Within k (Some content) rest) e (ap Some f.0, refl, f.1)

pub short_field : (t : ℕ) (k : Kind) (o : Option (List ℕ)) → length (field t k o) < 65536 → Short (option_map (inside k) o)
short_field t k None l = tt
short_field t k (Some part) l = let n = length-element t (inside k part) in omega arith

pub field_written : (t : ℕ) (k : Kind) (o : Option (List ℕ)) (rest : List ℕ) → tag t ≡ true → LegalField k o → length (field t k o) < 65536 → begins t rest ≡ false
    → field_of t k (field t k o ++ rest) ≡ Ok (o, rest)
field_written t k o rest h f l b =
    let s = short_field t k o l in
    ap (λ r. and_then r (λ y. within_of k y.0 y.1)) (optional_written t (option_map (inside k) o) rest h s b) ∙ within_written k o rest f s

pub field_read : (t : ℕ) (k : Kind) (xs : List ℕ) (y : Field) → field_of t k xs ≡ Ok y → (xs ≡ field t k y.0 ++ y.1) × LegalField k y.0
field_read t k xs y r =
    let b = both (optional_of t xs) _ y r in
    let o = optional_read t xs b.0 b.1 in
    let w = within_read k b.0.0 b.0.1 y b.2 in
    (o.0 ∙ simp (w.0, w.1), w.2)

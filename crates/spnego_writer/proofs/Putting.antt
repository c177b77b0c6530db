-- Writing parts and fields, one behind the other, and the lengths that are computed before.
use Rattle.std.proofs.Common.{◌≡◌, ℕ, ◌+◌, ◌<◌, List, length, MatchResult, Some, None, Ok, Err, Option, Result, sym, refl, ap, ◌∙◌, subst, inl, arith, length-append, Bor}
use Rattle.std.specs.Option.{option_map}
use Rattle.sspi.specs.declared.fault.Fault.{Fault}
use Rattle.der.specs.Elements.{element, Short, oid}
use Rattle.der.specs.Reading.{and_then}
use Rattle.der.specs.declared.writer.Writer.{Writer}
use Rattle.der.specs.Writing.{element_len, invalid, Puts, Adds}
use Rattle.der.proofs.Ways.{err_ok, same_ok}
use Rattle.der.proofs.Taking.{length-element}
use Rattle.der.proofs.Adding.{element_len_lem, element_bound, adds}
use Rattle.der.proofs.Measures.{Measures, measured, unmeasured, measures_as, measures_done, measures_then, measures_if, element_measures}
use Rattle.spnego.specs.declared.part.Kind.{Kind}
use Rattle.spnego.specs.declared.part.Kind.TheVariants.{Element, MechTypes, Oid, BitString, OctetString}
use Rattle.spnego.specs.Tokens.{wrapper, wrapped, inside, field, LegalField, Fields, four_fields, sequence, LegalFields, Targ, targ_fields, targ_bytes, TargWellFormed, Init, init_fields, init_content, init_bytes, InitWellFormed}
use Rattle.spnego.specs.Reading.{seen, legal_test}
use Rattle.spnego.proofs.Inside.{legal_passes, passes_legal, short_field}
use Rattle.spnego.proofs.Fourfold.{octets_legal}
use Rattle.spnego_writer.specs.declared.lengths.Lengths.{Lengths}
use Rattle.spnego_writer.specs.Views.{plain_lens, lens_read}
use Rattle.spnego_writer.specs.Writing.{wrapped_len, inside_len, field_len, sequence_len, Lens, targ_lens, init_lens}

-- a part that stands inside an element of its own
pub adds_inside : (k : Kind) (t : ℕ) (part : List ℕ) {w v : Writer} {r : Result (Unit {0}) Fault} → wrapper k ≡ Some t → length (inside k part) < 65536
    → Puts (length part < 65536) (element t part) w v r → Adds (inside k part) w v r
adds_inside k t part h l p =
    let n = length-element t part in
    let e : inside k part ≡ element t part = ap (λ o. wrapped o part) h in
    rw h (adds (omega (arith, ap length e)) p)

-- the length of what stands inside a field
pub wrapped_len_lem : (o : Option ℕ) (part : List ℕ) → length (wrapped o part) < 65536 → wrapped_len o (length part) ≡ Ok (length (wrapped o part))
wrapped_len_lem None part l = refl
wrapped_len_lem (Some t) part l = let n = length-element t part in element_len_lem t part (omega arith)

-- a field that can be written holds a part that can
pub inside_fits : (t : ℕ) (k : Kind) (part : List ℕ) → length (element t (inside k part)) < 65536 → length (inside k part) < 65536
inside_fits t k part l = let n = length-element t (inside k part) in omega arith

-- the header before what stands inside has its length, which is the one computed
pub inside_is : (t : ℕ) (k : Kind) (part : List ℕ) (n : ℕ) → length (element t (inside k part)) < 65536 → Ok n ≡ inside_len k (length part)
    → (n ≡ length (inside k part)) × (n < 65536)
inside_is t k part n l e =
    let f = inside_fits t k part l in
    let m = same_ok n (length (inside k part)) (e ∙ wrapped_len_lem (wrapper k) part f) in
    (m, omega arith)

pub inside_not_refused : (t : ℕ) (k : Kind) (part : List ℕ) (e : Fault) → length (element t (inside k part)) < 65536 → Err e ≡ inside_len k (length part) → ⊥
inside_not_refused t k part e l r = err_ok e (length (inside k part)) (r ∙ wrapped_len_lem (wrapper k) part (inside_fits t k part l))

-- a field that is there
pub field_short : (t : ℕ) (k : Kind) (o : Option (Bor (List ℕ))) (p : Bor (List ℕ)) → o ≡ Some p → length (field t k (seen o)) < 65536
    → length (element t (inside k p.now)) < 65536
field_short t k o p e l = rw e at l

-- The computed lengths are those of the writing, and are given just for legal parts that can be written.
wrapped_measures : (t : ℕ) (o : Option ℕ) (part : List ℕ)
    → Measures (length (wrapped o part) < 65536) (length (element t (wrapped o part))) (and_then (wrapped_len o (length part)) element_len)
wrapped_measures t None part = element_measures t part
wrapped_measures t (Some u) part =
    let n = length-element u part in
    measures_as (λ g. g.1) (λ l. (omega arith, l)) refl (measures_then element_len (element_measures u part) (λ _. element_measures t (element u part)))

abbrev GoodField : Kind → Option (List ℕ) → Type 0
GoodField k o = LegalField k o × Short (option_map (inside k) o)

pub field_measures : (t : ℕ) (k : Kind) (o : Option (List ℕ)) → Measures (GoodField k o) (length (field t k o)) (field_len k o)
field_measures t k None = inl ((tt, tt), refl)
field_measures t k (Some part) =
    measures_as (λ g. (passes_legal k part g.0, g.1)) (λ g. (legal_passes k part g.0, g.1)) refl (measures_if (legal_test k part) (wrapped_measures t (wrapper k) part))

pub field_bound : (k : Kind) (n : ℕ) (o : Option (List ℕ)) → Ok n ≡ field_len k o → n < 65540
field_bound k n None r = let e : n ≡ 0 = cc in omega arith
field_bound k n (Some part) r =
    let m = measured _ _ (field_len k (Some part)) n (field_measures 0 k (Some part)) (sym r) in
    element_bound (length (inside k part)) n (ap Ok m.1 ∙ sym (element_len_lem 0 (inside k part) m.0.1))

pub four_lengths : (k l : Kind) (f : Fields)
    → length (four_fields k l f) ≡ length (field 0xA0 k f.first) + (length (field 0xA1 l f.second) + (length (field 0xA2 OctetString f.third) + length (field 0xA3 OctetString f.fourth)))
unfolding four_fields
four_lengths k l f = simp length-append

pub sequence_measures : (k l : Kind) (f : Fields)
    → Measures (LegalFields k l f × (length (four_fields k l f) < 65536)) (length (four_fields k l f), length (sequence k l f)) (sequence_len k l f)
unfolding sequence
sequence_measures k l f =
    let m = four_lengths k l f in
    measures_as (λ g. (record { first = g.0.0.0; second = g.0.1.0.0 }, g.1.0))
    (λ g. (
      (
        (g.0.first, short_field 0xA0 k f.first (omega (arith, g.1))),
        (
          (g.0.second, short_field 0xA1 l f.second (omega (arith, g.1))),
          (
            (octets_legal f.third, short_field 0xA2 OctetString f.third (omega (arith, g.1))),
            ((octets_legal f.fourth, short_field 0xA3 OctetString f.fourth (omega (arith, g.1))), tt),
          ),
        ),
      ),
      (g.1, tt),
    )) refl
    (measures_then _
    (measures_then _ (field_measures 0xA0 k f.first) (λ _.
    measures_then _ (field_measures 0xA1 l f.second) (λ _.
    measures_then _ (field_measures 0xA2 OctetString f.third) (λ _.
    measures_then _ (field_measures 0xA3 OctetString f.fourth) (λ _. measures_done (omega arith))))))
    (λ _. measures_then _ (element_measures 0x30 (four_fields k l f)) (λ _. measures_done refl)))

-- the lengths of a token and of what it holds
abbrev lens_of : (a b c d : List ℕ) → Lens
lens_of a b c d = record { body = length a; sequence = length b; content = length c; token = length d }

pub record Sizes (Good : Type 0) (a b c d : List ℕ) (n : Lens) : Type 0 where
  pub good : Good
  pub body : n.body ≡ length a
  pub sequence : n.sequence ≡ length b
  pub content : n.content ≡ length c
  pub token : n.token ≡ length d

sizes : (Good : Type 0) (a b c d : List ℕ) (r : Result Lens Fault) (n : Lens) → Measures Good (lens_of a b c d) r → r ≡ Ok n → Sizes Good a b c d n
sizes Good a b c d r n m e =
    let p = measured Good (lens_of a b c d) r n m e in
    record {
      good = p.0;
      body = ap (λ (s : Lens). s.body) p.1;
      sequence = ap (λ (s : Lens). s.sequence) p.1;
      content = ap (λ (s : Lens). s.content) p.1;
      token = ap (λ (s : Lens). s.token) p.1;
    }

-- what the lengths that were computed say of the token
abbrev Sized : Type 0 → List ℕ → Result Lengths Fault → Type 0
Sized Good bytes r = MatchResult r (λ n. Good × (n.token ≡ length bytes)) (λ e. (Good → ⊥) × (e ≡ invalid))

-- NegTokenTarg
pub targ_fits : (t : Targ) → TargWellFormed t → length (four_fields Element Oid (targ_fields t)) < 65536
unfolding sequence
targ_fits t g = let n = length-element 0x30 (four_fields Element Oid (targ_fields t)) in omega (arith, g.short)

targ_measures : (t : Targ)
    → Measures (TargWellFormed t) (lens_of (four_fields Element Oid (targ_fields t)) (sequence Element Oid (targ_fields t)) (sequence Element Oid (targ_fields t)) (targ_bytes t)) (targ_lens t)
unfolding targ_bytes
targ_measures t =
    measures_as (λ g. record { fields = g.0.0; short = g.1.0 }) (λ g. ((g.fields, targ_fits t g), (g.short, tt))) refl
    (measures_then _ (sequence_measures Element Oid (targ_fields t)) (λ _.
    measures_then _ (element_measures 0xA1 (sequence Element Oid (targ_fields t))) (λ _. measures_done refl)))

pub targ_sizes : (t : Targ) (n : Lens) → targ_lens t ≡ Ok n
    → Sizes (TargWellFormed t) (four_fields Element Oid (targ_fields t)) (sequence Element Oid (targ_fields t)) (sequence Element Oid (targ_fields t)) (targ_bytes t) n
targ_sizes t n r = sizes _ _ _ _ _ (targ_lens t) n (targ_measures t) r

pub targ_sized : (t : Targ) (r : Result Lengths Fault) → lens_read r ≡ targ_lens t → Sized (TargWellFormed t) (targ_bytes t) r
targ_sized t (Ok n) r = let z = targ_sizes t (plain_lens n) (sym r) in (z.good, z.token)
targ_sized t (Err e) r = unmeasured _ _ (targ_lens t) e (targ_measures t) (sym r)

-- NegTokenInit
content_length : (t : Init) → length (init_content t) ≡ length (element 0x06 t.this_mech) + length (element 0xA0 (sequence MechTypes BitString (init_fields t)))
unfolding init_content
content_length t = length-append (element 0x06 t.this_mech) (element 0xA0 (sequence MechTypes BitString (init_fields t)))

-- each part of a content that can be written can be
pub record InitFits (t : Init) : Type 0 where
  pub this_mech : length t.this_mech < 65536
  pub body : length (four_fields MechTypes BitString (init_fields t)) < 65536
  pub sequence : length (sequence MechTypes BitString (init_fields t)) < 65536

pub init_fits : (t : Init) → InitWellFormed t → InitFits t
unfolding sequence
init_fits t g =
    let c = content_length t in
    let m = length-element 0x06 t.this_mech in
    let k = length-element 0xA0 (sequence MechTypes BitString (init_fields t)) in
    let n = length-element 0x30 (four_fields MechTypes BitString (init_fields t)) in
    record { this_mech = omega (arith, g.short); body = omega (arith, g.short); sequence = omega (arith, g.short) }

init_measures : (t : Init)
    → Measures (InitWellFormed t) (lens_of (four_fields MechTypes BitString (init_fields t)) (sequence MechTypes BitString (init_fields t)) (init_content t) (init_bytes t)) (init_lens t)
unfolding init_bytes
init_measures t =
    let s : List ℕ = sequence MechTypes BitString (init_fields t) in
    let c = content_length t in
    let P : ℕ → Type 0 = λ v. Measures (length (init_content t) < 65536) (length (element 0x60 (init_content t))) (element_len v) in
    measures_as (λ g. record { this_mech = g.0; fields = g.1.1.0.0; short = g.1.1.1.1.0 })
    (λ g. let b = init_fits t g in (g.this_mech, (b.this_mech, ((g.fields, b.body), (b.sequence, (g.short, tt)))))) refl
    (measures_if (oid t.this_mech)
    (measures_then _ (element_measures 0x06 t.this_mech) (λ _.
    measures_then _ (sequence_measures MechTypes BitString (init_fields t)) (λ _.
    measures_then _ (element_measures 0xA0 s) (λ _.
    measures_then _ (subst P c (element_measures 0x60 (init_content t))) (λ _. measures_done (cc c)))))))

pub init_sizes : (t : Init) (n : Lens) → init_lens t ≡ Ok n
    → Sizes (InitWellFormed t) (four_fields MechTypes BitString (init_fields t)) (sequence MechTypes BitString (init_fields t)) (init_content t) (init_bytes t) n
init_sizes t n r = sizes _ _ _ _ _ (init_lens t) n (init_measures t) r

pub init_sized : (t : Init) (r : Result Lengths Fault) → lens_read r ≡ init_lens t → Sized (InitWellFormed t) (init_bytes t) r
init_sized t (Ok n) r = let z = init_sizes t (plain_lens n) (sym r) in (z.good, z.token)
init_sized t (Err e) r = unmeasured _ _ (init_lens t) e (init_measures t) (sym r)

-- Both tokens whole: what is written is read back, and what is read is the writing.
use Rattle.std.proofs.Common.{◌≡◌, ℕ, ◌<◌, List, ◌++◌, length, Ok, refl, ap, ◌∙◌, subst, arith, length-append}
use Rattle.der.specs.Elements.{element}
use Rattle.der.specs.Reading.{only_of}
use Rattle.der.proofs.Taking.{both, length-element, only_written, only_read}
use Rattle.der.proofs.Ways.{goes_on}
use Rattle.mech_types.specs.Reading.{next_of}
use Rattle.mech_types.proofs.Listing.{next_written, next_read}
use Rattle.spnego.specs.declared.part.Kind.TheVariants.{Element, MechTypes, Oid, BitString}
use Rattle.spnego.specs.Tokens.{sequence, Targ, targ_fields, targ_bytes, TargWellFormed, Init, init_fields, init_content, init_bytes, InitWellFormed}
use Rattle.spnego.specs.Reading.{sequence_of, targ_of, read_targ, init_of, read_init}
use Rattle.spnego.proofs.Fourfold.{sequence_written, sequence_read}

pub targ_written : (t : Targ) → TargWellFormed t → read_targ (targ_bytes t) ≡ Ok t
unfolding read_targ targ_bytes
targ_written t h =
    goes_on _ (only_written 0xA1 (sequence Element Oid (targ_fields t)) refl h.short)
    ∙ goes_on (λ f. Ok (targ_of f)) (sequence_written Element Oid (targ_fields t) h.fields h.short)

-- what reading a token says of the input
abbrev TargTells : List ℕ → Targ → Type 0
TargTells xs t = (xs ≡ targ_bytes t) × TargWellFormed t

pub targ_read_lem : (xs : List ℕ) (t : Targ) → read_targ xs ≡ Ok t → (xs ≡ targ_bytes t) × TargWellFormed t
unfolding read_targ targ_bytes
targ_read_lem xs t r =
    let b = both (only_of 0xA1 xs) _ t r in
    let d = both (sequence_of Element Oid b.0) _ t b.2 in
    let f = d.0 in
    let o = only_read 0xA1 xs b.0 b.1 in
    let s = sequence_read Element Oid b.0 f d.1 in
    let e : targ_of f ≡ t = cc d.2 in
    let l = subst (λ (v : List ℕ). length v < 65536) s.0 o.2 in
    subst (TargTells xs) e (o.0 ∙ ap (element 0xA1) s.0, record { fields = s.1; short = l })

pub init_written : (t : Init) → InitWellFormed t → read_init (init_bytes t) ≡ Ok t
unfolding read_init init_bytes init_content
init_written t h =
    let body : List ℕ = sequence MechTypes BitString (init_fields t) in
    let n = length-append (element 0x06 t.this_mech) (element 0xA0 body) in
    let m = length-element 0x06 t.this_mech in
    let k = length-element 0xA0 body in
    let l = h.short in
    goes_on _ (only_written 0x60 (init_content t) refl l)
    ∙ (goes_on _ (next_written t.this_mech (element 0xA0 body) h.this_mech (omega arith))
    ∙ (goes_on _ (only_written 0xA0 body refl (omega arith))
    ∙ goes_on (λ f. Ok (init_of t.this_mech f)) (sequence_written MechTypes BitString (init_fields t) h.fields (omega arith))))

abbrev InitTells : List ℕ → Init → Type 0
InitTells xs t = (xs ≡ init_bytes t) × InitWellFormed t

pub init_read_lem : (xs : List ℕ) (t : Init) → read_init xs ≡ Ok t → (xs ≡ init_bytes t) × InitWellFormed t
unfolding read_init init_bytes init_content
init_read_lem xs t r =
    let b = both (only_of 0x60 xs) _ t r in
    let m = both (next_of b.0) _ t b.2 in
    let y = m.0 in
    let a = both (only_of 0xA0 y.1) _ t m.2 in
    let d = both (sequence_of MechTypes BitString a.0) _ t a.2 in
    let f = d.0 in
    let o = only_read 0x60 xs b.0 b.1 in
    let x = next_read b.0 y m.1 in
    let w = only_read 0xA0 y.1 a.0 a.1 in
    let s = sequence_read MechTypes BitString a.0 f d.1 in
    let e : init_of y.0 f ≡ t = cc d.2 in
    let content : b.0 ≡ init_content (init_of y.0 f) = x.0 ∙ ap (λ v. element 0x06 y.0 ++ v) (w.0 ∙ ap (element 0xA0) s.0) in
    let l = subst (λ (v : List ℕ). length v < 65536) content o.2 in
    subst (InitTells xs) e (o.0 ∙ ap (element 0x60) content, record { this_mech = x.1; fields = s.1; short = l })

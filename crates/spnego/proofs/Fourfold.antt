-- The four fields in their order: what is written is read back, and what is read is the writing.
use Rattle.std.proofs.Common.{◌≡◌, ℕ, ◌<◌, false, eqb, List, [], ◌++◌, length, Some, None, Ok, Option, sym, refl, ap, ◌∙◌, subst, arith, length-append}
use Rattle.std.specs.Option.{option_map}
use Rattle.std.proofs.lemmas.List.{append-nil, nil_from_length}
use Rattle.std.proofs.lemmas.Bool.{eqb-true}
use Rattle.der.specs.Elements.{element}
use Rattle.der.specs.Reading.{illegal, only_of, begins}
use Rattle.der.proofs.Ways.{goes_on, let_through}
use Rattle.der.proofs.Taking.{both, length-element, only_written, only_read, begins-optional}
use Rattle.spnego.specs.declared.part.Kind.{Kind}
use Rattle.spnego.specs.declared.part.Kind.TheVariants.{OctetString}
use Rattle.spnego.specs.Tokens.{inside, field, LegalField, Fields, four_fields, sequence, LegalFields}
use Rattle.spnego.specs.Reading.{field_of, fields_of, sequence_of}
use Rattle.spnego.proofs.Inside.{field_written, field_read}

pub octets_legal : (o : Option (List ℕ)) → LegalField OctetString o
octets_legal None = tt
octets_legal (Some part) = tt

-- the fields from the third on, and those from the second on
abbrev from3 : Fields → List ℕ
from3 f = field 0xA2 OctetString f.third ++ (field 0xA3 OctetString f.fourth ++ [])

abbrev from2 : Kind → Fields → List ℕ
from2 l f = field 0xA1 l f.second ++ from3 f

ends_in_nil : (k l : Kind) (f : Fields) → four_fields k l f ≡ field 0xA0 k f.first ++ from2 l f
unfolding four_fields
ends_in_nil k l f = ap (λ v. field 0xA0 k f.first ++ (field 0xA1 l f.second ++ (field 0xA2 OctetString f.third ++ v))) (sym (append-nil (field 0xA3 OctetString f.fourth)))

-- no field begins with the tag of one before it
begins4 : (t : ℕ) (o : Option (List ℕ)) → eqb 0xA3 t ≡ false → begins t (field 0xA3 OctetString o ++ []) ≡ false
begins4 t o d = begins-optional 0xA3 t (option_map (inside OctetString) o) [] d refl

begins3 : (t : ℕ) (f : Fields) → eqb 0xA2 t ≡ false → eqb 0xA3 t ≡ false → begins t (from3 f) ≡ false
begins3 t f c d = begins-optional 0xA2 t (option_map (inside OctetString) f.third) _ c (begins4 t f.fourth d)

begins2 : (t : ℕ) (l : Kind) (f : Fields) → eqb 0xA1 t ≡ false → eqb 0xA2 t ≡ false → eqb 0xA3 t ≡ false → begins t (from2 l f) ≡ false
begins2 t l f b c d = begins-optional 0xA1 t (option_map (inside l) f.second) (from3 f) b (begins3 t f c d)

fields_written : (k l : Kind) (f : Fields) → LegalFields k l f → length (four_fields k l f) < 65536 → fields_of k l (four_fields k l f) ≡ Ok f
fields_written k l f h s =
    let e = ap length (ends_in_nil k l f) in
    let n1 = length-append (field 0xA0 k f.first) (from2 l f) in
    let n2 = length-append (field 0xA1 l f.second) (from3 f) in
    let n3 = length-append (field 0xA2 OctetString f.third) (field 0xA3 OctetString f.fourth ++ []) in
    let n4 = length-append (field 0xA3 OctetString f.fourth) [] in
    ap (fields_of k l) (ends_in_nil k l f)
    ∙ (goes_on _ (field_written 0xA0 k f.first (from2 l f) refl h.first (omega arith) (begins2 0xA0 l f refl refl refl))
    ∙ (goes_on _ (field_written 0xA1 l f.second (from3 f) refl h.second (omega arith) (begins3 0xA1 f refl refl))
    ∙ (goes_on _ (field_written 0xA2 OctetString f.third (field 0xA3 OctetString f.fourth ++ []) refl (octets_legal f.third) (omega arith) (begins4 0xA2 f.fourth refl))
    ∙ goes_on _ (field_written 0xA3 OctetString f.fourth [] refl (octets_legal f.fourth) (omega arith) refl))))

-- what reading the four fields says of the input
abbrev Four : Kind → Kind → List ℕ → Fields → Type 0
Four k l xs f = (xs ≡ four_fields k l f) × LegalFields k l f

fields_read_lem : (k l : Kind) (xs : List ℕ) (f : Fields) → fields_of k l xs ≡ Ok f → Four k l xs f
unfolding four_fields
fields_read_lem k l xs f r =
    let b1 = both (field_of 0xA0 k xs) _ f r in
    let y1 = b1.0 in
    let b2 = both (field_of 0xA1 l y1.1) _ f b1.2 in
    let y2 = b2.0 in
    let b3 = both (field_of 0xA2 OctetString y2.1) _ f b2.2 in
    let y3 = b3.0 in
    let b4 = both (field_of 0xA3 OctetString y3.1) _ f b3.2 in
    let y4 = b4.0 in
    let g : Fields = record { first = y1.0; second = y2.0; third = y3.0; fourth = y4.0 } in
    let p = let_through (eqb (length y4.1) 0) illegal (Ok g) f b4.2 in
    let e : g ≡ f = cc p.1 in
    let f1 = field_read 0xA0 k xs y1 b1.1 in
    let f2 = field_read 0xA1 l y1.1 y2 b2.1 in
    let f3 = field_read 0xA2 OctetString y2.1 y3 b3.1 in
    let f4 = field_read 0xA3 OctetString y3.1 y4 b4.1 in
    let last : y3.1 ≡ field 0xA3 OctetString y4.0 =
    f4.0 ∙ (ap (λ v. field 0xA3 OctetString y4.0 ++ v) (nil_from_length y4.1 (eqb-true (length y4.1) 0 p.0)) ∙ append-nil (field 0xA3 OctetString y4.0)) in
    let third : y2.1 ≡ field 0xA2 OctetString y3.0 ++ field 0xA3 OctetString y4.0 = f3.0 ∙ ap (λ v. field 0xA2 OctetString y3.0 ++ v) last in
    let second = f2.0 ∙ ap (λ v. field 0xA1 l y2.0 ++ v) third in
    subst (Four k l xs) e (f1.0 ∙ ap (λ v. field 0xA0 k y1.0 ++ v) second, record { first = f1.1; second = f2.1 })

pub sequence_written : (k l : Kind) (f : Fields) → LegalFields k l f → length (sequence k l f) < 65536 → sequence_of k l (sequence k l f) ≡ Ok f
unfolding sequence
sequence_written k l f h s =
    let n = length-element 0x30 (four_fields k l f) in
    goes_on (fields_of k l) (only_written 0x30 (four_fields k l f) refl (omega arith)) ∙ fields_written k l f h (omega arith)

pub sequence_read : (k l : Kind) (xs : List ℕ) (f : Fields) → sequence_of k l xs ≡ Ok f → (xs ≡ sequence k l f) × LegalFields k l f
unfolding sequence
sequence_read k l xs f r =
    let b = both (only_of 0x30 xs) (fields_of k l) f r in
    let d = fields_read_lem k l b.0 f b.2 in
    ((only_read 0x30 xs b.0 b.1).0 ∙ ap (element 0x30) d.0, d.1)

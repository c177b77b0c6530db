-- How a reader goes through a token. That these functions undo the writing of `Tokens`, and accept nothing else, is proved.
use Rattle.std.specs.Prelude.{ℕ, Bool, true, cond, List, length, is_ok, Some, None, Ok, Err, Option, Result, ◌==◌}
use Rattle.std.specs.Borrow.{Bor}
use Rattle.der.specs.Elements.{oid, bit_string}
use Rattle.der.specs.Reading.{illegal, and_then, only_of, one_element, optional_of}
use Rattle.mech_types.specs.Reading.{next_of, read_mech_type_list}
use Rattle.spnego.specs.declared.part.Kind.{Kind}
use Rattle.spnego.specs.declared.part.Kind.TheVariants.{Element, MechTypes, Oid, BitString, OctetString}
use Rattle.spnego.specs.Tokens.{wrapper, Fields, Targ, Init}
use Rattle.sspi.specs.declared.fault.Fault.{Fault}
use Rattle.std.specs.Option.{option_map}

abbrev pub legal_test : Kind → List ℕ → Bool
legal_test Element part = one_element part
legal_test MechTypes part = is_ok (read_mech_type_list part)
legal_test Oid part = oid part
legal_test BitString part = bit_string part
legal_test OctetString part = true

-- the part that stands inside a field
abbrev pub unwrapped : Option ℕ → List ℕ → Result (List ℕ) Fault
unwrapped None content = Ok content
unwrapped (Some t) content = only_of t content

abbrev pub part_of : Kind → List ℕ → Result (List ℕ) Fault
part_of k content = unwrapped (wrapper k) content

abbrev pub inner_of : Kind → List ℕ → Result (List ℕ) Fault
inner_of k content = and_then (part_of k content) (λ part. cond (legal_test k part) (Ok part) (Err illegal))

abbrev pub Field : Type 0
Field = Option (List ℕ) × List ℕ

abbrev pub within_of : Kind → Option (List ℕ) → List ℕ → Result Field Fault
within_of k None rest = Ok (None, rest)
within_of k (Some content) rest = and_then (inner_of k content) (λ part. Ok (Some part, rest))

abbrev pub field_of : ℕ → Kind → List ℕ → Result Field Fault
field_of t k xs = and_then (optional_of t xs) (λ y. within_of k y.0 y.1)

abbrev pub fields_of : Kind → Kind → List ℕ → Result Fields Fault
fields_of k l xs =
    and_then (field_of 0xA0 k xs) (λ a.
    and_then (field_of 0xA1 l a.1) (λ b.
    and_then (field_of 0xA2 OctetString b.1) (λ c.
    and_then (field_of 0xA3 OctetString c.1) (λ d.
    cond (length d.1 == 0) (Ok (record { first = a.0; second = b.0; third = c.0; fourth = d.0 })) (Err illegal)))))

abbrev pub sequence_of : Kind → Kind → List ℕ → Result Fields Fault
sequence_of k l xs = and_then (only_of 0x30 xs) (fields_of k l)

abbrev pub targ_of : Fields → Targ
targ_of f = record { neg_state = f.first; supported_mech = f.second; response_token = f.third; mech_list_mic = f.fourth }

unfoldable pub read_targ : List ℕ → Result Targ Fault
read_targ xs = and_then (only_of 0xA1 xs) (λ s. and_then (sequence_of Element Oid s) (λ f. Ok (targ_of f)))

abbrev pub init_of : List ℕ → Fields → Init
init_of o f = record { this_mech = o; mech_types = f.first; req_flags = f.second; mech_token = f.third; mech_list_mic = f.fourth }

unfoldable pub read_init : List ℕ → Result Init Fault
read_init xs =
    and_then (only_of 0x60 xs) (λ content. and_then (next_of content) (λ m. and_then (only_of 0xA0 m.1) (λ s.
    and_then (sequence_of MechTypes BitString s) (λ f. Ok (init_of m.0 f)))))

abbrev pub seen : Option (Bor (List ℕ)) → Option (List ℕ)
seen o = option_map (λ y. y.now) o

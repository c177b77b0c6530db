-- How long a writing is, computed before its first byte is written. That these lengths are those of `Tokens`, and are refused just
-- where the fields are not well-formed, is proved.
use Rattle.std.specs.Prelude.{ℕ, ◌+◌, cond, List, length, Some, None, Ok, Err, Option, Result}
use Rattle.der.specs.Elements.{oid}
use Rattle.der.specs.Reading.{and_then}
use Rattle.der.specs.Writing.{invalid, element_len}
use Rattle.spnego.specs.declared.part.Kind.{Kind}
use Rattle.spnego.specs.declared.part.Kind.TheVariants.{Element, MechTypes, Oid, BitString, OctetString}
use Rattle.spnego.specs.Tokens.{wrapper, Fields, Targ, targ_fields, Init, init_fields}
use Rattle.spnego.specs.Reading.{legal_test}
use Rattle.sspi.specs.declared.fault.Fault.{Fault}

-- a part of n bytes, as it stands inside its field
abbrev pub wrapped_len : Option ℕ → ℕ → Result ℕ Fault
wrapped_len None n = Ok n
wrapped_len (Some t) n = element_len n

abbrev pub inside_len : Kind → ℕ → Result ℕ Fault
inside_len k n = wrapped_len (wrapper k) n

abbrev pub field_len : Kind → Option (List ℕ) → Result ℕ Fault
field_len k None = Ok 0
field_len k (Some part) = cond (legal_test k part) (and_then (inside_len k (length part)) element_len) (Err invalid)

abbrev pub fields_len : Kind → Kind → Fields → Result ℕ Fault
fields_len k l f =
    and_then (field_len k f.first) (λ a.
    and_then (field_len l f.second) (λ b.
    and_then (field_len OctetString f.third) (λ c.
    and_then (field_len OctetString f.fourth) (λ d. Ok (a + b + c + d)))))

-- the four fields, and the sequence around them
abbrev pub sequence_len : Kind → Kind → Fields → Result (ℕ × ℕ) Fault
sequence_len k l f = and_then (fields_len k l f) (λ body. and_then (element_len body) (λ n. Ok (body, n)))

-- the lengths of a token and of what it holds
pub record Lens : Type 0 where
  pub body : ℕ
  pub sequence : ℕ
  pub content : ℕ
  pub token : ℕ

abbrev pub targ_lens : Targ → Result Lens Fault
targ_lens t =
    and_then (sequence_len Element Oid (targ_fields t)) (λ s.
    and_then (element_len s.1) (λ n. Ok (record { body = s.0; sequence = s.1; content = s.1; token = n })))

abbrev pub init_lens : Init → Result Lens Fault
init_lens t =
    cond (oid t.this_mech)
    (and_then (element_len (length t.this_mech)) (λ m.
    and_then (sequence_len MechTypes BitString (init_fields t)) (λ s.
    and_then (element_len s.1) (λ i.
    and_then (element_len (m + i)) (λ n. Ok (record { body = s.0; sequence = s.1; content = m + i; token = n }))))))
    (Err invalid)

-- How long a list of mechanisms is, computed before its first byte is written.
use Rattle.std.specs.Prelude.{ℕ, ◌+◌, cond, List, [], ◌∷◌, length, Ok, Err, Result, nat_lt}
use Rattle.der.specs.Elements.{oid}
use Rattle.der.specs.Reading.{and_then}
use Rattle.der.specs.Writing.{invalid, element_len}
use Rattle.sspi.specs.declared.fault.Fault.{Fault}

-- one object identifier of a list behind n bytes of others
abbrev pub add_oid : ℕ → List ℕ → Result ℕ Fault
add_oid n o = cond (oid o) (and_then (element_len (length o)) (λ m. cond (nat_lt 65535 (n + m)) (Err invalid) (Ok (n + m)))) (Err invalid)

abbrev pub oids_len_from : ℕ → List (List ℕ) → Result ℕ Fault
oids_len_from n [] = Ok n
oids_len_from n (o ∷ os) = and_then (add_oid n o) (λ m. oids_len_from m os)

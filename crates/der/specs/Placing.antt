-- Bytes over those of a buffer from a place on, all of them or none.
use Rattle.std.specs.Prelude.{ℕ, ◌+◌, cond, List, ◌++◌, length, take, drop, Ok, Err, Result, nat_le, nat_lt}
use Rattle.sspi.specs.declared.fault.Fault.{Fault}
use Rattle.der.specs.Writing.{too_small, invalid}

-- `bytes` over what `out` holds from `at` on
unfoldable pub over : List ℕ → ℕ → List ℕ → List ℕ
over out at bytes = take at out ++ (bytes ++ drop (at + length bytes) out)

-- the place behind what was written, or a refusal where it does not fit
abbrev pub end_of : List ℕ → ℕ → List ℕ → Result ℕ Fault
end_of out at bytes = cond (nat_le (at + length bytes) (length out)) (Ok (at + length bytes)) (Err too_small)

-- what the buffer then holds
abbrev pub put : List ℕ → ℕ → List ℕ → List ℕ
put out at bytes = cond (nat_le (at + length bytes) (length out)) (over out at bytes) out

-- the same for an element or its header, where the content has n bytes
abbrev pub end_if : ℕ → List ℕ → ℕ → List ℕ → Result ℕ Fault
end_if n out at bytes = cond (nat_lt n 65536) (end_of out at bytes) (Err invalid)

abbrev pub put_if : ℕ → List ℕ → ℕ → List ℕ → List ℕ
put_if n out at bytes = cond (nat_lt n 65536) (put out at bytes) out

-- The answer to a number: what has it, or that nothing does.
use Rattle.std.specs.Prelude.{ℕ, Option, Result}
use Rattle.std.specs.Option.{ok_or}
use Rattle.sspi.specs.declared.numbers.UnknownNumber.{UnknownNumber}

abbrev pub numbered : {X : Type 0} → ℕ → Option X → Result X UnknownNumber
numbered n x = ok_or x (record { 0 = n })

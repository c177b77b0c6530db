-- How a refusal goes up: the first stands.
use Rattle.sspi.specs.declared.fault.Fault.{Fault}
use Rattle.std.specs.Prelude.{Ok, Err, Result}

abbrev pub and_then : {X Y : Type 0} → Result X Fault → (X → Result Y Fault) → Result Y Fault
and_then (Ok x) f = f x
and_then (Err e) f = Err e

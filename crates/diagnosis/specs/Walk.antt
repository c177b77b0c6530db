-- How a walk over a token comes to its end.
use Rattle.std.specs.Prelude.{◌<◌, length, IfOk, Result}
use Rattle.diagnosis.specs.declared.walk.Part.{Part}
use Rattle.diagnosis.specs.declared.walk.Trouble.{Trouble}

-- what follows the thing that was taken off a part is shorter than the part
abbrev pub Shorter : {X : Type 0} → Part → Result (X × Part) Trouble → Type 0
Shorter p r = IfOk r (λ x. length x.1.bytes.now < length p.bytes.now)

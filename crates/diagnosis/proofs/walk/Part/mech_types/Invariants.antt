use Rattle.std.proofs.Common.{length}
use Rattle.diagnosis.proofs.walk.Part.mech_types.Given as goal

abbrev pub decreases-loop-list : goal.decreases-loop-list
decreases-loop-list l = length l.list.bytes.now

use Rattle.std.proofs.Common.{◌≡◌, length}
use Rattle.mech_types.specs.Reading.{oids_of}
use Rattle.mech_types.proofs.Listing.{verdict}
use Rattle.mech_types.proofs.MechTypeList.read.Given as goal

abbrev pub invariant-loop-rest : goal.invariant-loop-rest
invariant-loop-rest l = verdict (oids_of l.rest) ≡ verdict (oids_of l.oids)

abbrev pub decreases-loop-rest : goal.decreases-loop-rest
decreases-loop-rest l = length l.rest

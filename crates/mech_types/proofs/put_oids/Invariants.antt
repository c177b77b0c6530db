use Rattle.std.proofs.Common.{take, Ok}
use Rattle.der.specs.Writing.{Adds}
use Rattle.mech_types.specs.Lists.{oids}
use Rattle.mech_types.specs.Views.{plain_oids}
use Rattle.mech_types.proofs.put_oids.Given as goal

abbrev pub invariant-loop-oid : goal.invariant-loop-oid
invariant-loop-oid l = Adds (oids (plain_oids (take l.oid-index l.oids))) l.initial.w l.w (Ok tt)

use Rattle.std.proofs.Common.{◌≡◌, ◌≤◌, drop}
use Rattle.mech_types.specs.Views.{plain_oids}
use Rattle.mech_types.specs.Writing.{oids_len_from}
use Rattle.mech_types.proofs.oids_len.Given as goal

abbrev pub invariant-loop-oid : goal.invariant-loop-oid
invariant-loop-oid l = (oids_len_from l.total (plain_oids (drop l.oid-index l.oids)) ≡ oids_len_from 0 (plain_oids l.oids)) × (l.total ≤ 65535)

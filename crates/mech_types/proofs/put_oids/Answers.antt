use Rattle.der.proofs.Adding.{adds_none}
use Rattle.mech_types.specs.Lists.{oids}
use Rattle.mech_types.proofs.Rows.{row_again, row_refused}
use Rattle.mech_types.proofs.put_oids.Goals as goal

pub loop-oid-init : goal.loop-oid-init
unfolding oids
loop-oid-init c = adds_none

pub returns-in_err-put_element : goal.returns-in_err-put_element
returns-in_err-put_element c =
    row_refused c.args.oids.now c.loop-oid.oid-index _ c.loop-oid-test.true c.requires c.loop-oid.invariant c.in_err-put_element.ensures

pub loop-oid-preserved : goal.loop-oid-preserved
loop-oid-preserved c = row_again c.args.oids.now c.loop-oid.oid-index _ c.loop-oid-test.true c.requires c.loop-oid.invariant c.in_ok-put_element.ensures

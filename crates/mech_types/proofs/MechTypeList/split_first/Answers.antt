use Rattle.std.proofs.Common.{◌≡◌, Some, None, sym, rules}
use Rattle.std.specs.Result.{result_ok}
use Rattle.mech_types.specs.Reading.{next_of}
use Rattle.mech_types.proofs.Listing.{next_some, oids_more, oids_end, legal_more}
use Rattle.mech_types.proofs.MechTypeList.split_first.Goals as goal

pub returns-in_err-oid-clause-walks : goal.returns-in_err-oid-clause-walks
returns-in_err-oid-clause-walks c =
    let h : None ≡ result_ok (next_of c.args.self.now.oids.now) = search rules in
    rw c.from_residual.ensures (oids_end c.args.self.now.oids.now h c.args.self.now.legal)

pub invariant_of-result : goal.invariant_of-result
invariant_of-result c =
    let h : Some (c.in_ok-oid.oid.now, c.in_ok-oid.oids.now) ≡ result_ok (next_of c.args.self.now.oids.now) = search rules in
    record { legal = legal_more c.args.self.now.oids.now _ (next_some c.args.self.now.oids.now _ h) c.args.self.now.legal }

pub returns-clause-walks : goal.returns-clause-walks
returns-clause-walks c =
    let h : Some (c.in_ok-oid.oid.now, c.in_ok-oid.oids.now) ≡ result_ok (next_of c.args.self.now.oids.now) = search rules in
    sym (oids_more c.args.self.now.oids.now _ (next_some c.args.self.now.oids.now _ h))

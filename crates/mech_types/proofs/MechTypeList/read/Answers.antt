use Rattle.std.proofs.Common.{is_ok, sym, ap, ◌∙◌, rules}
use Rattle.std.proofs.lemmas.Result.{err_from_is_err_and}
use Rattle.der.specs.Reading.{and_then}
use Rattle.mech_types.specs.Reading.{oids_of, read_mech_type_list}
use Rattle.mech_types.proofs.Listing.{exact_at_list, verdict_more, verdict_refused, verdict_all, err_from_verdict, ok_from_verdict, next_shorter}
use Rattle.mech_types.proofs.MechTypeList.read.Goals as goal

pub returns-in_err-oids-clause-exact : goal.returns-in_err-oids-clause-exact
unfolding read_mech_type_list
returns-in_err-oids-clause-exact c = exact_at_list c.args.input.now _ (search rules)

pub returns-in_err-rest : goal.returns-in_err-rest
unfolding read_mech_type_list
returns-in_err-rest c =
    let p = err_from_is_err_and c.from_residual-in_err-rest.result c.from_residual-in_err-rest.ensures.1 in
    let refused = verdict_refused c.loop-rest.rest.now _ c.loop-rest-test.ensures (sym c.in_err-rest.ensures) in
    let e = ap (λ r. and_then r oids_of) (sym c.in_ok-oids.ensures) ∙ err_from_verdict (oids_of c.in_ok-oids.oids.now) _ (sym c.loop-rest.invariant ∙ refused) in
    rw (p.1, p.2) (record { answer = sym e; test = ap is_ok (sym e); exact = exact_at_list c.args.input.now _ (sym e) })

pub loop-rest-smaller : goal.loop-rest-smaller
loop-rest-smaller c = next_shorter c.loop-rest.rest.now _ (sym c.in_ok-rest.ensures)

pub loop-rest-preserved : goal.loop-rest-preserved
loop-rest-preserved c = verdict_more c.loop-rest.rest.now _ (sym c.in_ok-rest.ensures) ∙ c.loop-rest.invariant

pub invariant_of-result : goal.invariant_of-result
invariant_of-result c = record { legal = ok_from_verdict (oids_of c.in_ok-oids.oids.now) (sym c.loop-rest.invariant ∙ verdict_all c.loop-rest.rest.now c.loop-rest-test.ensures) }

use Rattle.std.proofs.Common.{true, false, refl}
use Rattle.generators.proofs.Offers.{offers, offers_none}
use Rattle.generators.proofs.generate_mech_type_list.Goals as goal

pub returns-in-true-true : goal.returns-in-true-true
returns-in-true-true c =
    offers c.args.kerberos c.args.ntlm true true _ _ _ _ c.in-true-true.is-0 c.in-true-true.is-1 refl
    (rw (c.oid.ensures, c.oid-in-true-true.ensures, c.oid-in-true-true-2.ensures) refl) c.write.ensures

pub returns-in-true-false : goal.returns-in-true-false
returns-in-true-false c =
    offers c.args.kerberos c.args.ntlm true false _ _ _ _ c.in-true-false.is-0 c.in-true-false.is-1 refl
    (rw (c.oid-in-true-false.ensures, c.oid-in-true-false-2.ensures) refl) c.write-in-true-false.ensures

pub returns-in-false-true : goal.returns-in-false-true
returns-in-false-true c =
    offers c.args.kerberos c.args.ntlm false true _ _ _ _ c.in-false-true.is-0 c.in-false-true.is-1 refl
    (rw c.oid-in-false-true.ensures refl) c.write-in-false-true.ensures

pub returns-in-false-false : goal.returns-in-false-false
returns-in-false-false c = offers_none c.args.kerberos c.args.ntlm _ _ c.in-false-false.is-0 c.in-false-false.is-1 refl

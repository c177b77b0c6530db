use Rattle.std.proofs.Common.{Ok, rules}
use Rattle.spnego.specs.Reading.{read_init}
use Rattle.spnego.proofs.Exactly.{exact_at_init}
use Rattle.spnego.proofs.Portions.{parts_at_init}
use Rattle.spnego.proofs.neg_token_init.NegTokenInit.read.Goals as goal

pub returns-in_err-only-clause-exact : goal.returns-in_err-only-clause-exact
unfolding read_init
returns-in_err-only-clause-exact c = exact_at_init _ _ (search rules)

pub returns-in_err-this_mech-clause-exact : goal.returns-in_err-this_mech-clause-exact
unfolding read_init
returns-in_err-this_mech-clause-exact c = exact_at_init _ _ (search rules)

pub returns-in_err-only-2-clause-exact : goal.returns-in_err-only-2-clause-exact
unfolding read_init
returns-in_err-only-2-clause-exact c = exact_at_init _ _ (search rules)

pub returns-in_err-fields-clause-exact : goal.returns-in_err-fields-clause-exact
unfolding read_init
returns-in_err-fields-clause-exact c = exact_at_init _ _ (search rules)

pub returns-clause-exact : goal.returns-clause-exact
unfolding read_init
returns-clause-exact c = exact_at_init _ _ (search rules)

pub returns-clause-parts : goal.returns-clause-parts
unfolding read_init
returns-clause-parts c = parts_at_init _ (Ok _) (search rules)

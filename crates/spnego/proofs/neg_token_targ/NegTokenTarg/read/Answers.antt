use Rattle.std.proofs.Common.{Ok, rules}
use Rattle.spnego.specs.Reading.{read_targ}
use Rattle.spnego.proofs.Exactly.{exact_at_targ}
use Rattle.spnego.proofs.Portions.{parts_at_targ}
use Rattle.spnego.proofs.neg_token_targ.NegTokenTarg.read.Goals as goal

pub returns-in_err-only-clause-exact : goal.returns-in_err-only-clause-exact
unfolding read_targ
returns-in_err-only-clause-exact c = exact_at_targ _ _ (search rules)

pub returns-in_err-fields-clause-exact : goal.returns-in_err-fields-clause-exact
unfolding read_targ
returns-in_err-fields-clause-exact c = exact_at_targ _ _ (search rules)

pub returns-clause-exact : goal.returns-clause-exact
unfolding read_targ
returns-clause-exact c = exact_at_targ _ _ (search rules)

pub returns-clause-parts : goal.returns-clause-parts
unfolding read_targ
returns-clause-parts c = parts_at_targ _ (Ok _) (search rules)

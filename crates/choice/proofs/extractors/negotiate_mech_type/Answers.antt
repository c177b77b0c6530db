use Rattle.std.proofs.Common.{rules}
use Rattle.mech_types.proofs.Listing.{listed-items}
use Rattle.choice.specs.Choosing.{choice, chosen}
use Rattle.choice.proofs.Chosen.{chosen_means}
use Rattle.choice.proofs.extractors.negotiate_mech_type.Goals as goal

pub returns-in_err-list-clause-answer : goal.returns-in_err-list-clause-answer
unfolding choice
returns-in_err-list-clause-answer c = search rules

pub returns-clause-answer : goal.returns-clause-answer
unfolding choice chosen
returns-clause-answer c = search (rules, listed-items)

pub returns-clause-means : goal.returns-clause-means
returns-clause-means c os h = chosen_means os c.args.enabled c.args.running _ (search (rules, listed-items))

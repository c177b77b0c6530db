use Rattle.std.proofs.Common.{arith}
use Rattle.std.proofs.lemmas.Grind.{common_steps}
use Rattle.std.proofs.lemmas.Bool.Decides.{Decides-at}
use Rattle.der.specs.Elements.{oid}
use Rattle.der.proofs.Rules.{decides_oid}
use Rattle.der.proofs.is_oid.Goals as goal

pub returns-then-b-clause-rule : goal.returns-then-b-clause-rule
unfolding oid
returns-then-b-clause-rule c = Decides-at _ (oid c.args.content.now) (grind (arith, common_steps)) (decides_oid c.args.content.now)

pub returns-clause-rule : goal.returns-clause-rule
unfolding oid
returns-clause-rule c = Decides-at _ (oid c.args.content.now) (grind (arith, common_steps)) (decides_oid c.args.content.now)

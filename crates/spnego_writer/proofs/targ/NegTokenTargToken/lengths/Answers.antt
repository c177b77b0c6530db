use Rattle.std.proofs.Common.{Ok, rules}
use Rattle.spnego.specs.Views.{plain_targ}
use Rattle.spnego_writer.proofs.Putting.{targ_sized}
use Rattle.spnego_writer.proofs.targ.NegTokenTargToken.lengths.Goals as goal

pub returns-in_err-body-clause-sized : goal.returns-in_err-body-clause-sized
returns-in_err-body-clause-sized c = targ_sized (plain_targ c.args.self.now) _ (search rules)

pub returns-in_err-token-clause-sized : goal.returns-in_err-token-clause-sized
returns-in_err-token-clause-sized c = targ_sized (plain_targ c.args.self.now) _ (search rules)

pub returns-clause-sized : goal.returns-clause-sized
returns-clause-sized c =
    targ_sized (plain_targ c.args.self.now)
    (Ok (record { body = c.in_ok-body.body; sequence = c.in_ok-body.sequence; content = c.in_ok-body.sequence; token = c.in_ok-token.token })) (search rules)

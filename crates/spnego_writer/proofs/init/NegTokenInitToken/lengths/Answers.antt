use Rattle.std.proofs.Common.{◌+◌, arith, length, Ok, rules}
use Rattle.der.proofs.Adding.{element_bound}
use Rattle.spnego.specs.Views.{plain_init}
use Rattle.spnego_writer.proofs.Putting.{init_sized}
use Rattle.spnego_writer.proofs.init.NegTokenInitToken.lengths.Goals as goal

pub overflow_add-content : goal.overflow_add-content
overflow_add-content c =
    omega (
      arith,
      element_bound (length c.args.self.now.this_mech.now) c.in_ok-mech.mech c.in_ok-mech.ensures,
      element_bound c.in_ok-body.sequence c.in_ok-content.field-0 c.in_ok-content.ensures,
    )

pub returns-in_err-mech-clause-sized : goal.returns-in_err-mech-clause-sized
returns-in_err-mech-clause-sized c = init_sized (plain_init c.args.self.now) _ (search rules)

pub returns-in_err-body-clause-sized : goal.returns-in_err-body-clause-sized
returns-in_err-body-clause-sized c = init_sized (plain_init c.args.self.now) _ (search rules)

pub returns-in_err-content-clause-sized : goal.returns-in_err-content-clause-sized
returns-in_err-content-clause-sized c = init_sized (plain_init c.args.self.now) _ (search rules)

pub returns-in_err-token-clause-sized : goal.returns-in_err-token-clause-sized
returns-in_err-token-clause-sized c = init_sized (plain_init c.args.self.now) _ (search rules)

pub returns-clause-sized : goal.returns-clause-sized
returns-clause-sized c =
    init_sized (plain_init c.args.self.now)
    (Ok (record { body = c.in_ok-body.body; sequence = c.in_ok-body.sequence; content = c.in_ok-mech.mech + c.in_ok-content.field-0; token = c.in_ok-token.token })) (search rules)

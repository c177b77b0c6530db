use Rattle.std.proofs.Common.{is_ok, rules, sym, ap, ◌∙◌}
use Rattle.config.proofs.Plans.{made}
use Rattle.config.proofs.Draft.check.Goals as goal

pub returns-in_err-running-clause-made : goal.returns-in_err-running-clause-made
returns-in_err-running-clause-made g c =
    let m = made g.R.Role.IS_CLIENT c.IS_CLIENT.result c.in_ok-configured.configured c.IS_CLIENT.ensures (sym c.parse.ensures.value ∙ c.in_ok-configured.was) c.parse-open.ensures.answer c.filter_protocol.ensures.answer in
    let n = ap is_ok (sym c.in_err-running.was) ∙ m in
    search (rules, n)

pub returns-clause-made : goal.returns-clause-made
returns-clause-made g c =
    let m = made g.R.Role.IS_CLIENT c.IS_CLIENT.result c.in_ok-configured.configured c.IS_CLIENT.ensures (sym c.parse.ensures.value ∙ c.in_ok-configured.was) c.parse-open.ensures.answer c.filter_protocol.ensures.answer in
    ap is_ok (sym c.in_ok-running.was) ∙ m

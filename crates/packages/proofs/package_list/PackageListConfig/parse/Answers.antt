use Rattle.std.proofs.Common.{true, sym, ap, ◌∙◌}
use Rattle.packages.proofs.Lists.{ended, walk_start, walk_again, walk_end, any_case, each_closing, each_single}
use Rattle.packages.specs.Packages.{parsed, each}
use Rattle.text.specs.Pieces.{pieces_left, seen}
use Rattle.packages.proofs.package_list.PackageListConfig.parse.Goals as goal

pub returns-in_default-clause-answer : goal.returns-in_default-clause-answer
unfolding parsed
returns-in_default-clause-answer c = ap (λ o. parsed (seen o)) (sym c.in_default.is)

pub loop-entry-init : goal.loop-entry-init
loop-entry-init c =
    ap (λ it. ended true (each (λ _. true)) (pieces_left it)) c.into_iter-entry-iterator.ensures.into_iter_gives
    ∙ (ap (ended true (each (λ _. true))) c.pieces-entry-items.ensures.all
    ∙ (walk_start c.in-Some.list.now ∙ ap (λ o. parsed (seen o)) (sym c.in-Some.is)))

pub loop-entry-preserved : goal.loop-entry-preserved
loop-entry-preserved c =
    walk_again c.loop-entry.use_default c.split_sign-off.result.0 c.loop-entry.config c.switched-config.result (parsed (seen c.args.package_list))
    c.split_sign-off.result.1.now c.in-Some-entry.entry.now _ _
    c.in-Some-entry.ensures.steps c.split_sign-off.ensures.sign c.split_sign-off.ensures.name c.switched-config.ensures
    c.loop-entry.invariant

pub returns : goal.returns
returns c =
    let e = walk_end c.loop-entry.use_default c.loop-entry.config (parsed (seen c.args.package_list)) _ c.in-None.ensures.steps.0 c.loop-entry.invariant in
    record {
      answer = e;
      any_case = λ a b is same. e ∙ (ap parsed is ∙ any_case a b same);
      closing = λ a is off. e ∙ (ap parsed is ∙ each_closing a off);
      single = λ a is one on. e ∙ (ap parsed is ∙ each_single a one on);
    }

use Rattle.std.proofs.Common.{ap, sym, ◌∙◌, ◌+◌, ◌∷◌, arith, length}
use Rattle.std.proofs.lemmas.Bool.{eqb-true}
use Rattle.text.specs.Pieces.{others, seen}
use Rattle.targets.proofs.Groups.{counted, size, groups_begin, groups_empty, groups_more, groups_wrong, size_behind}
use Rattle.targets.proofs.count_groups.Goals as goal

pub returns-then-is_empty : goal.returns-then-is_empty
returns-then-is_empty c = groups_empty c.args.dotted c.args.text.now (eqb-true (length c.args.text.now) 0 (sym c.if-is_empty.ensures))

pub loop-rest-init : goal.loop-rest-init
loop-rest-init c =
    let s = size_behind 0x3A c.args.text.now _ c.split_once.ensures.second in
    (groups_begin c.args.dotted c.args.text.now c.if-is_empty.ensures c.split_once.ensures.walks, omega (arith, s))

pub returns-then-not-is_hex_group : goal.returns-then-not-is_hex_group
returns-then-not-is_hex_group c =
    groups_wrong c.args.dotted c.loop-rest.n c.loop-rest.group.now c.in-Some.tail.now c.if-not-is_hex_group.ensures
    ∙ (ap (λ o. counted c.args.dotted c.loop-rest.n (c.loop-rest.group.now ∷ others 0x3A (seen o))) (sym c.in-Some.is) ∙ c.loop-rest.invariant.0)

pub loop-rest-smaller : goal.loop-rest-smaller
loop-rest-smaller c = omega (arith, size_behind 0x3A c.in-Some.tail.now _ c.split_once-in-Some.ensures.second, ap (λ o. size (seen o)) c.in-Some.is)

pub loop-rest-preserved : goal.loop-rest-preserved
loop-rest-preserved c = (
  ap (counted c.args.dotted (c.loop-rest.n + 1)) (sym c.split_once-in-Some.ensures.walks)
      ∙ (groups_more c.args.dotted c.loop-rest.n c.loop-rest.group.now c.in-Some.tail.now c.if-not-is_hex_group.ensures
      ∙ (ap (λ o. counted c.args.dotted c.loop-rest.n (c.loop-rest.group.now ∷ others 0x3A (seen o))) (sym c.in-Some.is) ∙ c.loop-rest.invariant.0)),
  omega (arith, size_behind 0x3A c.in-Some.tail.now _ c.split_once-in-Some.ensures.second, ap (λ o. size (seen o)) c.in-Some.is, c.loop-rest.invariant.1),
)

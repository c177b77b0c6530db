use Rattle.std.proofs.Common.{ap, ◌∙◌, arith, length}
use Rattle.text.specs.Pieces.{pieces_left}
use Rattle.targets.proofs.Numbers.{four, numbers_begin}
use Rattle.targets.proofs.is_ipv4.Goals as goal

pub loop-number-init : goal.loop-number-init
loop-number-init c =
    let e = ap pieces_left c.into_iter-number-iterator.ensures.into_iter_gives ∙ c.pieces-number-items.ensures.all in
    (ap (four 0) e ∙ numbers_begin c.args.text.now, omega (arith, ap length e, ap length c.pieces-number-items.ensures.all))

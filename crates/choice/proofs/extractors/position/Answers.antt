use Rattle.std.proofs.Common.{refl, inl, arith}
use Rattle.mech_types.proofs.Listing.{items_short}
use Rattle.choice.proofs.extractors.position.Goals as goal

pub loop-i-init : goal.loop-i-init
loop-i-init c =
    let s = items_short c.args.list in
    let l = c.ranges.list in
    rw (c.into_iter-i-iterator.ensures.into_iter_gives, c.enumerate-i-items.ensures.source, c.enumerate-i-items.ensures.count) ((tt, tt, inl (omega (arith, s, l.0))), tt, refl)

use Rattle.std.proofs.Common.{◌≤◌, take}
use Rattle.climb.proofs.Rounds.{Standing}
use Rattle.climb.proofs.climb.Given as goal
use Rattle.ladder.specs.Rungs.{legs_of}
use Rattle.mechanism.specs.Identities.{who}

abbrev pub invariant-loop-round : goal.invariant-loop-round
invariant-loop-round l = record {
  short : l.len ≤ 65;
  stands : Standing (legs_of l.legs) (who l.client) (who l.allowed) l._round l.below l.above (take l.len l.answered);
}

use Rattle.std.proofs.Common.{◌≡◌, ◌+◌, ◌≤◌, ◌∷◌, length}
use Rattle.text.specs.Pieces.{others, seen}
use Rattle.targets.specs.Addresses.{groups}
use Rattle.targets.proofs.Groups.{counted, size}
use Rattle.targets.proofs.count_groups.Given as goal

abbrev pub invariant-loop-rest : goal.invariant-loop-rest
invariant-loop-rest l =
    (counted l.dotted l.n (l.group ∷ others 0x3A (seen l.rest)) ≡ groups l.dotted l.text) × (l.n + size (seen l.rest) ≤ length l.text)

abbrev pub decreases-loop-rest : goal.decreases-loop-rest
decreases-loop-rest l = size (seen l.rest)

use Rattle.std.proofs.Common.{◌≡◌, ◌+◌, ◌≤◌, length}
use Rattle.text.specs.Pieces.{pieces_left}
use Rattle.targets.specs.Addresses.{ipv4}
use Rattle.targets.proofs.Numbers.{four}
use Rattle.targets.proofs.is_ipv4.Given as goal

abbrev pub invariant-loop-number : goal.invariant-loop-number
invariant-loop-number l =
    (four l.n (pieces_left l.number-iterator) ≡ ipv4 l.text) × (l.n + length (pieces_left l.number-iterator) ≤ length l.text + 1)

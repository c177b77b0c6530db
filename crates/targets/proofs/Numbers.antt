-- The walk over the numbers of a text: n of them were counted, and some pieces are left.
use Rattle.std.proofs.Common.{◌≡◌, ℕ, ◌+◌, Bool, ◌&&◌, eqb, List, length, ap, arith}
use Rattle.text.specs.Pieces.{pieces}
use Rattle.targets.specs.Addresses.{numbers, ipv4}

abbrev pub four : ℕ → List (List ℕ) → Bool
four n ps = eqb (n + length ps) 4 && numbers ps

pub numbers_begin : (text : List ℕ) → four 0 (pieces 0x2E text) ≡ ipv4 text
unfolding ipv4
numbers_begin text = let e : 0 + length (pieces 0x2E text) ≡ length (pieces 0x2E text) = omega arith in ap (λ k. eqb k 4 && numbers (pieces 0x2E text)) e

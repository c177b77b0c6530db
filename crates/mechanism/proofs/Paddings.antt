-- Byte strings of a fixed length.
use Rattle.std.proofs.Common.{◌≡◌, ℕ, ◌-◌, min, List, ◌++◌, length, take, drop, replicate, ◌≤◌, ◌∙◌, arith}
use Rattle.mechanism.specs.Paddings.{padded}
use Rattle.std.proofs.lemmas.List.{take_all, take_at, take_min, drop-replicate, length-take}

-- as many as there are, written over zeros
pub padded_put : (n k : ℕ) (xs ys : List ℕ) → k ≡ min (length xs) n → ys ≡ take k xs → ys ++ drop k (replicate n 0) ≡ padded n xs
unfolding padded
padded_put n k xs ys e f =
    let g : k ≡ min n (length xs) = omega arith in
    let h : n - k ≡ n - length xs = omega arith in
    cc (drop-replicate {X = ℕ} k n 0, take_min n xs)

pub take_padded : (n : ℕ) (xs : List ℕ) → take (min (length xs) n) (padded n xs) ≡ take n xs
unfolding padded
take_padded n xs =
    let l : length (take n xs) ≡ min (length xs) n = simp length-take (omega arith) in
    take_at (take n xs) (replicate (n - length xs) 0) (min (length xs) n) l

pub whole_padded : (n : ℕ) (xs : List ℕ) → length xs ≤ n → take (min (length xs) n) (padded n xs) ≡ xs
whole_padded n xs l = take_padded n xs ∙ take_all n xs l

-- Keys are whole: what is 8 bytes long stays.
use Rattle.std.proofs.Common.{◌≡◌, ℕ, ◌-◌, List, [], ◌++◌, length, take, replicate, Some, None, Option, sym, ap, ◌∙◌, arith}
use Rattle.mechanism.specs.Paddings.{padded}
use Rattle.std.proofs.lemmas.List.{append-nil, take_all}
use Rattle.std.specs.Option.{unwrap_or}

-- what has the length already stays
pub padded_whole : (n : ℕ) (xs : List ℕ) → length xs ≡ n → padded n xs ≡ xs
unfolding padded
padded_whole n xs e =
    let z : n - length xs ≡ 0 = omega arith in
    ap (λ k. take n xs ++ replicate k 0) z ∙ (append-nil (take n xs) ∙ take_all n xs (omega arith))

-- what is not there is the empty secret
pub padded_if : (o : Option (List ℕ)) (xs : List ℕ) → xs ≡ unwrap_or o (replicate 8 0) → length xs ≡ 8 → padded 8 (unwrap_or o []) ≡ xs
unfolding padded
padded_if None xs e l = sym e
padded_if (Some ys) xs e l = ap (padded 8) (sym e) ∙ padded_whole 8 xs l

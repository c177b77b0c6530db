-- Headers: what is written is read back, and what is read is the writing.
use Rattle.std.proofs.Common.{◌≡◌, ℕ, ◌/◌, ◌%◌, ◌<◌, ◌≤◌, List, [], ◌∷◌, ◌++◌, Ok, arith}
use Rattle.std.proofs.lemmas.Bool.Decides.{nat_tests}
use Rattle.der.specs.Elements.{header}
use Rattle.der.specs.Reading.{Head, head_of}

pub header_short : (t n : ℕ) → n < 128 → header t n ≡ t ∷ n ∷ []
unfolding header
header_short t n h = grind (arith, nat_tests)

pub header_one : (t n : ℕ) → 128 ≤ n → n < 256 → header t n ≡ t ∷ 129 ∷ n ∷ []
unfolding header
header_one t n h k = grind (arith, nat_tests)

pub header_two : (t n : ℕ) → 256 ≤ n → header t n ≡ t ∷ 130 ∷ n / 256 ∷ n % 256 ∷ []
unfolding header
header_two t n h = grind (arith, nat_tests)

pub head_written : (t n : ℕ) (xs : List ℕ) → n < 65536 → head_of (header t n ++ xs) ≡ Ok (t, n, xs)
unfolding header
head_written t n xs h = grind (arith, nat_tests)

pub head_read : (xs : List ℕ) (x : Head) → head_of xs ≡ Ok x → (xs ≡ header x.0 x.1 ++ x.2) × (x.1 < 65536)
unfolding header
head_read xs x r = grind (arith, nat_tests)

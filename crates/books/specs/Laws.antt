-- What a book is worth: its entries are parts of it, one behind the other.
use Rattle.std.specs.Prelude.{◌≡◌, ℕ, List, [], ◌∷◌, ◌++◌, map, length}
use Rattle.std.specs.List.{slice_get}
use Rattle.books.specs.Books.{count_of, pairs_end, entries, entry_at}

-- entries one behind the other, each behind the gap that it is paired with
abbrev pub laid : List (List ℕ × List ℕ) → List ℕ
laid [] = []
laid (p ∷ ps) = p.0 ++ (p.1 ++ laid ps)

-- The byte string is a front, which count and pairs fill, then its entries in their order, each behind a gap, and a tail. So the entries
-- are parts of it, disjoint and behind the pairs. A gap or the tail may be empty.
pub record LaidOut (xs : List ℕ) : Type 0 where
  pub front : List ℕ
  pub parts : List (List ℕ × List ℕ)
  pub tail : List ℕ
  pub behind : length front ≡ pairs_end xs
  pub listed : map (λ (p : List ℕ × List ℕ). p.1) parts ≡ entries xs
  pub whole : xs ≡ front ++ (laid parts ++ tail)

-- there are as many entries as the book counts, and entry i is the one at i in their list: one for each i below the count, and none past it
pub record Listed (xs : List ℕ) (i : ℕ) : Type 0 where
  pub many : length (entries xs) ≡ count_of xs
  pub here : entry_at xs i ≡ slice_get (entries xs) i

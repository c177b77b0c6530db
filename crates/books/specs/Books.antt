-- A book is a byte string that lists its entries: a count in two bytes, then for each entry its offset and its length in two bytes
-- each, all with the high byte first. The entries stand behind these pairs, in order and disjoint; bytes may be left between and behind them.
use Rattle.std.specs.Prelude.{◌≡◌, ℕ, zero, suc, ◌+◌, ◌*◌, ◌<◌, ◌≤◌, Bool, true, cond, ◌&&◌, List, [], map, length, take, drop, Some, None, Option, nat_le, nat_lt, slice_index, slice_index_or}
use Rattle.std.specs.List.{range_with_len}

-- the number in the two bytes at a place; 0 if the byte string ends before them
unfoldable pub be16 : List ℕ → ℕ → ℕ
be16 xs at = cond (nat_lt (at + 1) (length xs)) (slice_index xs at * 256 + slice_index xs (at + 1)) 0

abbrev pub count_of : List ℕ → ℕ
count_of xs = be16 xs 0

abbrev pub offset_of : List ℕ → ℕ → ℕ
offset_of xs i = be16 xs (2 + 4 * i)

abbrev pub length_of : List ℕ → ℕ → ℕ
length_of xs i = be16 xs (4 + 4 * i)

-- where entry i ends
abbrev pub end_of : List ℕ → ℕ → ℕ
end_of xs i = offset_of xs i + length_of xs i

abbrev pub entry_of : List ℕ → ℕ → List ℕ
entry_of xs i = take (length_of xs i) (drop (offset_of xs i) xs)

-- the n entries from entry i on: none begins before the one before it ends (the first of them not before `at`), and none goes past the end of the byte string
unfoldable pub in_order : List ℕ → ℕ → ℕ → ℕ → Bool
in_order xs zero i at = true
in_order xs (suc n) i at = nat_le at (offset_of xs i) && (nat_le (end_of xs i) (length xs) && in_order xs n (i + 1) (end_of xs i))

-- where the pairs end
abbrev pub pairs_end : List ℕ → ℕ
pairs_end xs = 2 + 4 * count_of xs

unfoldable pub is_book : List ℕ → Bool
is_book xs = nat_le (length xs) 8192 && (nat_le (count_of xs) 128 && (nat_le (pairs_end xs) (length xs) && in_order xs (count_of xs) 0 (pairs_end xs)))

-- the pairs of a byte string that has as many as it counts: pair i says where entry i begins, and how long it is
pub record Pairs (xs : List ℕ) (ps : List (List ℕ)) : Type 0 where
  pub whole : pairs_end xs ≤ length xs
  pub many : length ps ≡ count_of xs
  pub offset : (i : ℕ) → i < length ps → be16 (slice_index_or ps i []) 0 ≡ offset_of xs i
  pub len : (i : ℕ) → i < length ps → be16 (slice_index_or ps i []) 2 ≡ length_of xs i

-- a byte string that is no book counts as one without entries
abbrev pub book_or_empty : List ℕ → List ℕ
book_or_empty xs = cond (is_book xs) xs []

unfoldable pub entries : List ℕ → List (List ℕ)
entries xs = map (entry_of xs) (range_with_len 0 (count_of xs))

-- entry i of any byte string: none past the count, and none whose place goes past the end
unfoldable pub entry_at : List ℕ → ℕ → Option (List ℕ)
entry_at xs i = cond (nat_lt i (count_of xs) && nat_le (end_of xs i) (length xs)) (Some (entry_of xs i)) None

-- An account book is a book of names and secrets in turn: entry 2i is the name of account i, and entry 2i + 1 its secret. So its count
-- is even, and no entry is longer than 64 bytes.
use Rattle.std.specs.Prelude.{◌≡◌, ℕ, ◌+◌, ◌*◌, ◌/◌, ◌%◌, ◌≤◌, Bool, cond, ◌&&◌, List, [], ◌∷◌, length, Some, None, Option, ◌==◌, nat_le, nat_lt}
use Rattle.std.specs.List.{slice_get, list_all}
use Rattle.books.specs.Books.{count_of, is_book, entries, entry_at}

-- each is at most 64 bytes long
abbrev pub all_short : List (List ℕ) → Bool
all_short es = list_all (λ e. nat_le (length e) 64) es

unfoldable pub is_account_book : List ℕ → Bool
is_account_book xs = is_book xs && (count_of xs % 2 == 0 && all_short (entries xs))

-- names and secrets in turn, as pairs
unfoldable pub paired : List (List ℕ) → List (List ℕ × List ℕ)
paired [] = []
paired (name ∷ []) = []
paired (name ∷ secret ∷ es) = (name, secret) ∷ paired es

-- the accounts in the order of the book, each a name and a secret
unfoldable pub accounts : List ℕ → List (List ℕ × List ℕ)
accounts xs = paired (entries xs)

-- how many accounts a book counts
abbrev pub account_count : List ℕ → ℕ
account_count xs = count_of xs / 2

abbrev pub both : Option (List ℕ) → Option (List ℕ) → Option (List ℕ × List ℕ)
both None secret = None
both (Some name) None = None
both (Some name) (Some secret) = Some (name, secret)

-- account i of any byte string: none past their number, and none without both entries
unfoldable pub account_at : List ℕ → ℕ → Option (List ℕ × List ℕ)
account_at xs i = cond (nat_lt i (account_count xs)) (both (entry_at xs (2 * i)) (entry_at xs (2 * i + 1))) None

-- there are as many accounts as the book counts; account i is the one at i in their list, and its name and its secret are at most 64
-- bytes long
pub record Listed (xs : List ℕ) (i : ℕ) : Type 0 where
  pub many : length (accounts xs) ≡ account_count xs
  pub here : account_at xs i ≡ slice_get (accounts xs) i
  pub short : (a : List ℕ × List ℕ) → account_at xs i ≡ Some a → (length a.0 ≤ 64) × (length a.1 ≤ 64)

-- The accounts that a name is looked for in: those whose names compare equal, in the order of the book. Two accounts of a book may have
-- one name, so there may be several. The book's name is compared to the name that is asked for, in this order.
use Rattle.std.specs.Prelude.{◌≡◌, ℕ, ◌+◌, ◌-◌, ◌<◌, ◌≤◌, Bool, true, false, ◌⊎◌, List, [], ◌∷◌, length, Some, None, filter, Option, nat_le, slice_index_or}
use Rattle.std.specs.List.{range_with_len}
use Rattle.accounts.specs.Accounts.{account_at, account_count, accounts}
use Rattle.accounts.specs.Names.{same_account}

-- whether this is an account, and of this name
abbrev pub is_named : List ℕ → Option (List ℕ × List ℕ) → Bool
is_named name None = false
is_named name (Some a) = same_account a.0 name

-- those from account k on
unfoldable pub matches_from : List ℕ → List ℕ → ℕ → List ℕ
matches_from name xs k = filter (λ i. is_named name (account_at xs i)) (range_with_len k (account_count xs - k))

unfoldable pub matches : List ℕ → List ℕ → List ℕ
matches name xs = matches_from name xs 0

-- the first, if there is one
abbrev pub first_of : List ℕ → Option ℕ
first_of [] = None
first_of (i ∷ is) = Some i

-- what is left to walk where the next match is known: it, and those behind it
abbrev pub walked : List ℕ → List ℕ → Option ℕ → List ℕ
walked name xs None = []
walked name xs (Some i) = i ∷ matches_from name xs (i + 1)

-- where a match from account k on is found
abbrev pub Found : List ℕ → ℕ → Option ℕ → Type 0
Found xs k None = Unit {0}
Found xs k (Some i) = (k ≤ i) × (i < account_count xs) × (i < 32768)

abbrev pub Among : List ℕ → ℕ → Type 0
Among [] i = ⊥
Among (k ∷ ks) i = (i ≡ k) ⊎ Among ks i

-- each is at least k, and more than the one before it
abbrev pub Rising : ℕ → List ℕ → Type 0
Rising k [] = Unit {0}
Rising k (i ∷ is) = (k ≤ i) × Rising (i + 1) is

-- i is the index of an account whose name compares equal
abbrev pub Named : List ℕ → List ℕ → ℕ → Type 0
Named name xs i = (i < length (accounts xs)) × (same_account (slice_index_or (accounts xs) i ([], [])).0 name ≡ true)

-- The matches are exactly the indices of the accounts whose names compare equal; they rise strictly; and those from account k on are
-- the matches that are at least k.
pub record Exact (name xs : List ℕ) (k : ℕ) : Type 0 where
  pub sound : (i : ℕ) → Among (matches name xs) i → Named name xs i
  pub complete : (i : ℕ) → Named name xs i → Among (matches name xs) i
  pub rising : Rising 0 (matches name xs)
  pub later : matches_from name xs k ≡ filter (λ i. nat_le k i) (matches name xs)

-- When a name in a book and a name that is asked for are one account's, and which name is the guest's.
-- Nothing else is to look into these two.
use Rattle.std.specs.Prelude.{ℕ, Bool, List, codes}
use Rattle.text.specs.Cases.{same_ignoring_case}

-- ASCII case is ignored
unfoldable pub same_account : List ℕ → List ℕ → Bool
same_account a b = same_ignoring_case a b

unfoldable pub is_guest : List ℕ → Bool
is_guest name = same_ignoring_case name (codes "/GUEST")

-- Capital letters of ASCII count as small ones; every other byte is itself.
use Rattle.std.specs.Prelude.{ℕ, Bool, List, map}
use Rattle.std.specs.Char.{to_ascii_lowercase}
use Rattle.std.specs.Str.{bytes_eq}

abbrev pub small : List ℕ → List ℕ
small xs = map to_ascii_lowercase xs

unfoldable pub same_ignoring_case : List ℕ → List ℕ → Bool
same_ignoring_case xs ys = bytes_eq (small xs) (small ys)

-- What the code's values say, their references read.
use Rattle.std.specs.Prelude.{ℕ, List, map}
use Rattle.std.specs.Borrow.{Bor}

-- object identifiers that are to be written
abbrev pub plain_oids : List (Bor (List ℕ)) → List (List ℕ)
plain_oids os = map (λ (y : Bor (List ℕ)). y.now) os

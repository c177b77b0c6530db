-- Text cut at a mark: `a,b,,c` has at commas the pieces `a`, `b`, nothing and `c`; text without the mark is one piece.
use Rattle.std.specs.Prelude.{ℕ, cond, List, [], ◌∷◌, Some, None, Option, ◌==◌}
use Rattle.std.specs.Borrow.{Bor}
use Rattle.text.specs.declared.walk.Pieces.{Pieces}

-- a byte before the first of some pieces
abbrev pub longer : ℕ → List (List ℕ) → List (List ℕ)
longer x [] = []
longer x (p ∷ ps) = (x ∷ p) ∷ ps

unfoldable pub pieces : ℕ → List ℕ → List (List ℕ)
pieces mark [] = [] ∷ []
pieces mark (x ∷ xs) = cond (x == mark) ([] ∷ pieces mark xs) (longer x (pieces mark xs))

-- up to the first mark
abbrev pub up_to : ℕ → List ℕ → List ℕ
up_to mark [] = []
up_to mark (x ∷ xs) = cond (x == mark) [] (x ∷ up_to mark xs)

-- behind the first mark, if there is one
abbrev pub behind : ℕ → List ℕ → Option (List ℕ)
behind mark [] = None
behind mark (x ∷ xs) = cond (x == mark) (Some xs) (behind mark xs)

-- the pieces of what stands behind a mark
abbrev pub others : ℕ → Option (List ℕ) → List (List ℕ)
others mark None = []
others mark (Some xs) = pieces mark xs

-- the last of some pieces
abbrev pub last_of : List (List ℕ) → List ℕ
last_of [] = []
last_of (p ∷ []) = p
last_of (p ∷ q ∷ ps) = last_of (q ∷ ps)

-- what stands behind the last mark: the whole text if there is none
abbrev pub after_last : ℕ → List ℕ → List ℕ
after_last mark xs = last_of (pieces mark xs)

-- what the answer of the code says, its references read
abbrev pub seen : Option (Bor (List ℕ)) → Option (List ℕ)
seen None = None
seen (Some r) = Some r.now

-- the pieces that an iterator has still to give
abbrev pub pieces_left : Pieces → List (List ℕ)
pieces_left p = others p.mark (seen p.rest)

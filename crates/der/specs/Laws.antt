-- Reading and writing of elements are inverse to each other.
use Rattle.std.specs.Prelude.{◌≡◌, ℕ, ◌<◌, true, List, ◌++◌, length, Ok, Err}
use Rattle.sspi.specs.declared.fault.Fault.{Fault}
use Rattle.der.specs.Elements.{tag, element}
use Rattle.der.specs.Reading.{Taken, take_of, illegal}

-- a legal element is read back, whatever follows it
abbrev pub ReadBack : Type 0
ReadBack = (t : ℕ) (c rest : List ℕ) → tag t ≡ true → length c < 65536 → take_of (element t c ++ rest) ≡ Ok (t, c, rest)

-- what is read is the writing of a legal element, so no other form of it is accepted
abbrev pub OnlyWritten : Type 0
OnlyWritten = (xs : List ℕ) (x : Taken) → take_of xs ≡ Ok x → (xs ≡ element x.0 x.1 ++ x.2) × (tag x.0 ≡ true) × (length x.1 < 65536)

-- there is one refusal
abbrev pub RefusedIllegal : Type 0
RefusedIllegal = (xs : List ℕ) (e : Fault) → take_of xs ≡ Err e → e ≡ illegal

-- bytes that begin with a legal element do so in one way
abbrev pub OneWriting : Type 0
OneWriting =
    (t u : ℕ) (c d r s : List ℕ) → tag t ≡ true → tag u ≡ true → length c < 65536 → length d < 65536 → element t c ++ r ≡ element u d ++ s
    → (t ≡ u) × (c ≡ d) × (r ≡ s)

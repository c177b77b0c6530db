-- Where the fields that are read stand.
use Rattle.std.specs.Prelude.{◌≡◌, ℕ, List, ◌++◌, Some, Option}
use Rattle.spnego.specs.Tokens.{Fields}

-- the part stands in the input, one byte behind the other
abbrev pub Within : List ℕ → List ℕ → Type 0
Within part input = (before : List ℕ) × (after : List ℕ) × (input ≡ before ++ (part ++ after))

abbrev pub Part : List ℕ → Option (List ℕ) → Type 0
Part input o = (part : List ℕ) → o ≡ Some part → Within part input

-- each field that is there is a part of the input
pub record Parts (input : List ℕ) (f : Fields) : Type 0 where
  pub first : Part input f.first
  pub second : Part input f.second
  pub third : Part input f.third
  pub fourth : Part input f.fourth

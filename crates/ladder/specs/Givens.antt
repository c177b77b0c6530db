-- What a step is given: who takes it, account and secret of the identity, and the input.
use Rattle.std.specs.Prelude.{ℕ, List, [], Some, None, Option}
use Rattle.mechanism.specs.Identities.{Who}
use Rattle.mechanism.specs.declared.mechanism.Side.{Side}

pub record Given : Type 0 where
  pub by : Side
  pub account : List ℕ
  pub secret : List ℕ
  pub input : List ℕ

-- account and secret are empty without an identity
abbrev pub given : Side → Option Who → List ℕ → Given
given by None x = record { by = by; account = []; secret = []; input = x }
given by (Some i) x = record { by = by; account = i.account; secret = i.secret; input = x }

-- What a sealer and a mechanism mean: functions of a state and of arguments, which say the next state and the answer of each call.
-- Of a working buffer they see only the length.
use Rattle.std.specs.Prelude.{ℕ, Bool, List, Option, Result}
use Rattle.mechanism.specs.Identities.{Who}
use Rattle.mechanism.specs.declared.mechanism.Side.{Side}
use Rattle.sspi.specs.declared.fault.Fault.{Fault}
use Rattle.sspi.specs.declared.security_status.SecurityStatus.{SecurityStatus}

-- A sealer: whether its session is up, the MIC that it makes over data, the MICs that it takes for data, its states after making and
-- after checking, and which states are alike but for notes.
pub record Sealing (S : Type 0) : Type 1 where
  pub up : S → Bool
  pub made : S → List ℕ → List ℕ
  pub takes : S → List ℕ → List ℕ → Bool
  pub make_next : S → List ℕ → S
  pub check_next : S → List ℕ → List ℕ → S
  pub Alike : S → S → Type 0

-- A mechanism besides: made fresh, perhaps with the number of a KDC; a step of a side with request flags, an identity, an input and a
-- working buffer of a length; the peer's name; and an identity that is allowed, perhaps as the first of a new set.
pub record Stepping (S : Type 0) : Type 0 where
  pub fresh_next : S → Option ℕ → S
  pub step_next : S → Side → ℕ → Option Who → List ℕ → ℕ → S
  pub step_answer : S → Side → ℕ → Option Who → List ℕ → ℕ → Result (SecurityStatus × List ℕ) Fault
  pub name_answer : S → Result (List ℕ) Fault
  pub allow_next : S → Who → Bool → S
  pub allow_answer : S → Who → Bool → Result (Unit {0}) Fault

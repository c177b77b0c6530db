-- Two ladders at the top, which a client and a server have climbed against each other.
use Rattle.std.specs.Prelude.{◌≡◌, ℕ, ◌≤◌, ◌↔◌, Bool, true, cond, ◌&&◌, List, length, Ok, Err, Result}
use Rattle.std.specs.Str.{bytes_eq}
use Rattle.climb.specs.declared.Climbers.{Climbers}
use Rattle.ladder.specs.Keys.{key_of}
use Rattle.ladder.specs.Mics.{ladder_sealing}
use Rattle.ladder.specs.Rungs.{is_up}
use Rattle.ladder.specs.Steps.{name_in}
use Rattle.ladder.specs.declared.Ladder.{Ladder}
use Rattle.mechanism.specs.Identities.{Who}
use Rattle.mechanism.specs.Promises.{refusal, may_seal, make_answer, check_answer}
use Rattle.sspi.specs.Faults.{and_then}
use Rattle.sspi.specs.declared.error_kind.ErrorKind.TheVariants.{MessageAltered}
use Rattle.sspi.specs.declared.fault.Fault.{Fault}

-- what the ladder t answers, for the data y, to the MIC that s makes over the data x
abbrev pub carried : Ladder → Ladder → List ℕ → List ℕ → Result (Unit {0}) Fault
carried s t x y = and_then (make_answer ladder_sealing s x) (λ mic. check_answer ladder_sealing t y mic)

abbrev pub Takes : Ladder → Ladder → List ℕ → List ℕ → Type 0
Takes s t x y = carried s t x y ≡ Ok tt

-- key and data agree, and the data may be sealed
pub record Agree (client server : Who) (x y : List ℕ) : Type 0 where
  pub keys : key_of client.secret ≡ key_of server.secret
  pub same : x ≡ y
  pub short : length x ≤ 128

abbrev pub agrees : Who → Who → List ℕ → List ℕ → Bool
agrees client server x y = bytes_eq (key_of client.secret) (key_of server.secret) && bytes_eq x y

-- the answer by identities and data alone: first data that is too long, then a key or data that does not agree
abbrev pub exchanged : Who → Who → List ℕ → List ℕ → Result (Unit {0}) Fault
exchanged client server x y =
    and_then (may_seal true x) (λ _. and_then (may_seal true y) (λ _. cond (agrees client server x y) (Ok tt) (Err (refusal MessageAltered))))

-- Both stand at the top of n legs, the one that a client climbed and the one that allows an identity; each knows the client by name;
-- and each takes the MIC of the other if and only if key and data agree, and answers it by them alone.
pub record AtTop (n : ℕ) (client allowed : Who) (c s : Ladder) : Type 0 where
  pub client_top : c.height ≡ n
  pub server_top : s.height ≡ n
  pub client_up : is_up c ≡ true
  pub server_up : is_up s ≡ true
  pub client_named : name_in c.account ≡ Ok client.account
  pub server_named : name_in s.account ≡ Ok client.account
  pub server_answers : (x y : List ℕ) → carried c s x y ≡ exchanged client allowed x y
  pub client_answers : (x y : List ℕ) → carried s c x y ≡ exchanged client allowed x y
  pub server_takes : (x y : List ℕ) → Takes c s x y ↔ Agree client allowed x y
  pub client_takes : (x y : List ℕ) → Takes s c x y ↔ Agree client allowed x y

-- no step is refused, and both reach the top
abbrev pub Climbed : ℕ → Who → Who → Result Climbers Fault → Type 0
Climbed n client allowed (Ok p) = AtTop n client allowed p.client p.server
Climbed n client allowed (Err e) = ⊥

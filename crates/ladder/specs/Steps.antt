-- A step on the ladder. Legs are numbered from 1: a client's leg is its number and the name of an account, a server's leg the number alone.
use Rattle.std.specs.Prelude.{◌≡◌, ℕ, ◌+◌, Bool, false, cond, ◌&&◌, List, [], ◌∷◌, length, drop, Some, None, Ok, Err, Option, Result, ◌==◌, nat_le, nat_lt, slice_index}
use Rattle.std.specs.Option.{is_some}
use Rattle.ladder.specs.Givens.{Given, given}
use Rattle.ladder.specs.Rungs.{started, is_up, accepted, called, allowing}
use Rattle.ladder.specs.declared.Ladder.{Ladder}
use Rattle.mechanism.specs.Identities.{Who, held}
use Rattle.mechanism.specs.Meaning.{Stepping}
use Rattle.mechanism.specs.Promises.{refusal, step_front, Within}
use Rattle.mechanism.specs.declared.identity.Part.{Part}
use Rattle.mechanism.specs.declared.mechanism.Side.{Side}
use Rattle.mechanism.specs.declared.mechanism.Side.TheVariants.{Client, Server}
use Rattle.sspi.specs.declared.error_kind.ErrorKind.{ErrorKind}
use Rattle.sspi.specs.declared.error_kind.ErrorKind.TheVariants.{IllegalMessage, BufferTooSmall, NoContext}
use Rattle.sspi.specs.declared.fault.Fault.{Fault}
use Rattle.sspi.specs.declared.security_status.SecurityStatus.{SecurityStatus}
use Rattle.sspi.specs.declared.security_status.SecurityStatus.TheVariants.{Ok as Done, ContinueNeeded}

-- the state after a step, and its answer with the token
pub record Outcome : Type 0 where
  pub next : Ladder
  pub answer : Result (SecurityStatus × List ℕ) Fault

-- a refusal changes nothing
abbrev pub refused : Ladder → ErrorKind → Outcome
refused s kind = record { next = s; answer = Err (refusal kind) }

-- the top is reached, and there is nothing to send
abbrev pub at_top : Ladder → Outcome
at_top s = record { next = s; answer = Ok (Done, []) }

-- the ladder is climbed, and no leg comes
abbrev pub rests : Ladder → List ℕ → Bool
rests s x = is_up s && length x == 0

-- a client who has not begun, whatever the input
abbrev pub begins : Ladder → Side → Bool
begins s Client = s.height == 0
begins s Server = false

-- the longest leg that a side hears from the other
abbrev pub longest_heard : Side → ℕ
longest_heard Client = 1
longest_heard Server = 65

-- the next leg of the other side
abbrev pub is_leg : Ladder → Given → Bool
is_leg s g = nat_lt s.height s.legs && (nat_lt 0 (length g.input) && (nat_le (length g.input) (longest_heard g.by) && slice_index g.input 0 == s.height + 1))

-- what a leg of a side holds behind its number
abbrev pub behind : Side → List ℕ → List ℕ
behind Client account = account
behind Server account = []

abbrev pub leg_bytes : Given → ℕ → List ℕ
leg_bytes g n = n ∷ behind g.by g.account

-- the name in the client's leg, where a client makes one and a server has heard one
abbrev pub name_heard : Side → List ℕ → List ℕ → List ℕ
name_heard Client account x = account
name_heard Server account x = drop 1 x

-- a leg that a server heard was a client's, whose name is kept
abbrev pub name_noted : Side → Ladder → List ℕ → Ladder
name_noted Client s x = s
name_noted Server s x = called s (drop 1 x)

-- the top is reached by a leg that was heard
abbrev pub topped : Ladder → Given → Ladder
topped s g = name_noted g.by (accepted s g s.legs) g.input

abbrev pub status_at : ℕ → ℕ → SecurityStatus
status_at n legs = cond (n == legs) Done ContinueNeeded

-- leg n is made, if it fits
abbrev pub climbed : Ladder → Given → ℕ → ℕ → Outcome
climbed s g w n = cond (nat_lt w (length (leg_bytes g n))) (refused s BufferTooSmall) (record {
  next = called (accepted s g n) (name_heard g.by g.account g.input);
  answer = Ok (status_at n s.legs, leg_bytes g n);
})

-- leg n is the last that was seen
abbrev pub onward : Ladder → Given → ℕ → ℕ → Outcome
onward s g w n = cond (n == s.legs) (at_top (topped s g)) (climbed s g w (n + 1))

abbrev pub heard : Ladder → Given → ℕ → Outcome
heard s g w = cond (is_leg s g) (onward s g w (s.height + 1)) (refused s IllegalMessage)

abbrev pub walked : Ladder → Given → ℕ → Outcome
walked s g w = cond (rests s g.input) (at_top (accepted s g s.height)) (cond (begins s g.by) (onward s g w 0) (heard s g w))

abbrev pub stepped : Ladder → Side → Option Who → List ℕ → ℕ → Outcome
stepped s by i x w = walked s (given by i x) w

-- what a step that has this outcome leaves and answers
pub record Did (o : Outcome) (t : Ladder) (before after : List ℕ) (r : Result (SecurityStatus × ℕ) Fault) : Type 0 where
  pub next : t ≡ o.next
  pub answer : o.answer ≡ step_front r after
  pub within : Within r (length before)

-- the name in a part that was kept
abbrev pub name_in : Option Part → Result (List ℕ) Fault
name_in None = Err (refusal NoContext)
name_in (Some p) = Ok (held p)

-- the first identity of a set stays until a new set begins
abbrev pub allowed_next : Ladder → List ℕ → Bool → Ladder
allowed_next s secret anew = cond anew (allowing s secret) (cond (is_some s.allowed_key) s (allowing s secret))

abbrev pub ladder_stepping : Stepping Ladder
ladder_stepping = record {
  fresh_next = λ s _. started s.legs;
  step_next = λ s by _ i x w. (stepped s by i x w).next;
  step_answer = λ s by _ i x w. (stepped s by i x w).answer;
  name_answer = λ s. name_in s.account;
  allow_next = λ s i anew. allowed_next s i.secret anew;
  allow_answer = λ _ _ _. Ok tt;
}

-- What each call of a sealer or a mechanism promises, by its meaning.
use Rattle.std.specs.Prelude.{◌≡◌, ℕ, ◌≤◌, Bool, cond, List, length, take, drop, is_ok, Ok, Err, Option, Result, nat_lt}
use Rattle.mechanism.specs.Identities.{Who}
use Rattle.mechanism.specs.Meaning.{Sealing, Stepping}
use Rattle.mechanism.specs.declared.mechanism.Side.{Side}
use Rattle.sspi.specs.Faults.{and_then}
use Rattle.sspi.specs.declared.error_kind.ErrorKind.{ErrorKind}
use Rattle.sspi.specs.declared.error_kind.ErrorKind.TheVariants.{InvalidParameter, NoContext, MessageAltered}
use Rattle.sspi.specs.declared.fault.Fault.{Fault}
use Rattle.sspi.specs.declared.fault.Layer.TheVariants.{Mechanism}
use Rattle.sspi.specs.declared.security_status.SecurityStatus.{SecurityStatus}

-- a refusal of a mechanism
abbrev pub refusal : ErrorKind → Fault
refusal k = record { kind = k; layer = Mechanism }

-- The answers are the same for every sealer, in this order: data over 128 bytes, a session that is not up, and, in checking, a MIC
-- that is not taken.
abbrev pub may_seal : Bool → List ℕ → Result (Unit {0}) Fault
may_seal up x = cond (nat_lt 128 (length x)) (Err (refusal InvalidParameter)) (cond up (Ok tt) (Err (refusal NoContext)))

abbrev pub sealed : {S X : Type 0} → Sealing S → S → List ℕ → Result X Fault → Result X Fault
sealed m s x r = and_then (may_seal (m.up s) x) (λ _. r)

abbrev pub make_answer : {S : Type 0} → Sealing S → S → List ℕ → Result (List ℕ) Fault
make_answer m s x = sealed m s x (Ok (m.made s x))

abbrev pub check_answer : {S : Type 0} → Sealing S → S → List ℕ → List ℕ → Result (Unit {0}) Fault
check_answer m s x y = sealed m s x (cond (m.takes s x y) (Ok tt) (Err (refusal MessageAltered)))

-- what a call that answers a length has written to the front of a buffer
abbrev pub front : Result ℕ Fault → List ℕ → Result (List ℕ) Fault
front (Ok n) after = Ok (take n after)
front (Err e) after = Err e

-- the rest of the buffer is as it was, and all of it after a refusal
abbrev pub Kept : Result ℕ Fault → List ℕ → List ℕ → Type 0
Kept (Ok n) before after = (n ≤ length before) × (drop n after ≡ drop n before)
Kept (Err e) before after = after ≡ before

abbrev pub step_front : Result (SecurityStatus × ℕ) Fault → List ℕ → Result (SecurityStatus × List ℕ) Fault
step_front (Ok p) after = Ok (p.0, take p.1 after)
step_front (Err e) after = Err e

abbrev pub Within : Result (SecurityStatus × ℕ) Fault → ℕ → Type 0
Within (Ok p) w = p.1 ≤ w
Within (Err e) w = Unit {0}

pub record Makes {S : Type 0} (m : Sealing S) (s : S) (x before : List ℕ) (t : S) (after : List ℕ) (r : Result ℕ Fault) : Type 0 where
  pub next : t ≡ m.make_next s x
  pub answer : make_answer m s x ≡ front r after
  pub kept : Kept r before after

pub record Checks {S : Type 0} (m : Sealing S) (s : S) (x y : List ℕ) (t : S) (r : Result (Unit {0}) Fault) : Type 0 where
  pub next : t ≡ m.check_next s x y
  pub answer : check_answer m s x y ≡ r

pub record Steps {S : Type 0} (n : Stepping S) (s : S) (side : Side) (flags : ℕ) (i : Option Who) (x before : List ℕ) (t : S) (after : List ℕ) (r : Result (SecurityStatus × ℕ) Fault) : Type 0 where
  pub next : t ≡ n.step_next s side flags i x (length before)
  pub answer : n.step_answer s side flags i x (length before) ≡ step_front r after
  pub within : Within r (length before)

pub record Names {S : Type 0} (n : Stepping S) (s : S) (before after : List ℕ) (r : Result ℕ Fault) : Type 0 where
  pub answer : n.name_answer s ≡ front r after
  pub kept : Kept r before after

pub record Allows {S : Type 0} (n : Stepping S) (s : S) (i : Who) (new : Bool) (t : S) (r : Result (Unit {0}) Fault) : Type 0 where
  pub next : t ≡ n.allow_next s i new
  pub answer : n.allow_answer s i new ≡ r

-- a MIC over x made in the state s, and checked over y in the state t
pub record Carries {S : Type 0} (m : Sealing S) (s t : S) (x y : List ℕ) (s' t' : S) (r : Result (Unit {0}) Fault) : Type 0 where
  pub maker : s' ≡ m.make_next s x
  pub checker : t' ≡ cond (is_ok (make_answer m s x)) (m.check_next t y (m.made s x)) t
  pub answer : r ≡ and_then (make_answer m s x) (λ mic. check_answer m t y mic)

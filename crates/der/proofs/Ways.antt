-- Which way a test went, where the whole is known to be accepted; and what a refusal says.
use Rattle.std.proofs.Common.{◌≡◌, Bool, true, false, cond, ◌⊎◌, Ok, Err, Result, refl, ap, subst, inl, inr}
use Rattle.sspi.specs.declared.fault.Fault.{Fault}
use Rattle.der.specs.Reading.{and_then}

pub ways : {X E : Type 0} (b : Bool) (r s : Result X E) (x : X) → cond b r s ≡ Ok x → ((b ≡ true) × (r ≡ Ok x)) ⊎ ((b ≡ false) × (s ≡ Ok x))
ways true r s x h = inl (refl, h)
ways false r s x h = inr (refl, h)

pub err_ok : {X E : Type 0} (e : E) (x : X) → ◌≡◌ {A = Result X E} (Err e) (Ok x) → ⊥
err_ok e x h = cc

pub same_ok : {X E : Type 0} (x y : X) → ◌≡◌ {A = Result X E} (Ok x) (Ok y) → x ≡ y
same_ok x y h = cc

-- the test that lets through was true
pub let_through : {X E : Type 0} (b : Bool) (e : E) (r : Result X E) (x : X) → cond b r (Err e) ≡ Ok x → (b ≡ true) × (r ≡ Ok x)
let_through true e r x h = (refl, h)
let_through false e r x h = absurd (err_ok e x h)

-- whatever is refused is refused with the fault d
abbrev pub Only : {X : Type 0} → Fault → Result X Fault → Type 0
Only d (Ok x) = Unit {0}
Only d (Err e) = e ≡ d

pub only_at : {X : Type 0} (d e : Fault) (r : Result X Fault) → Only d r → r ≡ Err e → e ≡ d
only_at d e r h p = subst (Only d) p h

pub only_then : {X Y : Type 0} (d : Fault) (r : Result X Fault) (f : X → Result Y Fault) → Only d r → ((x : X) → Only d (f x)) → Only d (and_then r f)
only_then d (Ok x) f h k = k x
only_then d (Err e) f h k = h

pub only_cond : {X : Type 0} (d : Fault) (b : Bool) (r s : Result X Fault) → Only d r → Only d s → Only d (cond b r s)
only_cond d true r s h k = h
only_cond d false r s h k = k

-- an accepted first part of a sequence hands its value on
pub goes_on : {X Y : Type 0} {r : Result X Fault} {x : X} (f : X → Result Y Fault) → r ≡ Ok x → and_then r f ≡ f x
goes_on f e = ap (λ v. and_then v f) e

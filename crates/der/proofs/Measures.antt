-- Lengths that are computed before anything is written: given just where the writing can be made.
use Rattle.std.proofs.Common.{◌≡◌, ℕ, ◌<◌, Bool, true, false, ltb, cond, ◌⊎◌, List, length, Ok, Err, Result, sym, refl, ap, ◌∙◌, inl, inr, ⊎_elim, arith}
use Rattle.std.proofs.lemmas.Bool.{cases_lt, le-ltb, cond-false, false≢true}
use Rattle.sspi.specs.declared.fault.Fault.{Fault}
use Rattle.der.specs.Elements.{element}
use Rattle.der.specs.Reading.{and_then}
use Rattle.der.specs.Writing.{element_len, invalid}
use Rattle.der.proofs.Adding.{element_len_lem}
use Rattle.der.proofs.Ways.{goes_on, err_ok, same_ok}

-- the answer is this value where `Good` holds, and elsewhere the one refusal
abbrev pub Measures : {X : Type 0} → Type 0 → X → Result X Fault → Type 0
Measures Good v r = (Good × (r ≡ Ok v)) ⊎ ((Good → ⊥) × (r ≡ Err invalid))

-- what an answer says
pub measured : {X : Type 0} (Good : Type 0) (v : X) (r : Result X Fault) (x : X) → Measures Good v r → r ≡ Ok x → Good × (x ≡ v)
measured Good v r x m e = ⊎_elim (λ p. (p.0, same_ok x v (sym e ∙ p.1))) (λ p. absurd (err_ok invalid x (sym p.1 ∙ e))) m

pub unmeasured : {X : Type 0} (Good : Type 0) (v : X) (r : Result X Fault) (e : Fault) → Measures Good v r → r ≡ Err e → (Good → ⊥) × (e ≡ invalid)
unmeasured Good v r e m d = ⊎_elim (λ p. absurd (err_ok e v (sym d ∙ p.1))) (λ p. (p.0, let q : Err e ≡ Err invalid = sym d ∙ p.1 in cc)) m

-- the same said in other words
pub measures_as : {X : Type 0} {G H : Type 0} {v w : X} {r : Result X Fault} → (G → H) → (H → G) → v ≡ w → Measures G v r → Measures H w r
measures_as to from e m = ⊎_elim (λ p. inl (to p.0, p.1 ∙ ap Ok e)) (λ p. inr ((λ h. p.0 (from h)), p.1)) m

-- the last of them, one behind another, and one behind a test
pub measures_done : {X : Type 0} {v w : X} → v ≡ w → Measures (Unit {0}) w (Ok v)
measures_done e = inl (tt, ap Ok e)

pub measures_then : {X Y : Type 0} {G H : Type 0} {v : X} {w : Y} {r : Result X Fault} (f : X → Result Y Fault) → Measures G v r → (G → Measures H w (f v))
    → Measures (G × H) w (and_then r f)
measures_then f m next =
    ⊎_elim
    (λ p. ⊎_elim (λ q. inl ((p.0, q.0), goes_on f p.1 ∙ q.1)) (λ q. inr ((λ g. q.0 g.1), goes_on f p.1 ∙ q.1)) (next p.0))
    (λ p. inr ((λ g. p.0 g.0), ap (λ s. and_then s f) p.1)) m

pub measures_if : {X : Type 0} {G : Type 0} {v : X} {r : Result X Fault} (b : Bool) → Measures G v r → Measures ((b ≡ true) × G) v (cond b r (Err invalid))
measures_if true m = measures_as (λ g. (refl, g)) (λ g. g.1) refl m
measures_if false m = inr ((λ g. absurd (false≢true g.0)), refl)

-- the length of an element
pub element_measures : (t : ℕ) (c : List ℕ) → Measures (length c < 65536) (length (element t c)) (element_len (length c))
element_measures t c =
    ⊎_elim (λ l. inl (l, element_len_lem t c l)) (λ l. inr ((λ k. omega arith), cond-false (ltb (length c) 65536) _ _ (le-ltb (length c) 65536 l)))
    (cases_lt (length c) 65536)

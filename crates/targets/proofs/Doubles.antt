-- Where the first two colons in a row stand.
use Rattle.std.proofs.Common.{◌≡◌, ℕ, zero, suc, ◌+◌, ◌<◌, false, ◌&&◌, eqb, List, [], ◌∷◌, length, get_or, Some, None, sym, refl, ap, ◌∙◌, arith}
use Rattle.std.proofs.lemmas.Bool.{eq-eqb}
use Rattle.std.proofs.lemmas.Bool.Decides.{nat_tests}
use Rattle.targets.specs.Addresses.{double_at}

not_both : (x y : ℕ) → (x ≡ 0x3A → y ≡ 0x3A → ⊥) → (eqb x 0x3A && eqb y 0x3A) ≡ false
not_both x y n = grind (arith, nat_tests)

next_in_tail : (x : ℕ) (xs : List ℕ) (k : ℕ) → get_or (x ∷ xs) (suc k + 1) 0 ≡ get_or xs (k + 1) 0
next_in_tail x xs k = let e : suc k + 1 ≡ suc (k + 1) = omega arith in ap (λ j. get_or (x ∷ xs) j 0) e

pub double_here : (xs : List ℕ) (i : ℕ) → i + 1 < length xs → get_or xs i 0 ≡ 0x3A → get_or xs (i + 1) 0 ≡ 0x3A
    → ((k : ℕ) → k < i → get_or xs k 0 ≡ 0x3A → get_or xs (k + 1) 0 ≡ 0x3A → ⊥) → double_at xs ≡ Some i
double_here [] i l a b n = absurd (omega arith)
double_here (x ∷ []) i l a b n = absurd (omega arith)
double_here (x ∷ y ∷ ys) zero l a b n = simp (eq-eqb x 0x3A a, eq-eqb y 0x3A b) refl
double_here (x ∷ y ∷ ys) (suc i) l a b n =
    let f = not_both x y (n 0 (omega arith)) in
    let h = double_here (y ∷ ys) i (omega arith) a (sym (next_in_tail x (y ∷ ys) i) ∙ b) (λ k m p q. n (suc k) (omega arith) p (next_in_tail x (y ∷ ys) k ∙ q)) in
    simp (f, h) (ap Some (omega arith))

pub double_nowhere : (xs : List ℕ) → ((k : ℕ) → k + 1 < length xs → get_or xs k 0 ≡ 0x3A → get_or xs (k + 1) 0 ≡ 0x3A → ⊥) → double_at xs ≡ None
double_nowhere [] n = refl
double_nowhere (x ∷ []) n = refl
double_nowhere (x ∷ y ∷ ys) n =
    let f = not_both x y (n 0 (omega arith)) in
    let h = double_nowhere (y ∷ ys) (λ k m p q. n (suc k) (omega arith) p (next_in_tail x (y ∷ ys) k ∙ q)) in
    simp (f, h) refl

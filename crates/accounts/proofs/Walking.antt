-- The walk through the matches of a name, and which they are.
use Rattle.std.proofs.Common.{◌≡◌, ℕ, zero, suc, ◌+◌, ◌-◌, ◌<◌, ◌≤◌, Bool, true, false, cond, leb, ◌⊎◌, List, [], ◌∷◌, length, get_or, Some, None, filter, Option, MatchOption, sym, refl, ap, ◌∙◌, inl, inr, ⊎_elim, zero-add, add-zero, arith}
use Rattle.std.specs.List.{range_with_len}
use Rattle.std.proofs.lemmas.Option.{slice_get-get_or}
use Rattle.std.proofs.lemmas.Bool.{le-leb, lt-leb, cond-true, cond-false, cases_lt}
use Rattle.accounts.specs.Accounts.{is_account_book, accounts, account_count, account_at}
use Rattle.accounts.specs.Names.{same_account}
use Rattle.accounts.specs.Matches.{is_named, matches_from, matches, first_of, walked, Found, Among, Rising, Exact}
use Rattle.accounts.proofs.Listing.{listed}

-- numbers of which none passes
skip : (p : ℕ → Bool) (d n k : ℕ) → ((j : ℕ) → k ≤ j → j < k + d → p j ≡ false) → filter p (range_with_len k (d + n)) ≡ filter p (range_with_len (k + d) n)
skip p zero n k h = rw (zero-add, add-zero) refl
skip p (suc d) n k h =
    let e : suc d + n ≡ suc (d + n) = omega arith in
    let f : (k + 1) + d ≡ k + suc d = omega arith in
    rw e (cond-false (p k) _ _ (h k (omega arith) (omega arith)) ∙ (skip p d n (k + 1) (λ j l m. h j (omega arith) (omega arith)) ∙ ap (λ v. filter p (range_with_len v n)) f))

-- what a search from account k on has found
pub record Next (name xs : List ℕ) (k : ℕ) (r : Option ℕ) : Type 0 where
  pub answer : r ≡ first_of (matches_from name xs k)
  pub walks : matches_from name xs k ≡ walked name xs r
  pub found : Found xs k r

pub next : (name xs : List ℕ) (k n : ℕ) (r : Option ℕ) → n ≡ account_count xs → n < 32768
    → MatchOption r ((j : ℕ) → k ≤ j → j < n → is_named name (account_at xs j) ≡ false)
    (λ i. (k ≤ i) × (i < n) × (is_named name (account_at xs i) ≡ true) × ((j : ℕ) → k ≤ j → j < i → is_named name (account_at xs j) ≡ false))
    → Next name xs k r
unfolding matches_from
next name xs k n None e l h =
    let p : ℕ → Bool = λ i. is_named name (account_at xs i) in
    let w : matches_from name xs k ≡ [] =
    ap (λ m. filter p (range_with_len k m)) (sym (add-zero (account_count xs - k))) ∙ skip p (account_count xs - k) 0 k (λ j a b. h j a (omega arith)) in
    record { answer = sym (ap first_of w); walks = w; found = tt }
next name xs k n (Some i) e l h =
    let p : ℕ → Bool = λ i. is_named name (account_at xs i) in
    let cut : account_count xs - k ≡ (i - k) + suc (account_count xs - (i + 1)) = omega (arith, h.0, h.1) in
    let at : k + (i - k) ≡ i = omega (arith, h.0) in
    let w : matches_from name xs k ≡ walked name xs (Some i) =
    ap (λ m. filter p (range_with_len k m)) cut ∙ (skip p (i - k) (suc (account_count xs - (i + 1))) k (λ j a b. h.3 j a (omega (arith, h.0)))
    ∙ (ap (λ v. filter p (range_with_len v (suc (account_count xs - (i + 1))))) at ∙ cond-true (p i) _ _ h.2)) in
    record { answer = sym (ap first_of w); walks = w; found = (h.0, omega (arith, h.1), omega (arith, h.1)) }

-- one index before others, if it is a match
among_cases : (b : Bool) (i : ℕ) (is : List ℕ) (j : ℕ) → Among (cond b (i ∷ is) is) j → ((j ≡ i) × (b ≡ true)) ⊎ Among is j
among_cases true i is j h = ⊎_elim (λ e. inl (e, refl)) (λ r. inr r) h
among_cases false i is j h = inr h

among_here : (b : Bool) (i : ℕ) (is : List ℕ) (j : ℕ) → j ≡ i → b ≡ true → Among (cond b (i ∷ is) is) j
among_here b i is j e h = rw h (inl e)

among_later : (b : Bool) (i : ℕ) (is : List ℕ) (j : ℕ) → Among is j → Among (cond b (i ∷ is) is) j
among_later true i is j h = inr h
among_later false i is j h = h

-- i is among n numbers from k on, and passes
abbrev In : (ℕ → Bool) → ℕ → ℕ → ℕ → Type 0
In p n k i = (k ≤ i) × (i < k + n) × (p i ≡ true)

among_in : (p : ℕ → Bool) (n k i : ℕ) → Among (filter p (range_with_len k n)) i → In p n k i
among_in p zero k i h = absurd h
among_in p (suc n) k i h =
    ⊎_elim
    (λ q. let e : i ≡ k = q.0 in (omega arith, omega arith, rw e q.1))
    (λ r. let q = among_in p n (k + 1) i r in (omega (arith, q.0), omega (arith, q.1), q.2))
    (among_cases (p k) k (filter p (range_with_len (k + 1) n)) i h)

in_among : (p : ℕ → Bool) (n k i : ℕ) → In p n k i → Among (filter p (range_with_len k n)) i
in_among p zero k i h = absurd (omega (arith, h.0, h.1))
in_among p (suc n) k i h =
    ⊎_elim
    (λ l. among_later (p k) k _ i (in_among p n (k + 1) i (omega arith, omega (arith, h.1), h.2)))
    (λ l. let e : i ≡ k = omega (arith, h.0) in among_here (p k) k _ i e (rw (sym e) h.2))
    (cases_lt k i)

-- they rise
rising_cond : (b : Bool) (k i : ℕ) (is : List ℕ) → k ≤ i → Rising (i + 1) is → Rising k is → Rising k (cond b (i ∷ is) is)
rising_cond true k i is l p q = (l, p)
rising_cond false k i is l p q = q

pub rising : (p : ℕ → Bool) (n k i : ℕ) → k ≤ i → Rising k (filter p (range_with_len i n))
rising p zero k i l = tt
rising p (suc n) k i l = rising_cond (p i) k i (filter p (range_with_len (i + 1) n)) l (rising p n (i + 1) (i + 1) (omega arith)) (rising p n k (i + 1) (omega arith))

-- those that are at least k
abbrev pub from : ℕ → List ℕ → List ℕ
from k is = filter (λ i. leb k i) is

from_in : (b : Bool) (k i : ℕ) (is : List ℕ) → k ≤ i → from k is ≡ is → from k (cond b (i ∷ is) is) ≡ cond b (i ∷ is) is
from_in true k i is l e = cond-true (leb k i) _ _ (le-leb k i l) ∙ ap (λ v. i ∷ v) e
from_in false k i is l e = e

from_out : (b : Bool) (k i : ℕ) (is : List ℕ) → i < k → from k (cond b (i ∷ is) is) ≡ from k is
from_out true k i is l = cond-false (leb k i) _ _ (lt-leb k i l)
from_out false k i is l = refl

from_all : (p : ℕ → Bool) (n k i : ℕ) → k ≤ i → from k (filter p (range_with_len i n)) ≡ filter p (range_with_len i n)
from_all p zero k i l = refl
from_all p (suc n) k i l = from_in (p i) k i (filter p (range_with_len (i + 1) n)) l (from_all p n k (i + 1) (omega arith))

pub from_some : (p : ℕ → Bool) (n k i : ℕ) → i ≤ k → filter p (range_with_len k ((n + i) - k)) ≡ from k (filter p (range_with_len i n))
from_some p zero k i l = let e : (0 + i) - k ≡ 0 = omega arith in ap (λ m. filter p (range_with_len k m)) e
from_some p (suc n) k i l =
    ⊎_elim
    (λ h.
    let e : (suc n + i) - k ≡ (n + (i + 1)) - k = omega arith in
    ap (λ m. filter p (range_with_len k m)) e
    ∙ (from_some p n k (i + 1) (omega arith) ∙ sym (from_out (p i) k i (filter p (range_with_len (i + 1) n)) h)))
    (λ h.
    let e : (suc n + i) - k ≡ suc n = omega arith in
    let f : k ≡ i = omega arith in
    ap (λ m. filter p (range_with_len k m)) e ∙ (ap (λ m. filter p (range_with_len m (suc n))) f ∙ sym (from_all p (suc n) k i h)))
    (cases_lt i k)

-- in an account book the accounts are those of the list
named_at : (name xs : List ℕ) (i : ℕ) → is_account_book xs ≡ true → i < length (accounts xs)
    → is_named name (account_at xs i) ≡ same_account (get_or (accounts xs) i ([], [])).0 name
named_at name xs i h l = ap (is_named name) ((listed xs i h).here ∙ slice_get-get_or (accounts xs) i ([], []) l)

pub exact : (name xs : List ℕ) (k : ℕ) → is_account_book xs ≡ true → Exact name xs k
unfolding matches matches_from
exact name xs k h =
    let m = (listed xs k h).many in
    let p : ℕ → Bool = λ i. is_named name (account_at xs i) in
    record {
      sound =
          λ i a.
          let q = among_in p (account_count xs - 0) 0 i a in
          let l : i < length (accounts xs) = omega (arith, q.1) in
          (l, sym (named_at name xs i h l) ∙ q.2);
      complete = λ i q. in_among p (account_count xs - 0) 0 i (omega arith, omega (arith, q.0), named_at name xs i h q.0 ∙ q.1);
      rising = rising p (account_count xs - 0) 0 0 (omega arith);
      later =
          let e : account_count xs - k ≡ ((account_count xs - 0) + 0) - k = omega arith in
          ap (λ n. filter p (range_with_len k n)) e ∙ from_some p (account_count xs - 0) k 0 (omega arith);
    }

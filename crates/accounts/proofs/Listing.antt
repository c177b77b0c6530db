-- The accounts of a book as a list, and what `account` and `read` give at each of their returns.
use Rattle.std.proofs.Common.{◌≡◌, ℕ, zero, suc, ◌+◌, ◌*◌, ◌/◌, ◌%◌, ◌<◌, ◌≤◌, true, false, eqb, ltb, leb, List, [], ◌∷◌, length, Some, None, Ok, Err, Option, Result, sym, refl, ap, ◌∙◌, ⊎_elim, arith}
use Rattle.std.specs.List.{slice_get}
use Rattle.std.proofs.lemmas.List.Elements.{All-contains}
use Rattle.std.proofs.lemmas.List.Sums.{AllPass-from_list_all}
use Rattle.std.proofs.lemmas.Option.{none-some, same_Some, slice_get_past, slice_get_within, get_or_from_slice_get}
use Rattle.std.proofs.lemmas.Bool.{leb-true, lt-ltb, le-ltb, and_parts, cond-true, cond-false, cases_lt}
use Rattle.std.proofs.lemmas.Bool.Decides.{nat_tests}
use Rattle.sspi.specs.declared.fault.Fault.{Fault}
use Rattle.books.specs.Books.{count_of, is_book, book_or_empty, entries, entry_at}
use Rattle.books.specs.Views.{read_book}
use Rattle.books.proofs.Places as places
use Rattle.accounts.specs.Accounts.{all_short, is_account_book, paired, accounts, account_count, both, account_at, Listed}
use Rattle.accounts.specs.Views.{read_accounts}

-- pairs
length-paired : (es : List (List ℕ)) → length (paired es) ≡ length es / 2
unfolding paired
length-paired [] = refl
length-paired (n ∷ []) = refl
length-paired (n ∷ s ∷ es) = let h = length-paired es in omega arith

pub both_none : (o : Option (List ℕ)) → None ≡ both o None
both_none None = refl
both_none (Some n) = refl

nth_paired : (es : List (List ℕ)) (i : ℕ) → slice_get (paired es) i ≡ both (slice_get es (2 * i)) (slice_get es (2 * i + 1))
unfolding paired
nth_paired [] i = refl
nth_paired (n ∷ []) i = let e : 2 * i + 1 ≡ suc (2 * i) = omega arith in rw e (both_none (slice_get (n ∷ []) (2 * i)))
nth_paired (n ∷ s ∷ es) zero = refl
nth_paired (n ∷ s ∷ es) (suc i) =
    let e : 2 * suc i ≡ suc (suc (2 * i)) = omega arith in
    let f : 2 * suc i + 1 ≡ suc (suc (2 * i + 1)) = omega arith in
    rw (f, e) (nth_paired es i)

both_some : (o p : Option (List ℕ)) (a : List ℕ × List ℕ) → both o p ≡ Some a → (o ≡ Some a.0) × (p ≡ Some a.1)
both_some None p a e = absurd (none-some a e)
both_some (Some n) None a e = absurd (none-some a e)
both_some (Some n) (Some s) a e = let f = same_Some (n, s) a e in (ap (λ v. Some v.0) f, ap (λ v. Some v.1) f)

-- what an account book is known to be
pub record Known (xs : List ℕ) : Type 0 where
  pub sound : book_or_empty xs ≡ xs
  pub short : all_short (entries xs) ≡ true

known : (xs : List ℕ) → is_account_book xs ≡ true → Known xs
unfolding is_account_book
known xs h =
    let p = and_parts (is_book xs) _ h in
    let q = and_parts (eqb (count_of xs % 2) 0) _ p.1 in
    record { sound = places.sound_of xs p.0; short = q.1 }

pub many : (xs : List ℕ) → length (accounts xs) ≡ account_count xs
unfolding accounts
many xs = length-paired (entries xs) ∙ ap (λ n. n / 2) (places.many xs)

pub here : (xs : List ℕ) (i : ℕ) → book_or_empty xs ≡ xs → account_at xs i ≡ slice_get (accounts xs) i
unfolding accounts account_at
here xs i h =
    ⊎_elim
    (λ l.
    cond-true (ltb i (account_count xs)) _ _ (lt-ltb i (account_count xs) l)
    ∙ (ap (λ o. both o (entry_at xs (2 * i + 1))) (places.listed xs (2 * i) h).here
    ∙ (ap (λ o. both (slice_get (entries xs) (2 * i)) o) (places.listed xs (2 * i + 1) h).here ∙ sym (nth_paired (entries xs) i))))
    (λ l.
    let m : length (accounts xs) ≡ account_count xs = many xs in
    cond-false (ltb i (account_count xs)) _ _ (le-ltb i (account_count xs) l) ∙ sym (slice_get_past (paired (entries xs)) i (omega arith)))
    (cases_lt i (account_count xs))

short_at : (es : List (List ℕ)) (k : ℕ) (e : List ℕ) → all_short es ≡ true → slice_get es k ≡ Some e → length e ≤ 64
short_at es k e h n =
    let all = AllPass-from_list_all (λ d. leb (length d) 64) es h in
    leb-true (length e) 64 (All-contains (λ d. leb (length d) 64 ≡ true) es e all (k, slice_get_within es k e n, get_or_from_slice_get es k e e n))

short : (xs : List ℕ) (i : ℕ) → is_account_book xs ≡ true → (a : List ℕ × List ℕ) → account_at xs i ≡ Some a → (length a.0 ≤ 64) × (length a.1 ≤ 64)
unfolding accounts
short xs i h a e =
    let k = known xs h in
    let p = both_some _ _ a (sym (nth_paired (entries xs) i) ∙ (sym (here xs i k.sound) ∙ e)) in
    (short_at (entries xs) (2 * i) a.0 k.short p.0, short_at (entries xs) (2 * i + 1) a.1 k.short p.1)

pub listed : (xs : List ℕ) (i : ℕ) → is_account_book xs ≡ true → Listed xs i
listed xs i h = record { many = many xs; here = here xs i (known xs h).sound; short = short xs i h }

-- what `account` gives at each of its returns
pub account_past : (xs : List ℕ) (i : ℕ) → account_count xs ≤ i → None ≡ account_at xs i
unfolding account_at
account_past xs i l = sym (cond-false (ltb i (account_count xs)) _ _ (le-ltb i (account_count xs) l))

pub account_is : (xs : List ℕ) (i : ℕ) (o p : Option (List ℕ)) → i < account_count xs → o ≡ entry_at xs (2 * i) → p ≡ entry_at xs (2 * i + 1) → both o p ≡ account_at xs i
unfolding account_at
account_is xs i o p l e f = rw (e, f) (sym (cond-true (ltb i (account_count xs)) _ _ (lt-ltb i (account_count xs) l)))

-- what `read` gives at each of its returns
pub no_book : (xs : List ℕ) (e : Fault) → false ≡ is_book xs → ◌≡◌ {A = Result (List ℕ) Fault} (Err e) (read_book xs) → (false ≡ is_account_book xs) × (◌≡◌ {A = Result (List ℕ) Fault} (Err e) (read_accounts xs))
unfolding is_account_book
no_book xs e h r = grind (arith, nat_tests)

-- the book that was read has the bytes that were given
pub same_bytes : (xs ys : List ℕ) → true ≡ is_book xs → ◌≡◌ {A = Result (List ℕ) Fault} (Ok ys) (read_book xs) → ys ≡ xs
same_bytes xs ys h r = let e : ◌≡◌ {A = Result (List ℕ) Fault} (Ok ys) (Ok xs) = r ∙ cond-true (is_book xs) _ _ (sym h) in cc

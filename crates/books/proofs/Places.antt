-- The places of the entries of a book, and that its entries are laid out in it.
use Rattle.std.proofs.Common.{◌≡◌, ℕ, zero, suc, ◌+◌, ◌-◌, ◌*◌, ◌/◌, ◌<◌, ◌≤◌, true, ◌&&◌, leb, List, [], ◌∷◌, ◌++◌, map, length, take, drop, get_or, Some, None, sym, refl, ap, ap₂, ◌∙◌, ⊎_elim, add-zero, zero-add, arith}
use native.Mathlib.Numerals.{unary_clauses}
use Rattle.std.specs.List.{slice_get, slice_range, range_with_len}
use Rattle.std.specs.Simd.{first_chunks}
use Rattle.std.proofs.lemmas.List.{append_assoc, take-take, drop-take, take-append-drop, drop-drop, length-take-le}
use Rattle.std.proofs.lemmas.List.FromFn.{length-map-range_with_len, get_or-map-range_with_len}
use Rattle.std.proofs.lemmas.Option.{slice_get-get_or, slice_get_past, slice_get_within, gets}
use Rattle.std.proofs.lemmas.Bool.{leb-true, and_parts, cond-true, cases_lt}
use Rattle.books.specs.Books.{be16, count_of, offset_of, length_of, end_of, Pairs, entry_of, in_order, pairs_end, is_book, book_or_empty, entries, entry_at}
use Rattle.std.proofs.lemmas.Bool.Decides.{nat_tests}
use Rattle.std.proofs.lemmas.Grind.{common_steps}
use Rattle.books.specs.Laws.{laid, LaidOut, Listed}

-- the pairs, cut four bytes at a time
first_chunks-take : (n k : ℕ) (xs : List ℕ) → first_chunks n k (take (n * k) xs) ≡ first_chunks n k xs
first_chunks-take n zero xs = refl
first_chunks-take n (suc k) xs =
    let e : n * suc k ≡ n + n * k = omega arith in
    let l : n ≤ n + n * k = omega arith in
    rw e (ap₂ ◌∷◌ (take-take n (n + n * k) xs l) (ap (first_chunks n k) (drop-take n (n * k) xs) ∙ first_chunks-take n k (drop n xs)))

get_or-first_chunks : (n k i : ℕ) (xs : List ℕ) → i < k → get_or (first_chunks n k xs) i [] ≡ take n (drop (n * i) xs)
get_or-first_chunks n zero i xs h = absurd (omega arith)
get_or-first_chunks n (suc k) zero xs h = simp unary_clauses
get_or-first_chunks n (suc k) (suc i) xs h =
    let e : n + n * i ≡ n * suc i = omega arith in
    get_or-first_chunks n k i (drop n xs) (omega arith) ∙ ap (take n) (drop-drop (n * i) n xs ∙ ap (λ v. drop v xs) e)

length-first_chunks : (n k : ℕ) (xs : List ℕ) → length (first_chunks n k xs) ≡ k
length-first_chunks n zero xs = refl
length-first_chunks n (suc k) xs = ap suc (length-first_chunks n k (drop n xs))

-- a number in a part
be16-part : (xs : List ℕ) (k m j : ℕ) → j + 1 < m → k + j + 1 < length xs → be16 (take m (drop k xs)) j ≡ be16 xs (k + j)
unfolding be16
be16-part xs k m j h l = grind (arith, nat_tests, common_steps)

pub pairs_of : (xs ys : List ℕ) (n : ℕ) → n ≡ count_of xs → 2 + 4 * n ≤ length xs → ys ≡ slice_range xs 2 (2 + 4 * n) → length ys + 2 ≡ 2 + 4 * n → Pairs xs (first_chunks 4 (length ys / 4) ys)
pairs_of xs ys n e k p l =
    let many : length ys / 4 ≡ n = omega arith in
    let exact : 2 + 4 * n - 2 ≡ 4 * n = omega arith in
    let cut : first_chunks 4 (length ys / 4) ys ≡ first_chunks 4 n (drop 2 xs) =
    ap (λ k. first_chunks 4 k ys) many ∙ (ap (first_chunks 4 n) (p ∙ ap (λ k. take k (drop 2 xs)) exact) ∙ first_chunks-take 4 n (drop 2 xs)) in
    let at : (i : ℕ) → i < n → get_or (first_chunks 4 n (drop 2 xs)) i [] ≡ take 4 (drop (2 + 4 * i) xs) =
    λ i h. get_or-first_chunks 4 n i (drop 2 xs) h ∙ ap (take 4) (drop-drop (4 * i) 2 xs) in
    let c : length (first_chunks 4 n (drop 2 xs)) ≡ n = length-first_chunks 4 n (drop 2 xs) in
    rw cut (record {
      whole = omega arith;
      many = c ∙ e;
      offset = λ i h. rw (at i (omega arith), be16-part xs (2 + 4 * i) 4 0 (omega arith) (omega arith), add-zero);
      len = λ i h. let f : 2 + 4 * i + 2 ≡ 4 + 4 * i = omega arith in rw (at i (omega arith), be16-part xs (2 + 4 * i) 4 2 (omega arith) (omega arith), f);
    })

-- the row of those that are left, at its first place
pub at_place : (xs : List ℕ) (n i at : ℕ) → i < n
    → in_order xs (n - i) i at ≡ (leb at (offset_of xs i) && (leb (end_of xs i) (length xs) && in_order xs (n - (i + 1)) (i + 1) (end_of xs i)))
unfolding in_order
at_place xs n i at l = let e : n - i ≡ suc (n - (i + 1)) = omega arith in ap (λ k. in_order xs k i at) e

pub order_all : (xs : List ℕ) (n i at : ℕ) → n ≤ i → in_order xs (n - i) i at ≡ true
unfolding in_order
order_all xs n i at l = let e : n - i ≡ 0 = omega arith in ap (λ k. in_order xs k i at) e

-- each entry of a row in order ends inside
inside : (xs : List ℕ) (n i at k : ℕ) → in_order xs n i at ≡ true → k < n → end_of xs (i + k) ≤ length xs
unfolding in_order
inside xs zero i at k h l = omega arith
inside xs (suc n) i at zero h l =
    let p = and_parts (leb at (offset_of xs i)) _ h in
    let q = and_parts (leb (end_of xs i) (length xs)) _ p.1 in
    rw add-zero (leb-true (end_of xs i) (length xs) q.0)
inside xs (suc n) i at (suc k) h l =
    let p = and_parts (leb at (offset_of xs i)) _ h in
    let q = and_parts (leb (end_of xs i) (length xs)) _ p.1 in
    let e : i + suc k ≡ (i + 1) + k = omega arith in
    rw e (inside xs n (i + 1) (end_of xs i) k q.1 (omega arith))

pub many : (xs : List ℕ) → length (entries xs) ≡ count_of xs
unfolding entries
many xs = length-map-range_with_len (entry_of xs) 0 (count_of xs)

nth_entry : (xs : List ℕ) (i : ℕ) → i < count_of xs → slice_get (entries xs) i ≡ Some (entry_of xs i)
unfolding entries
nth_entry xs i l =
    let m : length (map (entry_of xs) (range_with_len 0 (count_of xs))) ≡ count_of xs = many xs in
    slice_get-get_or (entries xs) i [] (omega arith) ∙ ap Some (get_or-map-range_with_len (entry_of xs) 0 (count_of xs) i i [] l (zero-add i))

-- what a book is known to be
pub record Known (xs : List ℕ) : Type 0 where
  pub few : count_of xs ≤ 128
  pub front : pairs_end xs ≤ length xs
  pub order : in_order xs (count_of xs) 0 (pairs_end xs) ≡ true

known : (xs : List ℕ) → is_book xs ≡ true → Known xs
unfolding is_book
known xs h =
    let p = and_parts (leb (length xs) 8192) _ h in
    let q = and_parts (leb (count_of xs) 128) _ p.1 in
    let r = and_parts (leb (pairs_end xs) (length xs)) _ q.1 in
    record { few = leb-true (count_of xs) 128 q.0; front = leb-true (pairs_end xs) (length xs) r.0; order = r.1 }

pub sound_of : (xs : List ℕ) → is_book xs ≡ true → book_or_empty xs ≡ xs
sound_of xs h = cond-true (is_book xs) _ _ h

-- bytes of a book or none: with an entry they are a book
sound_at : (xs : List ℕ) (i : ℕ) → book_or_empty xs ≡ xs → i < count_of xs → is_book xs ≡ true
unfolding be16
sound_at [] i h l = absurd (omega arith)
sound_at (x ∷ xs) i h l = grind (arith, nat_tests)

-- so its pairs and each of its entries fit
pub fits : (xs : List ℕ) (i : ℕ) → book_or_empty xs ≡ xs → i < count_of xs → (pairs_end xs ≤ length xs) × (end_of xs i ≤ length xs)
fits xs i h l =
    let k = known xs (sound_at xs i h l) in
    (k.front, rw zero-add at (inside xs (count_of xs) 0 (pairs_end xs) i k.order l))

-- what `entry` gives at each of its returns
pub entry_past : (xs : List ℕ) (i : ℕ) → (i < count_of xs → ⊥) → None ≡ entry_at xs i
unfolding entry_at
entry_past xs i l = grind (arith, nat_tests)

pub entry_here : (xs : List ℕ) (i : ℕ) → book_or_empty xs ≡ xs → i < count_of xs → Some (entry_of xs i) ≡ entry_at xs i
unfolding entry_at
entry_here xs i h l = let f = fits xs i h l in grind (arith, nat_tests)

pub entry_paired : (xs : List ℕ) (ps : List (List ℕ)) (i : ℕ) (p : List ℕ) → book_or_empty xs ≡ xs → Pairs xs ps → i < length ps → p ≡ get_or ps i []
    → (be16 p 0 + be16 p 2 ≤ length xs) × (Some (take ((be16 p 0 + be16 p 2) - be16 p 0) (drop (be16 p 0) xs)) ≡ entry_at xs i)
entry_paired xs ps i p h k l e =
    let c : i < count_of xs = let m = k.many in omega arith in
    let off : be16 p 0 ≡ offset_of xs i = ap (λ v. be16 v 0) e ∙ k.offset i l in
    let len : be16 p 2 ≡ length_of xs i = ap (λ v. be16 v 2) e ∙ k.len i l in
    let exact : (offset_of xs i + length_of xs i) - offset_of xs i ≡ length_of xs i = omega arith in
    rw (off, len) ((fits xs i h c).1, rw exact (entry_here xs i h c))

pub listed : (xs : List ℕ) (i : ℕ) → book_or_empty xs ≡ xs → Listed xs i
listed xs i h =
    let m = many xs in
    record {
      many = m;
      here =
          ⊎_elim (λ l. sym (entry_here xs i h l) ∙ sym (nth_entry xs i l))
          (λ l. sym (entry_past xs i (λ k. omega arith)) ∙ sym (slice_get_past (entries xs) i (omega arith))) (cases_lt i (count_of xs));
    }

-- how n entries from entry i on lie in the byte string behind the place `at`
record Row (xs : List ℕ) (n i at : ℕ) : Type 0 where
  parts : List (List ℕ × List ℕ)
  tail : List ℕ
  listed : map (λ (p : List ℕ × List ℕ). p.1) parts ≡ map (entry_of xs) (range_with_len i n)
  whole : drop at xs ≡ laid parts ++ tail

cut : (xs : List ℕ) (i at : ℕ) → at ≤ offset_of xs i
    → drop at xs ≡ take (offset_of xs i - at) (drop at xs) ++ (entry_of xs i ++ drop (end_of xs i) xs)
cut xs i at l =
    let e : at + (offset_of xs i - at) ≡ offset_of xs i = omega arith in
    sym (take-append-drop (offset_of xs i - at) (drop at xs))
    ∙ ap (λ v. take (offset_of xs i - at) (drop at xs) ++ v)
    (drop-drop (offset_of xs i - at) at xs ∙ (ap (λ k. drop k xs) e
    ∙ (sym (take-append-drop (length_of xs i) (drop (offset_of xs i) xs)) ∙ ap (λ v. entry_of xs i ++ v) (drop-drop (length_of xs i) (offset_of xs i) xs))))

row : (xs : List ℕ) (n i at : ℕ) → in_order xs n i at ≡ true → Row xs n i at
unfolding in_order
row xs zero i at h = record { parts = []; tail = drop at xs; listed = refl; whole = refl }
row xs (suc n) i at h =
    let p = and_parts (leb at (offset_of xs i)) _ h in
    let q = and_parts (leb (end_of xs i) (length xs)) _ p.1 in
    let r = row xs n (i + 1) (end_of xs i) q.1 in
    let gap : List ℕ = take (offset_of xs i - at) (drop at xs) in
    record {
      parts = (gap, entry_of xs i) ∷ r.parts;
      tail = r.tail;
      listed = ap (λ es. entry_of xs i ∷ es) r.listed;
      whole =
          cut xs i at (leb-true at (offset_of xs i) p.0) ∙ (ap (λ v. gap ++ (entry_of xs i ++ v)) r.whole
          ∙ sym (append_assoc gap (entry_of xs i ++ laid r.parts) r.tail ∙ ap (λ v. gap ++ v) (append_assoc (entry_of xs i) (laid r.parts) r.tail)));
    }

pub laid_out : (xs : List ℕ) → is_book xs ≡ true → LaidOut xs
unfolding entries
laid_out xs h =
    let k = known xs h in
    let r = row xs (count_of xs) 0 (pairs_end xs) k.order in
    record {
      front = take (pairs_end xs) xs;
      parts = r.parts;
      tail = r.tail;
      behind = length-take-le (pairs_end xs) xs k.front;
      listed = r.listed;
      whole = sym (take-append-drop (pairs_end xs) xs) ∙ ap (λ v. take (pairs_end xs) xs ++ v) r.whole;
    }

-- the entries from entry i on
pub next_entry : (xs : List ℕ) (i : ℕ) (e : List ℕ) → book_or_empty xs ≡ xs → Some e ≡ entry_at xs i → (i < 128) × (drop i (entries xs) ≡ e ∷ drop (i + 1) (entries xs))
next_entry xs i e h s =
    let m = many xs in
    let g : slice_get (entries xs) i ≡ Some e = sym (s ∙ (listed xs i h).here) in
    let l = slice_get_within (entries xs) i e g in
    let k = known xs (sound_at xs i h (omega arith)) in
    (omega arith, grind (arith, common_steps, gets))

pub no_entry : (xs : List ℕ) (i : ℕ) → book_or_empty xs ≡ xs → None ≡ entry_at xs i → drop i (entries xs) ≡ []
no_entry xs i h s = let g : slice_get (entries xs) i ≡ None = sym (s ∙ (listed xs i h).here) in grind (arith, common_steps, gets)

-- Cutting text at marks.
use Rattle.std.proofs.Common.{◌≡◌, ℕ, zero, suc, ◌+◌, ◌<◌, ◌≤◌, Bool, true, false, cond, eqb, List, [], ◌∷◌, length, get_or, take, drop, map, Some, None, Option, Bor, sym, refl, ap, ◌∙◌, arith}
use Rattle.std.proofs.lemmas.Bool.{eq-eqb, ne_eqb}
use Rattle.std.proofs.lemmas.Iterator.{YieldsList}
use Rattle.std.proofs.lemmas.Option.{none-some}
use Rattle.std.proofs.lemmas.Iterator.Consumers.{YieldsList-from_first}
use Rattle.std.specs.Iterator.{YieldsFirstRef}
use Rattle.std.specs.List.{last_or}
use Rattle.std.specs.Option.{unwrap_or}
use Rattle.text.specs.Pieces.{longer, pieces, up_to, behind, others, last_of, after_last, pieces_left}
use Rattle.text.specs.declared.walk.Pieces.{Pieces}

-- the pieces are the text up to the first mark and the pieces of what stands behind it
pub pieces_cut : (mark : ℕ) (xs : List ℕ) → pieces mark xs ≡ up_to mark xs ∷ others mark (behind mark xs)
unfolding pieces
pieces_cut mark [] = refl
pieces_cut mark (x ∷ xs) = by (eqb x mark) (pieces_cut mark xs)
  where
    by : (t : Bool) → pieces mark xs ≡ up_to mark xs ∷ others mark (behind mark xs)
        → cond t ([] ∷ pieces mark xs) (longer x (pieces mark xs)) ≡ cond t [] (x ∷ up_to mark xs) ∷ others mark (cond t (Some xs) (behind mark xs))
    by true h = refl
    by false h = ap (longer x) h

-- what stands behind a mark is shorter
pub behind_shorter : (mark : ℕ) (xs ys : List ℕ) → behind mark xs ≡ Some ys → length ys < length xs
behind_shorter mark [] ys e = absurd (none-some ys e)
behind_shorter mark (x ∷ xs) ys e = by (eqb x mark) (behind_shorter mark xs ys) e
  where
    by : (t : Bool) → (behind mark xs ≡ Some ys → length ys < length xs) → cond t (Some xs) (behind mark xs) ≡ Some ys → length ys < length (x ∷ xs)
    by true h e = let s : xs ≡ ys = cc (e) in let n = ap length s in omega arith
    by false h e = let l = h e in omega arith

-- the text is cut where its first mark stands
pub at_mark : (mark : ℕ) (xs : List ℕ) (i : ℕ) → i < length xs → get_or xs i 0 ≡ mark → ((k : ℕ) → k < i → get_or xs k 0 ≡ mark → ⊥)
    → (take i xs ≡ up_to mark xs) × (Some (drop (i + 1) xs) ≡ behind mark xs)
at_mark mark [] i l e n = absurd (omega arith)
at_mark mark (x ∷ xs) zero l e n = let h = eq-eqb x mark e in simp h (refl, refl)
at_mark mark (x ∷ xs) (suc i) l e n =
    let h = ne_eqb x mark (n 0 (omega arith)) in
    let r = at_mark mark xs i (omega arith) e (λ k b. n (suc k) (omega arith)) in
    let j : suc i + 1 ≡ suc (i + 1) = omega arith in
    simp h (ap (λ v. x ∷ v) r.0, ap (λ v. Some (drop v (x ∷ xs))) j ∙ r.1)

-- text without a mark is whole
pub no_mark : (mark : ℕ) (xs : List ℕ) → ((k : ℕ) → k < length xs → get_or xs k 0 ≡ mark → ⊥) → (xs ≡ up_to mark xs) × (None ≡ behind mark xs)
no_mark mark [] n = (refl, refl)
no_mark mark (x ∷ xs) n =
    let h = ne_eqb x mark (n 0 (omega arith)) in
    let r = no_mark mark xs (λ k b. n (suc k) (omega arith)) in
    simp h (ap (λ v. x ∷ v) r.0, r.1)

pub cut : (mark : ℕ) (xs : List ℕ) {front : List ℕ} {back : Option (List ℕ)} → front ≡ up_to mark xs → back ≡ behind mark xs → pieces mark xs ≡ front ∷ others mark back
cut mark xs {front} f b = pieces_cut mark xs ∙ (ap (λ v. v ∷ others mark (behind mark xs)) (sym f) ∙ ap (λ v. front ∷ others mark v) (sym b))

-- the last piece of what stands behind a mark is the last of all
pub last_behind : (mark : ℕ) (xs ys : List ℕ) → behind mark xs ≡ Some ys → after_last mark xs ≡ after_last mark ys
last_behind mark xs ys e =
    ap last_of (pieces_cut mark xs ∙ ap (λ v. up_to mark xs ∷ others mark v) e) ∙ (ap (λ v. last_of (up_to mark xs ∷ v)) (pieces_cut mark ys) ∙ sym (ap last_of (pieces_cut mark ys)))

-- what the last of some references reads
last_read : (x d : Bor (List ℕ)) (xs : List (Bor (List ℕ))) → (unwrap_or (last_or (Some x) xs) d).now ≡ last_of (map (λ y. y.now) (x ∷ xs))
last_read x d [] = refl
last_read x d (y ∷ xs) = last_read y d xs

pub last_piece : (mark : ℕ) (text : List ℕ) (d : Bor (List ℕ)) (xs : List (Bor (List ℕ))) → map (λ y. y.now) xs ≡ pieces mark text → (unwrap_or (last_or None xs) d).now ≡ after_last mark text
last_piece mark text d [] e = cc (pieces_cut mark text)
last_piece mark text d (x ∷ xs) e = last_read x d xs ∙ ap last_of e

-- there is one piece more than there are marks
length-longer : (x : ℕ) (ps : List (List ℕ)) → length (longer x ps) ≡ length ps
length-longer x [] = refl
length-longer x (p ∷ ps) = refl

pub pieces_count : (mark : ℕ) (xs : List ℕ) → length (pieces mark xs) ≤ length xs + 1
unfolding pieces
pieces_count mark [] = omega arith
pieces_count mark (x ∷ xs) = by (eqb x mark) (pieces mark xs) (pieces_count mark xs)
  where
    by : (t : Bool) (ps : List (List ℕ)) → length ps ≤ length xs + 1 → length (cond t ([] ∷ ps) (longer x ps)) ≤ length (x ∷ xs) + 1
    by true ps h = omega arith
    by false ps h = omega (arith, length-longer x ps)

-- an iterator over some pieces gives them
pub gives_pieces : {p : Pieces} {ps : List (List ℕ)} → pieces_left p ≡ ps → YieldsList (YieldsFirstRef pieces_left) (λ y. y.now) p ps
gives_pieces e = YieldsList-from_first (λ (y : Bor (List ℕ)). y.now) pieces_left _ e

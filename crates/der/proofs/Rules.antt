-- The tests for an object identifier and for a bit string decide their rules.
use Rattle.std.proofs.Common.{◌≡◌, ℕ, zero, suc, ◌-◌, ◌<◌, ◌≤◌, Bool, true, eqb, ltb, leb, ◌⊎◌, List, [], ◌∷◌, length, get_or, Decides, refl, ap, inl, inr, ⊎_elim, arith}
use Rattle.std.proofs.lemmas.Bool.{lt-ltb, ltb-true, leb-true, le-leb, cases_lt}
use Rattle.std.proofs.lemmas.Bool.Decides.{Decides-at, Decides-eqb, Decides-ltb, Decides-and, Decides-or, Decides-not, Decides-like}
use Rattle.der.specs.Elements.{arcs, oid, bit_string, ArcBegins, ObjectIdentifier, BitString}

-- a row of arcs behind the byte p, which ends an arc where it is below 0x80: the last byte ends an arc, and no byte 0x80 follows one that does
Row : ℕ → List ℕ → Type 0
Row p xs = (get_or (p ∷ xs) (length xs) 0 < 0x80) × ((k : ℕ) → k < length xs → get_or (p ∷ xs) k 0 < 0x80 → get_or xs k 0 ≡ 0x80 → ⊥)

-- the first byte of a row, and the row behind it
Front : ℕ → ℕ → List ℕ → Type 0
Front p b bs = ((p < 0x80) × (b ≡ 0x80) → ⊥) × Row b bs

row_start : (p b : ℕ) (bs : List ℕ) → Front p b bs → (k : ℕ) → k < length (b ∷ bs) → get_or (p ∷ b ∷ bs) k 0 < 0x80 → get_or (b ∷ bs) k 0 ≡ 0x80 → ⊥
unfolding Row Front
row_start p b bs f zero l h e = f.0 (h, e)
row_start p b bs f (suc k) l h e = f.1.1 k (omega arith) h e

row_from : (p b : ℕ) (bs : List ℕ) → Front p b bs → Row p (b ∷ bs)
unfolding Row Front
row_from p b bs f = (f.1.0, row_start p b bs f)

row_front : (p b : ℕ) (bs : List ℕ) → Row p (b ∷ bs) → Front p b bs
unfolding Row Front
row_front p b bs r = (λ h. r.1 0 (omega arith) h.0 h.1, (r.0, λ k l h e. r.1 (suc k) (omega arith) h e))

arcs_row : (p : ℕ) (xs : List ℕ) → Decides (arcs (ltb p 0x80) xs) (Row p xs)
unfolding Row Front
arcs_row p [] = (λ h. (ltb-true p 0x80 h, λ k l. absurd (omega arith)), λ r. lt-ltb p 0x80 r.0)
arcs_row p (b ∷ bs) =
    let here = Decides-not _ (Decides-and (ltb p 0x80) (eqb b 0x80) (Decides-ltb p 0x80) (Decides-eqb b 0x80)) in
    Decides-like _ (row_from p b bs) (row_front p b bs) (Decides-and _ _ here (arcs_row b bs))

before : (xs : List ℕ) (k : ℕ) → get_or xs (suc k - 1) 0 ≡ get_or xs k 0
before xs k = let e : suc k - 1 ≡ k = omega arith in ap (λ n. get_or xs n 0) e

-- the row behind no byte is the whole content
rule_start : (xs : List ℕ) → Row 0 xs → (k : ℕ) → k < length xs → ArcBegins xs k → get_or xs k 0 ≡ 0x80 → ⊥
unfolding Row
rule_start xs r zero l b e = r.1 0 l (omega arith) e
rule_start xs r (suc k) l (inl z) e = absurd (omega arith)
rule_start xs r (suc k) l (inr h) e = r.1 (suc k) l (omega (arith, before xs k)) e

oid_rule : (xs : List ℕ) → (0 < length xs) × Row 0 xs → ObjectIdentifier xs
unfolding Row
oid_rule [] f = absurd (omega arith)
oid_rule (b ∷ bs) f = record { some = f.0; ends = omega (arith, before (b ∷ bs) (length bs), f.1.0); starts = rule_start (b ∷ bs) f.1 }

row_begin : (xs : List ℕ) → ObjectIdentifier xs → (k : ℕ) → k < length xs → get_or (0 ∷ xs) k 0 < 0x80 → get_or xs k 0 ≡ 0x80 → ⊥
row_begin xs o zero l h e = o.starts 0 l (inl refl) e
row_begin xs o (suc k) l h e = o.starts (suc k) l (inr (omega (arith, before xs k))) e

rule_row : (xs : List ℕ) → ObjectIdentifier xs → (0 < length xs) × Row 0 xs
unfolding Row
rule_row [] o = absurd (omega arith)
rule_row (b ∷ bs) o = (o.some, (omega (arith, before (b ∷ bs) (length bs), o.ends), row_begin (b ∷ bs) o))

pub decides_oid : (xs : List ℕ) → Decides (oid xs) (ObjectIdentifier xs)
unfolding oid
decides_oid xs = Decides-like _ (oid_rule xs) (rule_row xs) (Decides-and (ltb 0 (length xs)) (arcs true xs) (Decides-ltb 0 (length xs)) (arcs_row 0 xs))

-- a first byte of at most 7, and 0 where it stands alone
bits_rule : (xs : List ℕ) → (0 < length xs) × ((get_or xs 0 0 ≤ 7) × ((1 < length xs) ⊎ (get_or xs 0 0 ≡ 0))) → BitString xs
bits_rule xs f = record { some = f.0; unused = f.1.0; none = λ e. ⊎_elim (λ l. absurd (omega arith)) (λ z. z) f.1.1 }

rule_bits : (xs : List ℕ) → BitString xs → (0 < length xs) × ((get_or xs 0 0 ≤ 7) × ((1 < length xs) ⊎ (get_or xs 0 0 ≡ 0)))
rule_bits xs b = (b.some, (b.unused, ⊎_elim inl (λ l. inr (b.none (omega (arith, b.some)))) (cases_lt 1 (length xs))))

pub decides_bits : (xs : List ℕ) → Decides (bit_string xs) (BitString xs)
unfolding bit_string
decides_bits xs =
    let small : Decides (leb (get_or xs 0 0) 7) (get_or xs 0 0 ≤ 7) = (leb-true _ _, le-leb _ _) in
    let more = Decides-or (ltb 1 (length xs)) (eqb (get_or xs 0 0) 0) (Decides-ltb 1 (length xs)) (Decides-eqb (get_or xs 0 0) 0) in
    Decides-like _ (bits_rule xs) (rule_bits xs) (Decides-and _ _ (Decides-ltb 0 (length xs)) (Decides-and _ _ small more))

pub bits_ruled : (r : Bool) (xs : List ℕ) → r ≡ bit_string xs → Decides r (BitString xs)
bits_ruled r xs e = Decides-at r (bit_string xs) e (decides_bits xs)

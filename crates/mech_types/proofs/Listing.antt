-- Lists of object identifiers: what is written is read back, what is read is the writing, and how a loop goes through one.
use Rattle.std.proofs.Common.{◌≡◌, ℕ, zero, suc, ◌+◌, ◌-◌, ◌<◌, ◌≤◌, true, false, cond, ◌&&◌, eqb, List, [], ◌∷◌, ◌++◌, length, is_ok, IsOk, Some, None, Ok, Err, Result, sym, refl, ap, ◌∙◌, subst, ⊎_elim, arith, true≢false, length-append}
use Rattle.std.proofs.lemmas.Grind.{common_steps}
use Rattle.std.proofs.lemmas.Bool.Decides.{nat_tests}
use Rattle.std.proofs.lemmas.Bool.{eq-eqb, eqb-false, and_parts, and_from, cases_eq}
use Rattle.sspi.specs.declared.fault.Fault.{Fault}
use Rattle.der.specs.Elements.{header, element, oid}
use Rattle.der.specs.Promises.{Exact}
use Rattle.der.specs.Reading.{illegal, and_then, Taken, take_of, only_of}
use Rattle.der.proofs.Promised.{exact_from}
use Rattle.der.proofs.Ways.{ways, let_through, Only, only_then, only_cond}
use Rattle.der.proofs.Taking.{both, length-element, take_written, take_read, only_written, only_read, refused_take, refused_only}
use Rattle.mech_types.specs.Listed.{listed, items}
use Rattle.mech_types.specs.Lists.{oids, mech_type_list, all_oids, GoodList}
use Rattle.mech_types.specs.Reading.{next_of, before, oids_up_to, oids_of, read_mech_type_list}
use Rattle.mech_types.specs.declared.MechTypeList.{MechTypeList}
use Rattle.std.specs.Result.{result_ok, result_unwrap_or}

abbrev Next : Type 0
Next = List ℕ × List ℕ

pub next_written : (o rest : List ℕ) → oid o ≡ true → length o < 65536 → next_of (element 0x06 o ++ rest) ≡ Ok (o, rest)
next_written o rest h l = let w = take_written 0x06 o rest refl l in grind (arith, common_steps)

next_taken : (r : Result Taken Fault) (y : Next) → and_then r (λ x. cond (eqb x.0 0x06 && oid x.1) (Ok (x.1, x.2)) (Err illegal)) ≡ Ok y → (r ≡ Ok (0x06, y.0, y.1)) × (oid y.0 ≡ true)
next_taken r y h = grind (arith, common_steps)

pub next_read : (xs : List ℕ) (y : Next) → next_of xs ≡ Ok y → (xs ≡ element 0x06 y.0 ++ y.1) × (oid y.0 ≡ true) × (length y.0 < 65536)
next_read xs y r =
    let t = next_taken (take_of xs) y r in
    let f = take_read xs (0x06, y.0, y.1) t.0 in
    (f.0, t.1, f.2)

-- what follows an object identifier is shorter
pub next_shorter : (xs : List ℕ) (y : Next) → next_of xs ≡ Ok y → length y.1 < length xs
unfolding header
next_shorter xs y r =
    let e : length xs ≡ length (element 0x06 y.0) + length y.1 = ap length (next_read xs y r).0 ∙ length-append (element 0x06 y.0) y.1 in
    let n = length-element 0x06 y.0 in
    omega arith

-- a longer bound changes nothing
fuel_next : (n m : ℕ) (r : Result Next Fault) → ((y : Next) → r ≡ Ok y → oids_up_to n y.1 ≡ oids_up_to m y.1)
    → and_then r (λ x. before x.0 (oids_up_to n x.1)) ≡ and_then r (λ x. before x.0 (oids_up_to m x.1))
fuel_next n m r h = grind arith

fuel : (n m : ℕ) (xs : List ℕ) → length xs ≤ n → length xs ≤ m → oids_up_to n xs ≡ oids_up_to m xs
unfolding oids_up_to
fuel zero zero xs l k = refl
fuel zero (suc m) xs l k = let e : eqb (length xs) 0 ≡ true = eq-eqb (length xs) 0 (omega arith) in simp e
fuel (suc n) zero xs l k = let e : eqb (length xs) 0 ≡ true = eq-eqb (length xs) 0 (omega arith) in simp e
fuel (suc n) (suc m) xs l k =
    ap (cond (eqb (length xs) 0) (Ok [])) (fuel_next n m (next_of xs) (λ y r. let s = next_shorter xs y r in fuel n m y.1 (omega arith) (omega arith)))

pub oids_none : (xs : List ℕ) → length xs ≡ 0 → oids_of xs ≡ Ok []
unfolding oids_of oids_up_to
oids_none xs e = grind arith

some_oids : (n : ℕ) (xs : List ℕ) → length xs ≡ suc n → oids_of xs ≡ and_then (next_of xs) (λ x. before x.0 (oids_up_to n x.1))
unfolding oids_of oids_up_to
some_oids n xs e = grind (arith, nat_tests)

pub oids_more : (xs : List ℕ) (y : Next) → next_of xs ≡ Ok y → oids_of xs ≡ before y.0 (oids_of y.1)
unfolding oids_of
oids_more xs y r =
    let s = next_shorter xs y r in
    let n : ℕ = length xs - 1 in
    some_oids n xs (omega arith) ∙ (ap (λ v. and_then v (λ x. before x.0 (oids_up_to n x.1))) r ∙ ap (before y.0) (fuel n (length y.1) y.1 (omega arith) (omega arith)))

pub oids_refused : (xs : List ℕ) (e : Fault) → (length xs ≡ 0 → ⊥) → next_of xs ≡ Err e → oids_of xs ≡ Err e
oids_refused xs e l r = let n : ℕ = length xs - 1 in let s = some_oids n xs (omega arith) in grind arith

-- what follows an object identifier of a legal list is a legal list
is_ok-before : (o : List ℕ) (r : Result (List (List ℕ)) Fault) → is_ok (before o r) ≡ is_ok r
is_ok-before o r = grind arith

pub legal_more : (xs : List ℕ) (y : Next) → next_of xs ≡ Ok y → IsOk (oids_of xs) → IsOk (oids_of y.1)
legal_more xs y r l = sym (ap is_ok (oids_more xs y r) ∙ is_ok-before y.0 (oids_of y.1)) ∙ l

-- whether a list is accepted, and the refusal if not
abbrev pub verdict : Result (List (List ℕ)) Fault → Result ℕ Fault
verdict r = and_then r (λ _. Ok 0)

verdict_before : (o : List ℕ) (r : Result (List (List ℕ)) Fault) → verdict (before o r) ≡ verdict r
verdict_before o r = grind arith

pub verdict_more : (xs : List ℕ) (y : Next) → next_of xs ≡ Ok y → verdict (oids_of y.1) ≡ verdict (oids_of xs)
verdict_more xs y r = sym (ap verdict (oids_more xs y r) ∙ verdict_before y.0 (oids_of y.1))

pub err_from_verdict : (r : Result (List (List ℕ)) Fault) (e : Fault) → verdict r ≡ Err e → r ≡ Err e
err_from_verdict r e h = grind arith

pub ok_from_verdict : (r : Result (List (List ℕ)) Fault) → verdict r ≡ Ok 0 → is_ok r ≡ true
ok_from_verdict r h = grind arith

-- writing and reading
pub oids_written : (os : List (List ℕ)) → all_oids os ≡ true → length (oids os) < 65536 → oids_of (oids os) ≡ Ok os
unfolding oids all_oids
oids_written [] h l = oids_none [] refl
oids_written (o ∷ os) h l =
    let a = and_parts (oid o) (all_oids os) h in
    let s = length-append (element 0x06 o) (oids os) in
    let n = length-element 0x06 o in
    let w = next_written o (oids os) a.0 (omega arith) in
    oids_more (element 0x06 o ++ oids os) (o, oids os) w ∙ ap (before o) (oids_written os a.1 (omega arith))

-- what reading a row of object identifiers says of the input
abbrev Row : List ℕ → List (List ℕ) → Type 0
Row xs os = (xs ≡ oids os) × (all_oids os ≡ true)

row_none : (xs : List ℕ) (os : List (List ℕ)) → eqb (length xs) 0 ≡ true → ◌≡◌ {A = Result (List (List ℕ)) Fault} (Ok []) (Ok os) → Row xs os
unfolding oids all_oids
row_none xs os h e = grind (arith, common_steps)

row_read : (n : ℕ) (xs : List ℕ) (os : List (List ℕ)) → oids_up_to n xs ≡ Ok os → Row xs os
unfolding oids_up_to oids all_oids
row_read zero xs os r = let p = let_through (eqb (length xs) 0) illegal (Ok []) os r in row_none xs os p.0 p.1
row_read (suc n) xs os r =
    ⊎_elim
    (λ w. row_none xs os w.0 w.1)
    (λ w.
    let b = both (next_of xs) _ os w.1 in
    let y = b.0 in
    let f = next_read xs y b.1 in
    let d = both (oids_up_to n y.1) _ os b.2 in
    let rest = row_read n y.1 d.0 d.1 in
    let p : y.0 ∷ d.0 ≡ os = cc d.2 in
    subst (Row xs) p (f.0 ∙ ap (λ v. element 0x06 y.0 ++ v) rest.0, and_from (oid y.0) (all_oids d.0) f.1 rest.1))
    (ways (eqb (length xs) 0) (Ok []) _ os r)

pub oids_read : (xs : List ℕ) (os : List (List ℕ)) → oids_of xs ≡ Ok os → (xs ≡ oids os) × (all_oids os ≡ true)
unfolding oids_of
oids_read xs os r = row_read (length xs) xs os r

pub list_written : (os : List (List ℕ)) → all_oids os ≡ true → length (oids os) < 65536 → read_mech_type_list (mech_type_list os) ≡ Ok os
unfolding read_mech_type_list mech_type_list
list_written os h l = ap (λ r. and_then r oids_of) (only_written 0x30 (oids os) refl l) ∙ oids_written os h l

pub list_read_lem : (xs : List ℕ) (os : List (List ℕ)) → read_mech_type_list xs ≡ Ok os → (xs ≡ mech_type_list os) × (all_oids os ≡ true) × (length (oids os) < 65536)
unfolding read_mech_type_list mech_type_list
list_read_lem xs os r =
    let b = both (only_of 0x30 xs) oids_of os r in
    let f = only_read 0x30 xs b.0 b.1 in
    let d = oids_read b.0 os b.2 in
    (f.0 ∙ ap (element 0x30) d.0, d.1, subst (λ (v : List ℕ). length v < 65536) d.0 f.2)

-- a legal list ends where no object identifier is left
some_next : (r : Result Next Fault) (y : Next) → Some y ≡ result_ok r → r ≡ Ok y
some_next r y h = grind arith

pub next_some : (xs : List ℕ) (y : Next) → Some y ≡ result_ok (next_of xs) → next_of xs ≡ Ok y
next_some xs y h = some_next (next_of xs) y h

ends : (xs : List ℕ) (r : Result Next Fault) → next_of xs ≡ r → None ≡ result_ok r → IsOk (oids_of xs) → Ok [] ≡ oids_of xs
ends xs (Ok y) n h l = cc (h)
ends xs (Err e) n h l = ⊎_elim (λ z. sym (oids_none xs z)) (λ z. absurd (true≢false (sym l ∙ ap is_ok (oids_refused xs e z n)))) (cases_eq (length xs) 0)

pub oids_end : (xs : List ℕ) → None ≡ result_ok (next_of xs) → IsOk (oids_of xs) → Ok [] ≡ oids_of xs
oids_end xs h l = ends xs (next_of xs) refl h l

-- where the loop leaves: at a refusal, and at the end
pub verdict_refused : (xs : List ℕ) (e : Fault) → false ≡ eqb (length xs) 0 → next_of xs ≡ Err e → verdict (oids_of xs) ≡ Err e
verdict_refused xs e l r = ap verdict (oids_refused xs e (eqb-false (length xs) 0 (sym l)) r)

pub verdict_all : (xs : List ℕ) → true ≡ eqb (length xs) 0 → verdict (oids_of xs) ≡ Ok 0
verdict_all xs l = grind (arith, oids_none)

-- whatever is refused is refused as an illegal token
pub refused_next : (xs : List ℕ) → Only illegal (next_of xs)
refused_next xs = let h = refused_take xs in grind arith

refused_up_to : (n : ℕ) (xs : List ℕ) → Only illegal (oids_up_to n xs)
unfolding oids_up_to
refused_up_to zero xs = only_cond illegal (eqb (length xs) 0) _ _ tt refl
refused_up_to (suc n) xs =
    only_cond illegal (eqb (length xs) 0) _ _ tt
    (only_then illegal (next_of xs) _ (refused_next xs) (λ x. only_then illegal (oids_up_to n x.1) _ (refused_up_to n x.1) (λ os. tt)))

refused_list : (xs : List ℕ) → Only illegal (read_mech_type_list xs)
unfolding read_mech_type_list oids_of
refused_list xs = only_then illegal (only_of 0x30 xs) oids_of (refused_only 0x30 xs) (λ c. refused_up_to (length c) c)

pub exact_list : (xs : List ℕ) → Exact GoodList mech_type_list xs (read_mech_type_list xs)
exact_list =
    exact_from read_mech_type_list (λ os g. list_written os g.all g.short) (λ xs os r. let p = list_read_lem xs os r in (p.0, record { all = p.1; short = p.2 })) refused_list

pub exact_at_list : (xs : List ℕ) (r : Result (List (List ℕ)) Fault) → r ≡ read_mech_type_list xs → Exact GoodList mech_type_list xs r
exact_at_list xs r e = subst (Exact GoodList mech_type_list xs) (sym e) (exact_list xs)

-- every list is legal, so its object identifiers are those that its bytes are read as, and no more than there are bytes
ok_items : (r : Result (List (List ℕ)) Fault) → IsOk r → r ≡ Ok (result_unwrap_or r [])
ok_items r h = grind arith

pub listed-items : (l : MechTypeList) → listed l ≡ Ok (items l)
listed-items l = ok_items (listed l) l.legal

length-oids : (os : List (List ℕ)) → length os ≤ length (oids os)
unfolding oids header element
length-oids [] = omega arith
length-oids (o ∷ os) = omega (arith, length-oids os, length-append (element 0x06 o) (oids os))

pub items_short : (l : MechTypeList) → length (items l) ≤ length l.oids.now
items_short l = let e = ap length (oids_read l.oids.now (items l) (listed-items l)).0 in omega (arith, e, length-oids (items l))

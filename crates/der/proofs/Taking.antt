-- Elements: what is written is read back, and what is read is the writing.
use Rattle.std.proofs.Common.{◌≡◌, ℕ, ◌+◌, ◌<◌, ◌≤◌, true, false, cond, ◌&&◌, eqb, List, [], ◌++◌, length, take, drop, Some, None, Ok, Err, Option, Result, sym, refl, ap, ◌∙◌, subst, ⊎_elim, arith}
use Rattle.std.proofs.lemmas.Grind.{common_steps}
use Rattle.std.proofs.lemmas.List.{append_assoc, append-nil}
use Rattle.std.proofs.lemmas.Bool.{eq-eqb, eqb-true, cond-true, cond-false}
use Rattle.sspi.specs.declared.fault.Fault.{Fault}
use Rattle.der.specs.Elements.{tag, header, element, optional, Short}
use Rattle.der.specs.Reading.{and_then, Head, Taken, head_of, cut, take_of, only_of, begins, optional_of, whole, one_element, illegal}
use Rattle.der.proofs.Ways.{ways, same_ok, Only}
use Rattle.der.proofs.Heads.{head_written, head_read}

-- both parts of an accepted sequence were accepted
pub both : {X Y : Type 0} (r : Result X Fault) (f : X → Result Y Fault) (y : Y) → and_then r f ≡ Ok y → (x : X) × (r ≡ Ok x) × (f x ≡ Ok y)
both r f y h = grind arith

pub length-element : (t : ℕ) (c : List ℕ) → length (element t c) ≡ length (header t (length c)) + length c
unfolding element
length-element t c = grind (arith, common_steps)

cut_written : (t : ℕ) (c rest : List ℕ) → tag t ≡ true → cut (t, length c, c ++ rest) ≡ Ok (t, c, rest)
cut_written t c rest h = grind (arith, common_steps)

pub take_written : (t : ℕ) (c rest : List ℕ) → tag t ≡ true → length c < 65536 → take_of (element t c ++ rest) ≡ Ok (t, c, rest)
unfolding element
take_written t c rest h l =
    ap take_of (append_assoc (header t (length c)) c rest) ∙ (ap (λ r. and_then r cut) (head_written t (length c) (c ++ rest) l) ∙ cut_written t c rest h)

-- the content that was cut off, put back
joined_again : (t n : ℕ) (xs : List ℕ) → n ≤ length xs → element t (take n xs) ++ drop n xs ≡ header t n ++ xs
unfolding element
joined_again t n xs l = grind (arith, common_steps)

cut_read : (h : Head) (x : Taken) → cut h ≡ Ok x → (element x.0 x.1 ++ x.2 ≡ header h.0 h.1 ++ h.2) × (tag x.0 ≡ true) × (length x.1 ≡ h.1)
cut_read h x r = grind (arith, common_steps, joined_again)

pub take_read : (xs : List ℕ) (x : Taken) → take_of xs ≡ Ok x → (xs ≡ element x.0 x.1 ++ x.2) × (tag x.0 ≡ true) × (length x.1 < 65536)
take_read xs x r =
    let b = both (head_of xs) cut x r in
    let front = head_read xs b.0 b.1 in
    let back = cut_read b.0 x b.2 in
    (front.0 ∙ sym back.0, back.1, omega arith)

-- reading it tells which element it is
pub one_writing : (t u : ℕ) (c d r s : List ℕ) → tag t ≡ true → tag u ≡ true → length c < 65536 → length d < 65536 → element t c ++ r ≡ element u d ++ s → (t ≡ u) × (c ≡ d) × (r ≡ s)
one_writing t u c d r s h k l m e =
    let p : (t, c, r) ≡ (u, d, s) = same_ok _ _ (sym (take_written t c r h l) ∙ (ap take_of e ∙ take_written u d s k m)) in
    (ap (λ x. x.0) p, ap (λ x. x.1) p, ap (λ x. x.2) p)

pub only_written : (t : ℕ) (c : List ℕ) → tag t ≡ true → length c < 65536 → only_of t (element t c) ≡ Ok c
only_written t c h l = let w = take_written t c [] h l in grind (arith, common_steps)

only_taken : (t : ℕ) (r : Result Taken Fault) (c : List ℕ) → and_then r (λ x. cond (eqb x.0 t && eqb (length x.2) 0) (Ok x.1) (Err illegal)) ≡ Ok c → r ≡ Ok (t, c, [])
only_taken t r c h = grind (arith, common_steps)

pub only_read : (t : ℕ) (xs c : List ℕ) → only_of t xs ≡ Ok c → (xs ≡ element t c) × (tag t ≡ true) × (length c < 65536)
only_read t xs c r = let f = take_read xs (t, c, []) (only_taken t (take_of xs) c r) in (f.0 ∙ append-nil (element t c), f.1, f.2)

begins-element : (t u : ℕ) (c rest : List ℕ) → begins u (element t c ++ rest) ≡ eqb t u
unfolding element header
begins-element t u c rest = grind (arith, common_steps)

pub begins-optional : (t u : ℕ) (o : Option (List ℕ)) (rest : List ℕ) → eqb t u ≡ false → begins u rest ≡ false → begins u (optional t o ++ rest) ≡ false
unfolding element header
begins-optional t u o rest d h = grind (arith, common_steps)

pub optional_written : (t : ℕ) (o : Option (List ℕ)) (rest : List ℕ) → tag t ≡ true → Short o → begins t rest ≡ false → optional_of t (optional t o ++ rest) ≡ Ok (o, rest)
optional_written t None rest h s b = cond-false _ _ _ b
optional_written t (Some c) rest h s b =
    cond-true _ _ _ (begins-element t t c rest ∙ eq-eqb t t refl) ∙ ap (λ r. and_then r (λ x. Ok (Some x.1, x.2))) (take_written t c rest h s)

pub optional_read : (t : ℕ) (xs : List ℕ) (y : Option (List ℕ) × List ℕ) → optional_of t xs ≡ Ok y → (xs ≡ optional t y.0 ++ y.1) × Short y.0
optional_read t xs y r =
    let P : Option (List ℕ) × List ℕ → Type 0 = λ z. (xs ≡ optional t z.0 ++ z.1) × Short z.0 in
    ⊎_elim
    (λ w.
    let b = both (take_of xs) _ y w.1 in
    let x = b.0 in
    let f = take_read xs x b.1 in
    let a : eqb x.0 t ≡ true = sym (begins-element x.0 t x.1 x.2) ∙ (ap (begins t) (sym f.0) ∙ w.0) in
    let e : (Some x.1, x.2) ≡ y = cc b.2 in
    subst P e (f.0 ∙ ap (λ u. element u x.1 ++ x.2) (eqb-true _ _ a), f.2))
    (λ w. let e : (None, xs) ≡ y = cc w.1 in subst P e (refl, tt))
    (ways (begins t xs) _ _ y r)

-- the test for one element of any tag
pub element_one : (t : ℕ) (c : List ℕ) → tag t ≡ true → length c < 65536 → one_element (element t c) ≡ true
unfolding one_element
element_one t c h l = let w = take_written t c [] h l in grind (arith, common_steps)

whole_taken : (r : Result Taken Fault) → whole r ≡ true → (t : ℕ) × (c : List ℕ) × (r ≡ Ok (t, c, []))
whole_taken (Ok x) h = (x.0, x.1, grind (arith, common_steps))
whole_taken (Err e) h = cc (h)

pub one_element_lem : (xs : List ℕ) → one_element xs ≡ true → (t : ℕ) × (c : List ℕ) × (xs ≡ element t c) × (tag t ≡ true) × (length c < 65536)
unfolding one_element
one_element_lem xs h =
    let w = whole_taken (take_of xs) h in
    let f = take_read xs (w.0, w.1, []) w.2 in
    (w.0, w.1, f.0 ∙ append-nil (element w.0 w.1), f.1, f.2)

-- whatever is refused is refused as an illegal token
pub refused_take : (xs : List ℕ) → Only illegal (take_of xs)
refused_take xs = grind arith

pub refused_only : (t : ℕ) (xs : List ℕ) → Only illegal (only_of t xs)
refused_only t xs = grind arith

pub refused_optional : (t : ℕ) (xs : List ℕ) → Only illegal (optional_of t xs)
refused_optional t xs = grind arith

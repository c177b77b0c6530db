-- Writing a list of object identifiers: the loops over them, and the computed length.
use Rattle.std.proofs.Common.{◌≡◌, ℕ, suc, ◌+◌, ◌<◌, true, ltb, cond, List, [], ◌∷◌, ◌++◌, length, get_or, take, drop, Ok, Err, Result, sym, refl, ap, ◌∙◌, inl, inr, ⊎_elim, add-zero, arith, length-append, Bor}
use Rattle.std.proofs.Math.Seq.{split_at}
use Rattle.std.proofs.lemmas.Grind.{flat_map-append}
use Rattle.std.proofs.lemmas.List.{append-nil, map-append, take_more}
use Rattle.std.proofs.lemmas.Bool.{cases_lt, lt-ltb, le-ltb, and_parts, and_from, cond-true, cond-false}
use Rattle.sspi.specs.declared.fault.Fault.{Fault}
use Rattle.der.specs.Elements.{element, oid}
use Rattle.der.specs.declared.writer.Writer.{Writer}
use Rattle.der.specs.Writing.{element_len, invalid, Puts, Adds}
use Rattle.der.proofs.Measures.{Measures, measured, unmeasured, measures_as, measures_then, measures_if, element_measures}
use Rattle.der.proofs.Taking.{length-element}
use Rattle.der.proofs.Adding.{element_len_lem, adds, adds_then, adds_refused}
use Rattle.mech_types.specs.Lists.{oids, mech_type_list, all_oids, GoodList}
use Rattle.mech_types.specs.Views.{plain_oids}
use Rattle.mech_types.specs.Writing.{add_oid, oids_len_from}

abbrev Refs : Type 0
Refs = List (Bor (List ℕ))

-- one object identifier more: the length is that of the writing, and is given just for lists that can be written
short_measures : (n : ℕ) → Measures (n < 65536) n (cond (ltb 65535 n) (Err invalid) (Ok n))
short_measures n =
    ⊎_elim (λ l. inr ((λ k. omega arith), cond-true (ltb 65535 n) _ _ (lt-ltb 65535 n l))) (λ l. inl (omega arith, cond-false (ltb 65535 n) _ _ (le-ltb 65535 n l)))
    (cases_lt 65535 n)

pub add_measures : (n : ℕ) (o : List ℕ) → Measures ((oid o ≡ true) × (n + length (element 0x06 o) < 65536)) (n + length (element 0x06 o)) (add_oid n o)
add_measures n o =
    let m = length-element 0x06 o in
    measures_as (λ g. (g.0, g.1.1)) (λ g. (g.0, (omega (arith, g.1), g.1))) refl
    (measures_if (oid o) (measures_then _ (element_measures 0x06 o) (λ _. short_measures (n + length (element 0x06 o)))))

pub rows_measures : (os : List (List ℕ)) (n : ℕ) → n < 65536 → Measures ((all_oids os ≡ true) × (n + length (oids os) < 65536)) (n + length (oids os)) (oids_len_from n os)
unfolding oids all_oids
rows_measures [] n l = inl ((refl, omega arith), ap Ok (sym (add-zero n)))
rows_measures (o ∷ os) n l =
    let a = length-append (element 0x06 o) (oids os) in
    measures_as (λ g. (and_from (oid o) (all_oids os) g.0.0 g.1.0, omega (arith, g.1.1)))
    (λ g. let p = and_parts (oid o) (all_oids os) g.0 in ((p.0, omega (arith, g.1)), (p.1, omega (arith, g.1)))) (omega arith)
    (measures_then (λ m. oids_len_from m os) (add_measures n o) (λ g. rows_measures os (n + length (element 0x06 o)) g.1))

list_measures : (os : List (List ℕ)) → Measures (GoodList os) (length (oids os)) (oids_len_from 0 os)
list_measures os =
    measures_as (λ g. record { all = g.0; short = omega (arith, g.1) }) (λ g. (g.all, omega (arith, g.short))) (omega arith) (rows_measures os 0 (omega arith))

pub list_refused : (os : List (List ℕ)) (e : Fault) → oids_len_from 0 os ≡ Err e → (GoodList os → ⊥) × (e ≡ invalid)
list_refused os e r = unmeasured _ _ (oids_len_from 0 os) e (list_measures os) r

-- the loop over the writing
pub row_more : (rs : Refs) (i : ℕ) (d : Bor (List ℕ)) → i < length rs → oids (plain_oids (take (i + 1) rs)) ≡ oids (plain_oids (take i rs)) ++ element 0x06 (get_or rs i d).now
unfolding oids
row_more rs i d l = simp (take_more rs i d l, map-append, flat_map-append, append-nil)

pub row_split : (rs : Refs) (i : ℕ) (d : Bor (List ℕ)) → i < length rs
    → oids (plain_oids rs) ≡ oids (plain_oids (take i rs)) ++ (element 0x06 (get_or rs i d).now ++ oids (plain_oids (drop (suc i) rs)))
unfolding oids
row_split rs i d l = ap (λ v. oids (plain_oids v)) (split_at rs i d l) ∙ simp (map-append, flat_map-append)

-- an object identifier of a list that can be written
row_fits : (rs : Refs) (i : ℕ) (d : Bor (List ℕ)) → i < length rs → length (oids (plain_oids rs)) < 65536 → length (get_or rs i d).now < 65536
row_fits rs i d l s =
    let e = ap length (row_split rs i d l) in
    let n = length-element 0x06 (get_or rs i d).now in
    omega (arith, simp length-append at e)

-- one more is written
pub row_again : (rs : Refs) (i : ℕ) (d : Bor (List ℕ)) {w m v : Writer} → i < length rs → length (oids (plain_oids rs)) < 65536
    → Adds (oids (plain_oids (take i rs))) w m (Ok tt) → Puts (length (get_or rs i d).now < 65536) (element 0x06 (get_or rs i d).now) m v (Ok tt)
    → Adds (oids (plain_oids (take (i + 1) rs))) w v (Ok tt)
row_again rs i d l s p q = rw (row_more rs i d l) (adds_then p (adds (row_fits rs i d l s) q))

pub row_refused : (rs : Refs) (i : ℕ) (d : Bor (List ℕ)) {w m v : Writer} {e : Fault} {r : Result (Unit {0}) Fault} → i < length rs → length (oids (plain_oids rs)) < 65536
    → Adds (oids (plain_oids (take i rs))) w m (Ok tt) → Puts (length (get_or rs i d).now < 65536) (element 0x06 (get_or rs i d).now) m v (Err e)
    → Adds (oids (plain_oids rs)) w v r
row_refused rs i d l s p q = rw (row_split rs i d l) (adds_then p (adds_refused _ (adds (row_fits rs i d l s) q)))

-- the whole list
pub record ListSizes (os : List (List ℕ)) (n : ℕ) : Type 0 where
  pub good : GoodList os
  pub body : n ≡ length (oids os)
  pub fits : n < 65536
  pub token : element_len n ≡ Ok (length (mech_type_list os))

pub list_sizes : (os : List (List ℕ)) (body : ℕ) → Ok body ≡ oids_len_from 0 os → ListSizes os body
unfolding mech_type_list
list_sizes os body r =
    let p = measured _ _ (oids_len_from 0 os) body (list_measures os) (sym r) in
    record { good = p.0; body = p.1; fits = omega (arith, p.0.short, p.1); token = ap element_len p.1 ∙ element_len_lem 0x30 (oids os) p.0.short }

-- What it tells that data may be sealed, and that a MIC was accepted.
use Rattle.std.proofs.Common.{◌≡◌, ℕ, ◌≤◌, Bool, true, false, cond, ltb, List, length, is_ok, Ok, Err, Result, sym, refl, ap, ◌∙◌}
use Rattle.mechanism.specs.Laws.{LawfulSealing}
use Rattle.mechanism.specs.Meaning.{Sealing}
use Rattle.mechanism.specs.Promises.{refusal, may_seal, make_answer, check_answer, Carries}
use Rattle.sspi.specs.Faults.{and_then}
use Rattle.sspi.specs.declared.error_kind.ErrorKind.TheVariants.{InvalidParameter, NoContext, MessageAltered}
use Rattle.sspi.specs.declared.fault.Fault.{Fault}
use Rattle.std.proofs.lemmas.Bool.{ltb-false}

-- an answer behind the tests: both were passed
pub passed : {X : Type 0} (up : Bool) (x : List ℕ) (r : Result X Fault) (v : X) → and_then (may_seal up x) (λ _. r) ≡ Ok v → (up ≡ true) × (length x ≤ 128) × (r ≡ Ok v)
passed {X} up x r v h = by (ltb 128 (length x)) up refl h
  where
    by : (t u : Bool) → ltb 128 (length x) ≡ t → and_then (cond t (Err (refusal InvalidParameter)) (cond u (Ok (tt {0})) (Err (refusal NoContext)))) (λ _. r) ≡ Ok v
        → (u ≡ true) × (length x ≤ 128) × (r ≡ Ok v)
    by true u e k = cc
    by false true e k = (refl, ltb-false 128 (length x) e, k)
    by false false e k = cc

pub may_short : (up : Bool) (x : List ℕ) (u : Unit {0}) → Ok u ≡ may_seal up x → length x ≤ 128
may_short up x u h = (passed up x (Ok u) u (ap (λ v. and_then v (λ _. Ok u)) (sym h))).1

taken : (b : Bool) (u : Unit {0}) → cond b (Ok (tt {0})) (Err (refusal MessageAltered)) ≡ Ok u → b ≡ true
taken true u h = refl
taken false u h = cc

-- a MIC that was made and then accepted was made over the same data
pub same_data : {S : Type 0} (m : Sealing S) → LawfulSealing m → (s t : S) (x y mic : List ℕ) (u : Unit {0}) → make_answer m s x ≡ Ok mic → check_answer m t y mic ≡ Ok u → x ≡ y
same_data m law s t x y mic u h k =
    let p = passed (m.up s) x (Ok (m.made s x)) mic h in
    let q = passed (m.up t) y _ u k in
    let e : m.made s x ≡ mic = cc p.2 in
    law.binds s t x y (p.0, p.1) (q.0, q.1) (ap (m.takes t y) e ∙ taken (m.takes t y mic) u q.2)

pub carries : {S : Type 0} (m : Sealing S) (s t s' t' : S) (x y mic : List ℕ) (r : Result (Unit {0}) Fault) → make_answer m s x ≡ Ok mic → s' ≡ m.make_next s x → t' ≡ m.check_next t y mic
    → check_answer m t y mic ≡ r → Carries m s t x y s' t' r
carries m s t s' t' x y mic r h a b k =
    let p = passed (m.up s) x (Ok (m.made s x)) mic h in
    let e : m.made s x ≡ mic = cc p.2 in
    record {
      maker = a;
      checker = b ∙ (ap (m.check_next t y) (sym e) ∙ sym (ap (λ v. cond (is_ok v) (m.check_next t y (m.made s x)) t) h));
      answer = sym (ap (λ v. and_then v (λ w. check_answer m t y w)) h ∙ k);
    }

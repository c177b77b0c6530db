-- The lists that an initiator offers are legal and short.
use Rattle.std.proofs.Common.{◌≡◌, ℕ, ◌<◌, ◌≤◌, Bool, true, false, ◌||◌, List, length, Err, Result, sym, refl, ◌∙◌, subst, true≢false, arith}
use Rattle.sspi.specs.declared.fault.Fault.{Fault}
use Rattle.der.specs.Elements.{element, header, oid}
use Rattle.der.specs.Promises.{Writes}
use Rattle.mech_types.specs.Lists.{oids, mech_type_list, all_oids, GoodList}
use Rattle.generators.specs.Sending.{offered, offer, Offers, nothing_to_offer}

good : (os : List (List ℕ)) → all_oids os ≡ true → length (oids os) < 65536 → GoodList os
good os a l = record { all = a; short = l }

pub offer_good : (k n : Bool) → GoodList (offered k n)
unfolding oids all_oids element header oid
offer_good true true = let e : length (oids (offered true true)) ≡ 34 = refl in good (offered true true) refl (omega arith)
offer_good true false = let e : length (oids (offered true false)) ≡ 22 = refl in good (offered true false) refl (omega arith)
offer_good false true = let e : length (oids (offered false true)) ≡ 12 = refl in good (offered false true) refl (omega arith)
offer_good false false = let e : length (oids (offered false false)) ≡ 0 = refl in good (offered false false) refl (omega arith)

pub offer_size : (k n : Bool) → length (offer k n) ≤ 36
unfolding mech_type_list oids element header
offer_size true true = let e : length (offer true true) ≡ 36 = refl in omega arith
offer_size true false = let e : length (offer true false) ≡ 24 = refl in omega arith
offer_size false true = let e : length (offer false true) ≡ 14 = refl in omega arith
offer_size false false = let e : length (offer false false) ≡ 2 = refl in omega arith

-- k and n are what they are at this arm of the match
pub offers : (k n a b : Bool) (os : List (List ℕ)) (out after : List ℕ) (r : Result ℕ Fault) → k ≡ a → n ≡ b → (a || b) ≡ true → os ≡ offered a b
    → Writes (GoodList os) (mech_type_list os) out after r → Offers k n out after r
offers k n a b os out after r p q some e w =
    let o : offered a b ≡ offered k n = rw (p, q) refl in
    let t : (k || n) ≡ true = rw (p, q) some in
    let v = subst (λ (l : List (List ℕ)). Writes (GoodList l) (mech_type_list l) out after r) (e ∙ o) w in
    record {
      none = λ h. absurd (true≢false (sym t ∙ h));
      some = λ _. record { unfit = λ h. absurd (h tt); short = λ _ l. v.short (offer_good k n) l; written = λ _ l. v.written (offer_good k n) l };
      size = offer_size k n;
    }

pub offers_none : (k n : Bool) (out after : List ℕ) → k ≡ false → n ≡ false → after ≡ out → Offers k n out after (Err nothing_to_offer)
offers_none k n out after p q h = record { none = λ _. (refl, h); some = λ s. absurd (true≢false (sym s ∙ rw (p, q) refl)); size = offer_size k n }

-- What ladders do with each other's MICs at the top.
use Rattle.std.proofs.Common.{◌≡◌, ℕ, ◌≤◌, Bool, true, false, cond, ◌&&◌, ltb, leb, List, ◌∷◌, ◌++◌, length, take, drop, Some, Ok, Err, Result, sym, refl, ap, ◌∙◌, subst, arith, length-append, length-take}
use Rattle.std.proofs.lemmas.Bool.{eq-eqb, cond-true, cond-false, cond_both, le-ltb, leb-true, and_from, and_parts}
use Rattle.std.proofs.lemmas.List.{length-replicate, take_at, drop_at, take_all}
use Rattle.std.proofs.lemmas.Slice.Eq.{bytes_eq-Decides}
use Rattle.std.specs.Str.{bytes_eq}
use Rattle.climb.proofs.Legs.{client_at, server_at}
use Rattle.climb.proofs.Rounds.{Standing, begun, climbing, over}
use Rattle.climb.specs.Tops.{carried, Agree, agrees, exchanged, AtTop}
use Rattle.ladder.proofs.Paddings.{padded_whole}
use Rattle.ladder.specs.Keys.{key_of}
use Rattle.ladder.specs.Mics.{ladder_sealing, side_byte}
use Rattle.ladder.specs.Rungs.{legs_of}
use Rattle.ladder.specs.Steps.{name_in}
use Rattle.ladder.specs.declared.Ladder.{Ladder}
use Rattle.mechanism.proofs.Paddings.{take_padded}
use Rattle.mechanism.proofs.Sealable.{passed}
use Rattle.mechanism.specs.Identities.{Who, who, cut}
use Rattle.mechanism.specs.Paddings.{padded}
use Rattle.mechanism.specs.Promises.{refusal, may_seal, check_answer}
use Rattle.mechanism.specs.declared.identity.Identity.{Identity}
use Rattle.mechanism.specs.declared.mechanism.Side.TheVariants.{Client, Server}
use Rattle.sspi.specs.Faults.{and_then}
use Rattle.sspi.specs.declared.error_kind.ErrorKind.TheVariants.{MessageAltered}
use Rattle.sspi.specs.declared.fault.Fault.{Fault}

length-padded : (n : ℕ) (xs : List ℕ) → length (padded n xs) ≡ n
unfolding padded
length-padded n xs = simp (length-append, length-take, length-replicate) (omega arith)

-- a key is whole
key_key : (xs : List ℕ) → key_of (key_of xs) ≡ key_of xs
key_key xs = padded_whole 8 (key_of xs) (length-padded 8 xs)

-- byte strings with fronts of one length are equal where their fronts and their backs are
fronts : (k l : List ℕ) (b : ℕ) (x y : List ℕ) → length k ≡ 8 → length l ≡ 8 → k ++ b ∷ x ≡ l ++ b ∷ y → (k ≡ l) × (x ≡ y)
fronts k l b x y f g e =
    let d : b ∷ x ≡ b ∷ y = sym (drop_at k (b ∷ x) 8 f) ∙ (ap (λ v. drop 8 v) e ∙ drop_at l (b ∷ y) 8 g) in
    (sym (take_at k (b ∷ x) 8 f) ∙ (ap (λ v. take 8 v) e ∙ take_at l (b ∷ y) 8 g), cc)

-- s makes MICs with the key of k, and t takes those with the key of l; b stands for the side of s
pub record Speak (s t : Ladder) (k l : List ℕ) (b : ℕ) : Type 0 where
  pub up : ladder_sealing.up s ≡ true
  pub up_too : ladder_sealing.up t ≡ true
  pub made : (x : List ℕ) → ladder_sealing.made s x ≡ key_of k ++ b ∷ x
  pub takes : (x y : List ℕ) → ladder_sealing.takes t x y ≡ bytes_eq (key_of l ++ b ∷ x) y

may_ok : (up : Bool) (x : List ℕ) → up ≡ true → length x ≤ 128 → may_seal up x ≡ Ok tt
may_ok up x e h = cond-false (ltb 128 (length x)) _ _ (le-ltb 128 (length x) h) ∙ cond-true up _ _ e

taken : (b : Bool) → cond b (Ok (tt {0})) (Err (refusal MessageAltered)) ≡ Ok tt → b ≡ true
taken true h = refl
taken false h = cc

-- the answer by identities and data is an acceptance where key and data agree
agree_from : (i j : Who) (x y : List ℕ) → exchanged i j x y ≡ Ok tt → Agree i j x y
agree_from i j x y h =
    let p = passed true x (and_then (may_seal true y) (λ _. cond (agrees i j x y) (Ok tt) (Err (refusal MessageAltered)))) tt h in
    let q = passed true y (cond (agrees i j x y) (Ok tt) (Err (refusal MessageAltered))) tt p.2 in
    let u = and_parts (bytes_eq (key_of i.secret) (key_of j.secret)) (bytes_eq x y) (taken (agrees i j x y) q.2) in
    record { keys = (bytes_eq-Decides (key_of i.secret) (key_of j.secret)).0 u.0; same = (bytes_eq-Decides x y).0 u.1; short = p.1 }

agree_to : (i j : Who) (x y : List ℕ) → Agree i j x y → exchanged i j x y ≡ Ok tt
agree_to i j x y a =
    let l : length y ≤ 128 = subst (λ v. length v ≤ 128) a.same a.short in
    let b : agrees i j x y ≡ true = and_from _ _ ((bytes_eq-Decides (key_of i.secret) (key_of j.secret)).1 a.keys) ((bytes_eq-Decides x y).1 a.same) in
    ap (λ v. and_then v (λ _. and_then (may_seal true y) (λ _. cond (agrees i j x y) (Ok tt) (Err (refusal MessageAltered))))) (may_ok true x refl a.short)
    ∙ (ap (λ v. and_then v (λ _. cond (agrees i j x y) (Ok tt) (Err (refusal MessageAltered)))) (may_ok true y refl l) ∙ cond-true _ _ _ b)

-- tests that each follow from the other are the same
same_test : (a b : Bool) → (a ≡ true → b ≡ true) → (b ≡ true → a ≡ true) → a ≡ b
same_test true b f g = sym (f refl)
same_test false true f g = g refl
same_test false false f g = refl

-- the MIC is taken where key and data agree
mic_test : (i j : Who) (b : ℕ) (x y : List ℕ) → bytes_eq (key_of j.secret ++ b ∷ y) (key_of i.secret ++ b ∷ x) ≡ agrees i j x y
mic_test i j b x y =
    let k = key_of i.secret in
    let l = key_of j.secret in
    same_test _ _
    (λ h.
    let f = fronts l k b y x (length-padded 8 j.secret) (length-padded 8 i.secret) ((bytes_eq-Decides (l ++ b ∷ y) (k ++ b ∷ x)).0 h) in
    and_from _ _ ((bytes_eq-Decides k l).1 (sym f.0)) ((bytes_eq-Decides x y).1 (sym f.1)))
    (λ h.
    let u = and_parts (bytes_eq k l) (bytes_eq x y) h in
    let e : l ≡ k = sym ((bytes_eq-Decides k l).0 u.0) in
    let f : y ≡ x = sym ((bytes_eq-Decides x y).0 u.1) in
    (bytes_eq-Decides (l ++ b ∷ y) (k ++ b ∷ x)).1 (ap (λ v. v ++ b ∷ y) e ∙ ap (λ v. k ++ b ∷ v) f))

agree_back : (i j : Who) (x y : List ℕ) → agrees j i x y ≡ agrees i j x y
agree_back i j x y =
    ap (λ v. v && bytes_eq x y)
    (same_test _ _
    (λ h. (bytes_eq-Decides (key_of i.secret) (key_of j.secret)).1 (sym ((bytes_eq-Decides (key_of j.secret) (key_of i.secret)).0 h)))
    (λ h. (bytes_eq-Decides (key_of j.secret) (key_of i.secret)).1 (sym ((bytes_eq-Decides (key_of i.secret) (key_of j.secret)).0 h))))

then_once : {X Y Z : Type 0} (r : Result X Fault) (m : Y) (f : Y → Result Z Fault) → and_then (and_then r (λ _. Ok m)) f ≡ and_then r (λ _. f m)
then_once (Ok a) m f = refl
then_once (Err e) m f = refl

-- what is answered to a MIC, by identities and data alone
answers : (s t : Ladder) (i j : Who) (b : ℕ) (x y : List ℕ) → Speak s t i.secret j.secret b → carried s t x y ≡ exchanged i j x y
answers s t i j b x y p =
    let m = ladder_sealing.made s x in
    let e : ladder_sealing.takes t y m ≡ agrees i j x y = p.takes y m ∙ (ap (λ v. bytes_eq (key_of j.secret ++ b ∷ y) v) (p.made x) ∙ mic_test i j b x y) in
    then_once (may_seal (ladder_sealing.up s) x) m (λ mic. check_answer ladder_sealing t y mic)
    ∙ (ap (λ u. and_then (may_seal u x) (λ _. check_answer ladder_sealing t y m)) p.up
    ∙ (ap (λ u. and_then (may_seal true x) (λ _. and_then (may_seal u y) (λ _. cond (ladder_sealing.takes t y m) (Ok tt) (Err (refusal MessageAltered))))) p.up_too
    ∙ ap (λ v. and_then (may_seal true x) (λ _. and_then (may_seal true y) (λ _. cond v (Ok tt) (Err (refusal MessageAltered))))) e))

to_server : (n : ℕ) (i j : Who) → Speak (client_at n i n) (server_at n j n Server (Some (cut i.account))) i.secret j.secret (side_byte Client)
to_server n i j = record {
  up = eq-eqb n n refl;
  up_too = eq-eqb n n refl;
  made = λ x. ap (λ v. v ++ side_byte Client ∷ x) (key_key i.secret);
  takes = λ x y. ap (λ v. bytes_eq (v ++ side_byte Client ∷ x) y) (key_key j.secret);
}

to_client : (n : ℕ) (i j : Who) → Speak (server_at n j n Server (Some (cut i.account))) (client_at n i n) j.secret i.secret (side_byte Server)
to_client n i j = record {
  up = eq-eqb n n refl;
  up_too = eq-eqb n n refl;
  made = λ x. ap (λ v. v ++ side_byte Server ∷ x) (key_key j.secret);
  takes = λ x y. ap (λ v. bytes_eq (v ++ side_byte Server ∷ x) y) (key_key i.secret);
}

known : (xs : List ℕ) → length xs ≤ 64 → name_in (Some (cut xs)) ≡ Ok xs
known xs h = ap Ok (take_padded 64 xs ∙ take_all 64 xs h)

at_top_lem : (n : ℕ) (i j : Who) → length i.account ≤ 64 → AtTop n i j (client_at n i n) (server_at n j n Server (Some (cut i.account)))
at_top_lem n i j h =
    let c = client_at n i n in
    let s = server_at n j n Server (Some (cut i.account)) in
    let up : (x y : List ℕ) → carried c s x y ≡ exchanged i j x y = λ x y. answers c s i j (side_byte Client) x y (to_server n i j) in
    let down : (x y : List ℕ) → carried s c x y ≡ exchanged i j x y =
    λ x y.
    answers s c j i (side_byte Server) x y (to_client n i j)
    ∙ ap (λ v. and_then (may_seal true x) (λ _. and_then (may_seal true y) (λ _. cond v (Ok tt) (Err (refusal MessageAltered))))) (agree_back i j x y)
    in
    record {
      client_top = refl;
      server_top = refl;
      client_up = eq-eqb n n refl;
      server_up = eq-eqb n n refl;
      client_named = known i.account h;
      server_named = known i.account h;
      server_answers = up;
      client_answers = down;
      server_takes = λ x y. ((λ t. agree_from i j x y (sym (up x y) ∙ t)), (λ a. up x y ∙ agree_to i j x y a));
      client_takes = λ x y. ((λ t. agree_from i j x y (sym (down x y) ∙ t)), (λ a. down x y ∙ agree_to i j x y a));
    }

-- five rounds suffice
pub reached : (n : ℕ) (i j : Who) (k : ℕ) (c s : Ladder) (t : List ℕ) → length i.account ≤ 64 → n ≤ 8 → k ≡ 5 → Standing n i j k c s t → AtTop n i j c s
reached n i j k c s t h m q (begun z a b e) = absurd (omega arith)
reached n i j k c s t h m q (climbing g d p u a b e) = absurd (omega arith)
reached n i j k c s t h m q (over u a b e) = rw (a, b) (at_top_lem n i j h)

pub legs_between : (n : ℕ) → (1 ≤ legs_of n) × (legs_of n ≤ 8)
legs_between n =
    cond_both (leb 1 n && leb n 8) n 8 (λ m. (1 ≤ m) × (m ≤ 8))
    (λ h. let p = and_parts (leb 1 n) (leb n 8) h in (leb-true 1 n p.0, leb-true n 8 p.1))
    (λ h. (omega arith, omega arith))

pub account_short : (i : Identity) → length (who i).account ≤ 64
account_short i =
    let f : i.account.len ≤ 64 = i.account.fits in
    simp length-take (omega arith)

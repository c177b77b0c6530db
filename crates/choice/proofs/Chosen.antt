-- A choice means what it should: a mechanism that may be chosen, where it is listed first; and a refusal that none is there.
use Rattle.std.proofs.Common.{◌≡◌, ℕ, zero, suc, ◌+◌, ◌<◌, Bool, true, false, cond, List, [], ◌∷◌, Some, None, Ok, Err, Option, Result, sym, refl, ap, ◌∙◌, subst, arith}
use Rattle.std.specs.Str.{bytes_eq}
use Rattle.std.proofs.lemmas.Slice.Eq.{bytes_eq-Decides}
use Rattle.sspi.specs.declared.fault.Fault.{Fault}
use Rattle.names.specs.Names.{mech_oid, mech_number}
use Rattle.names.specs.declared.mech.Mech.{Mech}
use Rattle.names.specs.declared.mech.Mech.TheVariants.{Spnego, MsKrb5, Krb5, Ntlm}
use Rattle.packages.specs.Filter.{is_open}
use Rattle.packages.specs.declared.package_list.PackageListConfig.{PackageListConfig}
use Rattle.packages.specs.declared.protocol.Protocol.{Protocol}
use Rattle.choice.specs.Choosing.{place_from, place_of, standing, found, chosen_of, preferred, runs_after}
use Rattle.choice.specs.Promises.{Listed, NotListed, Picks, Choice}
use Rattle.choice.specs.Rules.{eligible, protocol_of, no_mechanism}

abbrev Oids : Type 0
Oids = List (List ℕ)

-- the place that is found, counted from n, is the first
abbrev Found : List ℕ → Oids → ℕ → ℕ → Type 0
Found oid os n i = (j : ℕ) × (i ≡ n + j) × Listed oid os j × ((k : ℕ) → k < j → Listed oid os k → ⊥)

later : (oid o : List ℕ) (os : Oids) (n i : ℕ) → bytes_eq o oid ≡ false → Found oid os (n + 1) i → Found oid (o ∷ os) n i
later oid o os n i h (j, e, s, first) =
    (suc j, omega arith, (let l = s.0 in omega arith, s.1), before)
  where
    before : (k : ℕ) → k < suc j → Listed oid (o ∷ os) k → ⊥
    before zero l x = cc ((bytes_eq-Decides o oid).1 x.1, h)
    before (suc k) l x = first k (omega arith) (let m = x.0 in omega arith, x.1)

pub place_found : (oid : List ℕ) (os : Oids) (n i : ℕ) → place_from n oid os ≡ Some i → Found oid os n i
place_found oid [] n i e = cc (e)
place_found oid (o ∷ os) n i e =
    elim (bytes_eq o oid) as (λ t. bytes_eq o oid ≡ t → cond t (Some n) (place_from (n + 1) oid os) ≡ Some i → Found oid (o ∷ os) n i) [
      | true ↦ λ h s. let m : n ≡ i = cc (s) in (0, omega arith, (omega arith, (bytes_eq-Decides o oid).0 h), λ k l. absurd (omega arith))
      | false ↦ λ h s. later oid o os n i h (place_found oid os (n + 1) i s)
    ] refl e

pub place_none : (oid : List ℕ) (os : Oids) (n : ℕ) → place_from n oid os ≡ None → NotListed oid os
place_none oid [] n e = λ i x. let l = x.0 in absurd (omega arith)
place_none oid (o ∷ os) n e = by (bytes_eq o oid) refl e (place_none oid os (n + 1))
  where
    by : (t : Bool) → bytes_eq o oid ≡ t → cond t (Some n) (place_from (n + 1) oid os) ≡ None → (place_from (n + 1) oid os ≡ None → NotListed oid os) → NotListed oid (o ∷ os)
    by true h s rest i x = cc (s)
    by false h s rest zero x = cc ((bytes_eq-Decides o oid).1 x.1, h)
    by false h s rest (suc i) x = rest s i (let l = x.0 in omega arith, x.1)

-- a mechanism that stands somewhere may be chosen and is listed there
stands : (b : Bool) (p : Option ℕ) (i : ℕ) → cond b p None ≡ Some i → (b ≡ true) × (p ≡ Some i)
stands b p i e = grind arith

-- the protocol of a mechanism that may be chosen runs after the choice, and its package is open
runs : (on : PackageListConfig) (running : Protocol) (m : Mech) → eligible on running m ≡ true → (protocol_of m ≡ Some (runs_after (mech_number m) running)) × (is_open on (runs_after (mech_number m) running) ≡ true)
runs on running m h = grind arith

picks : (os : Oids) (on : PackageListConfig) (running : Protocol) (m : Mech) (i : ℕ) → standing os on running m ≡ Some i → Picks os on running m (mech_number m) i
picks os on running m i e =
    let s = stands (eligible on running m) (place_of (mech_oid m) os) i e in
    let f = place_found (mech_oid m) os 0 i s.1 in
    let same : f.0 ≡ i = let g = f.1 in omega arith in
    let r = runs on running m s.0 in
    record { number = refl; listed = subst (Listed (mech_oid m) os) same f.2; first = λ j l. f.3 j (omega arith); may = s.0; belongs = r.0; stays = r.1 }

accepted : (os : Oids) (on : PackageListConfig) (running : Protocol) (ms : List Mech) (n i : ℕ) → chosen_of ms os on running ≡ Ok (n, i) → (m : Mech) × Picks os on running m n i
accepted os on running [] n i e = cc (e)
accepted os on running (m ∷ ms) n i e =
    elim (standing os on running m) as (λ p. standing os on running m ≡ p → found m p (chosen_of ms os on running) ≡ Ok (n, i) → (m' : Mech) × Picks os on running m' n i) [
      | Some j ↦ λ h s. let q : (mech_number m, j) ≡ (n, i) = cc (s) in let P : ℕ × ℕ → Type 0 = λ x. Picks os on running m x.0 x.1 in (m, subst P q (picks os on running m j h))
      | None ↦ λ h s. accepted os on running ms n i s
    ] refl e

nowhere : (os : Oids) (on : PackageListConfig) (running : Protocol) (m : Mech) → standing os on running m ≡ None → eligible on running m ≡ true → NotListed (mech_oid m) os
nowhere os on running m s h = place_none (mech_oid m) os 0 (sym (ap (λ b. cond b (place_of (mech_oid m) os) None) h) ∙ s)

refused_at : (m : Mech) (p : Option ℕ) (r : Result (ℕ × ℕ) Fault) (e : Fault) → found m p r ≡ Err e → (p ≡ None) × (r ≡ Err e)
refused_at m (Some i) r e h = cc (h)
refused_at m None r e h = (refl, h)

refused : (os : Oids) (on : PackageListConfig) (running : Protocol) (e : Fault) → chosen_of preferred os on running ≡ Err e
    → (e ≡ no_mechanism) × ((m : Mech) → eligible on running m ≡ true → NotListed (mech_oid m) os)
refused os on running e h =
    let a = refused_at MsKrb5 (standing os on running MsKrb5) _ e h in
    let b = refused_at Krb5 (standing os on running Krb5) _ e a.1 in
    let c = refused_at Ntlm (standing os on running Ntlm) _ e b.1 in
    (cc c.1, elim [ Spnego ↦ λ may. cc (may) | MsKrb5 ↦ nowhere os on running MsKrb5 a.0 | Krb5 ↦ nowhere os on running Krb5 b.0 | Ntlm ↦ nowhere os on running Ntlm c.0 ])

pub chosen_means : (os : Oids) (on : PackageListConfig) (running : Protocol) (r : Result (ℕ × ℕ) Fault) → r ≡ chosen_of preferred os on running → Choice os on running r
chosen_means os on running r e = record { accepted = λ n i h. accepted os on running preferred n i (sym e ∙ h); refused = λ f h. refused os on running f (sym e ∙ h) }

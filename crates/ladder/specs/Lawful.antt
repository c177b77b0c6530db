-- Proofs of the laws of the steps.
use Rattle.std.proofs.Common.{◌≡◌, ℕ, ◌+◌, ◌≤◌, eqb, ltb, List, [], length, Some, None, Ok, Err, Option, sym, refl, ap, zero-le, arith, length-take}
use Rattle.ladder.specs.Givens.{Given, given}
use Rattle.ladder.specs.Mics.{ladder_sealing}
use Rattle.ladder.specs.Rungs.{started, accepted, called}
use Rattle.ladder.specs.Steps.{Outcome, refused, climbed, onward, walked, stepped, rests, begins, is_leg, topped, leg_bytes, status_at, name_heard, name_in, allowed_next, ladder_stepping}
use Rattle.ladder.specs.declared.Ladder.{Ladder}
use Rattle.mechanism.specs.Identities.{held}
use Rattle.mechanism.specs.Laws.{LawfulStepping, OfMechanism, too_small}
use Rattle.mechanism.specs.Promises.{refusal}
use Rattle.mechanism.specs.declared.identity.Part.{Part}
use Rattle.sspi.specs.declared.error_kind.ErrorKind.{ErrorKind}
use Rattle.sspi.specs.declared.error_kind.ErrorKind.TheVariants.{NoContext, BufferTooSmall, IllegalMessage}
use Rattle.sspi.specs.declared.fault.Fault.{Fault}
use Rattle.sspi.specs.declared.security_status.SecurityStatus.{SecurityStatus}
use Rattle.sspi.specs.declared.security_status.SecurityStatus.TheVariants.{Ok as Done}
use Rattle.std.proofs.lemmas.Bool.{cond_both, ltb-false}

refusal_layer : {X : Type 0} (k : ErrorKind) → OfMechanism {X = X} (Err (refusal k))
refusal_layer {X} k e h =
    let f : refusal k ≡ e = cc in
    ap (λ (g : Fault). g.layer) (sym f)

ok_layer : {X : Type 0} (x : X) → OfMechanism (Ok x)
ok_layer x e h = cc

-- what the laws ask of a step from a state with a working buffer of a length
record Fine (s : Ladder) (w : ℕ) (o : Outcome) : Type 0 where
  fits : (st : SecurityStatus) (token : List ℕ) → o.answer ≡ Ok (st, token) → length token ≤ w
  layer : OfMechanism o.answer
  small : o.answer ≡ Err too_small → s ≡ o.next

fine_refused : (s : Ladder) (w : ℕ) (k : ErrorKind) → Fine s w (refused s k)
fine_refused s w k = record {
  fits = λ st token h. cc;
  layer = refusal_layer k;
  small = λ h. refl;
}

fine_ok : (s t : Ladder) (w : ℕ) (st : SecurityStatus) (token : List ℕ) → length token ≤ w → Fine s w (record { next = t; answer = Ok (st, token) })
fine_ok s t w st token l = record {
  fits = λ st' token' h.
      (let p : ◌≡◌ {A = SecurityStatus × List ℕ} (st, token) (st', token') = cc in
      let e : length token ≡ length token' = ap (λ (q : SecurityStatus × List ℕ). length q.1) p in
      omega arith);
  layer = ok_layer (st, token);
  small = λ h. cc;
}

fine_climbed : (s : Ladder) (g : Given) (w n : ℕ) → Fine s w (climbed s g w n)
fine_climbed s g w n =
    cond_both (ltb w (length (leg_bytes g n))) _ _ (Fine s w)
    (λ _. fine_refused s w BufferTooSmall)
    (λ h. fine_ok s (called (accepted s g n) (name_heard g.by g.account g.input)) w (status_at n s.legs) (leg_bytes g n) (ltb-false w (length (leg_bytes g n)) h))

fine_onward : (s : Ladder) (g : Given) (w n : ℕ) → Fine s w (onward s g w n)
fine_onward s g w n =
    cond_both (eqb n s.legs) _ _ (Fine s w) (λ _. fine_ok s (topped s g) w Done [] zero-le) (λ _. fine_climbed s g w (n + 1))

fine_walked : (s : Ladder) (g : Given) (w : ℕ) → Fine s w (walked s g w)
fine_walked s g w =
    cond_both (rests s g.input) _ _ (Fine s w) (λ _. fine_ok s (accepted s g s.height) w Done [] zero-le)
    (λ _. cond_both (begins s g.by) _ _ (Fine s w) (λ _. fine_onward s g w 0)
    (λ _. cond_both (is_leg s g) _ _ (Fine s w) (λ _. fine_onward s g w (s.height + 1)) (λ _. fine_refused s w IllegalMessage)))

name_short : (o : Option Part) (name : List ℕ) → name_in o ≡ Ok name → length name ≤ 64
name_short None name h = cc
name_short (Some p) name h =
    let e : held p ≡ name = cc in
    let f : p.len ≤ 64 = p.fits in
    rw (← e) (simp length-take (omega arith))

name_layer_lem : (o : Option Part) → OfMechanism (name_in o)
name_layer_lem None = refusal_layer NoContext
name_layer_lem (Some p) = ok_layer (held p)

pub ladder_lawful_steps : LawfulStepping ladder_sealing ladder_stepping
ladder_lawful_steps = record {
  fits = λ s by _ i x w st token h. (fine_walked s (given by i x) w).fits st token h;
  named = λ s name h. name_short s.account name h;
  step_layer = λ s by _ i x w. (fine_walked s (given by i x) w).layer;
  name_layer = λ s. name_layer_lem s.account;
  allow_layer = λ _ _ _. ok_layer tt;
  too_small = λ s by _ i x w h. (fine_walked s (given by i x) w).small h;
  fresh = λ s t _ e. ap (λ (u : Ladder). started u.legs) e;
  step = λ s t by _ i x w e. ap (λ (u : Ladder). (stepped u by i x w).next) e;
  stepped = λ s t by _ i x w e. ap (λ (u : Ladder). (stepped u by i x w).answer) e;
  name = λ s t e. ap (λ (u : Ladder). name_in u.account) e;
  allow = λ s t i anew e. ap (λ (u : Ladder). allowed_next u i.secret anew) e;
  allowed = λ _ _ _ _ _. refl;
}

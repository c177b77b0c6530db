-- The rounds of a climb: how both ladders stand after each, and that no step is refused.
use Rattle.std.proofs.Common.{◌≡◌, ℕ, ◌+◌, ◌*◌, ◌<◌, ◌≤◌, List, [], ◌∷◌, length, take, Some, None, Ok, Err, Option, Result, sym, refl, ap, ◌∙◌, subst, ⊎_elim, arith}
use Rattle.std.proofs.lemmas.Bool.{cases_lt}
use Rattle.climb.proofs.Legs.{client_at, server_at, client_rests, server_rests, client_begins, client_tops, server_tops, client_answers, server_answers}
use Rattle.ladder.specs.Rungs.{started, allowing}
use Rattle.ladder.specs.Steps.{Outcome, stepped, ladder_stepping}
use Rattle.ladder.specs.declared.Ladder.{Ladder}
use Rattle.mechanism.specs.Identities.{Who, cut}
use Rattle.mechanism.specs.Promises.{Steps, Within, step_front}
use Rattle.mechanism.specs.declared.identity.Part.{Part}
use Rattle.mechanism.specs.declared.mechanism.Side.{Side}
use Rattle.mechanism.specs.declared.mechanism.Side.TheVariants.{Client, Server}
use Rattle.sspi.specs.declared.fault.Fault.{Fault}
use Rattle.sspi.specs.declared.security_status.SecurityStatus.{SecurityStatus}

-- After k rounds the server stands at the smaller of 2k and n and the client one leg below 2k, or at n; the server has sent leg 2k, if
-- there is one.
pub data Standing (n : ℕ) (i j : Who) (k : ℕ) (c s : Ladder) (t : List ℕ) : Type 0 where
  begun : k ≡ 0 → c ≡ started n → s ≡ allowing (started n) j.secret → t ≡ [] → Standing n i j k c s t
  climbing : (h : ℕ) → h + 1 ≡ 2 * k → 1 ≤ h → h + 1 ≤ n → c ≡ client_at n i h → s ≡ server_at n j (h + 1) Server (Some (cut i.account)) → t ≡ (h + 1) ∷ [] → Standing n i j k c s t
  over : n < 2 * k → c ≡ client_at n i n → s ≡ server_at n j n Server (Some (cut i.account)) → t ≡ [] → Standing n i j k c s t

-- After k rounds and the client's step of the next one: it has sent leg 2k + 1, if there is one.
pub data Midway (n : ℕ) (i j : Who) (k : ℕ) (c s : Ladder) (t : List ℕ) : Type 0 where
  called : (h : ℕ) (by : Side) (name : Option Part) → h ≡ 2 * k → h + 1 ≤ n → c ≡ client_at n i (h + 1) → s ≡ server_at n j h by name → t ≡ (h + 1) ∷ i.account → Midway n i j k c s t
  rested : n ≤ 2 * k → c ≡ client_at n i n → s ≡ server_at n j n Server (Some (cut i.account)) → t ≡ [] → Midway n i j k c s t

-- a step was accepted: what it leaves and sends is as P says
pub record Went (o : Outcome) (P : Ladder → List ℕ → Type 0) : Type 0 where
  pub status : SecurityStatus
  pub token : List ℕ
  pub answer : o.answer ≡ Ok (status, token)
  pub stands : P o.next token

pub went : (o : Outcome) (t : Ladder) (st : SecurityStatus) (token : List ℕ) (P : Ladder → List ℕ → Type 0) → o ≡ record { next = t; answer = Ok (st, token) } → P t token → Went o P
went o t st token P e p = record {
  status = st;
  token = token;
  answer = ap (λ (o : Outcome). o.answer) e;
  stands = rw e p;
}

-- the client's step
pub client_goes : (n : ℕ) (i j : Who) (k : ℕ) (c s : Ladder) (t : List ℕ) → 1 ≤ n → length i.account ≤ 64 → Standing n i j k c s t
    → Went (stepped c Client (Some i) t 65) (λ c' t'. Midway n i j k c' s t')
client_goes n i j k c s t l f (begun z a b e) =
    rw (a, e) (went _ _ _ _ _ (client_begins n i 65 l (omega arith)) (called 0 Client None (omega arith) l refl b refl))
client_goes n i j k c s t l f (climbing h d p m a b e) =
    rw (a, e) (⊎_elim
    (λ q.
    let r : h + 1 + 1 ≤ n = omega arith in
    went _ _ _ _ _ (client_answers n i 65 h p q (omega arith)) (called (h + 1) Server (Some (cut i.account)) d r refl b refl))
    (λ q.
    let r : h + 1 ≡ n = omega arith in
    went _ _ _ _ _ (client_tops n i 65 h p r) (rested (omega arith) refl (b ∙ ap (λ v. server_at n j v Server (Some (cut i.account))) r) refl))
    (cases_lt (h + 1) n))
client_goes n i j k c s t l f (over m a b e) =
    rw (a, e) (went _ _ _ _ _ (client_rests n i 65) (rested (omega arith) refl b refl))

-- the server's step
pub server_goes : (n : ℕ) (i j : Who) (k : ℕ) (c s : Ladder) (t : List ℕ) → length i.account ≤ 64 → Midway n i j k c s t
    → Went (stepped s Server None t 65) (λ s' t'. Standing n i j (k + 1) c s' t')
server_goes n i j k c s t f (called h by name d m a b e) =
    rw (b, e) (⊎_elim
    (λ q.
    let r : h + 1 + 1 ≤ n = omega arith in
    went _ _ _ _ _ (server_answers n i j 65 h by name q f (omega arith)) (climbing (h + 1) (omega arith) (omega arith) r a refl refl))
    (λ q.
    let r : h + 1 ≡ n = omega arith in
    went _ _ _ _ _ (server_tops n i j 65 h by name r f) (over (omega arith) (a ∙ ap (λ v. client_at n i v) r) refl refl))
    (cases_lt (h + 1) n))
server_goes n i j k c s t f (rested m a b e) =
    rw (b, e) (went _ _ _ _ _ (server_rests n j 65 (Some (cut i.account))) (over (omega arith) a refl refl))

-- a call of a step was not refused, and its token, in a buffer of 65 bytes, is as P says
pub record Took (r : Result (SecurityStatus × ℕ) Fault) (after : List ℕ) (P : List ℕ → Type 0) : Type 0 where
  pub no_fault : (e : Fault) → r ≡ Err e → ⊥
  pub short : (st : SecurityStatus) (m : ℕ) → r ≡ Ok (st, m) → m ≤ 65
  pub token : (st : SecurityStatus) (m : ℕ) → r ≡ Ok (st, m) → P (take m after)

took : (o : Outcome) (after : List ℕ) (P : Ladder → List ℕ → Type 0) (r : Result (SecurityStatus × ℕ) Fault) → Went o P → o.answer ≡ step_front r after → Within r 65 → Took r after (P o.next)
took o after P (Ok p) w a l = record {
  no_fault = λ e h. cc;
  short = λ st m h.
      (let x : ◌≡◌ {A = SecurityStatus × ℕ} p (st, m) = cc in
      let g : p.1 ≡ m = ap (λ (q : SecurityStatus × ℕ). q.1) x in
      omega arith);
  token = λ st m h.
      (let u : ◌≡◌ {A = SecurityStatus × List ℕ} (w.status, w.token) (p.0, take p.1 after) = (let v = w.answer in cc) in
      let x : ◌≡◌ {A = SecurityStatus × ℕ} p (st, m) = cc in
      let e : w.token ≡ take p.1 after = ap (λ (q : SecurityStatus × List ℕ). q.1) u in
      let g : p.1 ≡ m = ap (λ (q : SecurityStatus × ℕ). q.1) x in
      subst (P o.next) (e ∙ ap (λ v. take v after) g) w.stands);
}
took o after P (Err e) w a l = let u = w.answer in absurd (cc)

-- so it is with a call of a step whose outcome is accepted
took_step : (s s' : Ladder) (by : Side) (i : Option Who) (t before after : List ℕ) (r : Result (SecurityStatus × ℕ) Fault) (P : Ladder → List ℕ → Type 0)
    → length before ≡ 65 → Went (stepped s by i t 65) P → Steps ladder_stepping s by 0 i t before s' after r → Took r after (P s')
took_step s s' by i t before after r P b w p =
    let o : Outcome = stepped s by i t 65 in
    let a : o.answer ≡ step_front r after = ap (λ v. (stepped s by i t v).answer) (sym b) ∙ p.answer in
    let q : s' ≡ o.next = p.next ∙ ap (λ v. (stepped s by i t v).next) b in
    subst (λ v. Took r after (P v)) (sym q) (took o after P r w a (subst (Within r) b p.within))

pub client_took : {n : ℕ} {i j : Who} {k : ℕ} {c s c' : Ladder} {t before after : List ℕ} {r : Result (SecurityStatus × ℕ) Fault}
    → 1 ≤ n → length i.account ≤ 64 → length before ≡ 65 → Standing n i j k c s t → Steps ladder_stepping c Client 0 (Some i) t before c' after r
    → Took r after (λ t'. Midway n i j k c' s t')
client_took {n} {i} {j} {k} {c} {s} {c'} {t} {before} {after} {r} l f b st p =
    took_step c c' Client (Some i) t before after r (λ v t'. Midway n i j k v s t') b (client_goes n i j k c s t l f st) p

pub server_took : {n : ℕ} {i j : Who} {k : ℕ} {c s s' : Ladder} {t before after : List ℕ} {r : Result (SecurityStatus × ℕ) Fault}
    → length i.account ≤ 64 → length before ≡ 65 → Midway n i j k c s t → Steps ladder_stepping s Server 0 None t before s' after r
    → Took r after (λ t'. Standing n i j (k + 1) c s' t')
server_took {n} {i} {j} {k} {c} {s} {s'} {t} {before} {after} {r} f b st p =
    took_step s s' Server None t before after r (λ v t'. Standing n i j (k + 1) c v t') b (server_goes n i j k c s t f st) p

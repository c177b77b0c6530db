-- What one step on a ladder does: at rest, at the beginning, on a leg that reaches the top, and on a leg that is answered.
use Rattle.std.proofs.Common.{◌≡◌, ℕ, ◌+◌, ◌<◌, ◌≤◌, true, false, [], ◌∷◌, length, Some, None, Ok, Option, eqb, ltb, leb, refl, ◌∙◌, arith}
use Rattle.std.specs.Prelude.{replicate}
use Rattle.std.proofs.lemmas.Bool.{cond-true, cond-false, eq-eqb, ne_eqb, le-ltb, lt-ltb, le-leb, and_from, and_left, and_right}
use Rattle.ladder.specs.Givens.{Given, given}
use Rattle.ladder.specs.Keys.{key_of}
use Rattle.ladder.specs.Rungs.{started, accepted, called}
use Rattle.ladder.specs.Steps.{Outcome, at_top, rests, begins, is_leg, topped, leg_bytes, status_at, name_heard, onward, walked, stepped}
use Rattle.ladder.specs.declared.Ladder.{Ladder}
use Rattle.mechanism.specs.Identities.{Who, cut}
use Rattle.mechanism.specs.declared.identity.Part.{Part}
use Rattle.mechanism.specs.declared.mechanism.Side.{Side}
use Rattle.mechanism.specs.declared.mechanism.Side.TheVariants.{Client, Server}

-- leg n is made
abbrev pub made : Ladder → Given → ℕ → Outcome
made s g n = record {
  next = called (accepted s g n) (name_heard g.by g.account g.input);
  answer = Ok (status_at n s.legs, leg_bytes g n);
}

top_onward : (s : Ladder) (g : Given) (w n : ℕ) → n ≡ s.legs → onward s g w n ≡ at_top (topped s g)
top_onward s g w n e = cond-true (eqb n s.legs) _ _ (eq-eqb n s.legs e)

made_onward : (s : Ladder) (g : Given) (w n : ℕ) → n < s.legs → length (leg_bytes g (n + 1)) ≤ w → onward s g w n ≡ made s g (n + 1)
made_onward s g w n l f =
    cond-false (eqb n s.legs) _ _ (ne_eqb n s.legs (λ e. omega arith)) ∙ cond-false (ltb w (length (leg_bytes g (n + 1)))) _ _ (le-ltb w (length (leg_bytes g (n + 1))) f)

walked_heard : (s : Ladder) (g : Given) (w : ℕ) → rests s g.input ≡ false → begins s g.by ≡ false → is_leg s g ≡ true → walked s g w ≡ onward s g w (s.height + 1)
walked_heard s g w r b l =
    cond-false (rests s g.input) _ _ r ∙ (cond-false (begins s g.by) _ _ b ∙ cond-true (is_leg s g) _ _ l)

-- the client's ladder at a height
abbrev pub client_at : ℕ → Who → ℕ → Ladder
client_at n i h = record {
  legs = n;
  height = h;
  side = Client;
  client_key = key_of i.secret;
  allowed_key = None;
  account = Some (cut i.account);
}

-- the server's ladder at a height, with an identity that it allows
abbrev pub server_at : ℕ → Who → ℕ → Side → Option Part → Ladder
server_at n j h by name = record {
  legs = n;
  height = h;
  side = by;
  client_key = replicate 8 0;
  allowed_key = Some (key_of j.secret);
  account = name;
}

-- at rest
pub client_rests : (n : ℕ) (i : Who) (w : ℕ) → stepped (client_at n i n) Client (Some i) [] w ≡ at_top (client_at n i n)
client_rests n i w = cond-true _ _ _ (and_from (eqb n n) true (eq-eqb n n refl) refl)

pub server_rests : (n : ℕ) (j : Who) (w : ℕ) (name : Option Part) → stepped (server_at n j n Server name) Server None [] w ≡ at_top (server_at n j n Server name)
server_rests n j w name = cond-true _ _ _ (and_from (eqb n n) true (eq-eqb n n refl) refl)

-- at the beginning, the client makes leg 1
pub client_begins : (n : ℕ) (i : Who) (w : ℕ) → 1 ≤ n → length i.account + 1 ≤ w → stepped (started n) Client (Some i) [] w ≡ record { next = client_at n i 1; answer = Ok (status_at 1 n, 1 ∷ i.account) }
client_begins n i w l f =
    cond-false (rests (started n) []) _ _ (and_left (eqb 0 n) true (ne_eqb 0 n (λ e. omega arith)))
    ∙ made_onward (started n) (given Client (Some i) []) w 0 (omega arith) (omega arith)

-- a client hears leg h + 1
client_hears : (n : ℕ) (i : Who) (w h : ℕ) → 1 ≤ h → h < n → stepped (client_at n i h) Client (Some i) ((h + 1) ∷ []) w ≡ onward (client_at n i h) (given Client (Some i) ((h + 1) ∷ [])) w (h + 1)
client_hears n i w h l m =
    walked_heard (client_at n i h) (given Client (Some i) ((h + 1) ∷ [])) w
    (and_right (eqb h n) false refl)
    (ne_eqb h 0 (λ e. omega arith))
    (and_from (ltb h n) (eqb (h + 1) (h + 1)) (lt-ltb h n m) (eq-eqb (h + 1) (h + 1) refl))

-- a server hears leg h + 1
server_hears : (n : ℕ) (i j : Who) (w h : ℕ) (by : Side) (name : Option Part) → h < n → length i.account ≤ 64
    → stepped (server_at n j h by name) Server None ((h + 1) ∷ i.account) w ≡ onward (server_at n j h by name) (given Server None ((h + 1) ∷ i.account)) w (h + 1)
server_hears n i j w h by name m f =
    walked_heard (server_at n j h by name) (given Server None ((h + 1) ∷ i.account)) w
    (and_right (eqb h n) (eqb (length ((h + 1) ∷ i.account)) 0) (ne_eqb (length ((h + 1) ∷ i.account)) 0 (λ e. omega arith)))
    refl
    (and_from (ltb h n) _ (lt-ltb h n m)
    (and_from (ltb 0 (length ((h + 1) ∷ i.account))) _ (lt-ltb 0 (length ((h + 1) ∷ i.account)) (omega arith))
    (and_from (leb (length ((h + 1) ∷ i.account)) 65) (eqb (h + 1) (h + 1)) (le-leb (length ((h + 1) ∷ i.account)) 65 (omega arith)) (eq-eqb (h + 1) (h + 1) refl))))

-- a leg that reaches the top
pub client_tops : (n : ℕ) (i : Who) (w h : ℕ) → 1 ≤ h → h + 1 ≡ n → stepped (client_at n i h) Client (Some i) ((h + 1) ∷ []) w ≡ at_top (client_at n i n)
client_tops n i w h l e =
    client_hears n i w h l (omega arith) ∙ top_onward (client_at n i h) (given Client (Some i) ((h + 1) ∷ [])) w (h + 1) e

pub server_tops : (n : ℕ) (i j : Who) (w h : ℕ) (by : Side) (name : Option Part) → h + 1 ≡ n → length i.account ≤ 64
    → stepped (server_at n j h by name) Server None ((h + 1) ∷ i.account) w ≡ at_top (server_at n j n Server (Some (cut i.account)))
server_tops n i j w h by name e f =
    server_hears n i j w h by name (omega arith) f ∙ top_onward (server_at n j h by name) (given Server None ((h + 1) ∷ i.account)) w (h + 1) e

-- a leg that is answered
pub client_answers : (n : ℕ) (i : Who) (w h : ℕ) → 1 ≤ h → h + 1 < n → length i.account + 1 ≤ w
    → stepped (client_at n i h) Client (Some i) ((h + 1) ∷ []) w ≡ record { next = client_at n i (h + 1 + 1); answer = Ok (status_at (h + 1 + 1) n, (h + 1 + 1) ∷ i.account) }
client_answers n i w h l m f =
    client_hears n i w h l (omega arith) ∙ made_onward (client_at n i h) (given Client (Some i) ((h + 1) ∷ [])) w (h + 1) m (omega arith)

pub server_answers : (n : ℕ) (i j : Who) (w h : ℕ) (by : Side) (name : Option Part) → h + 1 < n → length i.account ≤ 64 → 1 ≤ w
    → stepped (server_at n j h by name) Server None ((h + 1) ∷ i.account) w
    ≡ record { next = server_at n j (h + 1 + 1) Server (Some (cut i.account)); answer = Ok (status_at (h + 1 + 1) n, (h + 1 + 1) ∷ []) }
server_answers n i j w h by name m f l =
    server_hears n i j w h by name (omega arith) f ∙ made_onward (server_at n j h by name) (given Server None ((h + 1) ∷ i.account)) w (h + 1) m l

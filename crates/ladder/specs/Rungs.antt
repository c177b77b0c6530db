-- The states of a ladder, and what moves it: a number of legs, the last leg seen or made, who took the last accepted step, the client's
-- key, the key of the first identity that is allowed, and the name in the last client's leg.
use Rattle.std.specs.Prelude.{ℕ, Bool, cond, ◌&&◌, List, replicate, Some, None, ◌==◌, nat_le}
use Rattle.ladder.specs.Givens.{Given}
use Rattle.ladder.specs.Keys.{key_of}
use Rattle.ladder.specs.declared.Ladder.{Ladder}
use Rattle.mechanism.specs.Identities.{cut}
use Rattle.mechanism.specs.declared.mechanism.Side.{Side}
use Rattle.mechanism.specs.declared.mechanism.Side.TheVariants.{Client, Server}

-- 1 to 8 legs, and 8 for any other number
abbrev pub legs_of : ℕ → ℕ
legs_of n = cond (nat_le 1 n && nat_le n 8) n 8

-- a ladder of n legs that nobody has climbed
abbrev pub started : ℕ → Ladder
started n = record {
  legs = n;
  height = 0;
  side = Client;
  client_key = replicate 8 0;
  allowed_key = None;
  account = None;
}

abbrev pub is_up : Ladder → Bool
is_up s = s.height == s.legs

-- the client's key after a step of a side with a secret: only a client's step makes it
abbrev pub next_client_key : Ladder → Side → List ℕ → List ℕ
next_client_key s Client secret = key_of secret
next_client_key s Server secret = s.client_key

-- a step was accepted, and the last leg is now n
abbrev pub accepted : Ladder → Given → ℕ → Ladder
accepted s g n = record s { height = n; side = g.by; client_key = next_client_key s g.by g.secret }

-- a client's leg held this name, of which 64 bytes are kept
abbrev pub called : Ladder → List ℕ → Ladder
called s who = record s { account = Some (cut who) }

-- an identity with this secret is the first of a set
abbrev pub allowing : Ladder → List ℕ → Ladder
allowing s secret = record s { allowed_key = Some (key_of secret) }

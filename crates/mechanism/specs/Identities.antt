-- Who logs on: a user, an account, a domain and a secret, each of at most 64 bytes, and perhaps the number of a KDC.
use Rattle.std.specs.Prelude.{ℕ, min, Bool, cond, List, length, take, Some, None, Ok, Err, Option, Result, nat_le}
use Rattle.std.specs.Borrow.{Bor}
use Rattle.std.proofs.Math.Nat.{min-le_right}
use Rattle.mechanism.specs.Paddings.{padded}
use Rattle.mechanism.specs.declared.identity.Identity.{Identity}
use Rattle.mechanism.specs.declared.identity.Part.{Part}
use Rattle.sspi.specs.declared.error_kind.ErrorKind.TheVariants.{InvalidParameter}
use Rattle.sspi.specs.declared.fault.Fault.{Fault}
use Rattle.sspi.specs.declared.fault.Layer.TheVariants.{Negotiation}

-- what an identity says
pub record Who : Type 0 where
  pub user : List ℕ
  pub account : List ℕ
  pub domain : List ℕ
  pub secret : List ℕ
  pub kdc : Option ℕ

-- what a part holds
abbrev pub held : Part → List ℕ
held p = take p.len p.bytes

-- the part that holds the first 64 bytes, with zeros behind them
abbrev pub cut : List ℕ → Part
cut xs = record { bytes = padded 64 xs; len = min (length xs) 64; fits = min-le_right (length xs) 64 }

abbrev pub who : Identity → Who
who i = record { user = held i.user; account = held i.account; domain = held i.domain; secret = held i.secret; kdc = i.kdc }

abbrev pub who_if : Option (Bor Identity) → Option Who
who_if None = None
who_if (Some i) = Some (who i.now)

-- the refusal of a part that is too long
abbrev pub too_long : Fault
too_long = record { kind = InvalidParameter; layer = Negotiation }

abbrev pub short : List ℕ → Bool
short xs = nat_le (length xs) 64

-- what a part that is not too long lets through
abbrev pub let_in : {X : Type 0} → List ℕ → Result X Fault → Result X Fault
let_in xs r = cond (short xs) r (Err too_long)

abbrev pub part_read : Result Part Fault → Result (List ℕ) Fault
part_read (Ok p) = Ok (held p)
part_read (Err e) = Err e

abbrev pub part_of : List ℕ → Result (List ℕ) Fault
part_of xs = let_in xs (Ok xs)

abbrev pub identity_read : Result Identity Fault → Result Who Fault
identity_read (Ok i) = Ok (who i)
identity_read (Err e) = Err e

-- an identity of these parts, refused where one is too long
abbrev pub identity_of : Who → Result Who Fault
identity_of w = let_in w.user (let_in w.account (let_in w.domain (let_in w.secret (Ok w))))

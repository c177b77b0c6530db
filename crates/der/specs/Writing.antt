-- How bytes go into a lent buffer, one behind the other.
use Rattle.std.specs.Prelude.{◌≡◌, ℕ, ◌+◌, ◌<◌, ◌≤◌, cond, List, ◌++◌, length, take, drop, Ok, Err, Result, nat_lt}
use Rattle.sspi.specs.declared.error_kind.ErrorKind.TheVariants.{BufferTooSmall, InvalidParameter}
use Rattle.sspi.specs.declared.fault.Layer.TheVariants.{Token}
use Rattle.sspi.specs.declared.fault.Fault.{Fault}
use Rattle.der.specs.declared.writer.Writer.{Writer}
use Rattle.der.specs.Elements.{header}

abbrev pub too_small : Fault
too_small = record { kind = BufferTooSmall; layer = Token }

abbrev pub invalid : Fault
invalid = record { kind = InvalidParameter; layer = Token }

-- the length of an element with n bytes of content, if there is one
abbrev pub element_len : ℕ → Result ℕ Fault
element_len n = cond (nat_lt n 65536) (Ok (length (header 0 n) + n)) (Err invalid)

-- what a writer has written, and the room behind it: together they are its buffer
abbrev pub written : Writer → List ℕ
written w = take w.at w.out.now

abbrev pub room : Writer → List ℕ
room w = drop w.at w.out.now

-- nothing was written
pub record Kept (w v : Writer) : Type 0 where
  pub place : v.at ≡ w.at
  pub buffer : v.out.now ≡ w.out.now

-- the bytes stand behind what was written before, and the rest of the room is as it was
pub record Added (bytes : List ℕ) (w v : Writer) : Type 0 where
  pub written : written v ≡ written w ++ bytes
  pub room : room v ≡ drop (length bytes) (room w)

-- What a method owes that writes the bytes at once, in the same buffer: what cannot be written (`Good` says what can) and what is
-- longer than the room is refused, and then nothing is written.
pub record Puts (Good : Type 0) (bytes : List ℕ) (w v : Writer) (r : Result (Unit {0}) Fault) : Type 0 where
  pub lent : v.out.ghost_name ≡ w.out.ghost_name
  pub unfit : (Good → ⊥) → (r ≡ Err invalid) × Kept w v
  pub short : Good → length (room w) < length bytes → (r ≡ Err too_small) × Kept w v
  pub made : Good → length bytes ≤ length (room w) → (r ≡ Ok tt) × Added bytes w v

-- What a method owes that writes them in several steps: if there is room for all of them, they are written.
pub record Adds (bytes : List ℕ) (w v : Writer) (r : Result (Unit {0}) Fault) : Type 0 where
  pub lent : v.out.ghost_name ≡ w.out.ghost_name
  pub made : length bytes ≤ length (room w) → (r ≡ Ok tt) × Added bytes w v

-- How a reader takes elements off the front of a byte string. That these functions undo the writing of `Elements`, and accept nothing else, is proved.
use Rattle.std.specs.Prelude.{ℕ, ◌+◌, ◌*◌, Bool, false, cond, not, ◌&&◌, ◌||◌, List, length, take, drop, Some, None, Ok, Err, Option, Result, ◌==◌, nat_le, nat_lt, slice_index}
use Rattle.std.specs.Borrow.{Bor}
pub use Rattle.sspi.specs.Faults.{and_then}
use Rattle.sspi.specs.declared.error_kind.ErrorKind.TheVariants.{InvalidToken}
use Rattle.sspi.specs.declared.fault.Layer.TheVariants.{Token}
use Rattle.sspi.specs.declared.fault.Fault.{Fault}
use Rattle.std.specs.Option.{option_map}
use Rattle.der.specs.Elements.{tag}

-- the refusal of a byte string that is not what it should be
abbrev pub illegal : Fault
illegal = record { kind = InvalidToken; layer = Token }

-- tag, length of the content, and what follows the header
abbrev pub Head : Type 0
Head = ℕ × ℕ × List ℕ

-- tag, content, and what follows the element
abbrev pub Taken : Type 0
Taken = ℕ × List ℕ × List ℕ

-- a length in one more byte, not below 128
abbrev pub long1 : List ℕ → Result Head Fault
long1 xs = cond (nat_lt (length xs) 3) (Err illegal) (cond (nat_le 128 (slice_index xs 2) && nat_lt (slice_index xs 2) 256) (Ok (slice_index xs 0, slice_index xs 2, drop 3 xs)) (Err illegal))

-- a length in two more bytes, not below 256
abbrev pub long2 : List ℕ → Result Head Fault
long2 xs =
    cond (nat_lt (length xs) 4) (Err illegal)
    (cond (nat_le 1 (slice_index xs 2) && (nat_lt (slice_index xs 2) 256 && nat_lt (slice_index xs 3) 256)) (Ok (slice_index xs 0, slice_index xs 2 * 256 + slice_index xs 3, drop 4 xs)) (Err illegal))

abbrev pub head_of : List ℕ → Result Head Fault
head_of xs =
    cond (nat_lt (length xs) 2) (Err illegal)
    (cond (nat_lt (slice_index xs 1) 128) (Ok (slice_index xs 0, slice_index xs 1, drop 2 xs))
    (cond (slice_index xs 1 == 0x81) (long1 xs)
    (cond (slice_index xs 1 == 0x82) (long2 xs) (Err illegal))))

-- the content of that length, if the tag is legal and so many bytes follow
abbrev pub cut : Head → Result Taken Fault
cut h = cond (not (tag h.0) || nat_lt (length h.2) h.1) (Err illegal) (Ok (h.0, take h.1 h.2, drop h.1 h.2))

abbrev pub take_of : List ℕ → Result Taken Fault
take_of xs = and_then (head_of xs) cut

-- the content of an element of tag t that fills the input
abbrev pub only_of : ℕ → List ℕ → Result (List ℕ) Fault
only_of t xs = and_then (take_of xs) (λ x. cond (x.0 == t && length x.2 == 0) (Ok x.1) (Err illegal))

-- whether one element, of any tag, fills the input
abbrev pub whole : Result Taken Fault → Bool
whole (Ok x) = length x.2 == 0
whole (Err e) = false

unfoldable pub one_element : List ℕ → Bool
one_element xs = whole (take_of xs)

-- whether the input begins with the tag t
abbrev pub begins : ℕ → List ℕ → Bool
begins t xs = nat_lt 0 (length xs) && slice_index xs 0 == t

-- the content of an element of tag t if the input begins with that tag, and what follows
abbrev pub optional_of : ℕ → List ℕ → Result (Option (List ℕ) × List ℕ) Fault
optional_of t xs = cond (begins t xs) (and_then (take_of xs) (λ x. Ok (Some x.1, x.2))) (Ok (None, xs))

-- what a result of the code says, its references read
abbrev pub plain_head : Result (ℕ × ℕ × Bor (List ℕ)) Fault → Result Head Fault
plain_head (Ok x) = Ok (x.0, x.1, x.2.now)
plain_head (Err e) = Err e

abbrev pub plain_taken : Result (ℕ × Bor (List ℕ) × Bor (List ℕ)) Fault → Result Taken Fault
plain_taken (Ok x) = Ok (x.0, x.1.now, x.2.now)
plain_taken (Err e) = Err e

abbrev pub plain_part : Result (Bor (List ℕ)) Fault → Result (List ℕ) Fault
plain_part (Ok x) = Ok x.now
plain_part (Err e) = Err e

abbrev pub plain_optional : Result (Option (Bor (List ℕ)) × Bor (List ℕ)) Fault → Result (Option (List ℕ) × List ℕ) Fault
plain_optional (Ok x) = Ok (option_map (λ y. y.now) x.0, x.1.now)
plain_optional (Err e) = Err e

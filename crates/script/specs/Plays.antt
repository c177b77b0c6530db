-- What a script means. An entry of its book is a number in four bytes, the high one first, and a token. A number of a status is
-- answered with the token, a number of a kind of fault refuses with that fault, and any other entry refuses as InternalError.
use Rattle.std.specs.Prelude.{◌≡◌, ℕ, ◌+◌, ◌%◌, Bool, true, false, cond, not, ◌||◌, List, ◌∷◌, length, take, drop, Some, None, Ok, Err, codes, Option, Result, ◌==◌, nat_lt}
use Rattle.std.specs.Borrow.{Bor}
use Rattle.std.specs.Int.{w32, from_be_bytes}
use Rattle.std.specs.Option.{unwrap_or}
use Rattle.books.specs.Books.{entry_at}
use Rattle.books.specs.Views.{book_bytes}
use Rattle.mechanism.specs.Meaning.{Sealing, Stepping}
use Rattle.mechanism.specs.Promises.{refusal}
use Rattle.script.specs.declared.Script.{Script}
use Rattle.sspi.specs.Faults.{and_then}
use Rattle.sspi.specs.Kinds.{kind_number, kind_of}
use Rattle.sspi.specs.Statuses.{status_number, status_of}
use Rattle.sspi.specs.declared.error_kind.ErrorKind.{ErrorKind}
use Rattle.sspi.specs.declared.error_kind.ErrorKind.TheVariants.{InternalError, BufferTooSmall, OutOfSequence}
use Rattle.sspi.specs.declared.fault.Fault.{Fault}
use Rattle.sspi.specs.declared.security_status.SecurityStatus.{SecurityStatus}
use Rattle.std.specs.Str.{bytes_eq}

abbrev pub Answer : Type 0
Answer = Result (SecurityStatus × List ℕ) Fault

-- the number at the front of an entry
abbrev pub number_of : List ℕ → ℕ
number_of e = from_be_bytes w32 (take 4 e)

abbrev pub kind_or : Option ErrorKind → ErrorKind
kind_or kind = unwrap_or kind InternalError

-- a number is read as a status first, and then as a kind of fault
abbrev pub told_of : Option SecurityStatus → ErrorKind → List ℕ → Answer
told_of (Some status) kind token = Ok (status, token)
told_of None kind token = Err (refusal kind)

-- what an entry says
abbrev pub told : List ℕ → Answer
told e = cond (nat_lt (length e) 4) (Err (refusal InternalError)) (told_of (status_of (number_of e)) (kind_or (kind_of (number_of e))) (drop 4 e))

-- what it answers in a working buffer of w bytes
abbrev pub played : List ℕ → ℕ → Answer
played e w = and_then (told e) (λ x. cond (nat_lt w (length x.1)) (Err (refusal BufferTooSmall)) (Ok x))

abbrev pub plain_told : Result (SecurityStatus × Bor (List ℕ)) Fault → Answer
plain_told (Ok x) = Ok (x.0, x.1.now)
plain_told (Err e) = Err e

-- a step that is refused for want of room does not move on; every other does
abbrev pub moves_on : {X : Type 0} → Result (SecurityStatus × X) Fault → Bool
moves_on (Ok x) = true
moves_on (Err e) = not (kind_number e.kind == 0x80090321)

-- status Ok starts the session
abbrev pub starts : {X : Type 0} → Result (SecurityStatus × X) Fault → Bool
starts (Ok x) = status_number x.0 == 0
starts (Err e) = false

abbrev pub after : Script → Bool → Bool → Script
after s moves up = cond moves (record { book = s.book; pos = s.pos + 1; session = s.session || up; count = s.count }) s

-- a step at an entry, if there is one
abbrev pub answer_at : Option (List ℕ) → ℕ → Answer
answer_at None w = Err (refusal OutOfSequence)
answer_at (Some e) w = played e w

abbrev pub next_at : Script → Option (List ℕ) → ℕ → Script
next_at s None w = s
next_at s (Some e) w = after s (moves_on (played e w)) (starts (played e w))

-- the entry that is played next
abbrev pub entry : Script → Option (List ℕ)
entry s = entry_at (book_bytes s.book) s.pos

-- the MIC, made and taken: 0x53 and the data
abbrev pub mic_of : List ℕ → List ℕ
mic_of x = 0x53 ∷ x

abbrev pub script_sealing : Sealing Script
script_sealing =
    record {
      up = λ s. s.session;
      made = λ _ x. mic_of x;
      takes = λ _ x y. bytes_eq (mic_of x) y;
      make_next = λ s _. s;
      check_next = λ s _ _. s;
      Alike = λ s t. s ≡ t;
    }

abbrev pub script_stepping : Stepping Script
script_stepping =
    record {
      fresh_next = λ s _. record { book = s.book; pos = 0; session = false; count = s.count };
      step_next = λ s _ _ _ _ w. next_at s (entry s) w;
      step_answer = λ s _ _ _ _ w. answer_at (entry s) w;
      name_answer = λ _. Ok (codes "flat12");
      allow_next = λ s _ _. record { book = s.book; pos = s.pos; session = s.session; count = (s.count + 1) % 4294967296 };
      allow_answer = λ _ _ _. Ok tt;
    }

-- a script before its first step
pub record Begins (s : Script) (book : List ℕ) : Type 0 where
  pub plays : book_bytes s.book ≡ book
  pub pos : s.pos ≡ 0
  pub session : s.session ≡ false
  pub count : s.count ≡ 0

-- What a reader and a writer owe, for any kind of fields: `Good` says which are well-formed, and `bytes` how they are written.
use Rattle.std.specs.Prelude.{◌≡◌, ℕ, ◌<◌, ◌≤◌, List, ◌++◌, length, drop, Ok, Err, Result}
use Rattle.der.specs.Reading.{illegal}
use Rattle.der.specs.Writing.{invalid, too_small}
use Rattle.sspi.specs.declared.fault.Fault.{Fault}

-- The answer to the input is fields just where the input is the writing of well-formed fields, and those very fields; every other
-- input is refused as an illegal token.
pub record Exact {X : Type 0} (Good : X → Type 0) (bytes : X → List ℕ) (input : List ℕ) (answer : Result X Fault) : Type 0 where
  pub accepts : (x : X) → Good x → input ≡ bytes x → answer ≡ Ok x
  pub accepted : (x : X) → answer ≡ Ok x → Good x × (input ≡ bytes x)
  pub refused : (e : Fault) → answer ≡ Err e → e ≡ illegal

-- The answer of a writer, and what the buffer holds after it: fields that are not well-formed (`Good` says when they are) and a
-- writing longer than the buffer are refused and leave the buffer as it was; any other writing goes to the front and keeps the rest.
pub record Writes (Good : Type 0) (bytes out after : List ℕ) (r : Result ℕ Fault) : Type 0 where
  pub unfit : (Good → ⊥) → (r ≡ Err invalid) × (after ≡ out)
  pub short : Good → length out < length bytes → (r ≡ Err too_small) × (after ≡ out)
  pub written : Good → length bytes ≤ length out → (r ≡ Ok (length bytes)) × (after ≡ bytes ++ drop (length bytes) out)

-- two well-formed field sets with the same writing are equal
abbrev pub OneWriting : {X : Type 0} → (X → Type 0) → (X → List ℕ) → Type 0
OneWriting {X} Good bytes = (x y : X) → Good x → Good y → bytes x ≡ bytes y → x ≡ y

-- what is written is read back
abbrev pub ReadBack : {X : Type 0} → (X → Type 0) → (X → List ℕ) → (List ℕ → Result X Fault) → Type 0
ReadBack {X} Good bytes read = (x : X) → Good x → read (bytes x) ≡ Ok x

-- a legal input is the writing of what is read from it
abbrev pub WrittenAgain : {X : Type 0} → (X → List ℕ) → (List ℕ → Result X Fault) → Type 0
WrittenAgain {X} bytes read = (input : List ℕ) (x : X) → read input ≡ Ok x → bytes x ≡ input

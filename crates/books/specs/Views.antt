-- What the code's values say, their references read.
use Rattle.std.specs.Prelude.{ℕ, cond, List, drop, Some, None, Ok, Err, Option, Result}
use Rattle.std.specs.Borrow.{Bor}
use Rattle.books.specs.Books.{is_book, entries}
use Rattle.books.specs.declared.Book.{Book}
use Rattle.books.specs.declared.Entries.{Entries}
use Rattle.sspi.specs.declared.error_kind.ErrorKind.TheVariants.{InvalidParameter}
use Rattle.sspi.specs.declared.fault.Layer.TheVariants.{Negotiation}
use Rattle.sspi.specs.declared.fault.Fault.{Fault}

-- the byte string of a book
abbrev pub book_bytes : Book → List ℕ
book_bytes b = b.bytes.now

-- what a byte string that is no book is refused with
abbrev pub invalid : Fault
invalid = record { kind = InvalidParameter; layer = Negotiation }

abbrev pub book_read : Result Book Fault → Result (List ℕ) Fault
book_read (Ok b) = Ok (book_bytes b)
book_read (Err e) = Err e

-- a book is read as its own bytes, and every other byte string is refused
abbrev pub read_book : List ℕ → Result (List ℕ) Fault
read_book xs = cond (is_book xs) (Ok xs) (Err invalid)

abbrev pub seen : Option (Bor (List ℕ)) → Option (List ℕ)
seen None = None
seen (Some r) = Some r.now

-- the entries that an iterator over them has left
abbrev pub entries_left : Entries → List (List ℕ)
entries_left e = drop e.at (entries (book_bytes e.book))

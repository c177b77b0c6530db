-- What the code's values say, their references read.
use Rattle.std.specs.Prelude.{ℕ, cond, List, Some, None, Ok, Err, Option, Result}
use Rattle.accounts.specs.Accounts.{is_account_book}
use Rattle.accounts.specs.declared.Account.{Account}
use Rattle.accounts.specs.declared.AccountBook.{AccountBook}
use Rattle.books.specs.Views.{book_bytes, invalid}
use Rattle.sspi.specs.declared.fault.Fault.{Fault}

-- the byte string of an account book
abbrev pub account_bytes : AccountBook → List ℕ
account_bytes b = book_bytes b.book

abbrev pub accounts_read : Result AccountBook Fault → Result (List ℕ) Fault
accounts_read (Ok b) = Ok (account_bytes b)
accounts_read (Err e) = Err e

-- an account book is read as its own bytes, and every other byte string is refused
abbrev pub read_accounts : List ℕ → Result (List ℕ) Fault
read_accounts xs = cond (is_account_book xs) (Ok xs) (Err invalid)

abbrev pub seen_account : Option Account → Option (List ℕ × List ℕ)
seen_account None = None
seen_account (Some a) = Some (a.name.now, a.secret.now)

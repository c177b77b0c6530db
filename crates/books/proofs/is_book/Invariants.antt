use Rattle.std.proofs.Common.{◌≡◌, ◌-◌, length}
use Rattle.books.specs.Books.{in_order, is_book}
use Rattle.books.proofs.is_book.Given as goal

abbrev pub invariant-loop-pair : goal.invariant-loop-pair
invariant-loop-pair l = in_order l.bytes (length l.pairs - l.pair-index) l.pair-index l.end ≡ is_book l.bytes

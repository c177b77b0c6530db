use Rattle.std.proofs.Common.{arith}
use Rattle.books.proofs.Places.{next_entry}
use Rattle.books.specs.Views.{book_bytes}
use Rattle.script.proofs.ScriptMechanism.step.Goals as goal

pub move_on-requires : goal.move_on-requires
move_on-requires c =
    let s = c.args.self.now in
    let n = next_entry (book_bytes s.book) s.pos _ s.book.sound c.in-Some.ensures.answer in
    omega arith

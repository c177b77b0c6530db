use Rattle.std.proofs.Common.{arith}
use Rattle.books.proofs.Places.{listed, fits, entry_past}
use Rattle.books.proofs.Book.entry.Goals as goal

pub returns-in_err-pairs-clause-answer : goal.returns-in_err-pairs-clause-answer
returns-in_err-pairs-clause-answer c =
    let b = c.args.self.now in
    rw c.from_residual.ensures (entry_past b.bytes.now c.args.i (λ l. let f = fits b.bytes.now c.args.i b.sound l in let g = c.in_err-pairs.ensures in omega arith))

pub returns-in_err-pairs-clause-listed : goal.returns-in_err-pairs-clause-listed
returns-in_err-pairs-clause-listed c = let b = c.args.self.now in listed b.bytes.now c.args.i b.sound

pub returns-in_err-get-clause-listed : goal.returns-in_err-get-clause-listed
returns-in_err-get-clause-listed c = let b = c.args.self.now in listed b.bytes.now c.args.i b.sound

pub returns-clause-listed : goal.returns-clause-listed
returns-clause-listed c = let b = c.args.self.now in listed b.bytes.now c.args.i b.sound

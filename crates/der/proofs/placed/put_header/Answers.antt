use Rattle.std.proofs.Common.{rules}
use Rattle.der.proofs.Placing.{placed_if}
use Rattle.der.proofs.placed.put_header.Goals as goal

pub returns-clause-holds : goal.returns-clause-holds
returns-clause-holds c =
    let p = placed_if c.new-w.result c.args.n _ c.args.out.now c.args.at c.in_ok-element_len.ensures c.new-w.ensures.written c.new-w.ensures.room c.in_ok-skip.ensures.buffer c.in_ok-skip.ensures.place c.in_ok-put_header.ensures in
    search (rules, p)

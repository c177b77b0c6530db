use Rattle.std.proofs.Common.{length, rules}
use Rattle.der.proofs.Placing.{placed_if}
use Rattle.der.proofs.placed.put_element.Goals as goal

pub returns-clause-holds : goal.returns-clause-holds
returns-clause-holds c =
    let p = placed_if c.new-w.result (length c.args.content.now) _ c.args.out.now c.args.at c.in_ok-element_len.ensures c.new-w.ensures.written c.new-w.ensures.room c.in_ok-skip.ensures.buffer c.in_ok-skip.ensures.place c.in_ok-put_element.ensures in
    search (rules, p)

use Rattle.std.proofs.Common.{rules}
use Rattle.der.proofs.Placing.{placed}
use Rattle.der.proofs.placed.put_bytes.Goals as goal

pub returns-clause-holds : goal.returns-clause-holds
returns-clause-holds c =
    let p = placed c.new-w.result c.args.out.now c.args.at tt c.new-w.ensures.written c.new-w.ensures.room c.in_ok-skip.ensures.buffer c.in_ok-skip.ensures.place c.in_ok-put_bytes.ensures in
    search (rules, p)

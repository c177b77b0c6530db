use Rattle.books.proofs.Places.{pairs_of}
use Rattle.books.proofs.pairs.Goals as goal

pub returns : goal.returns
returns c =
    let h = c.in_ok-get.ensures.lookup.0 in
    rw c.as_chunks.ensures.front (pairs_of c.args.bytes.now _ _ c.number_at-n.ensures h.1 h.2 h.3)

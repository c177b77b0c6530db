use Rattle.std.proofs.Common.{arith}
use Rattle.der.proofs.Heads.{header_short, header_one, header_two}
use Rattle.der.proofs.Adding.{len_at}
use Rattle.der.proofs.element_len.Goals as goal

pub returns-then-n-lt128 : goal.returns-then-n-lt128
returns-then-n-lt128 c = len_at c.args.n 2 _ (omega arith) (header_short 0 c.args.n (omega arith)) (omega arith)

pub returns-then-n-lt256 : goal.returns-then-n-lt256
returns-then-n-lt256 c = len_at c.args.n 3 _ (omega arith) (header_one 0 c.args.n (omega arith) (omega arith)) (omega arith)

pub returns-then-n-lt65536 : goal.returns-then-n-lt65536
returns-then-n-lt65536 c = len_at c.args.n 4 _ (omega arith) (header_two 0 c.args.n (omega arith)) (omega arith)

use Rattle.std.proofs.Common.{sym, arith}
use Rattle.der.proofs.Heads.{header_short, header_one, header_two}
use Rattle.der.proofs.Adding.{puts_as}
use Rattle.der.proofs.writer.Writer.put_header.Goals as goal

pub returns-then-n-lt128 : goal.returns-then-n-lt128
returns-then-n-lt128 c = puts_as (omega arith) (sym (header_short c.args.tag c.args.n (omega arith))) c.put_bytes.ensures

pub returns-then-n-lt256 : goal.returns-then-n-lt256
returns-then-n-lt256 c = puts_as (omega arith) (sym (header_one c.args.tag c.args.n (omega arith) (omega arith))) c.put_bytes-then-n-lt256.ensures

pub returns-then-n-lt65536 : goal.returns-then-n-lt65536
returns-then-n-lt65536 c = puts_as (omega arith) (sym (header_two c.args.tag c.args.n (omega arith))) c.put_bytes-then-n-lt65536.ensures

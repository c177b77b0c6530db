use Rattle.std.proofs.Common.{refl, sym, arith}
use Rattle.der.proofs.Adding.{element_size, puts_short, puts_steps, adds, adds_element, refused_element}
use Rattle.der.proofs.writer.Writer.put_element.Goals as goal

pub returns-then-branch-room : goal.returns-then-branch-room
returns-then-branch-room c =
    let s = element_size c.args.tag _ c.args.content.now (sym c.in_ok-element_len.ensures) in
    puts_short s.0 (omega (arith, s.1, c.room.ensures, c.if-branch-room.true))

pub returns-in_err-put_header : goal.returns-in_err-put_header
returns-in_err-put_header c =
    let s = element_size c.args.tag _ c.args.content.now (sym c.in_ok-element_len.ensures) in
    puts_steps s.0 (omega (arith, s.1, c.room.ensures, c.if-branch-room.false)) (refused_element c.args.tag c.args.content.now refl s.0 c.in_err-put_header.ensures)

pub returns : goal.returns
returns c =
    let s = element_size c.args.tag _ c.args.content.now (sym c.in_ok-element_len.ensures) in
    puts_steps s.0 (omega (arith, s.1, c.room.ensures, c.if-branch-room.false))
    (adds_element c.args.tag refl s.0 c.in_ok-put_header.ensures (adds tt c.put_bytes.ensures))

use Rattle.der.proofs.Adding.{adds_element, refused_element}
use Rattle.spnego.specs.Tokens.{inside}
use Rattle.spnego_writer.proofs.Putting.{field_short, inside_fits, inside_is, inside_not_refused}
use Rattle.spnego_writer.proofs.part.put_field.Goals as goal

pub returns-in_err-inside_len : goal.returns-in_err-inside_len
returns-in_err-inside_len c =
    let l = field_short c.args.field.tag c.args.field.kind _ _ c.in-Some.is c.requires in
    absurd (inside_not_refused c.args.field.tag c.args.field.kind c.in-Some.part.now _ l c.in_err-inside_len.ensures)

pub returns-in_err-put_header : goal.returns-in_err-put_header
returns-in_err-put_header c =
    let l = field_short c.args.field.tag c.args.field.kind _ _ c.in-Some.is c.requires in
    let i = inside_is c.args.field.tag c.args.field.kind c.in-Some.part.now _ l c.in_ok-inside_len.ensures in
    rw c.in-Some.is (refused_element c.args.field.tag (inside c.args.field.kind c.in-Some.part.now) i.0 i.1 c.in_err-put_header.ensures)

pub put_inside-requires : goal.put_inside-requires
put_inside-requires c =
    inside_fits c.args.field.tag c.args.field.kind c.in-Some.part.now (field_short c.args.field.tag c.args.field.kind _ _ c.in-Some.is c.requires)

pub returns : goal.returns
returns c =
    let l = field_short c.args.field.tag c.args.field.kind _ _ c.in-Some.is c.requires in
    let i = inside_is c.args.field.tag c.args.field.kind c.in-Some.part.now _ l c.in_ok-inside_len.ensures in
    rw c.in-Some.is (adds_element c.args.field.tag i.0 i.1 c.in_ok-put_header.ensures c.put_inside.ensures)

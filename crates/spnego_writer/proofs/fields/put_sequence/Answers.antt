use Rattle.std.proofs.Common.{arith}
use Rattle.der.proofs.Adding.{adds_then, adds_refused, adds_element, refused_element}
use Rattle.spnego.specs.Tokens.{four_fields, sequence}
use Rattle.spnego.specs.Views.{plain_fields}
use Rattle.spnego_writer.proofs.Putting.{four_lengths}
use Rattle.spnego_writer.proofs.fields.put_sequence.Goals as goal

pub returns-in_err-put_header : goal.returns-in_err-put_header
unfolding sequence
returns-in_err-put_header c =
    refused_element 0x30 (four_fields c.args.layout.first c.args.layout.second (plain_fields c.args.fields)) c.requires.0 c.requires.1 c.in_err-put_header.ensures

pub put_field-requires : goal.put_field-requires
put_field-requires c = rw c.fields.ensures (omega (arith, c.requires, four_lengths c.args.layout.first c.args.layout.second (plain_fields c.args.fields)))

pub put_field-requires-2 : goal.put_field-requires-2
put_field-requires-2 c = rw c.fields.ensures (omega (arith, c.requires, four_lengths c.args.layout.first c.args.layout.second (plain_fields c.args.fields)))

pub put_field-requires-3 : goal.put_field-requires-3
put_field-requires-3 c = rw c.fields.ensures (omega (arith, c.requires, four_lengths c.args.layout.first c.args.layout.second (plain_fields c.args.fields)))

pub put_field-requires-4 : goal.put_field-requires-4
put_field-requires-4 c = rw c.fields.ensures (omega (arith, c.requires, four_lengths c.args.layout.first c.args.layout.second (plain_fields c.args.fields)))

pub returns-in_err-put_field : goal.returns-in_err-put_field
unfolding sequence four_fields
returns-in_err-put_field c =
    adds_element 0x30 c.requires.0 c.requires.1 c.in_ok-put_header.ensures
    (adds_refused _ (rw c.fields.ensures at c.in_err-put_field.ensures))

pub returns-in_err-put_field-2 : goal.returns-in_err-put_field-2
unfolding sequence four_fields
returns-in_err-put_field-2 c =
    adds_element 0x30 c.requires.0 c.requires.1 c.in_ok-put_header.ensures
    (adds_then (rw c.fields.ensures at c.in_ok-put_field.ensures) (adds_refused _ (rw c.fields.ensures at c.in_err-put_field-2.ensures)))

pub returns-in_err-put_field-3 : goal.returns-in_err-put_field-3
unfolding sequence four_fields
returns-in_err-put_field-3 c =
    adds_element 0x30 c.requires.0 c.requires.1 c.in_ok-put_header.ensures
    (adds_then (rw c.fields.ensures at c.in_ok-put_field.ensures)
    (adds_then (rw c.fields.ensures at c.in_ok-put_field-2.ensures) (adds_refused _ (rw c.fields.ensures at c.in_err-put_field-3.ensures))))

pub returns : goal.returns
unfolding sequence four_fields
returns c =
    adds_element 0x30 c.requires.0 c.requires.1 c.in_ok-put_header.ensures
    (adds_then (rw c.fields.ensures at c.in_ok-put_field.ensures)
    (adds_then (rw c.fields.ensures at c.in_ok-put_field-2.ensures) (adds_then (rw c.fields.ensures at c.in_ok-put_field-3.ensures) (rw c.fields.ensures at c.put_field-4.ensures))))

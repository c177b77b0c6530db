use Rattle.std.proofs.Common.{length, sym, ap, ◌∙◌, arith}
use Rattle.der.proofs.Adding.{adds, adds_then, adds_refused, adds_element, refused_element}
use Rattle.spnego.specs.declared.part.Kind.TheVariants.{MechTypes, BitString}
use Rattle.spnego.specs.Tokens.{four_fields, sequence, init_fields, init_content, init_bytes}
use Rattle.spnego.specs.Views.{plain_init}
use Rattle.spnego_writer.specs.Views.{plain_lens}
use Rattle.spnego_writer.proofs.Putting.{init_sizes, init_fits}
use Rattle.spnego_writer.proofs.init.NegTokenInitToken.put.Goals as goal

pub returns-in_err-put_header : goal.returns-in_err-put_header
unfolding init_bytes
returns-in_err-put_header c =
    let z = init_sizes (plain_init c.args.self.now) (plain_lens c.args.n) c.requires in
    refused_element 0x60 (init_content (plain_init c.args.self.now)) z.content (omega (arith, z.content, z.good.short)) c.in_err-put_header.ensures

pub returns-in_err-put_element : goal.returns-in_err-put_element
unfolding init_bytes init_content
returns-in_err-put_element c =
    let z = init_sizes (plain_init c.args.self.now) (plain_lens c.args.n) c.requires in
    let b = init_fits (plain_init c.args.self.now) z.good in
    adds_element 0x60 z.content (omega (arith, z.content, z.good.short)) c.in_ok-put_header.ensures (adds_refused _ (adds b.this_mech c.in_err-put_element.ensures))

pub returns-in_err-put_header-2 : goal.returns-in_err-put_header-2
unfolding init_bytes init_content
returns-in_err-put_header-2 c =
    let z = init_sizes (plain_init c.args.self.now) (plain_lens c.args.n) c.requires in
    let b = init_fits (plain_init c.args.self.now) z.good in
    adds_element 0x60 z.content (omega (arith, z.content, z.good.short)) c.in_ok-put_header.ensures
    (adds_then (adds b.this_mech c.in_ok-put_element.ensures)
    (refused_element 0xA0 (sequence MechTypes BitString (init_fields (plain_init c.args.self.now))) z.sequence (omega (arith, z.sequence, b.sequence)) c.in_err-put_header-2.ensures))

pub put_sequence-requires : goal.put_sequence-requires
put_sequence-requires c =
    let z = init_sizes (plain_init c.args.self.now) (plain_lens c.args.n) c.requires in
    (z.body ∙ ap (λ f. length (four_fields MechTypes BitString f)) (sym c.from.ensures), omega (arith, z.body, (init_fits (plain_init c.args.self.now) z.good).body))

pub returns : goal.returns
unfolding init_bytes init_content
returns c =
    let z = init_sizes (plain_init c.args.self.now) (plain_lens c.args.n) c.requires in
    let b = init_fits (plain_init c.args.self.now) z.good in
    adds_element 0x60 z.content (omega (arith, z.content, z.good.short)) c.in_ok-put_header.ensures
    (adds_then (adds b.this_mech c.in_ok-put_element.ensures)
    (adds_element 0xA0 z.sequence (omega (arith, z.sequence, b.sequence)) c.in_ok-put_header-2.ensures (rw c.from.ensures at c.put_sequence.ensures)))

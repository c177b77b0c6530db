use Rattle.std.proofs.Common.{length, sym, ap, ◌∙◌, arith}
use Rattle.der.proofs.Adding.{adds_element, refused_element}
use Rattle.spnego.specs.declared.part.Kind.TheVariants.{Element, Oid}
use Rattle.spnego.specs.Tokens.{four_fields, sequence, targ_fields, targ_bytes}
use Rattle.spnego.specs.Views.{plain_targ}
use Rattle.spnego_writer.specs.Views.{plain_lens}
use Rattle.spnego_writer.proofs.Putting.{targ_sizes, targ_fits}
use Rattle.spnego_writer.proofs.targ.NegTokenTargToken.put.Goals as goal

pub returns-in_err-put_header : goal.returns-in_err-put_header
unfolding targ_bytes
returns-in_err-put_header c =
    let z = targ_sizes (plain_targ c.args.self.now) (plain_lens c.args.n) c.requires in
    refused_element 0xA1 (sequence Element Oid (targ_fields (plain_targ c.args.self.now))) z.content (omega (arith, z.content, z.good.short)) c.in_err-put_header.ensures

pub put_sequence-requires : goal.put_sequence-requires
put_sequence-requires c =
    let z = targ_sizes (plain_targ c.args.self.now) (plain_lens c.args.n) c.requires in
    (z.body ∙ ap (λ f. length (four_fields Element Oid f)) (sym c.from.ensures), omega (arith, z.body, targ_fits (plain_targ c.args.self.now) z.good))

pub returns : goal.returns
unfolding targ_bytes
returns c =
    let z = targ_sizes (plain_targ c.args.self.now) (plain_lens c.args.n) c.requires in
    adds_element 0xA1 z.content (omega (arith, z.content, z.good.short)) c.in_ok-put_header.ensures (rw c.from.ensures at c.put_sequence.ensures)

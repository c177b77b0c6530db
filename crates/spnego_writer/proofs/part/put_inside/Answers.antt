use Rattle.std.proofs.Common.{sym}
use Rattle.spnego_writer.proofs.Putting.{adds_inside}
use Rattle.spnego_writer.proofs.part.put_inside.Goals as goal

pub returns-in-Some : goal.returns-in-Some
returns-in-Some c = adds_inside c.args.kind c.in-Some.tag c.args.part.now (sym c.in-Some.ensures) c.requires c.put_element.ensures

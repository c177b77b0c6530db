use Rattle.std.proofs.Common.{◌≡◌, true, drop}
use Rattle.der.specs.Elements.{arcs}
use Rattle.der.proofs.is_oid.Given as goal

abbrev pub invariant-loop-b : goal.invariant-loop-b
invariant-loop-b l = arcs l.begins (drop l.b-index l.content) ≡ arcs true l.content

use Rattle.std.proofs.Common.{◌≡◌, drop}
use Rattle.mech_types.specs.Listed.{items}
use Rattle.choice.specs.Choosing.{chosen_of}
use Rattle.choice.proofs.extractors.Acceptor.choose.Given as goal

abbrev pub invariant-loop-mech : goal.invariant-loop-mech
invariant-loop-mech l = chosen_of (drop l.mech-index l.mechs) (items l.list) l.self.enabled l.self.running ≡ chosen_of l.mechs (items l.list) l.self.enabled l.self.running

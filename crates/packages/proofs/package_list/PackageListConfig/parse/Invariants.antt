use Rattle.std.proofs.Common.{◌≡◌}
use Rattle.packages.proofs.Lists.{ended}
use Rattle.packages.specs.Packages.{parsed}
use Rattle.packages.proofs.package_list.PackageListConfig.parse.Given as goal
use Rattle.text.specs.Pieces.{pieces_left, seen}

abbrev pub invariant-loop-entry : goal.invariant-loop-entry
invariant-loop-entry l = ended l.use_default l.config (pieces_left l.entry-iterator) ≡ parsed (seen l.package_list)

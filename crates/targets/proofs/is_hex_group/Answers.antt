use Rattle.std.proofs.Common.{rules, arith}
use Rattle.std.specs.Char.{is_ascii_hexdigit}
use Rattle.std.proofs.lemmas.Bool.Decides.{nat_tests}
use Rattle.std.proofs.lemmas.Iterator.{YieldsList-from_slice}
use Rattle.std.proofs.lemmas.Iterator.Search.{all_from_yields_List}
use Rattle.targets.specs.Addresses.{hex_group}
use Rattle.targets.proofs.is_hex_group.Goals as goal

pub returns-then-matches : goal.returns-then-matches
unfolding hex_group
returns-then-matches c =
    let hex = all_from_yields_List is_ascii_hexdigit _ _ c.all.result c.all.ensures.ran (YieldsList-from_slice c.args.text.now (cc)) (λ x b q k. search rules) in
    grind (arith, nat_tests, hex)

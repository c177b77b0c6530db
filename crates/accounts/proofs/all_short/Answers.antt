use Rattle.std.proofs.Common.{length, leb, rules, tests}
use Rattle.std.proofs.lemmas.Iterator.Consumers.{YieldsList-from_first}
use Rattle.std.proofs.lemmas.Iterator.Search.{all_from_yields_List}
use Rattle.books.specs.Views.{entries_left}
use Rattle.accounts.proofs.all_short.Goals as goal

pub returns : goal.returns
returns c =
    all_from_yields_List (λ e. leb (length e) 64) c.all.new.self _ _ c.all.ensures.ran
    (YieldsList-from_first (λ x. x.now) entries_left _ c.entries.ensures) (λ x b q k. search (rules, tests))

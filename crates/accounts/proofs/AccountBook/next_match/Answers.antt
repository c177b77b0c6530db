use Rattle.std.proofs.Common.{◌≡◌, ◌/◌, true, false, ap, arith, rules, tests}
use Rattle.std.proofs.lemmas.Iterator.{first_from_Range}
use Rattle.accounts.specs.Accounts.{account_at}
use Rattle.accounts.specs.Matches.{is_named}
use Rattle.accounts.specs.Views.{account_bytes}
use Rattle.accounts.proofs.Walking.{next, exact}
use Rattle.accounts.proofs.AccountBook.next_match.Goals as goal

pub returns : goal.returns
returns c =
    let xs = account_bytes c.args.self.now in
    let name = c.args.name.now in
    let m =
    first_from_Range _ _ _ c.find.result (λ i. is_named name (account_at xs i) ≡ true) (λ i. is_named name (account_at xs i) ≡ false) c.find.ensures.ran
    (λ x q h. search (rules, tests)) (λ x q h. search (rules, tests)) in
    let n = next name xs c.args.from (c.len.result / 2) c.find.result (ap (λ v. v / 2) c.len.ensures.answer) (omega arith) m in
    record { answer = n.answer; walks = n.walks; found = n.found; exact = exact name xs c.args.from c.args.self.now.lawful }

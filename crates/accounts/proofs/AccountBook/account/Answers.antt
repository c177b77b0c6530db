use Rattle.std.proofs.Common.{None, refl, ◌∙◌, arith}
use Rattle.accounts.specs.Views.{account_bytes}
use Rattle.accounts.proofs.Listing.{listed, both_none, account_past, account_is}
use Rattle.accounts.proofs.AccountBook.account.Goals as goal

pub returns-then-i-len : goal.returns-then-i-len
returns-then-i-len c =
    let xs = account_bytes c.args.self.now in
    record { answer = account_past xs c.args.i (omega arith); listed = listed xs c.args.i c.args.self.now.lawful }

pub returns-in_err-name : goal.returns-in_err-name
returns-in_err-name c =
    let xs = account_bytes c.args.self.now in
    rw c.from_residual.ensures (record {
      answer = account_is xs c.args.i None _ (omega arith) c.in_err-name.ensures.answer refl;
      listed = listed xs c.args.i c.args.self.now.lawful;
    })

pub returns-in_err-secret : goal.returns-in_err-secret
returns-in_err-secret c =
    let xs = account_bytes c.args.self.now in
    rw c.from_residual-in_err-secret.ensures (record {
      answer = both_none _ ∙ account_is xs c.args.i _ None (omega arith) refl c.in_err-secret.ensures.answer;
      listed = listed xs c.args.i c.args.self.now.lawful;
    })

pub returns : goal.returns
returns c =
    let xs = account_bytes c.args.self.now in
    record {
      answer = account_is xs c.args.i _ _ (omega arith) c.in_ok-name.ensures.answer c.in_ok-secret.ensures.answer;
      listed = listed xs c.args.i c.args.self.now.lawful;
    }

use Rattle.std.proofs.Common.{ℕ, arith, rules, refl, length-drop}
use Rattle.std.proofs.lemmas.Slice.{overwrites}
use Rattle.der.proofs.writer.Writer.put_bytes.Goals as goal

pub returns : goal.returns
returns c =
    record {
      lent = refl;
      unfit = λ bad. absurd (bad tt);
      short = λ _ l. absurd (omega (arith, length-drop {A = ℕ}));
      made = λ _ l. (refl, record { written = search (rules, overwrites); room = search (rules, overwrites) });
    }

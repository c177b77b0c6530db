use Rattle.std.proofs.Common.{◌≡◌, ℕ, ◌<◌, ◌+◌, get_or, length, arith}
use Rattle.std.proofs.lemmas.Grind.{common_steps}
use Rattle.std.proofs.lemmas.List.{take_rest}
use Rattle.targets.specs.Addresses.{cut_double}
use Rattle.targets.proofs.Doubles.{double_here, double_nowhere}
use Rattle.targets.proofs.split_double.Goals as goal

pub returns-in_err-i : goal.returns-in_err-i
unfolding cut_double
returns-in_err-i c =
    let text = c.args.text.now in
    let none : (k : ℕ) → k + 1 < length text → get_or text k 0 ≡ 0x3A → get_or text (k + 1) 0 ≡ 0x3A → ⊥ = grind (arith, common_steps) in
    let e = double_nowhere text none in
    simp (c.from_residual.ensures, e)

pub returns : goal.returns
unfolding cut_double
returns c =
    let text = c.args.text.now in
    let at : get_or text c.in_ok-i.i 0 ≡ 0x3A = grind (arith, common_steps) in
    let next : get_or text (c.in_ok-i.i + 1) 0 ≡ 0x3A = grind (arith, common_steps) in
    let within : c.in_ok-i.i + 1 < length text = grind (arith, common_steps) in
    let before : (k : ℕ) → k < c.in_ok-i.i → get_or text k 0 ≡ 0x3A → get_or text (k + 1) 0 ≡ 0x3A → ⊥ = grind (arith, common_steps) in
    let e = double_here text c.in_ok-i.i within at next before in
    simp (e, take_rest)

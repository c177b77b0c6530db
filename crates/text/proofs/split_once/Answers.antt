use Rattle.std.proofs.Common.{◌≡◌, ℕ, ◌<◌, ◌+◌, Some, get_or, length, ap, ◌∙◌, arith}
use Rattle.std.proofs.lemmas.List.{take_rest}
use Rattle.std.proofs.lemmas.Grind.{common_steps}
use Rattle.text.proofs.Cuts.{cut, at_mark, no_mark}
use Rattle.text.proofs.split_once.Goals as goal

pub returns-in-Some : goal.returns-in-Some
returns-in-Some c =
    let text = c.args.text.now in
    let here : get_or text c.in-Some.i 0 ≡ c.args.mark = grind (arith, common_steps) in
    let within : c.in-Some.i < length text = grind (arith, common_steps) in
    let before : (k : ℕ) → k < c.in-Some.i → get_or text k 0 ≡ c.args.mark → ⊥ = grind (arith, common_steps) in
    let p = at_mark c.args.mark text c.in-Some.i within here before in
    let back = ap Some (take_rest text (c.in-Some.i + 1)) ∙ p.1 in
    record { first = p.0; second = back; walks = cut c.args.mark text p.0 back }

pub returns-in-None : goal.returns-in-None
returns-in-None c =
    let text = c.args.text.now in
    let none : (k : ℕ) → k < length text → get_or text k 0 ≡ c.args.mark → ⊥ = grind (arith, common_steps) in
    let p = no_mark c.args.mark text none in
    record { first = p.0; second = p.1; walks = cut c.args.mark text p.0 p.1 }

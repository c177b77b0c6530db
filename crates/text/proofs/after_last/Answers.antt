use Rattle.std.proofs.Common.{List, ℕ, Bor, Option, ap, ◌∙◌}
use Rattle.std.specs.Option.{unwrap_or}
use Rattle.std.proofs.lemmas.Iterator.{items_from_drains}
use Rattle.text.proofs.Cuts.{gives_pieces, last_piece}
use Rattle.text.proofs.after_last.Goals as goal

pub returns : goal.returns
returns c =
    let ran = c.last.ensures.ran in
    let walk = ran.1.1 in
    let all = items_from_drains ran.0 (walk.0, walk.1, λ _. (ran.1.0, walk.2)) (gives_pieces c.pieces.ensures.all) in
    ap (λ (x : Bor (List ℕ)). x.now) c.unwrap_or.ensures
    ∙ (ap (λ (r : Option (Bor (List ℕ))). (unwrap_or r c.args.text).now) ran.2 ∙ last_piece c.args.mark c.args.text.now c.args.text ran.0 all)

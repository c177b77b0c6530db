-- The walk over the groups of a text: n of them were counted, and some pieces are left.
use Rattle.std.proofs.Common.{◌≡◌, ℕ, suc, ◌+◌, ◌<◌, Bool, false, true, cond, eqb, List, [], ◌∷◌, length, Some, None, Option, sym, refl, true≢false, ap, ◌∙◌, arith}
use Rattle.std.specs.Option.{option_map}
use Rattle.std.proofs.lemmas.Bool.Decides.{nat_tests}
use Rattle.text.specs.Pieces.{pieces, behind}
use Rattle.text.proofs.Cuts.{pieces_cut, behind_shorter}
use Rattle.targets.specs.Addresses.{hex_group, groups_in, groups}

abbrev pub counted : Bool → ℕ → List (List ℕ) → Option ℕ
counted dotted n ps = option_map (λ m. n + m) (groups_in dotted ps)

from_none : (v : Option ℕ) → option_map (λ m. 0 + m) v ≡ v
from_none v = grind (arith, nat_tests)

pub groups_begin : (dotted : Bool) (text : List ℕ) {ps : List (List ℕ)} → false ≡ eqb (length text) 0 → pieces 0x3A text ≡ ps → counted dotted 0 ps ≡ groups dotted text
unfolding groups
groups_begin dotted [] l e = absurd (true≢false (sym l))
groups_begin dotted (x ∷ xs) l e = ap (counted dotted 0) (sym e) ∙ from_none (groups_in dotted (pieces 0x3A (x ∷ xs)))

from_more : (n : ℕ) (v : Option ℕ) → option_map (λ m. n + m) (option_map (λ m. 1 + m) v) ≡ option_map (λ m. n + 1 + m) v
from_more n None = refl
from_more n (Some m) = ap Some (omega arith)

group_at : (dotted : Bool) (p xs : List ℕ) (t : Bool) → t ≡ hex_group p
    → groups_in dotted (p ∷ pieces 0x3A xs) ≡ cond t (option_map (λ m. 1 + m) (groups_in dotted (pieces 0x3A xs))) None
group_at dotted p xs t h =
    ap (λ v. groups_in dotted (p ∷ v)) (pieces_cut 0x3A xs)
    ∙ (ap (λ v. cond (hex_group p) (option_map (λ m. 1 + m) (groups_in dotted v)) None) (sym (pieces_cut 0x3A xs))
    ∙ ap (λ b. cond b (option_map (λ m. 1 + m) (groups_in dotted (pieces 0x3A xs))) None) (sym h))

-- a piece that others follow
pub groups_more : (dotted : Bool) (n : ℕ) (p xs : List ℕ) → true ≡ hex_group p → counted dotted (n + 1) (pieces 0x3A xs) ≡ counted dotted n (p ∷ pieces 0x3A xs)
groups_more dotted n p xs h = sym (ap (option_map (λ m. n + m)) (group_at dotted p xs true h) ∙ from_more n (groups_in dotted (pieces 0x3A xs)))

pub groups_wrong : (dotted : Bool) (n : ℕ) (p xs : List ℕ) → false ≡ hex_group p → None ≡ counted dotted n (p ∷ pieces 0x3A xs)
groups_wrong dotted n p xs h = sym (ap (option_map (λ m. n + m)) (group_at dotted p xs false h))

-- how much is left: a text that is there counts one more than its bytes
abbrev pub size : Option (List ℕ) → ℕ
size None = 0
size (Some xs) = suc (length xs)

pub size_behind : (mark : ℕ) (xs : List ℕ) (o : Option (List ℕ)) → o ≡ behind mark xs → size o < suc (length xs)
size_behind mark xs None e = omega arith
size_behind mark xs (Some ys) e = let l = behind_shorter mark xs ys (sym e) in omega arith

pub groups_empty : (dotted : Bool) (text : List ℕ) → length text ≡ 0 → Some 0 ≡ groups dotted text
unfolding groups
groups_empty dotted [] l = refl
groups_empty dotted (x ∷ xs) l = absurd (omega arith)

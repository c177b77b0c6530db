-- What lies in front and behind after a write to the front of a buffer.
use Rattle.std.proofs.Common.{◌≡◌, ℕ, ◌+◌, ◌≤◌, List, [], ◌∷◌, ◌++◌, length, take, drop, set, sym, ap, ◌∙◌, one-add, arith}
use borrow.Rule.Slice.PartMut.{put_mid}
use Rattle.std.proofs.lemmas.List.{take_at, drop_at, drop-drop}

pub headed_front : (out ys : List ℕ) (h n k : ℕ) → 1 ≤ length out → length ys ≡ n → take (1 + n) (put_mid 1 k (set out 0 h) ys) ≡ h ∷ ys
headed_front [] ys h n k l e = absurd (omega arith)
headed_front (x ∷ out) ys h n k l e = ap (λ m. take m (h ∷ (ys ++ drop k out))) (one-add n) ∙ ap (λ zs. h ∷ zs) (take_at ys (drop k out) n e)

-- behind k the buffer is y, whose back is still that of m
pub joined_back : (n a : ℕ) (k m y : List ℕ) → length k ≡ a → drop n y ≡ drop n (drop a m) → drop (a + n) (k ++ y) ≡ drop (a + n) m
joined_back n a k m y l e = sym (drop-drop n a (k ++ y)) ∙ (ap (drop n) (drop_at k y a l) ∙ (e ∙ drop-drop n a m))

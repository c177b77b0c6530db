-- The MIC of a script, made in a buffer.
use Rattle.std.proofs.Common.{◌≡◌, ℕ, ◌+◌, ◌-◌, ◌<◌, List, [], ◌∷◌, length, take, drop, set, ap, ◌∙◌, arith}
use borrow.Rule.Slice.PartMut.{put_mid}
use Rattle.std.proofs.lemmas.List.{drop-set-lt}
use Rattle.std.proofs.lemmas.Slice.{take-put_mid, drop-put_mid}
use Rattle.script.specs.Plays.{mic_of}

-- the buffer once the first byte and the data behind it are written
pub made_front : (m d y : List ℕ) → y ≡ d → 0 < length m → take (length d + 1) (put_mid 1 (length d + 1 - 1) (set m 0 0x53) y) ≡ mic_of d
made_front [] d y e l = absurd (omega arith)
made_front (x ∷ m) d y e l =
    let n = ap length e in
    take-put_mid 1 (length d + 1 - 1) (set (x ∷ m) 0 0x53) y (length d + 1) (omega arith) (omega arith) ∙ ap (λ v. 0x53 ∷ v) e

pub made_kept : (m d y : List ℕ) → y ≡ d → 0 < length m → drop (length d + 1) (put_mid 1 (length d + 1 - 1) (set m 0 0x53) y) ≡ drop (length d + 1) m
made_kept [] d y e l = absurd (omega arith)
made_kept (x ∷ m) d y e l =
    let n = ap length e in
    drop-put_mid 1 (length d + 1 - 1) (set (x ∷ m) 0 0x53) y (length d + 1) (omega arith) (omega arith) (omega arith) ∙ drop-set-lt (length d + 1) (x ∷ m) 0 0x53 (omega arith)

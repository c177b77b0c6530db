-- What a writer leaves in the buffer that went over its first bytes.
use Rattle.std.proofs.Common.{◌≡◌, ℕ, ◌+◌, ◌<◌, ◌≤◌, ltb, List, [], length, Ok, sym, ap, ◌∙◌, arith, length-drop, ⊎_elim, append_assoc}
use Rattle.std.proofs.lemmas.List.{take-append-drop, drop-drop, length-take-le}
use Rattle.std.proofs.lemmas.Bool.{lt-ltb, ltb-true, le-leb, cases_lt}
use Rattle.der.specs.declared.writer.Writer.{Writer}
use Rattle.der.specs.Writing.{written, room, element_len, invalid, too_small, Puts, Added}
use Rattle.der.specs.Placing.{over, put, put_if}
use Rattle.der.specs.Elements.{header}
use Rattle.der.proofs.Ways.{err_ok, let_through}

over_added : {bytes : List ℕ} {w v : Writer} → Added bytes w v → v.out.now ≡ over w.out.now w.at bytes
unfolding over
over_added {w = w} {v = v} a = sym (take-append-drop v.at v.out.now) ∙ simp (a.written, a.room, drop-drop, append_assoc)

-- Bytes that were written behind the first `at` of the buffer `out`.
pub placed : {Good : Type 0} {bytes : List ℕ} {w v : Writer} (u : Writer) (out : List ℕ) (at : ℕ) → Good → written u ≡ [] → room u ≡ out → w.out.now ≡ u.out.now
    → (at ≤ length (room u)) × (w.at ≡ u.at + at) → Puts Good bytes w v (Ok tt) → v.out.now ≡ put out at bytes
placed {bytes = bytes} {w = w} u out at g e f s p q =
    let z : u.at ≡ 0 = omega (arith, ap length e, length-take-le u.at u.out.now u.within) in
    let b : u.out.now ≡ out = simp z at f in
    let k : w.at ≡ at = omega (arith, p.1) in
    let d = length-drop w.at w.out.now in
    let t : w.out.now ≡ out = s ∙ b in
    ⊎_elim (λ l. absurd (err_ok too_small tt (sym (q.short g l).0)))
    (λ l. over_added (q.made g l).1 ∙ simp (t, k, le-leb (at + length bytes) (length out) (omega (arith, ap length t, ap length b)))) (cases_lt (length (room w)) (length bytes))

-- The same where the content has n bytes, and an element of them was found to have a length.
pub placed_if : {bytes : List ℕ} {w v : Writer} (u : Writer) (n m : ℕ) (out : List ℕ) (at : ℕ) → Ok m ≡ element_len n → written u ≡ [] → room u ≡ out
    → w.out.now ≡ u.out.now → (at ≤ length (room u)) × (w.at ≡ u.at + at) → Puts (n < 65536) bytes w v (Ok tt) → v.out.now ≡ put_if n out at bytes
placed_if u n m out at r e f s p q =
    let l = ltb-true n 65536 (let_through (ltb n 65536) invalid (Ok (length (header 0 n) + n)) m (sym r)).0 in
    placed u out at l e f s p q ∙ simp (lt-ltb n 65536 l)

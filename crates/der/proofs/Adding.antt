-- What is written behind what, and the lengths of elements.
use Rattle.std.proofs.Common.{◌≡◌, ℕ, ◌+◌, ◌<◌, ◌≤◌, ltb, List, [], ◌∷◌, ◌++◌, length, Ok, Err, Result, sym, refl, ap, ◌∙◌, arith, length-append, length-drop, append_assoc, add_assoc}
use Rattle.sspi.specs.declared.fault.Fault.{Fault}
use Rattle.std.proofs.lemmas.List.{append-nil, drop-drop}
use Rattle.std.proofs.lemmas.Bool.{lt-ltb, ltb-true, cond-true, cond_both}
use Rattle.der.specs.declared.writer.Writer.{Writer}
use Rattle.der.specs.Elements.{header, element}
use Rattle.der.proofs.Ways.{err_ok, let_through}
use Rattle.der.specs.Writing.{room, element_len, invalid, too_small, Puts, Adds}

-- bytes that are known to be those of a writing that can be made
pub puts_as : {Good : Type 0} {bytes hs : List ℕ} {w v : Writer} {r : Result (Unit {0}) Fault} → Good → hs ≡ bytes → Puts (Unit {0}) hs w v r → Puts Good bytes w v r
puts_as g e p = rw (← e) (record { lent = p.lent; unfit = λ bad. absurd (bad g); short = λ _. p.short tt; made = λ _. p.made tt })

pub puts_short : {Good : Type 0} {bytes : List ℕ} {w : Writer} → Good → length (room w) < length bytes → Puts Good bytes w w (Err too_small)
puts_short g l =
    record { lent = refl; unfit = λ bad. absurd (bad g); short = λ _ _. (refl, record { place = refl; buffer = refl }); made = λ _ k. absurd (omega arith) }

-- several steps that had room are as good as one
pub puts_steps : {Good : Type 0} {bytes : List ℕ} {w v : Writer} {r : Result (Unit {0}) Fault} → Good → length bytes ≤ length (room w) → Adds bytes w v r → Puts Good bytes w v r
puts_steps g l p = record { lent = p.lent; unfit = λ bad. absurd (bad g); short = λ _ k. absurd (omega arith); made = λ _. p.made }

pub adds : {Good : Type 0} {bytes : List ℕ} {w v : Writer} {r : Result (Unit {0}) Fault} → Good → Puts Good bytes w v r → Adds bytes w v r
adds g p = record { lent = p.lent; made = p.made g }

pub adds_none : {w : Writer} → Adds [] w w (Ok tt)
adds_none = record { lent = refl; made = λ _. (refl, record { written = sym (append-nil _); room = refl }) }

-- one writing behind another is the writing of both
pub adds_then : {a b : List ℕ} {w m v : Writer} {r : Result (Unit {0}) Fault} → Adds a w m (Ok tt) → Adds b m v r → Adds (a ++ b) w v r
adds_then {a = a} {b = b} {w = w} p q =
    record {
      lent = q.lent ∙ p.lent;
      made = λ fits.
          let s = length-append a b in
          let x = p.made (omega arith) in
          let d = length-drop (length a) (room w) in
          let y = q.made (omega (arith, ap length x.1.room)) in
          (y.0, record { written = simp (y.1.written, x.1.written, append_assoc); room = simp (y.1.room, x.1.room, s, drop-drop, add_assoc) });
    }

-- a writing that was refused had no room, so no longer one has
pub adds_refused : {a : List ℕ} (b : List ℕ) {w m : Writer} {e : Fault} {r : Result (Unit {0}) Fault} → Adds a w m (Err e) → Adds (a ++ b) w m r
adds_refused {a = a} b {e = e} p =
    record { lent = p.lent; made = λ fits. let s = length-append a b in absurd (err_ok e tt (p.made (omega arith)).0) }

-- a header and the content behind it
pub adds_element : (t : ℕ) {n : ℕ} {c : List ℕ} {w m v : Writer} {r : Result (Unit {0}) Fault} → n ≡ length c → n < 65536
    → Puts (n < 65536) (header t n) w m (Ok tt) → Adds c m v r → Adds (element t c) w v r
unfolding element
adds_element t e l p q = rw (← e) (adds_then (adds l p) q)

pub refused_element : (t : ℕ) (c : List ℕ) {n : ℕ} {w m : Writer} {e : Fault} {r : Result (Unit {0}) Fault} → n ≡ length c → n < 65536
    → Puts (n < 65536) (header t n) w m (Err e) → Adds (element t c) w m r
unfolding element
refused_element t c e l p = rw (← e) (adds_refused c (adds l p))

-- where the header's bytes are known, so is the element's length
pub len_at : (n k : ℕ) (hs : List ℕ) → n < 65536 → header 0 n ≡ hs → n + k ≡ length hs + n → Ok (n + k) ≡ element_len n
len_at n k hs l e s = simp (lt-ltb n 65536 l, e, s)

-- an element's length, computed before it is written
header_length : (t u n : ℕ) → length (header t n) ≡ length (header u n)
unfolding header
header_length t u n = refl

pub element_size : (t m : ℕ) (c : List ℕ) → element_len (length c) ≡ Ok m → (length c < 65536) × (length (element t c) ≡ m)
unfolding element
element_size t m c r =
    let p = let_through (ltb (length c) 65536) invalid (Ok (length (header 0 (length c)) + length c)) m r in
    let e : length (header 0 (length c)) + length c ≡ m = cc p.1 in
    (ltb-true (length c) 65536 p.0, length-append (header t (length c)) c ∙ (ap (λ k. k + length c) (header_length t 0 (length c)) ∙ e))

pub element_len_lem : (t : ℕ) (c : List ℕ) → length c < 65536 → element_len (length c) ≡ Ok (length (element t c))
unfolding element
element_len_lem t c l =
    cond-true (ltb (length c) 65536) _ _ (lt-ltb (length c) 65536 l) ∙ ap Ok (ap (λ k. k + length c) (header_length 0 t (length c)) ∙ sym (length-append (header t (length c)) c))

-- a header has at most four bytes
pub header_bound : (t n : ℕ) → length (header t n) ≤ 4
unfolding header
header_bound t n =
    cond_both (ltb n 128) (n ∷ []) _ (λ ls. length (t ∷ ls) ≤ 4) (λ _. omega arith)
    (λ _. cond_both (ltb n 256) (0x81 ∷ n ∷ []) _ (λ ls. length (t ∷ ls) ≤ 4) (λ _. omega arith) (λ _. omega arith))

pub element_bound : (n m : ℕ) → Ok m ≡ element_len n → m < 65540
element_bound n m r =
    let p = let_through (ltb n 65536) invalid (Ok (length (header 0 n) + n)) m (sym r) in
    let e : length (header 0 n) + n ≡ m = cc p.1 in
    omega (arith, ltb-true n 65536 p.0, header_bound 0 n)

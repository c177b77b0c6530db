-- How the promises of a reader and a writer follow from what is shown of them.
use Rattle.std.proofs.Common.{◌≡◌, ℕ, ◌<◌, ◌≤◌, List, [], length, Ok, Err, Result, sym, refl, ap, ◌∙◌, arith}
use Rattle.sspi.specs.declared.fault.Fault.{Fault}
use Rattle.der.specs.Reading.{illegal}
use Rattle.std.proofs.lemmas.List.{take-append-drop}
use Rattle.der.specs.declared.writer.Writer.{Writer}
use Rattle.der.specs.Writing.{written, room, invalid, too_small, Adds}
use Rattle.der.specs.Promises.{Exact, Writes, ReadBack, OneWriting, WrittenAgain}
use Rattle.der.proofs.Ways.{err_ok, same_ok, Only, only_at}

-- a reader that undoes the writing and accepts nothing else is exact
pub exact_from : {X : Type 0} {Good : X → Type 0} {bytes : X → List ℕ} (read : List ℕ → Result X Fault) → ((x : X) → Good x → read (bytes x) ≡ Ok x)
    → ((xs : List ℕ) (x : X) → read xs ≡ Ok x → (xs ≡ bytes x) × Good x) → ((xs : List ℕ) → Only illegal (read xs)) → (xs : List ℕ) → Exact Good bytes xs (read xs)
exact_from read w b o xs =
    record {
      accepts = λ x g e. ap read e ∙ w x g;
      accepted = λ x r. let p = b xs x r in (p.1, p.0);
      refused = λ e r. only_at illegal e (read xs) (o xs) r;
    }

-- what follows from exact reading
pub read_back : {X : Type 0} {Good : X → Type 0} {bytes : X → List ℕ} {read : List ℕ → Result X Fault} → ((xs : List ℕ) → Exact Good bytes xs (read xs)) → ReadBack Good bytes read
read_back {bytes = bytes} exact x g = (exact (bytes x)).accepts x g refl

pub one_writing : {X : Type 0} {Good : X → Type 0} {bytes : X → List ℕ} {read : List ℕ → Result X Fault} → ((xs : List ℕ) → Exact Good bytes xs (read xs)) → OneWriting Good bytes
one_writing {bytes = bytes} exact x y g h e = same_ok x y (sym ((exact (bytes x)).accepts x g refl) ∙ (exact (bytes x)).accepts y h e)

pub written_again : {X : Type 0} {Good : X → Type 0} {bytes : X → List ℕ} {read : List ℕ → Result X Fault} → ((xs : List ℕ) → Exact Good bytes xs (read xs)) → WrittenAgain bytes read
written_again exact xs x r = sym ((exact xs).accepted x r).1

-- a writer's answer in each of the three cases
pub writes_unfit : {Good : Type 0} (bytes out : List ℕ) (e : Fault) → (Good → ⊥) → e ≡ invalid → Writes Good bytes out out (Err e)
writes_unfit bytes out e bad p = record { unfit = λ _. (ap Err p, refl); short = λ g _. absurd (bad g); written = λ g _. absurd (bad g) }

pub writes_short : {Good : Type 0} (bytes out : List ℕ) → Good → length out < length bytes → Writes Good bytes out out (Err too_small)
writes_short bytes out g l = record { unfit = λ bad. absurd (bad g); short = λ _ _. (refl, refl); written = λ _ k. absurd (omega arith) }

pub writes_made : {Good : Type 0} {bytes : List ℕ} {w v : Writer} (out after : List ℕ) (n : ℕ) → Good → length bytes ≤ length out → written w ≡ [] → room w ≡ out
    → Adds bytes w v (Ok tt) → after ≡ v.out.now → n ≡ length (written v) → Writes Good bytes out after (Ok n)
writes_made {bytes = bytes} {w = w} {v = v} out after n g l s t p e k =
    let a = (p.made (omega (arith, ap length t))).1 in
    let h : written v ≡ bytes = simp s at a.written in
    record {
      unfit = λ bad. absurd (bad g);
      short = λ _ k. absurd (omega arith);
      written = λ _ _. (ap Ok (k ∙ ap length h), e ∙ (sym (take-append-drop v.at v.out.now) ∙ simp (h, a.room, t)));
    }

-- one that had room is not refused
pub not_refused : {bytes : List ℕ} {w v : Writer} {e : Fault} (out : List ℕ) → length bytes ≤ length out → room w ≡ out → Adds bytes w v (Err e) → ⊥
not_refused {e = e} out l t p = err_ok e tt (p.made (omega (arith, ap length t))).0

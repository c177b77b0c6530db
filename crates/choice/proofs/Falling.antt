-- Whether a kind of fault is among a few is decided by their numbers.
use Rattle.std.proofs.Common.{◌≡◌, eqb, List, [], ◌∷◌, Decides, sym, true≢false, rules}
use Rattle.std.proofs.lemmas.Bool.Decides.{Decides-or}
use Rattle.sspi.specs.Kinds.{kind_number}
use Rattle.sspi.specs.declared.error_kind.ErrorKind.{ErrorKind}
use Rattle.choice.specs.Fallback.{among, Among}

same_kind : (x k : ErrorKind) → Decides (eqb (kind_number x) (kind_number k)) (x ≡ k)
same_kind x k = search rules

pub among_decides : (k : ErrorKind) (xs : List ErrorKind) → Decides (among k xs) (Among k xs)
among_decides k [] = (λ e. absurd (true≢false (sym e)), λ n. absurd n)
among_decides k (x ∷ xs) = Decides-or (eqb (kind_number x) (kind_number k)) (among k xs) (same_kind x k) (among_decides k xs)

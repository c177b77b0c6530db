-- Reading is exact: both directions of `Whole`, and one fault for all the rest.
use Rattle.std.proofs.Common.{◌≡◌, ℕ, eqb, List, length, Some, None, Option, Result, sym, refl, subst}
use Rattle.sspi.specs.declared.fault.Fault.{Fault}
use Rattle.der.specs.Promises.{Exact}
use Rattle.der.specs.Reading.{illegal, only_of, optional_of}
use Rattle.der.proofs.Promised.{exact_from}
use Rattle.der.proofs.Ways.{Only, only_then, only_cond}
use Rattle.der.proofs.Taking.{refused_only, refused_optional}
use Rattle.mech_types.specs.Reading.{next_of}
use Rattle.mech_types.proofs.Listing.{refused_next}
use Rattle.spnego.specs.declared.part.Kind.{Kind}
use Rattle.spnego.specs.declared.part.Kind.TheVariants.{Element, MechTypes, Oid, BitString, OctetString}
use Rattle.spnego.specs.Tokens.{wrapper, Targ, targ_bytes, TargWellFormed, Init, init_bytes, InitWellFormed}
use Rattle.spnego.specs.Reading.{legal_test, unwrapped, part_of, inner_of, within_of, field_of, fields_of, sequence_of, read_targ, read_init}
use Rattle.spnego.proofs.Whole.{targ_written, targ_read_lem, init_written, init_read_lem}

refused_part : (o : Option ℕ) (content : List ℕ) → Only illegal (unwrapped o content)
refused_part None content = tt
refused_part (Some t) content = refused_only t content

refused_inner : (k : Kind) (content : List ℕ) → Only illegal (inner_of k content)
refused_inner k content = only_then illegal (part_of k content) _ (refused_part (wrapper k) content) (λ part. only_cond illegal (legal_test k part) _ _ tt refl)

refused_within : (k : Kind) (o : Option (List ℕ)) (rest : List ℕ) → Only illegal (within_of k o rest)
refused_within k None rest = tt
refused_within k (Some content) rest = only_then illegal (inner_of k content) _ (refused_inner k content) (λ part. tt)

refused_field : (t : ℕ) (k : Kind) (xs : List ℕ) → Only illegal (field_of t k xs)
refused_field t k xs = only_then illegal (optional_of t xs) _ (refused_optional t xs) (λ y. refused_within k y.0 y.1)

refused_sequence : (k l : Kind) (xs : List ℕ) → Only illegal (sequence_of k l xs)
refused_sequence k l xs =
    only_then illegal (only_of 0x30 xs) (fields_of k l) (refused_only 0x30 xs) (λ s.
    only_then illegal (field_of 0xA0 k s) _ (refused_field 0xA0 k s) (λ a.
    only_then illegal (field_of 0xA1 l a.1) _ (refused_field 0xA1 l a.1) (λ b.
    only_then illegal (field_of 0xA2 OctetString b.1) _ (refused_field 0xA2 OctetString b.1) (λ c.
    only_then illegal (field_of 0xA3 OctetString c.1) _ (refused_field 0xA3 OctetString c.1) (λ d.
    only_cond illegal (eqb (length d.1) 0) _ _ tt refl)))))

refused_targ : (xs : List ℕ) → Only illegal (read_targ xs)
unfolding read_targ
refused_targ xs = only_then illegal (only_of 0xA1 xs) _ (refused_only 0xA1 xs) (λ s. only_then illegal (sequence_of Element Oid s) _ (refused_sequence Element Oid s) (λ f. tt))

refused_init : (xs : List ℕ) → Only illegal (read_init xs)
unfolding read_init
refused_init xs =
    only_then illegal (only_of 0x60 xs) _ (refused_only 0x60 xs) (λ content.
    only_then illegal (next_of content) _ (refused_next content) (λ m.
    only_then illegal (only_of 0xA0 m.1) _ (refused_only 0xA0 m.1) (λ s.
    only_then illegal (sequence_of MechTypes BitString s) _ (refused_sequence MechTypes BitString s) (λ f. tt))))

pub exact_targ : (xs : List ℕ) → Exact TargWellFormed targ_bytes xs (read_targ xs)
exact_targ = exact_from read_targ targ_written targ_read_lem refused_targ

pub exact_init : (xs : List ℕ) → Exact InitWellFormed init_bytes xs (read_init xs)
exact_init = exact_from read_init init_written init_read_lem refused_init

-- the same of an answer that equals the reading
pub exact_at_targ : (xs : List ℕ) (r : Result Targ Fault) → r ≡ read_targ xs → Exact TargWellFormed targ_bytes xs r
exact_at_targ xs r e = subst (Exact TargWellFormed targ_bytes xs) (sym e) (exact_targ xs)

pub exact_at_init : (xs : List ℕ) (r : Result Init Fault) → r ≡ read_init xs → Exact InitWellFormed init_bytes xs r
exact_at_init xs r e = subst (Exact InitWellFormed init_bytes xs) (sym e) (exact_init xs)

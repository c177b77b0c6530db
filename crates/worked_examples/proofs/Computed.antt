-- The examples, by computation.
use Rattle.std.proofs.Common.{◌≡◌, ℕ, Bool, List, [], ◌∷◌, is_ok, Some, None, Ok, Err, codes, Result, sym, refl, ap, ◌∙◌}
use Rattle.der.proofs.Ways.{err_ok}
use Rattle.der.specs.Reading.{illegal}
use Rattle.packages.specs.Packages.{says, all_switch_off, parsed}
use Rattle.spnego.specs.Reading.{read_targ}
use Rattle.spnego.specs.Tokens.{Targ}
use Rattle.spnego.specs.Views.{targ_read}
use Rattle.spnego.specs.declared.neg_token_targ.NegTokenTarg.{NegTokenTarg}
use Rattle.spnego.proofs.Whole.{targ_written, targ_read_lem}
use Rattle.sspi.specs.declared.fault.Fault.{Fault}
use Rattle.targets.proofs.Worked.{with_slash, any_address, seven_groups_lem, zero_in_front_lem, brackets}
use Rattle.text.specs.Cases.{same_ignoring_case}
use Rattle.text.specs.Pieces.{pieces}
use Rattle.worked_examples.specs.Examples.{LegalTarg, Examples, none_open, kerberos_open}

pub empty_list_lem : parsed (Some (codes "")) ≡ none_open
unfolding parsed says all_switch_off pieces same_ignoring_case
empty_list_lem = refl

pub kerberos_alone_lem : parsed (Some (codes "!ntlm,kerberos")) ≡ kerberos_open
unfolding parsed says all_switch_off pieces same_ignoring_case
kerberos_alone_lem = refl

pub shortest : read_targ (0xA1 ∷ 0x02 ∷ 0x30 ∷ 0x00 ∷ []) ≡ Ok (record { neg_state = None; supported_mech = None; response_token = None; mech_list_mic = None })
unfolding read_targ
shortest = refl

pub long_length_lem : read_targ (0xA1 ∷ 0x03 ∷ 0x30 ∷ 0x81 ∷ 0x00 ∷ []) ≡ Err illegal
unfolding read_targ
long_length_lem = refl

pub byte_behind_lem : read_targ (0xA1 ∷ 0x02 ∷ 0x30 ∷ 0x00 ∷ 0x00 ∷ []) ≡ Err illegal
unfolding read_targ
byte_behind_lem = refl

-- a test on a result that was read
pub read_ok : (r : Result NegTokenTarg Fault) (s : Result Targ Fault) (t u : Bool) → t ≡ is_ok r → targ_read r ≡ s → is_ok s ≡ u → t ≡ u
read_ok (Ok x) s t u h e k = h ∙ (ap is_ok e ∙ k)
read_ok (Err x) s t u h e k = h ∙ (ap is_ok e ∙ k)

illegal_targ : (xs : List ℕ) → read_targ xs ≡ Err illegal → LegalTarg xs → ⊥
illegal_targ xs e l = err_ok illegal l.0 (sym e ∙ (ap read_targ l.2 ∙ targ_written l.0 l.1))

legal_targ : (xs : List ℕ) (t : Targ) → read_targ xs ≡ Ok t → LegalTarg xs
legal_targ xs t e = let p = targ_read_lem xs t e in (t, p.1, p.0)

pub examples : Examples
examples =
    record {
      empty_list = empty_list_lem;
      kerberos_alone = kerberos_alone_lem;
      behind_slash = with_slash;
      zeros = any_address;
      seven_groups = seven_groups_lem;
      zero_in_front = zero_in_front_lem;
      brackets = brackets;
      shortest = legal_targ _ _ shortest;
      long_length = illegal_targ _ long_length_lem;
      byte_behind = illegal_targ _ byte_behind_lem;
    }

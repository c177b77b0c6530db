-- The tokens that a party sends, each as the fields of one of the two tokens. What is sent is their writing. A token of a mechanism
-- that is absent is told from an empty one.
use Rattle.std.specs.Prelude.{◌≡◌, ℕ, ◌+◌, ◌≤◌, Bool, true, false, cond, ◌||◌, List, [], ◌∷◌, ◌++◌, length, Some, None, Ok, Err, Option, Result}
use Rattle.der.specs.Promises.{Writes}
use Rattle.mech_types.specs.Lists.{mech_type_list}
use Rattle.names.specs.Names.{mech_oid, state_bytes}
use Rattle.names.specs.declared.mech.Mech.{Mech}
use Rattle.names.specs.declared.mech.Mech.TheVariants.{Spnego, MsKrb5, Krb5, Ntlm}
use Rattle.names.specs.declared.neg_state.NegState.{NegState}
use Rattle.names.specs.declared.neg_state.NegState.TheVariants.{Incomplete}
use Rattle.spnego.specs.Tokens.{Init, init_bytes, InitWellFormed, Targ, targ_bytes, TargWellFormed}
use Rattle.sspi.specs.declared.error_kind.ErrorKind.TheVariants.{InvalidParameter}
use Rattle.sspi.specs.declared.fault.Fault.{Fault}
use Rattle.sspi.specs.declared.fault.Layer.TheVariants.{Negotiation}

-- the mechanisms that an initiator offers, the preferred first
abbrev pub offered : Bool → Bool → List (List ℕ)
offered kerberos ntlm = cond kerberos (mech_oid MsKrb5 ∷ mech_oid Krb5 ∷ []) [] ++ cond ntlm (mech_oid Ntlm ∷ []) []

-- the list that it sends
abbrev pub offer : Bool → Bool → List ℕ
offer kerberos ntlm = mech_type_list (offered kerberos ntlm)

-- the refusal where there is none to offer
abbrev pub nothing_to_offer : Fault
nothing_to_offer = record { kind = InvalidParameter; layer = Negotiation }

-- what the writer of the list owes: it refuses where there is nothing to offer, and else for want of room alone
pub record Offers (kerberos ntlm : Bool) (out after : List ℕ) (r : Result ℕ Fault) : Type 0 where
  pub none : (kerberos || ntlm) ≡ false → (r ≡ Err nothing_to_offer) × (after ≡ out)
  pub some : (kerberos || ntlm) ≡ true → Writes (Unit {0}) (offer kerberos ntlm) out after r
  pub size : length (offer kerberos ntlm) ≤ 36

-- the initiator's first token
abbrev pub first_token : List ℕ → Option (List ℕ) → Init
first_token list token = record { this_mech = mech_oid Spnego; mech_types = Some list; req_flags = None; mech_token = token; mech_list_mic = None }

-- the acceptor's first reply, which names the mechanism chosen
abbrev pub first_reply : NegState → Mech → Option (List ℕ) → Targ
first_reply state mech token = record { neg_state = Some (state_bytes state); supported_mech = Some (mech_oid mech); response_token = token; mech_list_mic = None }

-- the last token of a party, perhaps with a MIC
abbrev pub final_token : NegState → Option (List ℕ) → Option (List ℕ) → Targ
final_token state token mic = record { neg_state = Some (state_bytes state); supported_mech = None; response_token = token; mech_list_mic = mic }

-- a token on the way
abbrev pub next_token : Option (List ℕ) → Targ
next_token token = final_token Incomplete token None

abbrev pub size_of : Option (List ℕ) → ℕ
size_of None = 0
size_of (Some part) = length part

-- Where the rest of a token is as a party sends it, and the mechanism's token has at most 16,384 bytes, the writing has at most
-- `overhead` bytes more than the mechanism's token, and is not refused where there is room for these.
abbrev pub Sends : ℕ → Type 0 → Option (List ℕ) → List ℕ → List ℕ → Result ℕ Fault → Type 0
Sends overhead Rest token bytes out r =
    Rest → size_of token ≤ 16384 → (length bytes ≤ size_of token + overhead) × (size_of token + overhead ≤ length out → r ≡ Ok (length bytes))

-- what a writer of such a token owes
pub record InitSent (overhead : ℕ) (Rest : Type 0) (t : Init) (out after : List ℕ) (r : Result ℕ Fault) : Type 0 where
  pub written : Writes (InitWellFormed t) (init_bytes t) out after r
  pub sends : Sends overhead Rest t.mech_token (init_bytes t) out r

pub record TargSent (overhead : ℕ) (Rest : Type 0) (t : Targ) (out after : List ℕ) (r : Result ℕ Fault) : Type 0 where
  pub written : Writes (TargWellFormed t) (targ_bytes t) out after r
  pub sends : Sends overhead Rest t.response_token (targ_bytes t) out r

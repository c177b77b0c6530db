-- The byte strings that have names.
use Rattle.std.specs.Prelude.{ℕ, cond, List, [], ◌∷◌, Some, None, codes, Option, Result, ◌==◌}
use Rattle.std.specs.Str.{bytes_eq}
use Rattle.std.specs.List.{find}
use Rattle.std.specs.Option.{ok_or}
use Rattle.names.specs.declared.named.Unnamed.{Unnamed}
use Rattle.names.specs.declared.mech.Mech.{Mech}
use Rattle.names.specs.declared.mech.Mech.TheVariants.{Spnego, MsKrb5, Krb5, Ntlm}
use Rattle.names.specs.declared.neg_state.NegState.{NegState}
use Rattle.names.specs.declared.neg_state.NegState.TheVariants.{Complete, Incomplete, Reject, RequestMic}

-- the content of a mechanism's object identifier
abbrev pub mech_oid : Mech → List ℕ
mech_oid Spnego = 0x2B ∷ 0x06 ∷ 0x01 ∷ 0x05 ∷ 0x05 ∷ 0x02 ∷ []
mech_oid MsKrb5 = 0x2A ∷ 0x86 ∷ 0x48 ∷ 0x82 ∷ 0xF7 ∷ 0x12 ∷ 0x01 ∷ 0x02 ∷ 0x02 ∷ []
mech_oid Krb5 = 0x2A ∷ 0x86 ∷ 0x48 ∷ 0x86 ∷ 0xF7 ∷ 0x12 ∷ 0x01 ∷ 0x02 ∷ 0x02 ∷ []
mech_oid Ntlm = 0x2B ∷ 0x06 ∷ 0x01 ∷ 0x04 ∷ 0x01 ∷ 0x82 ∷ 0x37 ∷ 0x02 ∷ 0x02 ∷ 0x0A ∷ []

-- the mechanism with an object identifier
unfoldable pub mech_of : List ℕ → Option Mech
mech_of oid = find (λ m. bytes_eq oid (mech_oid m)) (Spnego ∷ MsKrb5 ∷ Krb5 ∷ Ntlm ∷ [])

-- the word for a mechanism
abbrev pub mech_word : Mech → List ℕ
mech_word Spnego = codes "SPNEGO"
mech_word MsKrb5 = codes "ms_krb5"
mech_word Krb5 = codes "krb5"
mech_word Ntlm = codes "NTLM"

-- the number of a mechanism, where an answer names one by a plain number
abbrev pub mech_number : Mech → ℕ
mech_number Spnego = 0
mech_number MsKrb5 = 1
mech_number Krb5 = 2
mech_number Ntlm = 3

-- the mechanism with a number
unfoldable pub mech_numbered : ℕ → Option Mech
mech_numbered n = cond (n == 0) (Some Spnego) (cond (n == 1) (Some MsKrb5) (cond (n == 2) (Some Krb5) (cond (n == 3) (Some Ntlm) None)))

-- the element, ENUMERATED, that says a state
abbrev pub state_bytes : NegState → List ℕ
state_bytes Complete = 0x0A ∷ 0x01 ∷ 0x00 ∷ []
state_bytes Incomplete = 0x0A ∷ 0x01 ∷ 0x01 ∷ []
state_bytes Reject = 0x0A ∷ 0x01 ∷ 0x02 ∷ []
state_bytes RequestMic = 0x0A ∷ 0x01 ∷ 0x03 ∷ []

-- the word for a state
abbrev pub state_word : NegState → List ℕ
state_word Complete = codes "complete"
state_word Incomplete = codes "incomplete"
state_word Reject = codes "reject"
state_word RequestMic = codes "request-mic"

-- the state that an element says
unfoldable pub state_of : List ℕ → Option NegState
state_of bytes = find (λ s. bytes_eq bytes (state_bytes s)) (Complete ∷ Incomplete ∷ Reject ∷ RequestMic ∷ [])

-- the answer to a name: what has it, or that nothing does
abbrev pub named : {X : Type 0} → Option X → Result X Unnamed
named x = ok_or x (record {})

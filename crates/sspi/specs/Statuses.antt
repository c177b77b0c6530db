-- The numbers of the statuses, and the status of a number.
use Rattle.std.specs.Prelude.{ℕ, List, [], ◌∷◌, Option, ◌==◌}
use Rattle.std.specs.List.{find}
use Rattle.sspi.specs.declared.security_status.SecurityStatus.{SecurityStatus}
use Rattle.sspi.specs.declared.security_status.SecurityStatus.TheVariants.{Ok, ContinueNeeded, CompleteNeeded, CompleteAndContinue, LocalLogon, ContextExpired, IncompleteCredentials, Renegotiate, NoLsaContext}

-- the number of each status
abbrev pub status_number : SecurityStatus → ℕ
status_number Ok = 0
status_number ContinueNeeded = 0x00090312
status_number CompleteNeeded = 0x00090313
status_number CompleteAndContinue = 0x00090314
status_number LocalLogon = 0x00090315
status_number ContextExpired = 0x00090317
status_number IncompleteCredentials = 0x00090320
status_number Renegotiate = 0x00090321
status_number NoLsaContext = 0x00090323

-- every status, in the order of the declaration
abbrev pub statuses : List SecurityStatus
statuses = Ok ∷ ContinueNeeded ∷ CompleteNeeded ∷ CompleteAndContinue ∷ LocalLogon ∷ ContextExpired ∷ IncompleteCredentials ∷ Renegotiate ∷ NoLsaContext ∷ []

-- the status of the number n, if there is one
unfoldable pub status_of : ℕ → Option SecurityStatus
status_of n = find (λ s. status_number s == n) statuses

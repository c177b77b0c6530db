-- The words by which a configuration names the protocol that runs, each in exactly these letters.
-- Any other word names a package that is not there.
use Rattle.std.specs.Prelude.{ℕ, cond, List, Ok, Err, codes, Result}
use Rattle.packages.specs.declared.protocol.Protocol.{Protocol}
use Rattle.packages.specs.declared.protocol.Protocol.TheVariants.{Kerberos, Ntlm, Pku2u}
use Rattle.sspi.specs.declared.error_kind.ErrorKind.{ErrorKind}
use Rattle.sspi.specs.declared.error_kind.ErrorKind.TheVariants.{SecurityPackageNotFound}
use Rattle.sspi.specs.declared.fault.Fault.{Fault}
use Rattle.sspi.specs.declared.fault.Layer.TheVariants.{Negotiation}
use Rattle.std.specs.Str.{bytes_eq}

-- a refusal of the negotiation
abbrev pub refused : ErrorKind → Fault
refused k = record { kind = k; layer = Negotiation }

unfoldable pub protocol_of : List ℕ → Result Protocol Fault
protocol_of w =
    cond (bytes_eq w (codes "Kerberos")) (Ok Kerberos)
    (cond (bytes_eq w (codes "NTLM")) (Ok Ntlm)
    (cond (bytes_eq w (codes "PKU2U")) (Ok Pku2u)
    (Err (refused SecurityPackageNotFound))))

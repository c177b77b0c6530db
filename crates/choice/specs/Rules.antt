-- Which mechanism needs what: Kerberos has two object identifiers, NTLM one. A mechanism belongs to a protocol, and its package is
-- the protocol's.
use Rattle.std.specs.Prelude.{Bool, true, false, ◌&&◌, Some, None, Option}
use Rattle.names.specs.declared.mech.Mech.{Mech}
use Rattle.names.specs.declared.mech.Mech.TheVariants.{Spnego, MsKrb5, Krb5, Ntlm}
use Rattle.packages.specs.declared.package_list.PackageListConfig.{PackageListConfig}
use Rattle.packages.specs.declared.protocol.Protocol.{Protocol}
use Rattle.packages.specs.declared.protocol.Protocol.TheVariants as protocol
use Rattle.sspi.specs.declared.error_kind.ErrorKind.TheVariants.{InvalidToken}
use Rattle.sspi.specs.declared.fault.Fault.{Fault}
use Rattle.sspi.specs.declared.fault.Layer.TheVariants.{Negotiation}

-- the protocol that a mechanism names
abbrev pub protocol_of : Mech → Option Protocol
protocol_of Spnego = None
protocol_of MsKrb5 = Some protocol.Kerberos
protocol_of Krb5 = Some protocol.Kerberos
protocol_of Ntlm = Some protocol.Ntlm

abbrev pub is_kerberos : Protocol → Bool
is_kerberos protocol.Kerberos = true
is_kerberos protocol.Ntlm = false
is_kerberos protocol.Pku2u = false

-- whether an acceptor may choose a mechanism: its package is open, and Kerberos runs already if it is Kerberos
abbrev pub eligible : PackageListConfig → Protocol → Mech → Bool
eligible on running Spnego = false
eligible on running MsKrb5 = on.kerberos && is_kerberos running
eligible on running Krb5 = on.kerberos && is_kerberos running
eligible on running Ntlm = on.ntlm

-- the refusal of a choice
abbrev pub no_mechanism : Fault
no_mechanism = record { kind = InvalidToken; layer = Negotiation }

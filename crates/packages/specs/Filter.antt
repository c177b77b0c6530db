-- Which protocol runs once the packages that are open are known. A running protocol that is open keeps running.
-- A closed one gives way to NTLM, which runs even if it is closed; for closed NTLM a client takes Kerberos, and a server refuses.
-- Nothing runs if no package is open.
use Rattle.std.specs.Prelude.{Bool, cond, Ok, Err, Result}
use Rattle.packages.specs.Packages.{any_open}
use Rattle.packages.specs.Protocols.{refused}
use Rattle.packages.specs.declared.package_list.PackageListConfig.{PackageListConfig}
use Rattle.packages.specs.declared.protocol.Protocol.{Protocol}
use Rattle.packages.specs.declared.protocol.Protocol.TheVariants.{Kerberos, Ntlm, Pku2u}
use Rattle.sspi.specs.declared.error_kind.ErrorKind.TheVariants.{NoCredentials, InternalError}
use Rattle.sspi.specs.declared.fault.Fault.{Fault}

-- whether the package of a protocol is open
abbrev pub is_open : PackageListConfig → Protocol → Bool
is_open o Kerberos = o.kerberos
is_open o Ntlm = o.ntlm
is_open o Pku2u = o.pku2u

-- what runs in the place of a closed protocol
abbrev pub instead : Protocol → Bool → Result Protocol Fault
instead Kerberos client = Ok Ntlm
instead Pku2u client = Ok Ntlm
instead Ntlm client = cond client (Ok Kerberos) (Err (refused InternalError))

unfoldable pub filtered : Protocol → PackageListConfig → Bool → Result Protocol Fault
filtered p o client = cond (any_open o) (cond (is_open o p) (Ok p) (instead p client)) (Err (refused NoCredentials))

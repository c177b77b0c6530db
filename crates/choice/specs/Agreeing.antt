-- The initiator hears which mechanism the acceptor chose, by its object identifier. A choice whose package is closed is refused. An
-- accepted one closes the package of the other, and says whether a MIC over the list is owed: for NTLM by everybody but a guest, for
-- Kerberos if it did not run before.
use Rattle.std.specs.Prelude.{ℕ, Bool, true, false, cond, not, List, Some, None, Ok, Err, Option, Result}
use Rattle.choice.specs.Rules.{is_kerberos, no_mechanism}
use Rattle.choice.specs.declared.by_mech_type.Agreed.{Agreed}
use Rattle.names.specs.Names.{mech_of}
use Rattle.names.specs.declared.mech.Mech.{Mech}
use Rattle.names.specs.declared.mech.Mech.TheVariants.{Spnego, MsKrb5, Krb5, Ntlm}
use Rattle.packages.specs.declared.package_list.PackageListConfig.{PackageListConfig}
use Rattle.packages.specs.declared.protocol.Protocol.{Protocol}
use Rattle.packages.specs.declared.protocol.Protocol.TheVariants as protocol
use Rattle.sspi.specs.declared.fault.Fault.{Fault}

abbrev pub agreed_kerberos : PackageListConfig → Protocol → Bool → Result Agreed Fault
agreed_kerberos on running owed = cond on.kerberos
    (Ok (record { enabled = record { ntlm = false; kerberos = true; pku2u = on.pku2u }; running = protocol.Kerberos; mic_needed = cond (is_kerberos running) owed true }))
    (Err no_mechanism)

abbrev pub agreed_ntlm : PackageListConfig → Bool → Result Agreed Fault
agreed_ntlm on guest = cond on.ntlm
    (Ok (record { enabled = record { ntlm = true; kerberos = false; pku2u = on.pku2u }; running = protocol.Ntlm; mic_needed = not guest }))
    (Err no_mechanism)

abbrev pub agreed_on : Option Mech → PackageListConfig → Protocol → Bool → Bool → Result Agreed Fault
agreed_on (Some MsKrb5) on running owed guest = agreed_kerberos on running owed
agreed_on (Some Krb5) on running owed guest = agreed_kerberos on running owed
agreed_on (Some Ntlm) on running owed guest = agreed_ntlm on guest
agreed_on (Some Spnego) on running owed guest = Err no_mechanism
agreed_on None on running owed guest = Err no_mechanism

abbrev pub agreed : List ℕ → PackageListConfig → Protocol → Bool → Bool → Result Agreed Fault
agreed oid on running owed guest = agreed_on (mech_of oid) on running owed guest

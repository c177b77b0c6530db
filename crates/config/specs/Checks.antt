-- A configuration is a word for the protocol and a list of packages. Its check gives a plan: the protocol that runs, the packages that are open
-- and the greatest working buffer. It refuses, in this order: an unknown word, a list that leaves nothing open, a server that would run closed NTLM.
use Rattle.std.specs.Prelude.{ℕ, Bool, true, false, ◌&&◌, is_ok, List, Ok, Err, Option, Result}
use Rattle.config.specs.declared.Draft.{Draft}
use Rattle.config.specs.declared.Plan.{Plan}
use Rattle.packages.specs.Filter.{filtered}
use Rattle.packages.specs.Packages.{parsed, any_open}
use Rattle.packages.specs.Protocols.{protocol_of}
use Rattle.packages.specs.declared.package_list.PackageListConfig.{PackageListConfig}
use Rattle.packages.specs.declared.protocol.Protocol.{Protocol}
use Rattle.packages.specs.declared.protocol.Protocol.TheVariants.{Kerberos, Ntlm, Pku2u}
use Rattle.sspi.specs.Faults.{and_then}
use Rattle.sspi.specs.declared.fault.Fault.{Fault}

-- the plan with the packages that are open known
abbrev pub planned : Bool → List ℕ → PackageListConfig → ℕ → Result Plan Fault
planned client word o work =
    and_then (protocol_of word) (λ configured.
    and_then (filtered configured o client) (λ running.
    Ok (record { running = running; «open» = o; max_work = work })))

unfoldable pub checked : Bool → List ℕ → Option (List ℕ) → Result Plan Fault
checked client word list = planned client word (parsed list) 16384

-- what stands in a draft
abbrev pub plan_of : {R : Type 0} → Draft R → Plan
plan_of d = d.plan

abbrev pub drafted : {R : Type 0} → Result (Draft R) Fault → Result Plan Fault
drafted (Ok d) = Ok (plan_of d)
drafted (Err e) = Err e

-- whether a server runs the protocol that a word names, if something is open
abbrev pub serves : Result Protocol Fault → PackageListConfig → Bool
serves (Ok Ntlm) o = o.ntlm
serves (Ok Kerberos) o = true
serves (Ok Pku2u) o = true
serves (Err e) o = false

-- whether a party is made: a client if the word is known and something is open, and a server also if it runs what the word names
abbrev pub makes : Bool → Result Protocol Fault → PackageListConfig → Bool
makes true r o = is_ok r && any_open o
makes false r o = any_open o && serves r o

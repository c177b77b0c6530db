-- The acceptor's choice: of the mechanisms it may choose, the first in its own order of preference that the initiator lists, and
-- the first place where it is listed.
use Rattle.std.specs.Prelude.{ℕ, ◌+◌, cond, List, [], ◌∷◌, Some, None, Ok, Err, Option, Result, ◌==◌}
use Rattle.choice.specs.Rules.{eligible, no_mechanism}
use Rattle.der.specs.Reading.{and_then}
use Rattle.mech_types.specs.Reading.{read_mech_type_list}
use Rattle.names.specs.Names.{mech_oid, mech_number}
use Rattle.names.specs.declared.mech.Mech.{Mech}
use Rattle.names.specs.declared.mech.Mech.TheVariants.{MsKrb5, Krb5, Ntlm}
use Rattle.packages.specs.declared.package_list.PackageListConfig.{PackageListConfig}
use Rattle.packages.specs.declared.protocol.Protocol.{Protocol}
use Rattle.packages.specs.declared.protocol.Protocol.TheVariants as protocol
use Rattle.sspi.specs.declared.fault.Fault.{Fault}
use Rattle.std.specs.Str.{bytes_eq}

-- the first place of an object identifier in a list whose first has place n
abbrev pub place_from : ℕ → List ℕ → List (List ℕ) → Option ℕ
place_from n oid [] = None
place_from n oid (o ∷ os) = cond (bytes_eq o oid) (Some n) (place_from (n + 1) oid os)

abbrev pub place_of : List ℕ → List (List ℕ) → Option ℕ
place_of oid os = place_from 0 oid os

-- the acceptor's order of preference
abbrev pub preferred : List Mech
preferred = MsKrb5 ∷ Krb5 ∷ Ntlm ∷ []

-- where a mechanism that may be chosen is listed first
abbrev pub standing : List (List ℕ) → PackageListConfig → Protocol → Mech → Option ℕ
standing os on running m = cond (eligible on running m) (place_of (mech_oid m) os) None

-- a mechanism at its place, or what comes else
abbrev pub found : Mech → Option ℕ → Result (ℕ × ℕ) Fault → Result (ℕ × ℕ) Fault
found m (Some i) r = Ok (mech_number m, i)
found m None r = r

abbrev pub chosen_of : List Mech → List (List ℕ) → PackageListConfig → Protocol → Result (ℕ × ℕ) Fault
chosen_of [] os on running = Err no_mechanism
chosen_of (m ∷ ms) os on running = found m (standing os on running m) (chosen_of ms os on running)

-- the choice from the object identifiers listed
unfoldable pub chosen : List (List ℕ) → PackageListConfig → Protocol → Result (ℕ × ℕ) Fault
chosen os on running = chosen_of preferred os on running

-- the choice from the list as it was received
unfoldable pub choice : List ℕ → PackageListConfig → Protocol → Result (ℕ × ℕ) Fault
choice list on running = and_then (read_mech_type_list list) (λ os. chosen os on running)

-- which protocol runs after the choice of the mechanism with a number
abbrev pub runs_after : ℕ → Protocol → Protocol
runs_after n running = cond (n == 3) protocol.Ntlm running

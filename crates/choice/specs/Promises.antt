-- What a choice means, for the acceptor who makes it and for the initiator who hears of it.
use Rattle.std.specs.Prelude.{◌≡◌, ℕ, ◌<◌, true, false, ◌&&◌, List, [], length, Some, Ok, Err, Result, slice_index_or}
use Rattle.choice.specs.Choosing.{runs_after}
use Rattle.choice.specs.declared.by_mech_type.Agreed.{Agreed}
use Rattle.choice.specs.Rules.{eligible, no_mechanism, protocol_of}
use Rattle.names.specs.Names.{mech_oid, mech_number}
use Rattle.names.specs.declared.mech.Mech.{Mech}
use Rattle.packages.specs.Filter.{is_open}
use Rattle.packages.specs.declared.package_list.PackageListConfig.{PackageListConfig}
use Rattle.packages.specs.declared.protocol.Protocol.{Protocol}
use Rattle.sspi.specs.declared.fault.Fault.{Fault}

abbrev pub Listed : List ℕ → List (List ℕ) → ℕ → Type 0
Listed oid os i = (i < length os) × (slice_index_or os i [] ≡ oid)

abbrev pub NotListed : List ℕ → List (List ℕ) → Type 0
NotListed oid os = (i : ℕ) → Listed oid os i → ⊥

-- the mechanism m, listed first at place i, is what is chosen
pub record Picks (os : List (List ℕ)) (on : PackageListConfig) (running : Protocol) (m : Mech) (n i : ℕ) : Type 0 where
  pub number : n ≡ mech_number m
  pub listed : Listed (mech_oid m) os i
  pub first : (j : ℕ) → j < i → Listed (mech_oid m) os j → ⊥
  pub may : eligible on running m ≡ true
  pub belongs : protocol_of m ≡ Some (runs_after n running)
  pub stays : is_open on (runs_after n running) ≡ true

pub record Choice (os : List (List ℕ)) (on : PackageListConfig) (running : Protocol) (r : Result (ℕ × ℕ) Fault) : Type 0 where
  pub accepted : (n i : ℕ) → r ≡ Ok (n, i) → (m : Mech) × Picks os on running m n i
  pub refused : (e : Fault) → r ≡ Err e → (e ≡ no_mechanism) × ((m : Mech) → eligible on running m ≡ true → NotListed (mech_oid m) os)

-- What an initiator holds to after it accepted the mechanism m: its protocol runs, was open and stays so; packages are only closed,
-- and of Kerberos and NTLM one is.
pub record Agrees (m : Mech) (on : PackageListConfig) (a : Agreed) : Type 0 where
  pub runs : protocol_of m ≡ Some a.running
  pub was : is_open on a.running ≡ true
  pub stays : is_open a.enabled a.running ≡ true
  pub closes : (p : Protocol) → is_open a.enabled p ≡ true → is_open on p ≡ true
  pub one : (a.enabled.kerberos && a.enabled.ntlm) ≡ false

pub record Agreement (oid : List ℕ) (on : PackageListConfig) (r : Result Agreed Fault) : Type 0 where
  pub accepted : (a : Agreed) → r ≡ Ok a → (m : Mech) × (oid ≡ mech_oid m) × Agrees m on a
  pub refused : (e : Fault) → r ≡ Err e → (e ≡ no_mechanism) × ((m : Mech) (p : Protocol) → oid ≡ mech_oid m → protocol_of m ≡ Some p → is_open on p ≡ false)

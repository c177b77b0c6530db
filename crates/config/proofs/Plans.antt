-- When a party is made, and what its plan leaves open.
use Rattle.std.proofs.Common.{◌≡◌, ℕ, Bool, List, is_ok, Ok, Err, Result, sym, ap, ◌∙◌, arith}
use Rattle.std.proofs.lemmas.Bool.Decides.{nat_tests}
use Rattle.config.specs.Checks.{makes, planned, drafted}
use Rattle.config.specs.declared.Draft.{Draft}
use Rattle.config.specs.declared.Plan.{Plan}
use Rattle.packages.specs.Filter.{filtered}
use Rattle.packages.specs.declared.package_list.PackageListConfig.{PackageListConfig}
use Rattle.packages.specs.Protocols.{protocol_of}
use Rattle.packages.specs.declared.protocol.Protocol.{Protocol}
use Rattle.sspi.specs.Faults.{and_then}
use Rattle.sspi.specs.declared.fault.Fault.{Fault}

made_by : (client : Bool) (p : Protocol) (o : PackageListConfig) → is_ok (filtered p o client) ≡ makes client (Ok p) o
unfolding filtered
made_by client p o = grind (arith, nat_tests)

-- a party is made where its protocol may run
pub made : (client is_client : Bool) (p : Protocol) {o list : PackageListConfig} {r named : Result Protocol Fault}
    → is_client ≡ client → named ≡ Ok p → o ≡ list → r ≡ filtered p o is_client → is_ok r ≡ makes client named list
made client is_client p {o} {list} {r} {named} role word all answer =
    ap is_ok answer
    ∙ (made_by is_client p o
    ∙ (ap (λ (n : Result Protocol Fault). makes is_client n o) (sym word) ∙ (ap (makes is_client named) all ∙ ap (λ v. makes v named list) role)))

abbrev plan : PackageListConfig → ℕ → Protocol → Plan
plan o work q = record { running = q; «open» = o; max_work = work }

-- a plan leaves open what was open
plan_from : (o : PackageListConfig) (work : ℕ) (p : Plan) (r : Result Protocol Fault) → and_then r (λ q. Ok (plan o work q)) ≡ Ok p → p.«open» ≡ o
plan_from o work p (Ok q) h = let same : plan o work q ≡ p = cc in ap (λ (v : Plan). v.«open») (sym same)
plan_from o work p (Err e) h = cc

open_by : (o : PackageListConfig) (work : ℕ) (p : Plan) (f : Protocol → Result Protocol Fault) (r : Result Protocol Fault)
    → and_then r (λ c. and_then (f c) (λ q. Ok (plan o work q))) ≡ Ok p → p.«open» ≡ o
open_by o work p f (Ok c) h = plan_from o work p (f c) h
open_by o work p f (Err e) h = cc

pub plan_open : (client : Bool) (word : List ℕ) (o : PackageListConfig) (work : ℕ) (p : Plan) → planned client word o work ≡ Ok p → p.«open» ≡ o
plan_open client word o work p h = open_by o work p (λ c. filtered c o client) (protocol_of word) h

-- a draft is made if its plan is
pub drafted_made : {R : Type 0} (r : Result (Draft R) Fault) (want : Result Plan Fault) → drafted r ≡ want → is_ok r ≡ is_ok want
drafted_made (Ok d) want h = ap is_ok h
drafted_made (Err e) want h = ap is_ok h

-- A package list is text of entries between commas; an entry names a package, and one that begins with `!` switches it off.
-- A package is open if the last entry that names it has no `!`. A package that no entry names is open if every entry has `!`.
-- Without a list every package is open.
use Rattle.std.specs.Prelude.{ℕ, Bool, true, false, cond, not, ◌&&◌, ◌||◌, List, [], ◌∷◌, drop, Some, None, codes, Option, ◌==◌, slice_index}
use Rattle.packages.specs.declared.package_list.PackageListConfig.{PackageListConfig}
use Rattle.text.specs.Cases.{same_ignoring_case}
use Rattle.text.specs.Pieces.{pieces}
pub use Rattle.text.specs.Pieces.{seen}

-- whether an entry begins with `!`
abbrev pub negative : List ℕ → Bool
negative e = slice_index e 0 == 0x21

abbrev pub positive : List ℕ → Bool
positive e = not (negative e)

-- the name in an entry: what stands behind one leading `!`
abbrev pub name_of : List ℕ → List ℕ
name_of e = cond (negative e) (drop 1 e) e

-- whether an entry names p, in letters of either case
abbrev pub names : List ℕ → List ℕ → Bool
names p e = same_ignoring_case (name_of e) p

-- what an option holds, or else another
abbrev pub or_else : {X : Type 0} → Option X → X → X
or_else None x = x
or_else (Some y) x = y

abbrev pub or_option : {X : Type 0} → Option X → Option X → Option X
or_option None x = x
or_option (Some y) x = Some y

-- what the last entry that names p says
unfoldable pub says : List ℕ → List (List ℕ) → Option Bool
says p [] = None
says p (e ∷ es) = or_option (says p es) (cond (names p e) (Some (positive e)) None)

-- whether every entry has `!`
unfoldable pub all_switch_off : List (List ℕ) → Bool
all_switch_off [] = true
all_switch_off (e ∷ es) = negative e && all_switch_off es

-- whether an entry names p
unfoldable pub named : List ℕ → List (List ℕ) → Bool
named p [] = false
named p (e ∷ es) = names p e || named p es

-- whether the entries leave p open
abbrev pub opens : List ℕ → List (List ℕ) → Bool
opens p es = or_else (says p es) (all_switch_off es)

abbrev pub entries : List ℕ → List (List ℕ)
entries text = pieces 0x2C text

abbrev pub ntlm_name : List ℕ
ntlm_name = codes "ntlm"

abbrev pub kerberos_name : List ℕ
kerberos_name = codes "kerberos"

abbrev pub pku2u_name : List ℕ
pku2u_name = codes "pku2u"

-- a flag for each package
abbrev pub each : (List ℕ → Bool) → PackageListConfig
each f = record { ntlm = f ntlm_name; kerberos = f kerberos_name; pku2u = f pku2u_name }

-- the packages that a list leaves open
unfoldable pub parsed : Option (List ℕ) → PackageListConfig
parsed None = each (λ _. true)
parsed (Some text) = each (λ p. opens p (entries text))

-- whether one is open
abbrev pub any_open : PackageListConfig → Bool
any_open c = c.ntlm || (c.kerberos || c.pku2u)

-- Ten examples of what the definitions mean: two package lists, five targets and three tokens.
use Rattle.std.specs.Prelude.{◌≡◌, ℕ, true, false, List, [], ◌∷◌, Some, codes}
use Rattle.packages.specs.Packages.{parsed}
use Rattle.packages.specs.declared.package_list.PackageListConfig.{PackageListConfig}
use Rattle.spnego.specs.Tokens.{Targ, targ_bytes, TargWellFormed}
use Rattle.worked_examples.specs.declared.Answers.{Answers}
use Rattle.targets.specs.Addresses.{target_is_address}

-- a byte string is a NegTokenTarg if it is the writing of well-formed fields
abbrev pub LegalTarg : List ℕ → Type 0
LegalTarg xs = (t : Targ) × TargWellFormed t × (xs ≡ targ_bytes t)

abbrev pub none_open : PackageListConfig
none_open = record { ntlm = false; kerberos = false; pku2u = false }

abbrev pub kerberos_open : PackageListConfig
kerberos_open = record { ntlm = false; kerberos = true; pku2u = false }

pub record Examples : Type 0 where
  -- the empty list closes all three; a list that names a package closes those that it does not name
  pub empty_list : parsed (Some (codes "")) ≡ none_open
  pub kerberos_alone : parsed (Some (codes "!ntlm,kerberos")) ≡ kerberos_open
  -- addresses: behind a slash, zeros alone, and one group left out at the end
  pub behind_slash : target_is_address (codes "HTTP/10.0.0.1") ≡ true
  pub zeros : target_is_address (codes "::") ≡ true
  pub seven_groups : target_is_address (codes "1:2:3:4:5:6:7::") ≡ true
  -- no addresses: a zero in front, brackets
  pub zero_in_front : target_is_address (codes "10.0.0.01") ≡ false
  pub brackets : target_is_address (codes "[::1]") ≡ false
  -- the shortest token; no tokens: a length in two bytes that needs one, a byte behind the end
  pub shortest : LegalTarg (0xA1 ∷ 0x02 ∷ 0x30 ∷ 0x00 ∷ [])
  pub long_length : LegalTarg (0xA1 ∷ 0x03 ∷ 0x30 ∷ 0x81 ∷ 0x00 ∷ []) → ⊥
  pub byte_behind : LegalTarg (0xA1 ∷ 0x02 ∷ 0x30 ∷ 0x00 ∷ 0x00 ∷ []) → ⊥

-- what the code must answer to them
abbrev pub answers : Answers
answers =
    record {
      empty_list = none_open;
      kerberos_alone = kerberos_open;
      behind_slash = true;
      zeros = true;
      seven_groups = true;
      zero_in_front = false;
      brackets = false;
      shortest = true;
      long_length = false;
      byte_behind = false;
    }

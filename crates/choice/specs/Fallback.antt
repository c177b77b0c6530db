-- Four kinds of fault of Kerberos lead to NTLM: Kerberos cannot work here, though the logon may.
use Rattle.std.specs.Prelude.{◌≡◌, Bool, false, ◌||◌, ◌⊎◌, List, [], ◌∷◌, ◌==◌}
use Rattle.sspi.specs.Kinds.{kind_number}
use Rattle.sspi.specs.declared.error_kind.ErrorKind.{ErrorKind}
use Rattle.sspi.specs.declared.error_kind.ErrorKind.TheVariants.{TimeSkew, NoAuthenticatingAuthority, CertificateUnknown, UnknownCredentials}

abbrev pub fallback_kinds : List ErrorKind
fallback_kinds = TimeSkew ∷ NoAuthenticatingAuthority ∷ CertificateUnknown ∷ UnknownCredentials ∷ []

-- whether a kind is one of some, by its number
abbrev pub among : ErrorKind → List ErrorKind → Bool
among k [] = false
among k (x ∷ xs) = kind_number x == kind_number k || among k xs

unfoldable pub falls_back : ErrorKind → Bool
falls_back k = among k fallback_kinds

-- a kind is one of some
abbrev pub Among : ErrorKind → List ErrorKind → Type 0
Among k [] = ⊥
Among k (x ∷ xs) = (x ≡ k) ⊎ Among k xs

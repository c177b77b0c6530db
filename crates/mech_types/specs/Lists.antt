-- A list of mechanisms as RFC 4178 has it: a sequence of object identifiers. This file knows nothing of a reader.
use Rattle.std.specs.Prelude.{◌≡◌, ℕ, ◌<◌, Bool, true, ◌&&◌, List, [], ◌∷◌, length}
use Rattle.der.specs.Elements.{element, oid}
use Rattle.std.specs.List.{flat_map}

-- object identifiers, each as an element, one behind the other
unfoldable pub oids : List (List ℕ) → List ℕ
oids os = flat_map (element 0x06) os

-- a list of mechanisms
unfoldable pub mech_type_list : List (List ℕ) → List ℕ
mech_type_list os = element 0x30 (oids os)

unfoldable pub all_oids : List (List ℕ) → Bool
all_oids [] = true
all_oids (o ∷ os) = oid o && all_oids os

-- the object identifiers of a list that can be written
pub record GoodList (os : List (List ℕ)) : Type 0 where
  pub all : all_oids os ≡ true
  pub short : length (oids os) < 65536

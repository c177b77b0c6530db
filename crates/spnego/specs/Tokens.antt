-- The two negotiation tokens of RFC 4178, as byte strings made of elements. This file says how fields are
-- written and which fields make a legal token; it knows nothing of a reader.
use Rattle.std.specs.Prelude.{◌≡◌, ℕ, ◌<◌, true, List, ◌++◌, length, Some, None, Option}
use Rattle.der.specs.Elements.{tag, element, optional, oid, bit_string}
use Rattle.mech_types.specs.Lists.{mech_type_list, GoodList}
use Rattle.spnego.specs.declared.part.Kind.{Kind}
use Rattle.spnego.specs.declared.part.Kind.TheVariants.{Element, MechTypes, Oid, BitString, OctetString}
use Rattle.std.specs.Option.{option_map}

-- which parts a field of each kind may hold
abbrev pub Legal : Kind → List ℕ → Type 0
Legal Element part = (t : ℕ) × (content : List ℕ) × (part ≡ element t content) × (tag t ≡ true) × (length content < 65536)
Legal MechTypes part = (os : List (List ℕ)) × (part ≡ mech_type_list os) × GoodList os
Legal Oid part = oid part ≡ true
Legal BitString part = bit_string part ≡ true
Legal OctetString part = Unit {0}

-- the tag of the element around a part of each kind, if the part is not an element itself
abbrev pub wrapper : Kind → Option ℕ
wrapper Element = None
wrapper MechTypes = None
wrapper Oid = Some 0x06
wrapper BitString = Some 0x03
wrapper OctetString = Some 0x04

-- how a part stands inside its field: one that is an element itself as it is, any other as the content of an element
abbrev pub wrapped : Option ℕ → List ℕ → List ℕ
wrapped None part = part
wrapped (Some t) part = element t part

abbrev pub inside : Kind → List ℕ → List ℕ
inside k part = wrapped (wrapper k) part

-- a field, which may be absent
abbrev pub field : ℕ → Kind → Option (List ℕ) → List ℕ
field t k part = optional t (option_map (inside k) part)

abbrev pub LegalField : Kind → Option (List ℕ) → Type 0
LegalField k None = Unit {0}
LegalField k (Some part) = Legal k part

-- both tokens end in four optional fields, of which the last two are octet strings
pub record Fields : Type 0 where
  pub first : Option (List ℕ)
  pub second : Option (List ℕ)
  pub third : Option (List ℕ)
  pub fourth : Option (List ℕ)

unfoldable pub four_fields : Kind → Kind → Fields → List ℕ
four_fields k l f = field 0xA0 k f.first ++ (field 0xA1 l f.second ++ (field 0xA2 OctetString f.third ++ field 0xA3 OctetString f.fourth))

unfoldable pub sequence : Kind → Kind → Fields → List ℕ
sequence k l f = element 0x30 (four_fields k l f)

pub record LegalFields (k l : Kind) (f : Fields) : Type 0 where
  pub first : LegalField k f.first
  pub second : LegalField l f.second

-- NegTokenTarg: negState (a whole element), supportedMech, responseToken, mechListMIC
pub record Targ : Type 0 where
  pub neg_state : Option (List ℕ)
  pub supported_mech : Option (List ℕ)
  pub response_token : Option (List ℕ)
  pub mech_list_mic : Option (List ℕ)

abbrev pub targ_fields : Targ → Fields
targ_fields t = record { first = t.neg_state; second = t.supported_mech; third = t.response_token; fourth = t.mech_list_mic }

unfoldable pub targ_bytes : Targ → List ℕ
targ_bytes t = element 0xA1 (sequence Element Oid (targ_fields t))

-- the fields are legal, and so is the length of the whole
pub record TargWellFormed (t : Targ) : Type 0 where
  pub fields : LegalFields Element Oid (targ_fields t)
  pub short : length (sequence Element Oid (targ_fields t)) < 65536

-- NegTokenInit: thisMech, then mechTypes (a whole list of mechanisms), reqFlags, mechToken, mechListMIC
pub record Init : Type 0 where
  pub this_mech : List ℕ
  pub mech_types : Option (List ℕ)
  pub req_flags : Option (List ℕ)
  pub mech_token : Option (List ℕ)
  pub mech_list_mic : Option (List ℕ)

abbrev pub init_fields : Init → Fields
init_fields t = record { first = t.mech_types; second = t.req_flags; third = t.mech_token; fourth = t.mech_list_mic }

unfoldable pub init_content : Init → List ℕ
init_content t = element 0x06 t.this_mech ++ element 0xA0 (sequence MechTypes BitString (init_fields t))

unfoldable pub init_bytes : Init → List ℕ
init_bytes t = element 0x60 (init_content t)

pub record InitWellFormed (t : Init) : Type 0 where
  pub this_mech : oid t.this_mech ≡ true
  pub fields : LegalFields MechTypes BitString (init_fields t)
  pub short : length (init_content t) < 65536

-- What a list of mechanisms holds, its references read.
use Rattle.std.specs.Prelude.{ℕ, List, [], Some, None, Ok, Err, Option, Result}
use Rattle.std.specs.Borrow.{Bor}
use Rattle.std.specs.Result.{result_unwrap_or}
use Rattle.mech_types.specs.Reading.{before, oids_of}
use Rattle.mech_types.specs.declared.MechTypeList.{MechTypeList}
use Rattle.sspi.specs.declared.fault.Fault.{Fault}

-- the object identifiers of a list
abbrev pub listed : MechTypeList → Result (List (List ℕ)) Fault
listed l = oids_of l.oids.now

-- the same: every list is legal
abbrev pub items : MechTypeList → List (List ℕ)
items l = result_unwrap_or (listed l) []

abbrev pub list_read : Result MechTypeList Fault → Result (List (List ℕ)) Fault
list_read (Ok l) = listed l
list_read (Err e) = Err e

-- the first object identifier of a list, and what follows it
abbrev pub splits : Option (Bor (List ℕ) × MechTypeList) → Option (List ℕ × List ℕ)
splits None = None
splits (Some x) = Some (x.0.now, x.1.oids.now)

-- the first of a list before the others
abbrev pub split : Option (Bor (List ℕ) × MechTypeList) → Result (List (List ℕ)) Fault
split None = Ok []
split (Some x) = before x.0.now (listed x.1)

-- How a reader goes through a list of mechanisms. That these functions undo the writing of `Lists`, and accept nothing else, is proved.
use Rattle.std.specs.Prelude.{ℕ, zero, suc, cond, ◌&&◌, List, [], ◌∷◌, length, Ok, Err, Result, ◌==◌}
use Rattle.std.specs.Borrow.{Bor}
use Rattle.der.specs.Elements.{oid}
use Rattle.der.specs.Reading.{illegal, and_then, take_of, only_of}
use Rattle.sspi.specs.declared.fault.Fault.{Fault}

-- the first object identifier, and what follows it
abbrev pub next_of : List ℕ → Result (List ℕ × List ℕ) Fault
next_of xs = and_then (take_of xs) (λ x. cond (x.0 == 0x06 && oid x.1) (Ok (x.1, x.2)) (Err illegal))

-- an object identifier before those that were read
abbrev pub before : List ℕ → Result (List (List ℕ)) Fault → Result (List (List ℕ)) Fault
before o r = and_then r (λ os. Ok (o ∷ os))

-- the object identifiers that fill the input, at most n
unfoldable pub oids_up_to : ℕ → List ℕ → Result (List (List ℕ)) Fault
oids_up_to zero xs = cond (length xs == 0) (Ok []) (Err illegal)
oids_up_to (suc n) xs = cond (length xs == 0) (Ok []) (and_then (next_of xs) (λ x. before x.0 (oids_up_to n x.1)))

-- those that fill the input: each takes at least a byte
unfoldable pub oids_of : List ℕ → Result (List (List ℕ)) Fault
oids_of xs = oids_up_to (length xs) xs

unfoldable pub read_mech_type_list : List ℕ → Result (List (List ℕ)) Fault
read_mech_type_list xs = and_then (only_of 0x30 xs) oids_of

-- what a result of the code says, its references read
abbrev pub plain_next : Result (Bor (List ℕ) × Bor (List ℕ)) Fault → Result (List ℕ × List ℕ) Fault
plain_next (Ok x) = Ok (x.0.now, x.1.now)
plain_next (Err e) = Err e

-- Hexadecimal digits of either case.
use Rattle.std.specs.Prelude.{ℕ, ◌+◌, ◌-◌, ◌*◌, cond, ◌&&◌, Some, None, Option, nat_le}

-- the value of a digit
abbrev pub digit_of : ℕ → Option ℕ
digit_of c =
    cond (nat_le 48 c && nat_le c 57) (Some (c - 48))
    (cond (nat_le 65 c && nat_le c 70) (Some (c - 65 + 10))
    (cond (nat_le 97 c && nat_le c 102) (Some (c - 97 + 10)) None))

-- the byte that two digits write
abbrev pub pair_of : Option ℕ → Option ℕ → Option ℕ
pair_of (Some h) (Some l) = Some (h * 16 + l)
pair_of (Some h) None = None
pair_of None l = None

-- Which targets are named by a network address: those whose part behind the last slash is an IPv4 or an IPv6 address.
-- There are no brackets and no zones: a text is an address only as a whole. The marks are 0x2E, the dot, 0x3A, the colon, and 0x2F, the slash.
use Rattle.std.specs.Prelude.{ℕ, ◌+◌, ◌-◌, ◌*◌, Bool, true, false, cond, ◌&&◌, ◌||◌, List, [], ◌∷◌, length, take, drop, Some, None, Option, ◌==◌, nat_le, nat_lt}
use Rattle.std.specs.Borrow.{Bor}
use Rattle.std.specs.Int.{is_in_range}
use Rattle.std.specs.Char.{is_ascii_digit, is_ascii_hexdigit}
use Rattle.std.specs.List.{list_all}
use Rattle.std.specs.Option.{option_map}
use Rattle.text.specs.Pieces.{pieces, after_last}

-- a digit from 1 to 9
abbrev pub leading : ℕ → Bool
leading c = is_in_range 0x31 0x39 c

-- a number of two digits; one of three, at most 255
abbrev pub two_digits : ℕ → ℕ → Bool
two_digits a b = leading a && is_ascii_digit b

abbrev pub three_digits : ℕ → ℕ → ℕ → Bool
three_digits a b c = leading a && (is_ascii_digit b && (is_ascii_digit c && nat_le ((a - 0x30) * 100 + (b - 0x30) * 10 + (c - 0x30)) 255))

-- a number from 0 to 255, with no zero in front
unfoldable pub decimal255 : List ℕ → Bool
decimal255 [] = false
decimal255 (a ∷ []) = is_ascii_digit a
decimal255 (a ∷ b ∷ []) = two_digits a b
decimal255 (a ∷ b ∷ c ∷ []) = three_digits a b c
decimal255 (a ∷ b ∷ c ∷ d ∷ ds) = false

abbrev pub numbers : List (List ℕ) → Bool
numbers ps = list_all decimal255 ps

-- four numbers, with a dot between each and the next
unfoldable pub ipv4 : List ℕ → Bool
ipv4 s = length (pieces 0x2E s) == 4 && numbers (pieces 0x2E s)

abbrev pub all_hex : List ℕ → Bool
all_hex xs = list_all is_ascii_hexdigit xs

-- one to four hexadecimal digits
unfoldable pub hex_group : List ℕ → Bool
hex_group s = nat_lt 0 (length s) && (nat_lt (length s) 5 && all_hex s)

-- the last piece: a group, or, where that is allowed, an IPv4 address, which counts as two
abbrev pub last_group : Bool → List ℕ → Option ℕ
last_group dotted p = cond (hex_group p) (Some 1) (cond (dotted && ipv4 p) (Some 2) None)

-- how many groups some pieces are, if each is one
abbrev pub groups_in : Bool → List (List ℕ) → Option ℕ
groups_in dotted [] = Some 0
groups_in dotted (p ∷ []) = last_group dotted p
groups_in dotted (p ∷ q ∷ ps) = cond (hex_group p) (option_map (λ n. 1 + n) (groups_in dotted (q ∷ ps))) None

-- how many groups a text is, with a colon between each and the next; the empty text is none
unfoldable pub groups : Bool → List ℕ → Option ℕ
groups dotted [] = Some 0
groups dotted (x ∷ xs) = groups_in dotted (pieces 0x3A (x ∷ xs))

-- where the first two colons in a row stand
abbrev pub double_at : List ℕ → Option ℕ
double_at [] = None
double_at (x ∷ []) = None
double_at (x ∷ y ∷ ys) = cond (x == 0x3A && y == 0x3A) (Some 0) (option_map (λ n. 1 + n) (double_at (y ∷ ys)))

-- the text before them and the text behind them
unfoldable pub cut_double : List ℕ → Option (List ℕ × List ℕ)
cut_double s = option_map (λ i. (take i s, drop (i + 2) s)) (double_at s)

-- eight groups, or at most seven around two colons
abbrev pub eight : Option ℕ → Bool
eight None = false
eight (Some n) = n == 8

abbrev pub at_most_seven : Option ℕ → Option ℕ → Bool
at_most_seven None n = false
at_most_seven (Some m) None = false
at_most_seven (Some m) (Some n) = nat_le (m + n) 7

abbrev pub groups_fit : List ℕ → Option (List ℕ × List ℕ) → Bool
groups_fit s None = eight (groups true s)
groups_fit s (Some x) = at_most_seven (groups false x.0) (groups true x.1)

unfoldable pub ipv6 : List ℕ → Bool
ipv6 s = groups_fit s (cut_double s)

abbrev pub address : List ℕ → Bool
address s = ipv4 s || ipv6 s

-- whether a target's part behind the last slash is an address
unfoldable pub target_is_address : List ℕ → Bool
target_is_address text = address (after_last 0x2F text)

-- what an answer of the code says, its references read
abbrev pub seen_pair : Option (Bor (List ℕ) × Bor (List ℕ)) → Option (List ℕ × List ℕ)
seen_pair None = None
seen_pair (Some x) = Some (x.0.now, x.1.now)

-- Elements as X.690 writes them under the distinguished rules, cut down to what a token uses: a tag of one byte, a length in its
-- shortest form, and that many bytes of content. This file knows only how an element is written, and nothing of a reader.
use Rattle.std.specs.Prelude.{◌≡◌, ℕ, ◌-◌, ◌/◌, ◌%◌, ◌<◌, ◌≤◌, Bool, true, cond, not, ◌&&◌, ◌||◌, ◌⊎◌, List, [], ◌∷◌, ◌++◌, length, Some, None, Option, ◌==◌, ◌≢◌, bit_and, nat_le, nat_lt, slice_index, slice_index_or}

-- a tag of one byte: its low five bits are not all ones
abbrev pub tag : ℕ → Bool
tag t = not (bit_and t 31 == 31)

-- the shortest form of a length of at most 65535
abbrev pub length_bytes : ℕ → List ℕ
length_bytes n = cond (nat_lt n 128) (n ∷ []) (cond (nat_lt n 256) (0x81 ∷ n ∷ []) (0x82 ∷ n / 256 ∷ n % 256 ∷ []))

-- what stands before n bytes of content
unfoldable pub header : ℕ → ℕ → List ℕ
header t n = t ∷ length_bytes n

unfoldable pub element : ℕ → List ℕ → List ℕ
element t content = header t (length content) ++ content

-- an element that may be absent
abbrev pub optional : ℕ → Option (List ℕ) → List ℕ
optional t None = []
optional t (Some content) = element t content

-- the content has a length that can be written
abbrev pub Short : Option (List ℕ) → Type 0
Short None = Unit {0}
Short (Some content) = length content < 65536

-- byte k begins an arc: it is the first byte, or the byte before it ends an arc
abbrev pub ArcBegins : List ℕ → ℕ → Type 0
ArcBegins content k = (k ≡ 0) ⊎ (slice_index content (k - 1) < 0x80)

-- the rule of an object identifier: its content is one or more arcs, the last byte of each is below 0x80 and the others are not, and
-- no arc begins with 0x80, which would add nothing to its number
pub record ObjectIdentifier (content : List ℕ) : Type 0 where
  pub some : 0 < length content
  pub ends : slice_index_or content (length content - 1) 0 < 0x80
  pub starts : (k : ℕ) → k < length content → ArcBegins content k → slice_index content k ≢ 0x80

-- the rule of a bit string: its first byte is the number of unused bits in the last byte, and 0 if no byte follows
pub record BitString (content : List ℕ) : Type 0 where
  pub some : 0 < length content
  pub unused : slice_index_or content 0 0 ≤ 7
  pub none : length content ≡ 1 → slice_index content 0 ≡ 0

-- how the two rules are decided. A row of arcs, byte by byte: `begins` says whether the next byte begins an arc
abbrev pub arcs : Bool → List ℕ → Bool
arcs begins [] = begins
arcs begins (b ∷ bs) = not (begins && b == 0x80) && arcs (nat_lt b 0x80) bs

-- at least one arc
unfoldable pub oid : List ℕ → Bool
oid content = nat_lt 0 (length content) && arcs true content

unfoldable pub bit_string : List ℕ → Bool
bit_string content = nat_lt 0 (length content) && (nat_le (slice_index content 0) 7 && (nat_lt 1 (length content) || slice_index content 0 == 0))

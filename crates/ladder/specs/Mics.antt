-- The MICs of a ladder: the key in use, a byte for the side that made the MIC, and the data. A ladder takes the MICs of the other side.
use Rattle.std.specs.Prelude.{◌≡◌, ℕ, ◌≤◌, List, [], ◌∷◌, ◌++◌, length, drop, refl}
use Rattle.std.proofs.Common.{arith, sym, ap, ◌∙◌, length-append, length-take}
use Rattle.std.proofs.lemmas.List.{drop_at, length-replicate}
use Rattle.std.proofs.lemmas.Slice.Eq.{bytes_eq-Decides}
use Rattle.ladder.specs.Keys.{key_of}
use Rattle.ladder.specs.Rungs.{is_up}
use Rattle.ladder.specs.declared.Ladder.{Ladder}
use Rattle.mechanism.specs.Laws.{Binds, Notes, LawfulSealing}
use Rattle.mechanism.specs.Meaning.{Sealing}
use Rattle.mechanism.specs.Paddings.{padded}
use Rattle.mechanism.specs.Sides.{other_side}
use Rattle.mechanism.specs.declared.mechanism.Side.{Side}
use Rattle.mechanism.specs.declared.mechanism.Side.TheVariants.{Client, Server}
use Rattle.std.specs.Option.{unwrap_or}
use Rattle.std.specs.Str.{bytes_eq}

-- the byte that stands for a side
abbrev pub side_byte : Side → ℕ
side_byte Client = 0x43
side_byte Server = 0x53

-- the key of the first identity that is allowed, or of the empty secret
abbrev pub first_key : Ladder → List ℕ
first_key s = key_of (unwrap_or s.allowed_key [])

-- the key in use after a step of a side
abbrev pub key_for : Ladder → Side → List ℕ
key_for s Client = key_of s.client_key
key_for s Server = first_key s

-- the MIC over data that a side makes with the key in use
abbrev pub mic_by : Ladder → Side → List ℕ → List ℕ
mic_by s maker x = key_for s s.side ++ side_byte maker ∷ x

abbrev pub ladder_sealing : Sealing Ladder
ladder_sealing = record {
  up = is_up;
  made = λ s x. mic_by s s.side x;
  takes = λ s x y. bytes_eq (mic_by s (other_side s.side) x) y;
  make_next = λ s _. s;
  check_next = λ s _ _. s;
  Alike = λ s t. s ≡ t;
}

-- Keys are 8 bytes long, so that the data in a MIC begins at a fixed place.
length-padded : (n : ℕ) (xs : List ℕ) → length (padded n xs) ≡ n
unfolding padded
length-padded n xs = simp (length-append, length-take, length-replicate) (omega arith)

length_key : (s : Ladder) (by : Side) → length (key_for s by) ≡ 8
length_key s Client = length-padded 8 s.client_key
length_key s Server = length-padded 8 (unwrap_or s.allowed_key [])

-- equal byte strings with fronts of one length have equal backs
same_backs : (n : ℕ) (k l : List ℕ) (a b : ℕ) (x y : List ℕ) → length k ≡ n → length l ≡ n → k ++ a ∷ x ≡ l ++ b ∷ y → x ≡ y
same_backs n k l a b x y h i e =
    let f : a ∷ x ≡ b ∷ y = sym (drop_at k (a ∷ x) n h) ∙ (ap (λ zs. drop n zs) e ∙ drop_at l (b ∷ y) n i) in
    cc

mic_short : (s : Ladder) (maker : Side) (x : List ℕ) → length x ≤ 128 → length (mic_by s maker x) ≤ 160
mic_short s maker x h =
    let k : length (key_for s s.side) ≡ 8 = length_key s s.side in
    simp length-append (omega arith)

mic_binds : Binds ladder_sealing
mic_binds s t x y p q e =
    same_backs 8 (key_for s s.side) (key_for t t.side) (side_byte s.side) (side_byte (other_side t.side)) x y (length_key s s.side) (length_key t t.side)
    (sym ((bytes_eq-Decides (mic_by t (other_side t.side) y) (mic_by s s.side x)).0 e))

notes_kept : Notes ladder_sealing
notes_kept = record {
  same = λ s. refl;
  back = λ s t e. sym e;
  on = λ s t u e f. e ∙ f;
  make = λ s x. refl;
  check = λ s x y. refl;
  up = λ s t e. ap is_up e;
  made = λ s t x e. ap (λ (u : Ladder). mic_by u u.side x) e;
  takes = λ s t x y e. ap (λ (u : Ladder). bytes_eq (mic_by u (other_side u.side) x) y) e;
}

pub ladder_lawful : LawfulSealing ladder_sealing
ladder_lawful = record {
  short = λ s x p. mic_short s s.side x p.1;
  binds = mic_binds;
  notes = notes_kept;
}

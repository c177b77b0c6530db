-- What every sealer and every mechanism owes.
use Rattle.std.specs.Prelude.{◌≡◌, ℕ, ◌≤◌, Bool, true, List, length, Ok, Err, Option, Result}
use Rattle.mechanism.specs.Identities.{Who}
use Rattle.mechanism.specs.Meaning.{Sealing, Stepping}
use Rattle.mechanism.specs.declared.mechanism.Side.{Side}
use Rattle.sspi.specs.declared.error_kind.ErrorKind.TheVariants.{BufferTooSmall}
use Rattle.sspi.specs.declared.fault.Fault.{Fault}
use Rattle.sspi.specs.declared.fault.Layer.TheVariants.{Mechanism}
use Rattle.sspi.specs.declared.security_status.SecurityStatus.{SecurityStatus}

-- the session is up, and the data is not too long
abbrev pub Seals : {S : Type 0} → Sealing S → S → List ℕ → Type 0
Seals m s x = (m.up s ≡ true) × (length x ≤ 128)

-- The MIC law: a MIC that one state made over some data, and that another takes for some data, shows that the data are the same.
abbrev pub Binds : {S : Type 0} → Sealing S → Type 0
Binds {S} m = (s t : S) (x y : List ℕ) → Seals m s x → Seals m t y → m.takes t y (m.made s x) ≡ true → x ≡ y

-- States alike but for notes: an equivalence, which making and checking stay in, and which no answer tells apart.
pub record Notes {S : Type 0} (m : Sealing S) : Type 0 where
  pub same : (s : S) → m.Alike s s
  pub back : (s t : S) → m.Alike s t → m.Alike t s
  pub on : (s t u : S) → m.Alike s t → m.Alike t u → m.Alike s u
  pub make : (s : S) (x : List ℕ) → m.Alike s (m.make_next s x)
  pub check : (s : S) (x y : List ℕ) → m.Alike s (m.check_next s x y)
  pub up : (s t : S) → m.Alike s t → m.up s ≡ m.up t
  pub made : (s t : S) (x : List ℕ) → m.Alike s t → m.made s x ≡ m.made t x
  pub takes : (s t : S) (x y : List ℕ) → m.Alike s t → m.takes s x y ≡ m.takes t x y

pub record LawfulSealing {S : Type 0} (m : Sealing S) : Type 0 where
  pub short : (s : S) (x : List ℕ) → Seals m s x → length (m.made s x) ≤ 160
  pub binds : Binds m
  pub notes : Notes m

abbrev pub too_small : Fault
too_small = record { kind = BufferTooSmall; layer = Mechanism }

-- a refusal is of layer mechanism
abbrev pub OfMechanism : {X : Type 0} → Result X Fault → Type 0
OfMechanism {X} r = (e : Fault) → r ≡ Err e → e.layer ≡ Mechanism

pub record LawfulStepping {S : Type 0} (m : Sealing S) (n : Stepping S) : Type 0 where
  -- a token fits the working buffer, and a name 64 bytes
  pub fits : (s : S) (side : Side) (flags : ℕ) (i : Option Who) (x : List ℕ) (w : ℕ) (st : SecurityStatus) (token : List ℕ) → n.step_answer s side flags i x w ≡ Ok (st, token) → length token ≤ w
  pub named : (s : S) (name : List ℕ) → n.name_answer s ≡ Ok name → length name ≤ 64
  -- refusals are of layer mechanism, and one for want of room changes nothing but notes
  pub step_layer : (s : S) (side : Side) (flags : ℕ) (i : Option Who) (x : List ℕ) (w : ℕ) → OfMechanism (n.step_answer s side flags i x w)
  pub name_layer : (s : S) → OfMechanism (n.name_answer s)
  pub allow_layer : (s : S) (i : Who) (new : Bool) → OfMechanism (n.allow_answer s i new)
  pub too_small : (s : S) (side : Side) (flags : ℕ) (i : Option Who) (x : List ℕ) (w : ℕ) → n.step_answer s side flags i x w ≡ Err too_small → m.Alike s (n.step_next s side flags i x w)
  -- states alike but for notes answer alike and lead to states alike
  pub fresh : (s t : S) (k : Option ℕ) → m.Alike s t → m.Alike (n.fresh_next s k) (n.fresh_next t k)
  pub step : (s t : S) (side : Side) (flags : ℕ) (i : Option Who) (x : List ℕ) (w : ℕ) → m.Alike s t → m.Alike (n.step_next s side flags i x w) (n.step_next t side flags i x w)
  pub stepped : (s t : S) (side : Side) (flags : ℕ) (i : Option Who) (x : List ℕ) (w : ℕ) → m.Alike s t → n.step_answer s side flags i x w ≡ n.step_answer t side flags i x w
  pub name : (s t : S) → m.Alike s t → n.name_answer s ≡ n.name_answer t
  pub allow : (s t : S) (i : Who) (new : Bool) → m.Alike s t → m.Alike (n.allow_next s i new) (n.allow_next t i new)
  pub allowed : (s t : S) (i : Who) (new : Bool) → m.Alike s t → n.allow_answer s i new ≡ n.allow_answer t i new

-- What a package list says, entry by entry, and its laws.
use Rattle.std.proofs.lemmas.Str.Ascii.{lowercase-lowercase}
use Rattle.std.proofs.Common.{◌≡◌, ℕ, ◌<◌, Bool, true, false, cond, not, ◌&&◌, ◌||◌, eqb, List, [], ◌∷◌, map, drop, Some, None, Option, sym, refl, ap, ◌∙◌, arith, lit<}
use Rattle.packages.specs.Packages.{negative, positive, name_of, names, or_else, or_option, says, all_switch_off, named, opens, entries, each, parsed, ntlm_name, kerberos_name, pku2u_name}
use Rattle.packages.specs.Walk.{flag_after, after}
use Rattle.packages.specs.declared.package_list.PackageListConfig.{PackageListConfig}
use Rattle.std.proofs.lemmas.Bool.{cond-false}
use Rattle.std.proofs.lemmas.Bool.Decides.{nat_tests}
use Rattle.std.specs.Char.{to_ascii_lowercase}
use Rattle.std.specs.Str.{bytes_eq}
use Rattle.text.specs.Cases.{small, same_ignoring_case}
use Rattle.text.specs.Pieces.{pieces, longer}

-- how a flag ends: d says that every entry so far had `!`, and es are the entries to come
abbrev pub ends : Bool → Bool → List ℕ → List (List ℕ) → Bool
ends d flag p es = or_else (says p es) (cond d (flag && all_switch_off es) flag)

step_by : (d flag off hit rest : Bool) (said : Option Bool)
    → or_else (or_option said (cond hit (Some (not off)) None)) (cond d (flag && (off && rest)) flag)
    ≡ or_else said (cond (d && off) (flag_after d flag off hit && rest) (flag_after d flag off hit))
step_by d flag off hit rest said = grind (arith, nat_tests)

pub step : (d flag : Bool) (p e : List ℕ) (es : List (List ℕ)) → ends d flag p (e ∷ es) ≡ ends (d && negative e) (flag_after d flag (negative e) (names p e)) p es
unfolding says all_switch_off
step d flag p e es = step_by d flag (negative e) (names p e) (all_switch_off es) (says p es)

-- the same of all three
abbrev pub ended : Bool → PackageListConfig → List (List ℕ) → PackageListConfig
ended d c es = record { ntlm = ends d c.ntlm ntlm_name es; kerberos = ends d c.kerberos kerberos_name es; pku2u = ends d c.pku2u pku2u_name es }

pub walk_step : (d : Bool) (c : PackageListConfig) (e : List ℕ) (es : List (List ℕ)) → ended d c (e ∷ es) ≡ ended (d && negative e) (after d c (negative e) (name_of e)) es
walk_step d c e es = cc (step d c.ntlm ntlm_name e es, step d c.kerberos kerberos_name e es, step d c.pku2u pku2u_name e es)

-- one turn of the walk over the entries, its start and its end
pub walk_again : (d off : Bool) (c then want : PackageListConfig) (name e : List ℕ) (es left : List (List ℕ))
    → left ≡ e ∷ es → off ≡ negative e → name ≡ name_of e → then ≡ after d c off name
    → ended d c left ≡ want → ended (d && off) then es ≡ want
walk_again d off c then want name e es left more sign named changed inv =
    ap (λ (v : PackageListConfig). ended (d && off) v es) (changed ∙ ap (after d c off) named)
    ∙ (ap (λ v. ended (d && v) (after d c v (name_of e)) es) sign
    ∙ (sym (walk_step d c e es) ∙ (ap (ended d c) (sym more) ∙ inv)))

pub walk_start : (text : List ℕ) → ended true (each (λ _. true)) (pieces 0x2C text) ≡ parsed (Some text)
unfolding parsed says all_switch_off
walk_start text = refl

kept : (d flag : Bool) (p : List ℕ) → ends d flag p [] ≡ flag
unfolding says all_switch_off
kept d flag p = grind (arith, nat_tests)

pub walk_end : (d : Bool) (c want : PackageListConfig) (left : List (List ℕ)) → left ≡ [] → ended d c left ≡ want → c ≡ want
walk_end d c want left none inv =
    let all : ended d c [] ≡ record { ntlm = c.ntlm; kerberos = c.kerberos; pku2u = c.pku2u } = cc (kept d c.ntlm ntlm_name, kept d c.kerberos kerberos_name, kept d c.pku2u pku2u_name) in
    sym all ∙ (ap (ended d c) (sym none) ∙ inv)

-- in a list in which every entry has `!`, an entry that names a package closes it
off_by : (off hit rest more : Bool) (said : Option Bool) → (rest ≡ true → said ≡ cond more (Some false) None) → (off && rest) ≡ true
    → or_option said (cond hit (Some (not off)) None) ≡ cond (hit || more) (Some false) None
off_by off hit rest more said ih e = grind (arith, nat_tests)

says_off : (p : List ℕ) (es : List (List ℕ)) → all_switch_off es ≡ true → says p es ≡ cond (named p es) (Some false) None
unfolding says all_switch_off named
says_off p [] h = refl
says_off p (e ∷ es) h = off_by (negative e) (names p e) (all_switch_off es) (named p es) (says p es) (says_off p es) h

not_by : (b : Bool) → or_else (cond b (Some false) None) true ≡ not b
not_by b = grind (arith, nat_tests)

pub closing : (p : List ℕ) (es : List (List ℕ)) → all_switch_off es ≡ true → opens p es ≡ not (named p es)
closing p es h = simp (says_off p es h, h) (not_by (named p es))

pub each_closing : (text : List ℕ) → all_switch_off (entries text) ≡ true → parsed (Some text) ≡ each (λ p. not (named p (entries text)))
unfolding parsed
each_closing text h = cc (closing ntlm_name (entries text) h, closing kerberos_name (entries text) h, closing pku2u_name (entries text) h)

-- a list of one entry without `!` opens just what it names
single_by : (hit off : Bool) → off ≡ false → or_else (or_option None (cond hit (Some (not off)) None)) (off && true) ≡ hit
single_by hit off e = grind (arith, nat_tests)

only_one : (p e : List ℕ) → negative e ≡ false → opens p (e ∷ []) ≡ same_ignoring_case e p
unfolding says all_switch_off
only_one p e h = single_by (names p e) (negative e) h ∙ ap (λ (v : List ℕ). same_ignoring_case v p) (cond-false (negative e) (drop 1 e) e h)

pub each_single : (text : List ℕ) → entries text ≡ text ∷ [] → negative text ≡ false → parsed (Some text) ≡ each (λ p. same_ignoring_case text p)
unfolding parsed
each_single text one h = simp one (cc (only_one ntlm_name text h, only_one kerberos_name text h, only_one pku2u_name text h))

-- letters in either case
lower_mark : (x m : ℕ) → m < 65 → eqb (to_ascii_lowercase x) m ≡ eqb x m
lower_mark x m l = grind (arith, nat_tests)

small_twice : (xs : List ℕ) → small (small xs) ≡ small xs
small_twice [] = refl
small_twice (x ∷ xs) = cc (lowercase-lowercase x, small_twice xs)

longer-small : (x : ℕ) (ps : List (List ℕ)) → longer (to_ascii_lowercase x) (map small ps) ≡ map small (longer x ps)
longer-small x [] = refl
longer-small x (p ∷ ps) = refl

cut_small : (b : Bool) (x : ℕ) (ps : List (List ℕ)) → cond b ([] ∷ map small ps) (longer (to_ascii_lowercase x) (map small ps)) ≡ map small (cond b ([] ∷ ps) (longer x ps))
cut_small true x ps = refl
cut_small false x ps = longer-small x ps

entries-small : (xs : List ℕ) → entries (small xs) ≡ map small (entries xs)
unfolding pieces
entries-small [] = refl
entries-small (x ∷ xs) = simp (lower_mark x 0x2C (lit< tt), entries-small xs) (cut_small (eqb x 0x2C) x (pieces 0x2C xs))

negative-small : (e : List ℕ) → negative (small e) ≡ negative e
negative-small [] = refl
negative-small (x ∷ xs) = lower_mark x 0x21 (lit< tt)

name_by : (b : Bool) (e : List ℕ) → cond b (drop 1 (small e)) (small e) ≡ small (cond b (drop 1 e) e)
name_by true [] = refl
name_by true (x ∷ xs) = refl
name_by false e = refl

names-small : (p e : List ℕ) → names p (small e) ≡ names p e
unfolding same_ignoring_case
names-small p e =
    ap (λ b. bytes_eq (small (cond b (drop 1 (small e)) (small e))) (small p)) (negative-small e)
    ∙ ap (λ v. bytes_eq v (small p)) (ap small (name_by (negative e) e) ∙ small_twice (name_of e))

says-small : (p : List ℕ) (es : List (List ℕ)) → says p (map small es) ≡ says p es
unfolding says
says-small p [] = refl
says-small p (e ∷ es) =
    ap (λ r. or_option r (cond (names p (small e)) (Some (positive (small e))) None)) (says-small p es)
    ∙ (ap (λ b. or_option (says p es) (cond b (Some (positive (small e))) None)) (names-small p e)
    ∙ ap (λ b. or_option (says p es) (cond (names p e) (Some (not b)) None)) (negative-small e))

off_small : (es : List (List ℕ)) → all_switch_off (map small es) ≡ all_switch_off es
unfolding all_switch_off
off_small [] = refl
off_small (e ∷ es) = simp (negative-small e, off_small es)

opens_small : (p : List ℕ) (es : List (List ℕ)) → opens p (map small es) ≡ opens p es
opens_small p es = simp (says-small p es, off_small es)

parsed-small : (xs : List ℕ) → parsed (Some (small xs)) ≡ parsed (Some xs)
unfolding parsed
parsed-small xs = simp (entries-small xs, opens_small)

pub any_case : (xs ys : List ℕ) → small xs ≡ small ys → parsed (Some xs) ≡ parsed (Some ys)
any_case xs ys e = sym (parsed-small xs) ∙ (ap (λ v. parsed (Some v)) e ∙ parsed-small ys)

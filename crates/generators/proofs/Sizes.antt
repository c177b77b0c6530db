-- How much longer a token is than the mechanism's token in it.
use Rattle.std.proofs.Common.{◌≡◌, ℕ, ◌+◌, ◌<◌, ◌≤◌, true, ltb, List, [], ◌∷◌, ◌++◌, length, Some, None, Option, Result, refl, ap, ◌∙◌, arith, length-append}
use Rattle.std.proofs.lemmas.Bool.{lt-ltb, ltb-false, cond-true, cond_both}
use Rattle.sspi.specs.declared.fault.Fault.{Fault}
use Rattle.der.specs.Elements.{header, element, oid}
use Rattle.der.specs.Promises.{Writes}
use Rattle.der.proofs.Adding.{header_bound}
use Rattle.der.proofs.Taking.{length-element}
use Rattle.names.specs.Names.{mech_oid, state_bytes}
use Rattle.names.specs.declared.mech.Mech.{Mech}
use Rattle.names.specs.declared.mech.Mech.TheVariants.{Spnego, MsKrb5, Krb5, Ntlm}
use Rattle.names.specs.declared.neg_state.NegState.{NegState}
use Rattle.names.specs.declared.neg_state.NegState.TheVariants.{Complete, Incomplete, Reject, RequestMic}
use Rattle.spnego.specs.Tokens.{Legal, field, Fields, four_fields, sequence, LegalFields, Targ, targ_fields, targ_bytes, TargWellFormed, Init, init_fields, init_bytes, init_content, InitWellFormed}
use Rattle.spnego.specs.declared.part.Kind.{Kind}
use Rattle.spnego.specs.declared.part.Kind.TheVariants.{Element, MechTypes, Oid, BitString, OctetString}
use Rattle.generators.specs.Sending.{first_token, first_reply, final_token, next_token, size_of, Sends, InitSent, TargSent}

-- elements: the header has two bytes before a content of less than 128, and never more than four
short_header : (t n : ℕ) → n < 128 → length (header t n) ≡ 2
unfolding header
short_header t n l = ap (λ b. length (t ∷ b)) (cond-true (ltb n 128) _ _ (lt-ltb n 128 l))

small : (t : ℕ) (c : List ℕ) → length c < 128 → length (element t c) ≡ length c + 2
small t c l = let e = length-element t c in let h = short_header t (length c) l in omega arith

large : (t : ℕ) (c : List ℕ) → length (element t c) ≤ length c + 4
large t c = let e = length-element t c in let h = header_bound t (length c) in omega arith

medium_header : (t n : ℕ) → n < 256 → length (header t n) ≤ 3
unfolding header
medium_header t n l =
    cond_both (ltb n 128) (n ∷ []) _ (λ ls. length (t ∷ ls) ≤ 3) (λ _. omega arith)
    (λ _. cond_both (ltb n 256) (0x81 ∷ n ∷ []) _ (λ ls. length (t ∷ ls) ≤ 3) (λ _. omega arith) (λ h. let g = ltb-false n 256 h in absurd (omega arith)))

medium : (t : ℕ) (c : List ℕ) → length c < 256 → length (element t c) ≤ length c + 3
medium t c l = let e = length-element t c in let h = medium_header t (length c) l in omega arith

-- an octet string in its field
octets : (t : ℕ) (p : Option (List ℕ)) → length (field t OctetString p) ≤ size_of p + 8
octets t None = omega arith
octets t (Some c) = let a = large t (element 0x04 c) in let b = large 0x04 c in omega arith

few_octets : (t : ℕ) (p : Option (List ℕ)) → size_of p ≤ 160 → length (field t OctetString p) ≤ 166
few_octets t None l = omega arith
few_octets t (Some c) l = let b = medium 0x04 c (omega arith) in let a = medium t (element 0x04 c) (omega arith) in omega arith

-- the names that tokens carry
oid-mech_oid : (m : Mech) → oid (mech_oid m) ≡ true
unfolding oid
oid-mech_oid Spnego = refl
oid-mech_oid MsKrb5 = refl
oid-mech_oid Krb5 = refl
oid-mech_oid Ntlm = refl

mech_size : (m : Mech) → length (mech_oid m) ≤ 10
mech_size Spnego = omega arith
mech_size MsKrb5 = omega arith
mech_size Krb5 = omega arith
mech_size Ntlm = omega arith

state_legal : (s : NegState) → Legal Element (state_bytes s)
unfolding element header
state_legal Complete = (0x0A, 0 ∷ [], refl, refl, omega arith)
state_legal Incomplete = (0x0A, 1 ∷ [], refl, refl, omega arith)
state_legal Reject = (0x0A, 2 ∷ [], refl, refl, omega arith)
state_legal RequestMic = (0x0A, 3 ∷ [], refl, refl, omega arith)

state_size : (s : NegState) → length (state_bytes s) ≡ 3
state_size Complete = refl
state_size Incomplete = refl
state_size Reject = refl
state_size RequestMic = refl

-- the four fields together
fields_size : (k l : Kind) (f : Fields) → length (four_fields k l f)
    ≡ length (field 0xA0 k f.first) + (length (field 0xA1 l f.second) + (length (field 0xA2 OctetString f.third) + length (field 0xA3 OctetString f.fourth)))
unfolding four_fields
fields_size k l f =
    length-append (field 0xA0 k f.first) (field 0xA1 l f.second ++ (field 0xA2 OctetString f.third ++ field 0xA3 OctetString f.fourth))
    ∙ ap (λ n. length (field 0xA0 k f.first) + n) (length-append (field 0xA1 l f.second) (field 0xA2 OctetString f.third ++ field 0xA3 OctetString f.fourth)
    ∙ ap (λ n. length (field 0xA1 l f.second) + n) (length-append (field 0xA2 OctetString f.third) (field 0xA3 OctetString f.fourth)))

sequence_size : (k l : Kind) (f : Fields) → length (sequence k l f) ≤ length (four_fields k l f) + 4
unfolding sequence
sequence_size k l f = large 0x30 (four_fields k l f)

targ_size : (t : Targ) → length (targ_bytes t) ≤ length (sequence Element Oid (targ_fields t)) + 4
unfolding targ_bytes
targ_size t = large 0xA1 (sequence Element Oid (targ_fields t))

-- a NegTokenTarg whose fields before the mechanism's token, and the MIC, have together at most n bytes
pub targ_sent : (t : Targ) (n : ℕ) (Rest : Type 0) (out after : List ℕ) (r : Result ℕ Fault) → LegalFields Element Oid (targ_fields t) → n ≤ 1000
    → (Rest → length (field 0xA0 Element t.neg_state) + (length (field 0xA1 Oid t.supported_mech) + length (field 0xA3 OctetString t.mech_list_mic)) ≤ n)
    → Writes (TargWellFormed t) (targ_bytes t) out after r → TargSent (n + 16) Rest t out after r
targ_sent t n Rest out after r legal small_n rest w = record { written = w; sends = fitting }
  where
    fitting : Sends (n + 16) Rest t.response_token (targ_bytes t) out r
    fitting given fits =
        let e = fields_size Element Oid (targ_fields t) in
        let o = octets 0xA2 t.response_token in
        let q = rest given in
        let s = sequence_size Element Oid (targ_fields t) in
        let g = targ_size t in
        let good : TargWellFormed t = record { fields = legal; short = omega (arith, e, o, q, s) } in
        let b : length (targ_bytes t) ≤ size_of t.response_token + (n + 16) = omega (arith, e, o, q, s, g) in
        (b, λ room. (w.written good (omega arith)).0)

state_field : (s : NegState) → length (field 0xA0 Element (Some (state_bytes s))) ≡ 5
state_field s = let n = state_size s in let e = small 0xA0 (state_bytes s) (omega arith) in omega arith

mech_field : (m : Mech) → length (field 0xA1 Oid (Some (mech_oid m))) ≤ 14
mech_field m =
    let n = mech_size m in
    let a = small 0x06 (mech_oid m) (omega arith) in
    let b = small 0xA1 (element 0x06 (mech_oid m)) (omega arith) in
    omega arith

pub reply_sent : (s : NegState) (m : Mech) (token : Option (List ℕ)) (out after : List ℕ) (r : Result ℕ Fault)
    → Writes (TargWellFormed (first_reply s m token)) (targ_bytes (first_reply s m token)) out after r → TargSent 35 (Unit {0}) (first_reply s m token) out after r
reply_sent s m token out after r w =
    let a = state_field s in
    let b = mech_field m in
    targ_sent (first_reply s m token) 19 (Unit {0}) out after r (record { first = state_legal s; second = oid-mech_oid m }) (omega arith) (λ _. omega (arith, a, b)) w

pub final_sent : (s : NegState) (token mic : Option (List ℕ)) (out after : List ℕ) (r : Result ℕ Fault)
    → Writes (TargWellFormed (final_token s token mic)) (targ_bytes (final_token s token mic)) out after r → TargSent 187 (size_of mic ≤ 160) (final_token s token mic) out after r
final_sent s token mic out after r w =
    let a = state_field s in
    targ_sent (final_token s token mic) 171 (size_of mic ≤ 160) out after r (record { first = state_legal s; second = tt }) (omega arith)
    (λ l. let b = few_octets 0xA3 mic l in omega (arith, a, b)) w

pub next_sent : (token : Option (List ℕ)) (out after : List ℕ) (r : Result ℕ Fault)
    → Writes (TargWellFormed (next_token token)) (targ_bytes (next_token token)) out after r → TargSent 21 (Unit {0}) (next_token token) out after r
next_sent token out after r w =
    let a = state_field Incomplete in
    targ_sent (next_token token) 5 (Unit {0}) out after r (record { first = state_legal Incomplete; second = tt }) (omega arith) (λ _. omega (arith, a)) w

-- the same for the first token
init_content_lem : (t : Init) → length (init_content t) ≤ length (element 0x06 t.this_mech) + (length (sequence MechTypes BitString (init_fields t)) + 4)
unfolding init_content
init_content_lem t =
    let a = length-append (element 0x06 t.this_mech) (element 0xA0 (sequence MechTypes BitString (init_fields t))) in
    let b = large 0xA0 (sequence MechTypes BitString (init_fields t)) in
    omega arith

init_size : (t : Init) → length (init_bytes t) ≤ length (init_content t) + 4
unfolding init_bytes
init_size t = large 0x60 (init_content t)

pub init_sent : (list : List ℕ) (token : Option (List ℕ)) (out after : List ℕ) (r : Result ℕ Fault)
    → Writes (InitWellFormed (first_token list token)) (init_bytes (first_token list token)) out after r
    → InitSent 66 (Legal MechTypes list × (length list ≤ 36)) (first_token list token) out after r
init_sent list token out after r w = record { written = w; sends = fitting }
  where
    fitting : Sends 66 (Legal MechTypes list × (length list ≤ 36)) token (init_bytes (first_token list token)) out r
    fitting given fits =
        let t = first_token list token in
        let e = fields_size MechTypes BitString (init_fields t) in
        let o = octets 0xA2 token in
        let q = small 0xA0 list (let l = given.1 in omega arith) in
        let m = small 0x06 (mech_oid Spnego) (omega arith) in
        let s = sequence_size MechTypes BitString (init_fields t) in
        let c = init_content_lem t in
        let g = init_size t in
        let l : length list ≤ 36 = given.1 in
        let good : InitWellFormed t = record { this_mech = oid-mech_oid Spnego; fields = record { first = given.0; second = tt }; short = omega (arith, e, o, q, m, s, c, l) } in
        let b : length (init_bytes t) ≤ size_of token + 66 = omega (arith, e, o, q, m, s, c, g, l) in
        (b, λ room. (w.written good (omega arith)).0)

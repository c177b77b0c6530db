use Rattle.std.proofs.Common.{sym, ◌∙◌, arith, rules}
use Rattle.std.proofs.lemmas.Result.{err_from_is_err_and}
use Rattle.der.proofs.Ways.{err_ok, same_ok}
use Rattle.der.proofs.Adding.{adds_element, refused_element}
use Rattle.der.proofs.Promised.{writes_unfit, writes_short, writes_made, not_refused}
use Rattle.mech_types.specs.Lists.{oids, mech_type_list}
use Rattle.mech_types.specs.Views.{plain_oids}
use Rattle.mech_types.proofs.Rows.{list_sizes, list_refused}
use Rattle.mech_types.proofs.MechTypeList.write.Goals as goal

pub returns-in_err-body : goal.returns-in_err-body
returns-in_err-body c =
    let p = err_from_is_err_and c.from_residual.result c.from_residual.ensures.1 in
    let x = list_refused (plain_oids c.args.oids.now) _ (sym c.in_err-body.ensures) in
    rw (p.1, p.2) (writes_unfit _ c.args.out.now _ x.0 x.1)

pub returns-in_err-element_len : goal.returns-in_err-element_len
returns-in_err-element_len c =
    let z = list_sizes (plain_oids c.args.oids.now) c.in_ok-body.body c.in_ok-body.ensures in
    absurd (err_ok _ _ (c.in_err-element_len.ensures ∙ z.token))

pub returns-then-branch : goal.returns-then-branch
returns-then-branch c =
    let z = list_sizes (plain_oids c.args.oids.now) c.in_ok-body.body c.in_ok-body.ensures in
    let n = same_ok _ _ (c.in_ok-element_len.ensures ∙ z.token) in
    writes_short _ c.args.out.now z.good (omega (arith, n, c.if-branch.true))

pub returns-in_err-put_header : goal.returns-in_err-put_header
unfolding mech_type_list
returns-in_err-put_header c =
    let z = list_sizes (plain_oids c.args.oids.now) c.in_ok-body.body c.in_ok-body.ensures in
    let n = same_ok _ _ (c.in_ok-element_len.ensures ∙ z.token) in
    absurd (not_refused {e = c.in_err-put_header.field-0.0} c.args.out.now (omega (arith, n, c.if-branch.false)) c.new-w.ensures.room
    (refused_element 0x30 (oids (plain_oids c.args.oids.now)) z.body z.fits c.in_err-put_header.ensures))

pub put_oids-requires : goal.put_oids-requires
put_oids-requires c = (list_sizes (plain_oids c.args.oids.now) c.in_ok-body.body c.in_ok-body.ensures).good.short

pub returns-in_err-put_oids : goal.returns-in_err-put_oids
unfolding mech_type_list
returns-in_err-put_oids c =
    let z = list_sizes (plain_oids c.args.oids.now) c.in_ok-body.body c.in_ok-body.ensures in
    let n = same_ok _ _ (c.in_ok-element_len.ensures ∙ z.token) in
    absurd (not_refused c.args.out.now (omega (arith, n, c.if-branch.false)) c.new-w.ensures.room
    (adds_element 0x30 z.body z.fits c.in_ok-put_header.ensures c.in_err-put_oids.ensures))

pub returns : goal.returns
unfolding mech_type_list
returns c =
    let z = list_sizes (plain_oids c.args.oids.now) c.in_ok-body.body c.in_ok-body.ensures in
    let n = same_ok _ _ (c.in_ok-element_len.ensures ∙ z.token) in
    writes_made c.args.out.now _ _ z.good (omega (arith, n, c.if-branch.false)) c.new-w.ensures.written c.new-w.ensures.room
    (adds_element 0x30 z.body z.fits c.in_ok-put_header.ensures c.in_ok-put_oids.ensures) (search rules) c.len.ensures

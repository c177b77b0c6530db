use Rattle.std.proofs.Common.{refl, ap, ◌∙◌, arith}
use Rattle.climb.proofs.Rounds.{begun, client_took, server_took}
use Rattle.climb.proofs.Tops.{reached, legs_between, account_short}
use Rattle.climb.proofs.climb.Goals as goal
use Rattle.ladder.specs.Rungs.{legs_of, allowing}
use Rattle.ladder.specs.declared.Ladder.{Ladder}
use Rattle.mechanism.specs.Identities.{who}

pub loop-round-init : goal.loop-round-init
loop-round-init c = record {
  short = omega arith;
  stands = begun refl c.new-below.ensures (c.allow.ensures.next ∙ ap (λ (s : Ladder). allowing s (who c.args.allowed.now).secret) c.new-above.ensures) refl;
}

pub returns-in_err-sent : goal.returns-in_err-sent
returns-in_err-sent c =
    let called = client_took (legs_between c.args.legs).0 (account_short c.args.client.now) (omega arith) c.loop-round.invariant.stands c.step.ensures in
    absurd (called.no_fault _ c.in_err-sent.was)

pub returns-in_err-back : goal.returns-in_err-back
returns-in_err-back c =
    let called = client_took (legs_between c.args.legs).0 (account_short c.args.client.now) (omega arith) c.loop-round.invariant.stands c.step.ensures in
    let answered = server_took (account_short c.args.client.now) (omega arith) (called.token _ _ c.in_ok-sent.was) c.step-in-loop-round.ensures in
    absurd (answered.no_fault _ c.in_err-back.was)

pub loop-round-preserved : goal.loop-round-preserved
loop-round-preserved c =
    let called = client_took (legs_between c.args.legs).0 (account_short c.args.client.now) (omega arith) c.loop-round.invariant.stands c.step.ensures in
    let answered = server_took (account_short c.args.client.now) (omega arith) (called.token _ _ c.in_ok-sent.was) c.step-in-loop-round.ensures in
    record { short = answered.short _ _ c.in_ok-back.was; stands = answered.token _ _ c.in_ok-back.was }

pub returns : goal.returns
returns c =
    reached (legs_of c.args.legs) (who c.args.client.now) (who c.args.allowed.now) c.loop-round._round c.loop-round.below c.loop-round.above _
    (account_short c.args.client.now) (legs_between c.args.legs).1 (omega arith) c.loop-round.invariant.stands

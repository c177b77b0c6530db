use Rattle.std.proofs.Common.{◌+◌, ◌<◌, ◌≤◌, length, Ok, sym, refl, ap, ◌∙◌, arith}
use Rattle.mechanism.proofs.Sealable.{may_short}
use Rattle.script.specs.Plays.{mic_of}
use Rattle.sspi.specs.Faults.{and_then}
use Rattle.script.proofs.Mics.{made_front, made_kept}
use Rattle.script.proofs.ScriptSealer.make.Goals as goal

pub returns : goal.returns
returns c =
    let d = c.args.data.now in
    let m = c.args.mic.now in
    let few = may_short c.args.self.now.session d _ c.in_ok-may_seal.ensures in
    let long : length d + 1 ≤ length m = omega arith in
    let some : 0 < length m = omega arith in
    record {
      next = refl;
      answer = ap (λ v. and_then v (λ _. Ok (mic_of d))) (sym c.in_ok-may_seal.ensures) ∙ ap Ok (sym (made_front m d c.copy_from_slice.new.self c.copy_from_slice.ensures.after some));
      kept = (long, made_kept m d c.copy_from_slice.new.self c.copy_from_slice.ensures.after some);
    }

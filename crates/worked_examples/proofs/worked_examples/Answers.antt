use Rattle.std.proofs.Common.{is_ok, refl, ap, ◌∙◌}
use Rattle.targets.proofs.Worked.{with_slash, any_address, seven_groups_lem, zero_in_front_lem, brackets}
use Rattle.worked_examples.proofs.Computed.{empty_list_lem, kerberos_alone_lem, shortest, long_length_lem, byte_behind_lem, read_ok, examples}
use Rattle.worked_examples.proofs.worked_examples.Goals as goal

pub returns : goal.returns
returns c =
    let a = c.parse.ensures.answer ∙ empty_list_lem in
    let b = c.parse-2.ensures.answer ∙ kerberos_alone_lem in
    let d = c.is_target_name_ip_address.ensures ∙ with_slash in
    let e = c.is_target_name_ip_address-2.ensures ∙ any_address in
    let f = c.is_target_name_ip_address-3.ensures ∙ seven_groups_lem in
    let g = c.is_target_name_ip_address-4.ensures ∙ zero_in_front_lem in
    let h = c.is_target_name_ip_address-5.ensures ∙ brackets in
    let i = read_ok c.read.result _ _ _ c.is_ok.ensures.value c.read.ensures.answer (ap is_ok shortest) in
    let j = read_ok c.read-2.result _ _ _ c.is_ok-2.ensures.value c.read-2.ensures.answer (ap is_ok long_length_lem) in
    let k = read_ok c.read-3.result _ _ _ c.is_ok-3.ensures.value c.read-3.ensures.answer (ap is_ok byte_behind_lem) in
    record { answer = rw (a, b, d, e, f, g, h, i, j, k) refl; examples = examples }

use Rattle.std.proofs.Common.{ap, ◌∙◌}
use Rattle.model.specs.Verdict.{number, place}
use Rattle.model.specs.Demands.{Bytes}
use Rattle.verifier.proofs.Promised.{both, promised}
use Rattle.verifier.proofs.verify.Goals as goal

pub returns : goal.returns
returns c =
    let b = c.args.message.now in
    let bytes : Bytes b = λ i. (c.type_inv.message i).fits in
    let told = c.told_of-number.ensures in
    let v = c.verdict_of-v.ensures in
    let part = c.part_of.ensures in
    let n = told.0 ∙ ap number v.value in
    let p = told.1 ∙ ap place v.value in
    let z = promised b c.args.lent.now _ _ _ _ n p bytes v.lent_after part in
    record {
      answer_after = both _ _ _ _ n p;
      result_value = part;
      lent_after = v.lent_after;
      refusal_changes_nothing = z.0;
      safe_exactly_when_sound = z.1.0;
      system_is_written = z.1.1.0;
      runs_are_followed = z.1.1.1.0;
      refused_exactly_by_the_table = z.1.1.1.1.0;
      as_the_former_gate = z.1.1.1.1.1.0;
      mailboxes_hold_no_function = z.1.1.1.1.1.1.0;
      runs_meet_no_bad = z.1.1.1.1.1.1.1;
    }

use Rattle.std.proofs.Common.{length, get_or, ap, refl, arith}
use Rattle.model.specs.Verify.{verdict}
use Rattle.model.specs.Demands.{Bytes}
use Rattle.verifier.proofs.Promised.{promised, number_most}
use Rattle.verifier.proofs.delungkaw_verify.Goals as goal

pub overflow_cast-result : goal.overflow_cast-result
overflow_cast-result c =
    let n = ap (λ xs. get_or xs 0 0) c.verify-part.ensures.answer_after in
    record { fits = omega (arith, n, number_most (verdict c.args.message.now (length c.args.lent.now))) }

pub returns : goal.returns
returns c =
    let b = c.args.message.now in
    let bytes : Bytes b = λ i. (c.type_inv.message i).fits in
    let n = ap (λ xs. get_or xs 0 0) c.verify-part.ensures.answer_after in
    let p = ap (λ xs. get_or xs 1 0) c.verify-part.ensures.answer_after in
    let z = promised b c.args.lent.now _ _ _ _ n p bytes c.verify-part.ensures.lent_after refl in
    record {
      value = n;
      position_after = p;
      handed_after = ap length c.verify-part.ensures.result_value;
      lent_after = c.verify-part.ensures.lent_after;
      refusal_changes_nothing = z.0;
      safe_exactly_when_sound = z.1.0;
      system_is_written = z.1.1.0;
      runs_are_followed = z.1.1.1.0;
      refused_exactly_by_the_table = z.1.1.1.1.0;
      as_the_former_gate = z.1.1.1.1.1.0;
      mailboxes_hold_no_function = z.1.1.1.1.1.1.0;
      runs_meet_no_bad = z.1.1.1.1.1.1.1;
    }

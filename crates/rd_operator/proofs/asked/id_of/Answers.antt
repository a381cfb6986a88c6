use Rattle.std.proofs.Common.{refl, arith}
use Rattle.std.proofs.lemmas.Int.Digits.{digits_value_more}
use Rattle.rd_operator.proofs.Digits.{digit_more, below_top, digit_at}
use Rattle.rd_operator.proofs.asked.id_of.Goals as goal

pub overflow_mul-id : goal.overflow_mul-id
overflow_mul-id c =
    let at = digit_at c.args.text.now c.digits.i c.if-not-is_id.ensures c.digits-test.true in
    omega (arith, digit_more c.digits.id 0 c.digits.i c.digits.invariant.0 (omega arith), below_top c.digits.i (omega (arith, at.0, c.digits-test.true)))

pub overflow_add-id : goal.overflow_add-id
overflow_add-id c =
    let at = digit_at c.args.text.now c.digits.i c.if-not-is_id.ensures c.digits-test.true in
    omega (arith, digit_more c.digits.id _ c.digits.i c.digits.invariant.0 at.1, below_top c.digits.i (omega (arith, at.0, c.digits-test.true)))

pub digits-preserved : goal.digits-preserved
digits-preserved c =
    let at = digit_at c.args.text.now c.digits.i c.if-not-is_id.ensures c.digits-test.true in (
      digit_more c.digits.id _ c.digits.i c.digits.invariant.0 at.1,
      rw (digits_value_more 10 c.args.text.now c.digits.i c.digits-test.true, ← c.digits.invariant.1, ← at.2) refl,
    )

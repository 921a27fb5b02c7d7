-- At most eight digits, each of them at most nine.
use Rattle.std.proofs.Common.{arith, sym}
use Rattle.larch_main_session.proofs.Digits.{digit_at, number_more, few_digits, one_more}
use Rattle.larch_main_session.proofs.command.number_of_digits.Goals as goal

pub overflow_mul-number : goal.overflow_mul-number
overflow_mul-number c =
    let small = few_digits c.loop-digit.number c.loop-digit.digit-index c.loop-digit.invariant.small (omega arith) in
    omega arith

pub overflow_sub-digit : goal.overflow_sub-digit
overflow_sub-digit c = (digit_at c.args.digits.now c.loop-digit.digit-index c.requires.digits c.loop-digit-test.true).0

pub overflow_add-number : goal.overflow_add-number
overflow_add-number c =
    let small = few_digits c.loop-digit.number c.loop-digit.digit-index c.loop-digit.invariant.small (omega arith) in
    let digit = digit_at c.args.digits.now c.loop-digit.digit-index c.requires.digits c.loop-digit-test.true in
    omega arith

pub loop-digit-preserved : goal.loop-digit-preserved
loop-digit-preserved c =
    let digit = digit_at c.args.digits.now c.loop-digit.digit-index c.requires.digits c.loop-digit-test.true in
    record {
      spelled =
          rw (c.from.ensures, c.loop-digit.invariant.spelled)
          (sym (number_more c.args.digits.now c.loop-digit.digit-index c.loop-digit-test.true));
      small =
          one_more c.loop-digit.number c.loop-digit.digit-index c.from.result c.loop-digit.invariant.small
          (omega arith);
    }

use Rattle.std.specs.Prelude.{refl}
use Rattle.larch_prove_meaning.specs.Computing.{replaying}
use Rattle.larch_prove_examples.proofs.order.what_comes_first.Goals as goal

pub returns-clause-line_before_mark : goal.returns-clause-line_before_mark
unfolding replaying
returns-clause-line_before_mark c = refl

pub returns-clause-line_before_end : goal.returns-clause-line_before_end
unfolding replaying
returns-clause-line_before_end c = refl

pub returns-clause-end_before_setting : goal.returns-clause-end_before_setting
unfolding replaying
returns-clause-end_before_setting c = refl

pub returns-clause-end_before_unchecking : goal.returns-clause-end_before_unchecking
unfolding replaying
returns-clause-end_before_unchecking c = refl

pub returns-clause-end_before_reading : goal.returns-clause-end_before_reading
unfolding replaying
returns-clause-end_before_reading c = refl

pub returns-clause-mark_before_reading : goal.returns-clause-mark_before_reading
unfolding replaying
returns-clause-mark_before_reading c = refl

pub returns-clause-mark_before_open : goal.returns-clause-mark_before_open
unfolding replaying
returns-clause-mark_before_open c = refl

pub returns-clause-unchecking_where_marks_wait : goal.returns-clause-unchecking_where_marks_wait
unfolding replaying
returns-clause-unchecking_where_marks_wait c = refl

pub returns-clause-limit_before_size : goal.returns-clause-limit_before_size
unfolding replaying
returns-clause-limit_before_size c = refl

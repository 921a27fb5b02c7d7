use Rattle.std.specs.Prelude.{refl}
use Rattle.larch_prove_meaning.specs.Computing.{replaying}
use Rattle.larch_prove_examples.proofs.reports.what_is_done_again.Goals as goal

pub returns-clause-nothing_before : goal.returns-clause-nothing_before
unfolding replaying
returns-clause-nothing_before c = refl

pub returns-clause-nothing_changed : goal.returns-clause-nothing_changed
unfolding replaying
returns-clause-nothing_changed c = refl

pub returns-clause-edited : goal.returns-clause-edited
unfolding replaying
returns-clause-edited c = refl

pub returns-clause-edited_back : goal.returns-clause-edited_back
unfolding replaying
returns-clause-edited_back c = refl

pub returns-clause-moved : goal.returns-clause-moved
unfolding replaying
returns-clause-moved c = refl

pub returns-clause-other_preamble : goal.returns-clause-other_preamble
unfolding replaying
returns-clause-other_preamble c = refl

pub returns-clause-cut : goal.returns-clause-cut
unfolding replaying
returns-clause-cut c = refl

pub returns-clause-last_command : goal.returns-clause-last_command
unfolding replaying
returns-clause-last_command c = refl

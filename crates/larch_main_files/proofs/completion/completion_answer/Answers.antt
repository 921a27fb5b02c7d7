-- There is nothing to complete where the trait isn't there, and nothing where something is wrong with it.
use Rattle.larch_main_files.specs.Completion.{completion_answer}
use Rattle.larch_main_files.specs.Model.{no_trait}
use Rattle.larch_main_files.proofs.Answering.{same_ok}
use Rattle.larch_main_files.proofs.Theories.{completed_absent, completed_refused, completed_theory, theory_is}
use Rattle.larch_main_files.proofs.Theories.{theory_sorted, theory_worded}
use Rattle.larch_main_files.proofs.completion.completion_answer.Goals as goal

pub returns-in_default : goal.returns-in_default
returns-in_default c =
    same_ok no_trait (completion_answer c.args.stem.now c.args.limit c.args.files.now) c.no_trait.result
    (completed_absent c.args.stem.now c.args.limit c.args.files.now c.in_ok-sources.sources c.number_of.result
    c.in_ok-sources.ensures c.number_of.ensures.there c.in_default.is)
    c.no_trait.ensures

pub returns-in-Err-Wrong : goal.returns-in-Err-Wrong
returns-in-Err-Wrong c =
    same_ok no_trait (completion_answer c.args.stem.now c.args.limit c.args.files.now) c.no_trait-in-Err-Wrong.result
    (completed_refused c.args.stem.now c.args.limit c.args.files.now c.in_ok-sources.sources c.in-Some.number
    c.in_ok-sources.ensures c.in-Some.ensures.name c.trait_theory.result
    c.in-Err-Wrong.field-0 c.in-Err-Wrong.field-0-0 c.in-Err-Wrong.field-0-1 c.in-Err-Wrong.is
    c.in-Err-Wrong.field-0-is c.trait_theory.ensures)
    c.no_trait-in-Err-Wrong.ensures

pub returns-in-Ok : goal.returns-in-Ok
returns-in-Ok c =
    same_ok _ (completion_answer c.args.stem.now c.args.limit c.args.files.now) c.completed_over.result
    (completed_theory c.args.stem.now c.args.limit c.args.files.now c.in_ok-sources.sources c.in-Some.number
    c.in_ok-sources.ensures c.in-Some.ensures.name c.in-Ok.theory c.in-Ok.ensures)
    c.completed_over.ensures

pub completed_over-requires-clause-sorted : goal.completed_over-requires-clause-sorted
completed_over-requires-clause-sorted c =
    theory_sorted c.args.files.now c.args.stem.now c.in-Ok.theory
    (theory_is c.args.stem.now c.args.limit c.args.files.now c.in_ok-sources.sources c.in-Some.number
    c.in_ok-sources.ensures c.in-Some.ensures.name c.in-Ok.theory c.in-Ok.ensures)

pub completed_over-requires-clause-worded : goal.completed_over-requires-clause-worded
completed_over-requires-clause-worded c =
    theory_worded c.args.files.now c.args.stem.now c.in-Ok.theory
    (theory_is c.args.stem.now c.args.limit c.args.files.now c.in_ok-sources.sources c.in-Some.number
    c.in_ok-sources.ensures c.in-Some.ensures.name c.in-Ok.theory c.in-Ok.ensures)

-- There is nothing to try where the trait isn't there, and nothing where something is wrong with it.
use Rattle.larch_main_files.specs.Model.{no_trait, trial_answer}
use Rattle.larch_main_files.proofs.Answering.{same_ok}
use Rattle.larch_main_files.proofs.Trials.{tried_absent, tried_claims, tried_refused}
use Rattle.larch_main_files.proofs.model.trial_answer.Goals as goal

pub returns-in_default : goal.returns-in_default
returns-in_default c =
    same_ok no_trait (trial_answer c.args.stem.now c.args.evidence.now) c.no_trait.result
    (tried_absent c.args.evidence.now c.args.stem.now c.in_ok-sources.sources c.number_of.result
    c.in_ok-sources.ensures c.number_of.ensures.there c.in_default.is)
    c.no_trait.ensures

pub returns-in-Err-Wrong : goal.returns-in-Err-Wrong
returns-in-Err-Wrong c =
    same_ok no_trait (trial_answer c.args.stem.now c.args.evidence.now) c.no_trait-in-Err-Wrong.result
    (tried_refused c.args.evidence.now c.args.stem.now c.in_ok-sources.sources c.in-Some.number c.own_claims.result
    c.in-Err-Wrong.field-0 c.in-Err-Wrong.field-0-0 c.in-Err-Wrong.field-0-1 c.in_ok-sources.ensures
    c.in-Some.ensures.name c.in-Err-Wrong.is c.in-Err-Wrong.field-0-is c.own_claims.ensures.claims)
    c.no_trait-in-Err-Wrong.ensures

pub returns-in-Ok : goal.returns-in-Ok
returns-in-Ok c =
    same_ok _ (trial_answer c.args.stem.now c.args.evidence.now) c.tried_over.result
    (tried_claims c.args.evidence.now c.args.stem.now c.in_ok-sources.sources c.in-Some.number c.in-Ok.own
    c.bytes.result.now c.in_ok-sources.ensures c.in-Some.ensures.name c.in-Ok.ensures.claims c.bytes.ensures)
    c.tried_over.ensures

-- What is derived of the files of the session is derived of these.
use Rattle.std.proofs.Common.{ap, subst}
use Rattle.larch_session_derive_meaning.specs.Derived.{Derives}
use Rattle.larch_main_files.proofs.Derived.{derivation_told}
use Rattle.larch_main.proofs.derive.derivation.Goals as goal

pub returns-in-Ok-clause-answer : goal.returns-in-Ok-clause-answer
returns-in-Ok-clause-answer g c =
    derivation_told c.args.limit c.args.asked.now c.args.files c.in-Ok.derived c.derivation_answer.result
    (subst (λ limit. Derives limit c.args.files c.args.asked.now.stem c.args.asked.now.label c.in-Ok.derived)
    (ap (λ b. b.0) c.with_files-session.ensures.base)
    (subst (λ files. Derives c.with_files-session.result.base.0 files c.args.asked.now.stem c.args.asked.now.label
    c.in-Ok.derived) c.with_files-session.ensures.files
    c.in-Ok.ensures.derived))
    c.derivation_answer.ensures

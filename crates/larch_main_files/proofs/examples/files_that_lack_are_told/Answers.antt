use Rattle.std.proofs.Common.{◌∙◌, [], ap, refl, subst, sym}
use Rattle.std.specs.Prelude.{codes}
use Rattle.larch_main_files.specs.Answer.{AnswersBy, IsAnswer}
use Rattle.larch_main_files.specs.Check.{check_answer}
use Rattle.larch_main_files.specs.Examples.{answering}
use Rattle.larch_main_files.specs.Gather.{and_then, gather_names, putting}
use Rattle.larch_main_status.specs.declared.status.Status.TheVariants.{Size}
use Rattle.larch_main_files.proofs.Looking.{too_long}
use Rattle.larch_main_files.proofs.examples.files_that_lack_are_told.Goals as goal

pub returns-clause-certificate : goal.returns-clause-certificate
unfolding answering
returns-clause-certificate c = (refl, refl)

pub returns-clause-file : goal.returns-clause-file
unfolding answering
returns-clause-file c = (refl, refl)

pub returns-clause-too_large : goal.returns-clause-too_large
returns-clause-too_large c folder name bytes names is long =
    subst (λ found. AnswersBy (λ files. IsAnswer (check_answer files)) found (codes "too large\n") Size)
    (sym (ap (λ seen. and_then (putting [] name seen) (λ more. gather_names folder more names)) is
    ∙ ap (λ found. and_then found (λ more. gather_names folder more names)) (too_long [] name bytes long)))
    (refl, refl)

-- What is completed decides.
use Rattle.std.proofs.Common.{◌≡◌, refl, sym, ap, subst, ◌∙◌, ℕ, Bool, true, false, List, [], Result, Ok, Err}
use Rattle.larch_complete_answer.specs.Told.{TellsRules, completion_told}
use Rattle.larch_flat_meaning.specs.Stops.{Stop}
use Rattle.larch_io.specs.Folder.{FileMap}
use Rattle.larch_term.specs.Statement.{IsWellSortedTheory}
use Rattle.larch_term.specs.declared.statement.Theory.{Theory}
use Rattle.larch_traits.specs.Files.{Table}
use Rattle.larch_traits.specs.Reading.{read_files}
use Rattle.larch_main_files.specs.Answer.{AnswersBy, IsAnswer, good_or_remains}
use Rattle.larch_main_files.specs.Completion.{IsCompleted, completed_over, completion_answer}
use Rattle.larch_main_files.specs.Gather.{gather_names}
use Rattle.larch_main_files.specs.Theory.{trait_theory}
use Rattle.larch_main_status.specs.declared.status.Status.TheVariants.{Good}
use Rattle.larch_main_files.proofs.Accepted.{answer_good}
use Rattle.larch_main_files.proofs.Theories.{theory_sorted}

good_only : (b : Bool) → good_or_remains b ≡ Good → b ≡ true
good_only true e = refl
good_only false e = cc

theory_completed : (limit : ℕ) (r : Result Theory Stop) → (completed_over limit r).status ≡ Good
    → (theory : Theory) × (r ≡ Ok theory) × ((completion_told theory limit).complete ≡ true)
theory_completed limit (Ok theory) e = (theory, refl, good_only (completion_told theory limit).complete e)
theory_completed limit (Err stop) e = cc

module _ (law : (theory : Theory) (limit : ℕ) → IsWellSortedTheory theory
    → (completion_told theory limit).complete ≡ true
    → TellsRules theory limit (completion_told theory limit).text) where
  pub completed_decides : (stem : List ℕ) (limit : ℕ) (names : List (List ℕ)) (folder : FileMap) (output : List ℕ)
      → AnswersBy (λ files. IsAnswer (completion_answer stem limit files)) (gather_names folder [] names) output Good
      → IsCompleted folder stem limit names output
  completed_decides stem limit names folder output may =
      let a = answer_good (completion_answer stem limit) (gather_names folder [] names) output may in
      let files : Table = a.0 in
      let t = theory_completed limit (trait_theory (read_files files) stem) a.2 in
      let theory : Theory = t.0 in
      record {
        files = files;
        are_files = a.1;
        theory = theory;
        is_theory = t.1;
        tells =
            subst (TellsRules theory limit) (sym (a.3 ∙ ap (λ r. (completed_over limit r).text) t.1))
            (law theory limit (theory_sorted files stem theory t.1) t.2);
      }

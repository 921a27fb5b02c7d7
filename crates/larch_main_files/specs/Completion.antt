-- What is answered where rules are wanted that decide the equations of a trait.
use Rattle.std.specs.Prelude.{◌≡◌, ℕ, List, [], Result, Ok, Err}
use Rattle.larch_complete_answer.specs.Told.{TellsRules, completion_told}
use Rattle.larch_complete_answer.specs.declared.telling.Told.{Told}
use Rattle.larch_flat_meaning.specs.Stops.{Stop}
use Rattle.larch_io.specs.Folder.{FileMap}
use Rattle.larch_term.specs.declared.statement.Theory.{Theory}
use Rattle.larch_traits.specs.Files.{Table}
use Rattle.larch_traits.specs.Reading.{read_files}
use Rattle.larch_main_files.specs.Answer.{good_or_remains, said}
use Rattle.larch_main_files.specs.Gather.{Whole, gather_names}
use Rattle.larch_main_files.specs.Model.{no_trait}
use Rattle.larch_main_files.specs.Theory.{trait_theory}
use Rattle.larch_main_files.specs.declared.answer.Answer.{Answer}

-- what is told of a completion, as it is answered
abbrev pub told_answer : Told → Answer
told_answer told = said told.text (good_or_remains told.complete)

-- what is answered by the theory of a trait, if there is one
abbrev pub completed_over : ℕ → Result Theory Stop → Answer
completed_over limit (Ok theory) = told_answer (completion_told theory limit)
completed_over limit (Err stop) = no_trait

-- what is answered of a trait among files, with a rewriting limit
abbrev pub completion_answer : List ℕ → ℕ → Table → Answer
completion_answer stem limit files = completed_over limit (trait_theory (read_files files) stem)

-- What was written are rules of a trait among these files of the folder: each is derivable from the trait's theory, and
-- they decide its equations.
pub record IsCompleted (folder : FileMap) (stem : List ℕ) (limit : ℕ) (names : List (List ℕ)) (output : List ℕ)
    : Type 0 where
  pub files : Table
  pub are_files : gather_names folder [] names ≡ Whole files
  pub theory : Theory
  pub is_theory : trait_theory (read_files files) stem ≡ Ok theory
  pub tells : TellsRules theory limit output

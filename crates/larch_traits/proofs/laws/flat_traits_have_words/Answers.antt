use Rattle.std.proofs.Common.{length}
use Rattle.larch_duties_meaning.proofs.FlatMeaningVariables.{discharge_in_words, variables_words}
use Rattle.larch_duties_meaning.proofs.FlatMeaningWords.{operators_words, statements_words}
use Rattle.larch_flat.specs.FlatSourcesSources.{files_in}
use Rattle.larch_traits.specs.Reading.{read_files}
use Rattle.larch_traits.proofs.Worded.{read_worded}
use Rattle.larch_traits.proofs.laws.flat_traits_have_words.Goals as goal

pub returns-clause-operators : goal.returns-clause-operators
returns-clause-operators c files stem t e =
    operators_words (files_in (read_files files)) (read_worded files) (length (read_files files)) stem t e

pub returns-clause-sorts : goal.returns-clause-sorts
returns-clause-sorts c files stem t e =
    statements_words (files_in (read_files files)) (read_worded files) (length (read_files files)) stem t e

pub returns-clause-variables : goal.returns-clause-variables
returns-clause-variables c files stem t e =
    variables_words (files_in (read_files files)) (read_worded files) (length (read_files files)) stem t e

pub returns-clause-discharge : goal.returns-clause-discharge
returns-clause-discharge c files stem t e =
    discharge_in_words (files_in (read_files files)) (read_worded files) (length (read_files files)) stem t e

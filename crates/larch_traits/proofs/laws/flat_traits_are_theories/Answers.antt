use Rattle.std.proofs.Common.{length}
use Rattle.larch_duties_meaning.proofs.FlatMeaningTheory.{flat_discharge, flat_stated, flat_theory}
use Rattle.larch_flat.specs.FlatSourcesSources.{files_in}
use Rattle.larch_traits.specs.Reading.{read_files}
use Rattle.larch_traits.proofs.Worded.{read_worded}
use Rattle.larch_traits.proofs.laws.flat_traits_are_theories.Goals as goal

pub returns-clause-theory : goal.returns-clause-theory
returns-clause-theory c files stem t e =
    flat_theory (files_in (read_files files)) (read_worded files) (length (read_files files)) stem t e

pub returns-clause-stated : goal.returns-clause-stated
returns-clause-stated c files stem t e =
    flat_stated (files_in (read_files files)) (read_worded files) (length (read_files files)) stem t e

pub returns-clause-discharge : goal.returns-clause-discharge
returns-clause-discharge c files stem t e =
    flat_discharge (files_in (read_files files)) (read_worded files) (length (read_files files)) stem t e

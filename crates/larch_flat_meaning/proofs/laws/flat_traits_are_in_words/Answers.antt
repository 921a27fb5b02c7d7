use Rattle.larch_flat_meaning.proofs.Variables.{discharge_in_words, variables_words}
use Rattle.larch_flat_meaning.proofs.Words.{operators_words, statements_words}
use Rattle.larch_flat_meaning.proofs.laws.flat_traits_are_in_words.Goals as goal

pub returns-clause-operators : goal.returns-clause-operators
returns-clause-operators c = operators_words

pub returns-clause-sorts : goal.returns-clause-sorts
returns-clause-sorts c = statements_words

pub returns-clause-variables : goal.returns-clause-variables
returns-clause-variables c = variables_words

pub returns-clause-discharge : goal.returns-clause-discharge
returns-clause-discharge c = discharge_in_words

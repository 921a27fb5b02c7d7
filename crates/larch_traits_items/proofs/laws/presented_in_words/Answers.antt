use Rattle.larch_traits_items.proofs.Theories.{sort_words, variable_words}
use Rattle.larch_traits_items.proofs.laws.presented_in_words.Goals as goal

pub returns-clause-sorts : goal.returns-clause-sorts
returns-clause-sorts c = sort_words

pub returns-clause-variables : goal.returns-clause-variables
returns-clause-variables c = variable_words

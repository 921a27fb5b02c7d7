use Rattle.larch_grammar.proofs.Words.{equation_worded, reference_worded, word_worded}
use Rattle.larch_grammar.proofs.laws.words_of_raw_parts.Goals as goal

pub returns-clause-word : goal.returns-clause-word
returns-clause-word c = word_worded

pub returns-clause-equation : goal.returns-clause-equation
returns-clause-equation c = equation_worded

pub returns-clause-name : goal.returns-clause-name
returns-clause-name c tokens raw words spells = (reference_worded tokens raw words spells).0

pub returns-clause-sorts : goal.returns-clause-sorts
returns-clause-sorts c tokens raw words spells = (reference_worded tokens raw words spells).1

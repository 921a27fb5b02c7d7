use Rattle.larch_syntax.proofs.Words.{equation_words, line_words, reference_words}
use Rattle.larch_syntax.proofs.laws.line_reads_words.Goals as goal

pub returns-clause-line : goal.returns-clause-line
returns-clause-line c = line_words

pub returns-clause-equation : goal.returns-clause-equation
returns-clause-equation c = equation_words

pub returns-clause-name : goal.returns-clause-name
returns-clause-name c tokens from read words e = (reference_words tokens from read words e).0

pub returns-clause-sorts : goal.returns-clause-sorts
returns-clause-sorts c tokens from read words e = (reference_words tokens from read words e).1

use Rattle.larch_syntax.proofs.Words.{lexed_words, read_words}
use Rattle.larch_syntax.proofs.laws.text_reads_words.Goals as goal

pub returns : goal.returns
returns c text tokens raw lexes reads = read_words tokens raw (lexed_words text tokens lexes) reads

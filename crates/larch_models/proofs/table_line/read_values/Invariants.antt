use Rattle.std.proofs.Common.{◌≡◌, length}
use Rattle.larch_certificate_text.specs.ListText.{read_each}
use Rattle.larch_models_meaning.specs.ModelText.{words_of}
use Rattle.larch_models.specs.Reading.{value_up_to}
use Rattle.larch_models.proofs.TableWords.{with_more}
use Rattle.larch_models.proofs.table_line.read_values.Given as goal

abbrev pub invariant-words : goal.invariant-words
invariant-words l =
    with_more l.values (read_each (value_up_to l.last) (words_of l.rest))
    ≡ read_each (value_up_to l.last) (words_of l.text)

abbrev pub decreases-words : goal.decreases-words
decreases-words l = length l.rest

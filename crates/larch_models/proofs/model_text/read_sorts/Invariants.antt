use Rattle.std.proofs.Common.{◌≡◌, ◌≤◌, ◌+◌, [], length}
use Rattle.larch_certificate_text.specs.ListText.{split_at}
use Rattle.larch_models_meaning.specs.ModelText.{read_sorts}
use Rattle.larch_models.proofs.model_text.read_sorts.Given as goal

abbrev pub invariant-lines : goal.invariant-lines
invariant-lines l = record {
  same : read_sorts l.operators l.sorts l.next (split_at 10 l.rest) ≡ read_sorts l.operators [] 2 (split_at 10 l.text);
  small : l.next + length l.rest ≤ length l.text + 2;
}

abbrev pub decreases-lines : goal.decreases-lines
decreases-lines l = length l.rest

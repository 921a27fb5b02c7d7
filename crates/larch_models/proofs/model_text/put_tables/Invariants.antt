use Rattle.std.proofs.Common.{◌≡◌, ◌≤◌, ◌+◌, drop, length}
use Rattle.larch_certificate_text.specs.ListText.{split_at}
use Rattle.larch_models_meaning.specs.ModelText.{read_tables}
use Rattle.larch_models.proofs.model_text.put_tables.Given as goal

abbrev pub invariant-loop-i : goal.invariant-loop-i
invariant-loop-i l = record {
  same : read_tables l.sorts l.tables (l.i + 1) (drop l.i l.operators) l.number (split_at 10 l.rest)
      ≡ read_tables l.sorts l.initial.tables 1 l.operators l.first (split_at 10 l.text);
  small : l.number + length l.rest ≤ l.first + length l.text;
}

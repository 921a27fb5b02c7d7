use Rattle.std.proofs.Common.{◌≡◌, ◌<◌, ℕ, false, get_or, length}
use Rattle.std.specs.Prelude.{map}
use Rattle.larch_models.specs.Clauses.{is_made_next, plain_operation}
use Rattle.larch_models.proofs.generated.next_made.Given as goal

abbrev pub invariant-loop-value : goal.invariant-loop-value
invariant-loop-value l = record {
  many : length l.next.items ≡ l.value;
  each : (v : ℕ) → v < l.value
      → get_or l.next.items v false ≡ is_made_next (map plain_operation l.operations) l.made v;
}

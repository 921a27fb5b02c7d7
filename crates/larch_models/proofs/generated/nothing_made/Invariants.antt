use Rattle.std.proofs.Common.{◌≡◌, ◌+◌, ℕ, false, get_or, length}
use Rattle.larch_models.proofs.generated.nothing_made.Given as goal

abbrev pub invariant-loop-count : goal.invariant-loop-count
invariant-loop-count l = record {
  many : length l.made.items ≡ l._count + 1;
  none : (v : ℕ) → get_or l.made.items v false ≡ false;
}

use Rattle.std.proofs.Common.{◌≡◌, ◌≤◌, ◌+◌, length, map, drop}
use Rattle.larch_verify_pool.specs.Pooled.{Grows}
use Rattle.larch_verify_history.specs.Past.{equated_in}
use Rattle.larch_verify_box_rules.proofs.Supposed.{left_same}
use Rattle.larch_verify_box_rules.proofs.showing.supposes_cases.Given as goal

-- what is left to compare decides
abbrev pub invariant-loop-i : goal.invariant-loop-i
invariant-loop-i l = record {
  grows : Grows l.fn.pool l.pool;
  met : l.met ≤ length l.hypotheses;
  rest : left_same l.fn.pool l.inductive l.known.number (l.i + 1) (drop l.i l.parts)
      (map (equated_in l.fn.pool) (drop l.met l.hypotheses))
      ≡ left_same l.fn.pool l.inductive l.known.number 1 l.parts (map (equated_in l.fn.pool) l.hypotheses);
}

use Rattle.std.proofs.Common.{◌≡◌, drop}
use Rattle.larch_verify_meaning.specs.BoxRules.{shows_cases}
use Rattle.larch_verify_pool.specs.Pooled.{Grows}
use Rattle.larch_verify_history.specs.Past.{equated_in, history_of}
use Rattle.larch_verify_box_rules.proofs.induct.shows_all.Given as goal

-- what is left to show decides
abbrev pub invariant-loop-i : goal.invariant-loop-i
invariant-loop-i l = record {
  grows : Grows l.fn.pool l.pool;
  rest : shows_cases (history_of l.fn.pool l.context.past.now) l.inductive.variable.now
      (equated_in l.fn.pool l.inductive.sides) (drop l.i l.generators) (drop l.i l.boxes)
      ≡ shows_cases (history_of l.fn.pool l.context.past.now) l.inductive.variable.now
      (equated_in l.fn.pool l.inductive.sides) l.generators l.boxes;
}

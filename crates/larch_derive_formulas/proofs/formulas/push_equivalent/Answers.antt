use Rattle.larch_derive_lines.proofs.DeriveGrowth.{extends_same, extends_trans, stays_said}
use Rattle.larch_derive_lines.specs.CalculusFormula.{equality, equivalence}
use Rattle.larch_term.specs.BuiltIn.{bool_sort}
use Rattle.larch_term.specs.Truth.{truth}
use Rattle.larch_derive_formulas.proofs.Truths.{from_equivalence}
use Rattle.larch_derive_formulas.proofs.formulas.push_equivalent.Goals as goal

pub returns-in_err-equality-clause-extends : goal.returns-in_err-equality-clause-extends
returns-in_err-equality-clause-extends c e =
    c.in_err-equality.ensures.extends (equality bool_sort c.args.left.now c.args.right.now)
    (equivalence c.args.left.now c.args.right.now)
    (from_equivalence _ _ _ c.args.left.now c.args.right.now c.in_ok-row.ensures e)

pub returns-in_err-truth-clause-extends : goal.returns-in_err-truth-clause-extends
returns-in_err-truth-clause-extends c e =
    extends_trans _ _ _ (c.in_ok-equality.ensures.extends (equality bool_sort c.args.left.now c.args.right.now)
    (equivalence c.args.left.now c.args.right.now)
    (from_equivalence _ _ _ c.args.left.now c.args.right.now c.in_ok-row.ensures e))
    (extends_same _ _ c.in_err-truth.ensures.err)

pub returns-in_err-number-clause-extends : goal.returns-in_err-number-clause-extends
returns-in_err-number-clause-extends c e =
    extends_trans _ _ _ (c.in_ok-equality.ensures.extends (equality bool_sort c.args.left.now c.args.right.now)
    (equivalence c.args.left.now c.args.right.now)
    (from_equivalence _ _ _ c.args.left.now c.args.right.now c.in_ok-row.ensures e))
    (extends_trans _ _ _ (c.in_ok-truth.ensures.extends (equality bool_sort c.args.left.now c.args.right.now)
    (equivalence c.args.left.now c.args.right.now) truth
    (c.in_ok-equality.ensures.says (equality bool_sort c.args.left.now c.args.right.now)
    (equivalence c.args.left.now c.args.right.now)
    (from_equivalence _ _ _ c.args.left.now c.args.right.now c.in_ok-row.ensures e))
    (stays_said _ _ _ _ (c.in_ok-equality.ensures.extends (equality bool_sort c.args.left.now c.args.right.now)
    (equivalence c.args.left.now c.args.right.now)
    (from_equivalence _ _ _ c.args.left.now c.args.right.now c.in_ok-row.ensures e)) e))
    (extends_same _ _ c.in_err-number.ensures.err))

pub returns-clause-says : goal.returns-clause-says
returns-clause-says c e =
    c.in_ok-number.ensures.says bool_sort c.args.left.now c.args.right.now
    (c.in_ok-truth.ensures.says (equality bool_sort c.args.left.now c.args.right.now)
    (equivalence c.args.left.now c.args.right.now) truth
    (c.in_ok-equality.ensures.says (equality bool_sort c.args.left.now c.args.right.now)
    (equivalence c.args.left.now c.args.right.now)
    (from_equivalence _ _ _ c.args.left.now c.args.right.now c.in_ok-row.ensures e))
    (stays_said _ _ _ _ (c.in_ok-equality.ensures.extends (equality bool_sort c.args.left.now c.args.right.now)
    (equivalence c.args.left.now c.args.right.now)
    (from_equivalence _ _ _ c.args.left.now c.args.right.now c.in_ok-row.ensures e)) e))

pub returns-clause-extends : goal.returns-clause-extends
returns-clause-extends c e =
    extends_trans _ _ _ (c.in_ok-equality.ensures.extends (equality bool_sort c.args.left.now c.args.right.now)
    (equivalence c.args.left.now c.args.right.now)
    (from_equivalence _ _ _ c.args.left.now c.args.right.now c.in_ok-row.ensures e))
    (extends_trans _ _ _ (c.in_ok-truth.ensures.extends (equality bool_sort c.args.left.now c.args.right.now)
    (equivalence c.args.left.now c.args.right.now) truth
    (c.in_ok-equality.ensures.says (equality bool_sort c.args.left.now c.args.right.now)
    (equivalence c.args.left.now c.args.right.now)
    (from_equivalence _ _ _ c.args.left.now c.args.right.now c.in_ok-row.ensures e))
    (stays_said _ _ _ _ (c.in_ok-equality.ensures.extends (equality bool_sort c.args.left.now c.args.right.now)
    (equivalence c.args.left.now c.args.right.now)
    (from_equivalence _ _ _ c.args.left.now c.args.right.now c.in_ok-row.ensures e)) e))
    (c.in_ok-number.ensures.extends bool_sort c.args.left.now c.args.right.now
    (c.in_ok-truth.ensures.says (equality bool_sort c.args.left.now c.args.right.now)
    (equivalence c.args.left.now c.args.right.now) truth
    (c.in_ok-equality.ensures.says (equality bool_sort c.args.left.now c.args.right.now)
    (equivalence c.args.left.now c.args.right.now)
    (from_equivalence _ _ _ c.args.left.now c.args.right.now c.in_ok-row.ensures e))
    (stays_said _ _ _ _ (c.in_ok-equality.ensures.extends (equality bool_sort c.args.left.now c.args.right.now)
    (equivalence c.args.left.now c.args.right.now)
    (from_equivalence _ _ _ c.args.left.now c.args.right.now c.in_ok-row.ensures e)) e))))

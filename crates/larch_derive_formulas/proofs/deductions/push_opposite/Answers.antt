use Rattle.std.specs.Prelude.{[], refl}
use Rattle.larch_derive_lines.specs.CalculusFormula.{negation}
use Rattle.larch_term.specs.BuiltIn.{bool_sort, built_in}
use Rattle.larch_term.specs.declared.built_in.BuiltIn.TheVariants.{Not}
use Rattle.larch_derive_formulas.proofs.Deduced.{not_not}
use Rattle.larch_derive_formulas.proofs.Rows.{instance_as}
use Rattle.larch_derive_formulas.proofs.deductions.push_opposite.Goals as goal

pub returns-in_err-number-clause-extends : goal.returns-in_err-number-clause-extends
returns-in_err-number-clause-extends c u v e k =
    c.in_err-number.ensures.extends (built_in Not bool_sort) [] [] (negation c.args.term.now) u c.args.term.now v
    (instance_as _ _ _ _ _ c.in_ok-first.ensures (not_not _ _ c.args.term.now u e)) refl e
    (instance_as _ _ _ _ _ c.in_ok-second.ensures k)

pub returns-clause-says : goal.returns-clause-says
returns-clause-says c u v e k =
    c.in_ok-number.ensures.says (built_in Not bool_sort) [] [] (negation c.args.term.now) u c.args.term.now v
    (instance_as _ _ _ _ _ c.in_ok-first.ensures (not_not _ _ c.args.term.now u e)) refl e
    (instance_as _ _ _ _ _ c.in_ok-second.ensures k)

pub returns-clause-extends : goal.returns-clause-extends
returns-clause-extends c u v e k =
    c.in_ok-number.ensures.extends (built_in Not bool_sort) [] [] (negation c.args.term.now) u c.args.term.now v
    (instance_as _ _ _ _ _ c.in_ok-first.ensures (not_not _ _ c.args.term.now u e)) refl e
    (instance_as _ _ _ _ _ c.in_ok-second.ensures k)

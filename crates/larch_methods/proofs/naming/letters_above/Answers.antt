use Rattle.std.specs.Prelude.{◌<◌, All, length}
use Rattle.std.proofs.Common.{arith, subst, ◌∙◌}
use Rattle.larch_term.specs.declared.variable.Variable.{Variable}
use Rattle.larch_methods.proofs.Observing.{shorter_names}
use Rattle.larch_methods.proofs.naming.letters_above.Goals as goal

pub returns-clause-left : goal.returns-clause-left
returns-clause-left c =
    shorter_names c.args.left.now c.in_ok-letters.letters c.in_ok-letters-2.letters
    (subst (λ vs. All (λ (v : Variable). length v.name < c.in_ok-letters.letters) vs)
    (c.as_slice.ensures ∙ c.in_ok-of_left.ensures) c.in_ok-letters.ensures.above)
    c.in_ok-letters-2.ensures.least

pub returns-clause-right : goal.returns-clause-right
returns-clause-right c =
    shorter_names c.args.right.now c.in_ok-letters-2.letters c.in_ok-letters-2.letters
    (subst (λ vs. All (λ (v : Variable). length v.name < c.in_ok-letters-2.letters) vs)
    (c.as_slice-2.ensures ∙ c.in_ok-of_right.ensures) c.in_ok-letters-2.ensures.above)
    (omega arith)

pub returns-clause-least : goal.returns-clause-least
returns-clause-least c = omega (arith, c.in_ok-letters.ensures.least, c.in_ok-letters-2.ensures.least)

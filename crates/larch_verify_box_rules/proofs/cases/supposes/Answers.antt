use Rattle.std.proofs.Common.{◌≡◌, ◌==◌, ◌∷◌, [], ◌∙◌, ap, subst, map, length, IsTrue, ◌↔◌}
use Rattle.larch_term.specs.declared.statement.Statement.TheVariants.{Equation}
use Rattle.larch_verify_pool.specs.Pooled.{tree_in}
use Rattle.larch_verify_history.specs.Past.{box_in, equated_in}
use Rattle.larch_verify_box_rules.proofs.CaseSplits.{supposes_told}
use Rattle.larch_verify_box_rules.proofs.cases.supposes.Goals as goal

pub returns-then-is_empty : goal.returns-then-is_empty
returns-then-is_empty c =
    supposes_told (box_in c.args.pool.now c.args.known.now) (tree_in c.args.pool.now.trees c.args.formula)
    (tree_in c.args.pool.now.trees c.args.value)
    c.is_empty.result c.same_equations.result c.if-is_empty.true
    (c.is_empty.ensures ∙ ap (λ ps. length ps == 0) c.as_slice.ensures)
    (subst (λ hs. IsTrue c.same_equations.result ↔ (map (equated_in c.args.pool.now) hs
    ≡ Equation (tree_in c.args.pool.now.trees c.args.formula) (tree_in c.args.pool.now.trees c.args.value) ∷ []))
    c.as_slice-then-is_empty.ensures c.same_equations.ensures)

use Rattle.std.proofs.Common.{◌≡◌, ℕ, ◌<◌, ◌-◌, map, ◌⊎◌, inl, inr, length, Some, sym, ◌∙◌, ap, arith}
use Rattle.std.proofs.lemmas.Option.{slice_get-get_or}
use Rattle.std.specs.List.{slice_set}
use Rattle.larch_term.specs.Tree.{app, forest_of}
use Rattle.larch_verify_pool.specs.Pooled.{tree_in, no_tree, operator_in}
use Rattle.larch_verify_pool.proofs.Placed.{refit_same, refit_set}
use Rattle.larch_verify_pool.proofs.placing.refit.Goals.{then-frame-eq0-via-then-frame-eq0}
use Rattle.larch_verify_pool.proofs.placing.refit.Goals.{then-frame-eq0-via-else-frame-eq0+then-frame-as_slice}
use Rattle.larch_verify_pool.proofs.placing.refit.Goals as goal

pub returns-then-frame-eq0-clause-tree : goal.returns-then-frame-eq0-clause-tree
returns-then-frame-eq0-clause-tree c =
    let o : (c.args.frame.argument ≡ 0)
    ⊎ (length c.in-App.arguments < c.args.frame.argument) =
    elim c.then-frame-eq0.branch [
      | then-frame-eq0-via-then-frame-eq0 w ↦ inl (omega (arith, w.if-frame-eq0.true))
      | then-frame-eq0-via-else-frame-eq0+then-frame-as_slice w ↦
          inr (omega (arith, w.if-frame-as_slice.true, ap length w.as_slice.ensures))
    ] in
    slice_get-get_or c.args.pool.now.trees c.args.frame.node no_tree c.requires.node
    ∙ ap Some
    (sym (refit_same c.args.pool.now.operators c.args.pool.now.trees _ c.node.result.now c.in-App.operator
    c.in-App.arguments c.args.frame.argument
    (tree_in c.args.pool.now.trees c.args.argument) c.node.ensures.tree c.in-App.is o))

pub returns-clause-tree : goal.returns-clause-tree
returns-clause-tree c =
    let k : ℕ = c.args.frame.argument in
    let e : c.in_ok-arguments.arguments ≡ slice_set c.in-App.arguments (k - 1) c.args.argument =
    c.in_ok-arguments.ensures ∙ ap (λ xs. slice_set xs (k - 1) c.args.argument) c.as_slice-2.ensures in
    c.in_ok-made.ensures.tree
    ∙ ap Some
    (ap (λ ns. app (operator_in c.args.pool.now.operators c.in-App.operator)
    (forest_of (map (tree_in c.args.pool.now.trees) ns))) e
    ∙ refit_set c.args.pool.now.operators c.args.pool.now.trees _ c.node.result.now c.in-App.operator c.in-App.arguments
    k c.args.argument c.node.ensures.tree c.in-App.is (omega (arith, c.if-frame-eq0.false)))

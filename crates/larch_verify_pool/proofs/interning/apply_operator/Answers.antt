use Rattle.std.proofs.Common.{◌≡◌, List, map, Some, ◌∙◌, ap}
use Rattle.std.proofs.lemmas.Option.{slice_get_within, get_or_from_slice_get}
use Rattle.larch_term.specs.Operator.{PlainOperator}
use Rattle.larch_term.specs.Tree.{Tree, app, forest_of}
use Rattle.larch_verify_pool.specs.Pooled.{tree_in, operator_in, no_operator}
use Rattle.larch_verify_pool.proofs.interning.apply_operator.Goals as goal

pub apply-requires-clause-operator : goal.apply-requires-clause-operator
apply-requires-clause-operator c = slice_get_within _ c.in_ok-operator.operator _ c.in_ok-operator.ensures.number

pub returns-clause-tree : goal.returns-clause-tree
returns-clause-tree c =
    let o : operator_in c.intern_operator.new.pool.operators c.in_ok-operator.operator
    ≡ c.args.operator.now =
    get_or_from_slice_get c.intern_operator.new.pool.operators c.in_ok-operator.operator _ no_operator
    c.in_ok-operator.ensures.number in
    c.in_ok-number.ensures.tree
    ∙ ap (λ (f : PlainOperator). Some
    (app f (forest_of (map (tree_in c.intern_operator.new.pool.trees) c.args.arguments)))) o
    ∙ ap (λ (us : List Tree). Some (app c.args.operator.now (forest_of (map (tree_in us) c.args.arguments))))
    c.in_ok-operator.ensures.trees

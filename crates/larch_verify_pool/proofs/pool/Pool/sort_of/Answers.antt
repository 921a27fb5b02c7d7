use Rattle.std.proofs.Common.{◌≡◌, ◌<◌, length, get_or, sym, ap, ◌∙◌}
use Rattle.larch_term.specs.Operator.{PlainOperator}
use Rattle.larch_term.specs.Sorts.{sort_of}
use Rattle.larch_verify_pool.specs.Pooled.{node_tree, StandsBehind}
use Rattle.larch_verify_pool.specs.declared.symbol.PoolSymbol.{PoolSymbol}
use Rattle.larch_verify_pool.proofs.Reading.{node_within, node_read, operator_read, Read}
use Rattle.larch_verify_pool.proofs.pool.Pool.sort_of.Goals as goal

pub bounds-as_slice-number : goal.bounds-as_slice-number
bounds-as_slice-number c =
    rw c.as_slice.ensures.keys (node_within _ _ c.args.self.now c.args.number c.self.view_is c.requires)

pub bounds-as_slice-operator : goal.bounds-as_slice-operator
bounds-as_slice-operator c =
    let r : Read c.args.self.now c.self.inside.symbols.keys c.args.number c.index-as_slice-number.result =
    node_read _ _ _ _ _ _ c.self.view_is c.self.invariant c.requires
    (rw c.as_slice.ensures.keys at c.index-as_slice-number.is) in
    let s : StandsBehind (length c.self.inside.symbols.keys) c.args.number c.index-as_slice-number.result = r.stands in
    rw c.as_slice-in-App.ensures.keys (rw c.in-App.is at s).0

pub returns-in-Var : goal.returns-in-Var
returns-in-Var c =
    let r : Read c.args.self.now c.self.inside.symbols.keys c.args.number c.index-as_slice-number.result =
    node_read _ _ _ _ _ _ c.self.view_is c.self.invariant c.requires
    (rw c.as_slice.ensures.keys at c.index-as_slice-number.is) in
    sym (ap sort_of (r.tree ∙ ap (node_tree c.args.self.now.operators c.args.self.now.trees) c.in-Var.is))

pub returns-in-App : goal.returns-in-App
returns-in-App c =
    let r : Read c.args.self.now c.self.inside.symbols.keys c.args.number c.index-as_slice-number.result =
    node_read _ _ _ _ _ _ c.self.view_is c.self.invariant c.requires
    (rw c.as_slice.ensures.keys at c.index-as_slice-number.is) in
    let s : StandsBehind (length c.self.inside.symbols.keys) c.args.number c.index-as_slice-number.result = r.stands in
    let l : c.in-App.operator < length c.self.inside.symbols.keys = (rw c.in-App.is at s).0 in
    let is : c.index-as_slice-operator.result
    ≡ get_or c.self.inside.symbols.keys c.in-App.operator c.index-as_slice-operator.result =
    rw c.as_slice-in-App.ensures.keys at c.index-as_slice-operator.is in
    ap (λ (x : PoolSymbol). x.range) (sym c.index-as_slice-operator.is)
    ∙ sym (ap sort_of (r.tree ∙ ap (node_tree c.args.self.now.operators c.args.self.now.trees) c.in-App.is)
    ∙ ap (λ (g : PlainOperator). g.range)
    (operator_read _ _ _ c.in-App.operator c.index-as_slice-operator.result c.self.view_is l is))

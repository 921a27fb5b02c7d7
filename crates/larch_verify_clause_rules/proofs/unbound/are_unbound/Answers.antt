use Rattle.std.proofs.Common.{◌≡◌, ◌&&◌, subst, sym, ◌∙◌, ap}
use Rattle.larch_term.specs.Substitution.{instance_of}
use Rattle.larch_verify_pool.specs.Pooled.{Pooled, tree_in, HasTree}
use Rattle.larch_verify_pool.specs.Substitution.{entries_of}
use Rattle.larch_verify_pool.proofs.Front.{grows_refl, grows_trans}
use Rattle.larch_verify_parts.proofs.Numbers.{has_later}
use Rattle.larch_verify_clause_rules.specs.Observers.{none_occurs, variables_in}
use Rattle.larch_verify_clause_rules.proofs.Unbinding.{unbound_told}
use Rattle.larch_verify_clause_rules.proofs.unbound.are_unbound.Goals as goal

pub returns-then-not-same-clause-says : goal.returns-then-not-same-clause-says
returns-then-not-same-clause-says c =
    let q : Pooled = c.closing.new.pool in
    let r : Pooled = c.substitute.new.pool in
    let s : Pooled = c.substitute-2.new.pool in
    let t : HasTree r c.in_ok-left.left
    (instance_of (entries_of q.trees c.in_ok-by.by.items) (tree_in q.trees c.args.sides.left)) =
    subst (λ bs. HasTree r c.in_ok-left.left (instance_of (entries_of q.trees bs) (tree_in q.trees c.args.sides.left)))
    c.deref.ensures.value c.in_ok-left.ensures.tree in
    let l : c.same.result ≡ none_occurs (tree_in c.args.pool.now.trees c.args.sides.left)
    (variables_in c.args.pool.now.trees c.args.variables.now) =
    unbound_told c.args.pool.now q q s c.args.sides.left c.in_ok-left.left c.in_ok-by.by.items c.args.variables.now
    c.same.result
    c.in_ok-by.ensures.grows (grows_refl q)
    (grows_trans q r s c.in_ok-left.ensures.grows c.in_ok-right.ensures.grows) c.requires.sides.0
    c.in_ok-by.ensures.bindings c.in_ok-by.ensures.entries
    (has_later r s c.in_ok-left.left
    (instance_of (entries_of q.trees c.in_ok-by.by.items) (tree_in q.trees c.args.sides.left))
    c.in_ok-right.ensures.grows t) c.same.ensures in
    ap (λ b. b && none_occurs (tree_in c.args.pool.now.trees c.args.sides.right)
    (variables_in c.args.pool.now.trees c.args.variables.now)) (sym c.if-not-same.true ∙ l)

pub returns-clause-says : goal.returns-clause-says
returns-clause-says c =
    let q : Pooled = c.closing.new.pool in
    let r : Pooled = c.substitute.new.pool in
    let s : Pooled = c.substitute-2.new.pool in
    let t : HasTree r c.in_ok-left.left
    (instance_of (entries_of q.trees c.in_ok-by.by.items) (tree_in q.trees c.args.sides.left)) =
    subst (λ bs. HasTree r c.in_ok-left.left (instance_of (entries_of q.trees bs) (tree_in q.trees c.args.sides.left)))
    c.deref.ensures.value c.in_ok-left.ensures.tree in
    let u : HasTree s c.in_ok-right.right
    (instance_of (entries_of r.trees c.in_ok-by.by.items) (tree_in r.trees c.args.sides.right)) =
    subst (λ bs. HasTree s c.in_ok-right.right
    (instance_of (entries_of r.trees bs) (tree_in r.trees c.args.sides.right))) c.deref-2.ensures.value
    c.in_ok-right.ensures.tree in
    let l : c.same.result ≡ none_occurs (tree_in c.args.pool.now.trees c.args.sides.left)
    (variables_in c.args.pool.now.trees c.args.variables.now) =
    unbound_told c.args.pool.now q q s c.args.sides.left c.in_ok-left.left c.in_ok-by.by.items c.args.variables.now
    c.same.result
    c.in_ok-by.ensures.grows (grows_refl q)
    (grows_trans q r s c.in_ok-left.ensures.grows c.in_ok-right.ensures.grows) c.requires.sides.0
    c.in_ok-by.ensures.bindings c.in_ok-by.ensures.entries
    (has_later r s c.in_ok-left.left
    (instance_of (entries_of q.trees c.in_ok-by.by.items) (tree_in q.trees c.args.sides.left))
    c.in_ok-right.ensures.grows t) c.same.ensures in
    let k : c.same-2.result ≡ none_occurs (tree_in c.args.pool.now.trees c.args.sides.right)
    (variables_in c.args.pool.now.trees c.args.variables.now) =
    unbound_told c.args.pool.now q r s c.args.sides.right c.in_ok-right.right c.in_ok-by.by.items c.args.variables.now
    c.same-2.result
    c.in_ok-by.ensures.grows c.in_ok-left.ensures.grows c.in_ok-right.ensures.grows c.requires.sides.1
    c.in_ok-by.ensures.bindings c.in_ok-by.ensures.entries u c.same-2.ensures in
    k ∙ ap (λ b. b && none_occurs (tree_in c.args.pool.now.trees c.args.sides.right)
    (variables_in c.args.pool.now.trees c.args.variables.now)) (sym c.if-not-same.false ∙ l)

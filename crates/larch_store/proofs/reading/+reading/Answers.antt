use Rattle.std.proofs.Common.{◌≡◌, ℕ, ◌<◌, ◌≤◌, sum_by, length, get_or, sym, ◌∙◌, ap, subst, arith}
use Rattle.std.proofs.lemmas.List.Sums.{get_or-le-sum_by}
use Rattle.larch_term.specs.Tree.{app, nodes, forest_of}
use Rattle.larch_store.specs.Numbered.{Numbered, branch, several, number_of, size_of, term_of}
use Rattle.larch_store.specs.SharedView.{view_shared}
use Rattle.larch_store.proofs.Standing.{branch_term}
use Rattle.larch_store.proofs.reading.+reading.Goals as goal

pub terms_from-term_from-requires : goal.terms_from-term_from-requires
terms_from-term_from-requires t c =
    let f : Numbered → ℕ = λ x. nodes (term_of x) in
    let x : Numbered = c.shared-item.result in
    let is : x ≡ get_or c.args.list.now c.loop-shared.shared-index x =
    rw c.as_slice-shared-items.ensures at c.shared-item.is in
    let lt : c.loop-shared.shared-index < length c.args.list.now =
    rw c.as_slice-shared-items.ensures at c.loop-shared-test.true in
    let k : f (get_or c.args.list.now c.loop-shared.shared-index x) ≤ sum_by f c.args.list.now =
    get_or-le-sum_by f c.args.list.now c.loop-shared.shared-index x lt in
    let m : f x ≤ sum_by f c.args.list.now = omega (arith, k, ap f is) in
    (omega (arith, m, c.decreases), tt)

pub term_from-returns-in_ok-term-in-Application : goal.term_from-returns-in_ok-term-in-Application
term_from-returns-in_ok-term-in-Application t c =
    let s : Numbered = c.args.shared.now in
    let v : branch (number_of s) (size_of s) c.in-Application.operator (several c.in-Application.arguments) ≡ s =
    subst (λ n. view_shared (number_of s) (size_of s) n ≡ s) c.in-Application.is c.node.ensures in
    c.in_ok-term-in-Application.ensures
    ∙ (λ i. app c.in-Application.operator (forest_of (c.in_ok-terms-in-Application.ensures i)))
    ∙ sym (branch_term (number_of s) (size_of s) c.in-Application.operator c.in-Application.arguments) ∙ ap term_of v

use Rattle.std.proofs.Common.{rules, ◌≡◌, ℕ, List, Some}
use Rattle.larch_base.specs.ByNumber.{numbered}
use Rattle.larch_term.specs.Tree.{Tree}
use Rattle.larch_term.specs.declared.statement.Statement.TheVariants.{Equation}
use Rattle.larch_derive_formulas.specs.Consequences.{given_by, sort_within}
use Rattle.larch_derive_formulas.specs.declared.consequences.TheConstants.{DEDUCTIONS}
use Rattle.larch_derive_formulas.proofs.Followed.{nothing_follows, something_follows, unread}
use Rattle.larch_derive_formulas.proofs.consequences.deduce.Goals as goal

-- src/consequences.rt:113:9
pub returns-in_default-2-clause-follows : goal.returns-in_default-2-clause-follows
returns-in_default-2-clause-follows c =
    let k : numbered DEDUCTIONS c.args.number ≡ Some c.in-Some.deduction = search rules in
    let never : (s : List ℕ) (t u : Tree) → given_by c.in-Some.deduction s t u
    ≡ Equation c.args.left.now c.args.right.now → ⊥ = search rules in
    nothing_follows c.args.number (Equation c.args.left.now c.args.right.now)
    (unread c.args.number c.in-Some.deduction (Equation c.args.left.now c.args.right.now) k never)

-- src/consequences.rt:93:1
pub returns-clause-follows : goal.returns-clause-follows
returns-clause-follows c =
    let k : numbered DEDUCTIONS c.args.number ≡ Some c.in-Some.deduction = search rules in
    let p : given_by c.in-Some.deduction (sort_within c.args.left.now) c.in-Some-2.places.first.now
    c.in-Some-2.places.second.now ≡ Equation c.args.left.now c.args.right.now = search rules in
    something_follows c.args.number c.in-Some.deduction (Equation c.args.left.now c.args.right.now)
    (sort_within c.args.left.now) c.in-Some-2.places.first.now c.in-Some-2.places.second.now k p

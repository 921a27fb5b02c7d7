use Rattle.std.proofs.Common.{◌≡◌, ◌∙◌, [], ap, fold, sym, subst}
use Rattle.std.proofs.lemmas.List.{drop_all}
use Rattle.larch_flat_meaning.specs.Gathered.{with_operator}
use Rattle.larch_duties.specs.Kept.{Finds}
use Rattle.larch_duties.proofs.Once.{operators_found}
use Rattle.larch_duties.proofs.among.index_of.Goals as goal

pub returns : goal.returns
returns c =
    let fs = c.args.operators.now in
    let e : fold with_operator [] fs ≡ c.loop-operator.index.keys =
    sym c.loop-operator.invariant
    ∙ ap (fold with_operator c.loop-operator.index.keys)
    (drop_all c.loop-operator.operator-index fs c.loop-operator-test.false) in
    subst (λ ks. Finds ks fs) e (operators_found fs)

use Rattle.std.proofs.Common.{◌≡◌, ◌∙◌, [], ap, fold, map, sym, subst}
use Rattle.std.proofs.lemmas.List.{drop_all}
use Rattle.larch_duties_meaning.specs.Conversions.{bytes_of}
use Rattle.larch_duties.specs.Names.{FindsNames, with_word}
use Rattle.larch_duties.proofs.Once.{names_found}
use Rattle.larch_duties.proofs.words.names_of.Goals as goal

pub returns : goal.returns
returns c =
    let fs = c.args.operators.now in
    let ns = map (λ f. bytes_of f.name) fs in
    let e : fold with_word [] ns ≡ c.loop-operator.names.keys =
    sym c.loop-operator.invariant
    ∙ ap (λ os. fold with_word c.loop-operator.names.keys (map (λ f. bytes_of f.name) os))
    (drop_all c.loop-operator.operator-index fs c.loop-operator-test.false) in
    subst (λ ks. FindsNames ks ns) e (names_found ns)

use Rattle.std.proofs.Common.{◌∙◌, ap, map}
use Rattle.larch_flat_meaning.specs.Gathered.{Gathered, statements_in}
use Rattle.larch_duties_meaning.specs.Conversions.{Conversion, bytes_of, clause_by, clause_over, copies}
use Rattle.larch_duties.specs.Kept.{theory_in}
use Rattle.larch_duties.proofs.clause.clause_over.Goals as goal

pub returns : goal.returns
returns c =
    let k = c.args.conversion.now in
    c.in_ok-clause.ensures
    ∙ ap (clause_by (statements_in c.flat.inside.marked) k)
    (c.in_ok-copies.ensures
    ∙ ap (λ os. copies 1 (map (λ f. bytes_of f.name) os) c.as_slice.result.now) c.as_slice-operators.ensures
    ∙ ap (copies 1 (map (λ f. bytes_of f.name) c.flat.inside.operators))
    (c.as_slice.ensures ∙ ap (λ (x : Conversion). x.converted) c.conversion.view_is))
    ∙ ap (λ (g : Gathered). clause_over (theory_in g) k) c.flat.view_is

use Rattle.std.proofs.Common.{◌∙◌, ◌+◌, ap, length}
use Rattle.larch_duties_meaning.specs.Conversions.{Conversion}
use Rattle.larch_duties.specs.Kept.{theory_in}
use Rattle.larch_duties.proofs.Labels.{clause_put}
use Rattle.larch_duties.proofs.claims.put_clauses.Goals as goal

pub loop-conversion-preserved : goal.loop-conversion-preserved
loop-conversion-preserved c =
    let converted = c.as_slice.ensures ∙ ap (λ (k : Conversion). k.converted) c.conversion.view_is in
    clause_put (theory_in c.args.flat.now) c.args.conversions.now c.loop-conversion.conversion-index
    c.conversion-item.result c.loop-conversion.first c.loop-conversion.number c.in_ok-first.first c.in_ok-number.number
    c.loop-conversion.claims c.put_clause.new.claims _ c.loop-conversion-test.true c.conversion-item.is
    c.in_ok-put_clause.ensures
    (c.in_ok-first.ensures ∙ ap (λ fs. c.loop-conversion.first + length fs) converted) c.in_ok-number.ensures
    c.loop-conversion.invariant

use Rattle.std.proofs.Common.{◌∙◌, ap}
use Rattle.larch_duties_meaning.specs.Conversions.{Conversion, by_copies}
use Rattle.larch_duties.proofs.Copying.{clause_told}
use Rattle.larch_duties.proofs.clause.clause_by.Goals as goal

pub returns : goal.returns
returns c =
    let k = c.args.conversion.now in
    clause_told c.args.marked.now k c.args.copies c.in_ok-names.names c.in_ok-among.among c.as_slice-2.result.now
    c.in_ok-copied.copied c.in_ok-exempt.exempt
    (c.in_ok-names.ensures ∙ ap by_copies c.as_slice.ensures)
    (c.in_ok-among.ensures ∙ c.as_slice-converted.ensures ∙ ap (λ (x : Conversion). x.converted) c.conversion.view_is)
    (c.as_slice-2.ensures ∙ ap (λ (x : Conversion). x.exempted) c.conversion.view_is)
    c.in_ok-copied.ensures c.in_ok-exempt.ensures

use Rattle.std.proofs.Common.{◌≡◌, ◌∙◌, ◌+◌, ap, length, min, sum_by}
use Rattle.larch_flat_meaning.specs.Gathered.{Gathered}
use Rattle.larch_duties.proofs.Counts.{counted, many_told}
use Rattle.larch_duties.proofs.trait_duties.are_too_many.Goals as goal

pub returns : goal.returns
returns c =
    let g = c.args.flat.now in
    let d : c.as_slice.result.now ≡ g.discharge =
    c.as_slice.ensures ∙ ap (λ (h : Gathered). h.discharge) c.flat.view_is in
    many_told (length g.discharge) (length c.args.implied.now) (sum_by (λ k. length k.converted) c.args.conversions.now)
    c.saturating_add-own.result c.converted_in.result c.saturating_add.result _
    (c.saturating_add-own.ensures ∙ ap (λ ss. min (length ss + length c.args.implied.now) 18446744073709551615) d)
    c.converted_in.ensures c.saturating_add.ensures (counted g c.args.implied.now c.args.conversions.now)

use Rattle.std.proofs.Common.{◌∙◌, ap, sym, true, false, length}
use Rattle.std.specs.Prelude.{nat_lt}
use Rattle.larch_base.specs.declared.limits.TheConstants.{MAX_DUTIES}
use Rattle.larch_duties_meaning.specs.Duties.{all_duties}
use Rattle.larch_duties.specs.Kept.{duties_in}
use Rattle.larch_duties.proofs.ByParts.{claims_none}
use Rattle.larch_duties.proofs.trait_duties.duties_without_claims.Goals as goal

pub returns-then-are_too_many : goal.returns-then-are_too_many
returns-then-are_too_many c = λ sources.
    let g = c.args.flat.now in
    claims_none sources c.args.raw.now g c.new-implied.result c.new-conversions.result true
    c.requires.references c.requires.items c.requires.conversions c.new-implied.ensures c.new-conversions.ensures
    (sym c.if-are_too_many.true ∙ c.are_too_many.ensures
    ∙ ap (λ is. nat_lt MAX_DUTIES (length (all_duties (duties_in g is c.as_slice-2.result.now)))) c.as_slice.ensures
    ∙ ap (λ ks. nat_lt MAX_DUTIES (length (all_duties (duties_in g c.new-implied.result ks)))) c.as_slice-2.ensures)

pub returns : goal.returns
returns c = λ sources.
    let g = c.args.flat.now in
    claims_none sources c.args.raw.now g c.new-implied.result c.new-conversions.result false
    c.requires.references c.requires.items c.requires.conversions c.new-implied.ensures c.new-conversions.ensures
    (sym c.if-are_too_many.false ∙ c.are_too_many.ensures
    ∙ ap (λ is. nat_lt MAX_DUTIES (length (all_duties (duties_in g is c.as_slice-2.result.now)))) c.as_slice.ensures
    ∙ ap (λ ks. nat_lt MAX_DUTIES (length (all_duties (duties_in g c.new-implied.result ks)))) c.as_slice-2.ensures)

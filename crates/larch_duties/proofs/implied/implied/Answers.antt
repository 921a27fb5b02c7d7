use Rattle.std.proofs.Common.{◌≡◌, ◌∙◌, [], ap, sym, subst, Ok, Err}
use Rattle.std.specs.Prelude.{IfSome}
use Rattle.std.proofs.lemmas.Result.{err_from_is_err_and}
use Rattle.larch_flat_meaning.specs.TraitsItemsItems.{items_state}
use Rattle.larch_flat_meaning.specs.TraitsItemsRefusal.{cause}
use Rattle.larch_base_meaning.specs.Steps.{all_behind, all_taken}
use Rattle.larch_duties.specs.Steps.{reference_implies}
use Rattle.larch_duties.specs.TraitDuties.{flat_with}
use Rattle.larch_duties.proofs.ByParts.{implied_told, items_wrong}
use Rattle.larch_duties.proofs.implied.implied.Goals as goal

pub returns-in_err-more : goal.returns-in_err-more
returns-in_err-more c =
    let p = err_from_is_err_and c.from_residual-in_err-more.result c.from_residual-in_err-more.ensures.1 in
    let own = flat_with c.args.raw.now c.args.flat.now in
    let ss = c.in_ok-statements.statements in
    let o = cause c.in_err-more.field-0.0 in
    rw (p.1, p.2)
    (items_wrong c.args.sources.now own ss o
    (subst (λ rs. all_taken (λ ref. all_behind (reference_implies c.args.sources.now own ref)) rs [] ≡ Ok ss)
    c.as_slice-references.ensures c.in_ok-statements.ensures)
    (subst (λ is. IfSome o (λ f. items_state own.operators is ≡ Err f)) c.as_slice.ensures
    (subst (λ fs. IfSome o (λ f. items_state fs c.as_slice.result.now ≡ Err f)) c.requires.signature
    c.in_err-more.ensures)))

pub returns : goal.returns
returns c =
    let own = flat_with c.args.raw.now c.args.flat.now in
    let ss = c.in_ok-statements.statements in
    let ms = c.in_ok-more.more in
    implied_told c.args.sources.now own ss ms
    (subst (λ rs. all_taken (λ ref. all_behind (reference_implies c.args.sources.now own ref)) rs [] ≡ Ok ss)
    c.as_slice-references.ensures c.in_ok-statements.ensures)
    (subst (λ is. items_state own.operators is ≡ Ok ms) c.as_slice.ensures
    (subst (λ fs. items_state fs c.as_slice.result.now ≡ Ok ms) c.requires.signature c.in_ok-more.ensures))
    ∙ ap Ok (sym c.in_ok-all.ensures)

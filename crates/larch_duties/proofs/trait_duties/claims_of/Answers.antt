use Rattle.std.proofs.Common.{◌≡◌, ◌∙◌, ap, sym, subst, true, false, length, Ok, Err}
use Rattle.std.specs.Prelude.{IfSome, nat_lt}
use Rattle.std.proofs.lemmas.Result.{err_from_is_err_and}
use Rattle.larch_base.specs.declared.limits.TheConstants.{MAX_DUTIES}
use Rattle.larch_flat_meaning.specs.TraitsItemsRefusal.{cause}
use Rattle.larch_base_meaning.specs.Steps.{each}
use Rattle.larch_flat_meaning.specs.Gathered.{Gathered, new_among}
use Rattle.larch_duties_meaning.specs.Conversions.{conversion_of}
use Rattle.larch_duties_meaning.specs.Duties.{all_duties}
use Rattle.larch_flat.specs.Known.{stop_told}
use Rattle.larch_duties.specs.Kept.{duties_in}
use Rattle.larch_duties.specs.TraitDuties.{flat_with}
use Rattle.larch_duties.proofs.ByParts.{claims_kept, claims_stopped, clauses_wrong}
use Rattle.larch_duties.proofs.trait_duties.claims_of.Goals as goal

pub returns-then-claims_nothing : goal.returns-then-claims_nothing
returns-then-claims_nothing c = c.duties_without_claims.ensures c.args.sources.now

pub returns-in_err-statements : goal.returns-in_err-statements
returns-in_err-statements c =
    let p = err_from_is_err_and c.from_residual-in_err-statements.result c.from_residual-in_err-statements.ensures.1 in
    rw (p.1, p.2)
    (claims_stopped c.args.sources.now (flat_with c.args.raw.now c.args.flat.now)
    (stop_told c.in_err-statements.field-0.0) c.in_err-statements.ensures)

pub returns-in_err-conversions : goal.returns-in_err-conversions
returns-in_err-conversions c =
    let p =
    err_from_is_err_and c.from_residual-in_err-conversions.result c.from_residual-in_err-conversions.ensures.1 in
    let o = cause c.in_err-conversions.field-0.0 in
    rw (p.1, p.2)
    (clauses_wrong c.args.sources.now
    (flat_with c.args.raw.now c.args.flat.now) c.in_ok-statements.statements o c.in_ok-statements.ensures
    (subst (λ rs. IfSome o (λ f. each (conversion_of c.args.flat.now.operators) rs ≡ Err f)) c.as_slice-clauses.ensures
    (subst (λ fs. IfSome o (λ f. each (conversion_of fs) c.as_slice-clauses.result.now ≡ Err f))
    c.in_ok-signature.ensures c.in_err-conversions.ensures)))

pub returns-in_err-implied : goal.returns-in_err-implied
returns-in_err-implied c =
    let p = err_from_is_err_and c.from_residual-in_err-implied.result c.from_residual-in_err-implied.ensures.1 in
    rw (p.1, p.2) tt

pub returns-then-are_too_many : goal.returns-then-are_too_many
returns-then-are_too_many c =
    let g = c.args.flat.now in
    let ss = c.in_ok-statements.statements in
    let cs = c.in_ok-conversions.conversions in
    claims_kept c.args.sources.now c.args.raw.now g ss c.in_ok-implied.implied cs true c.in_ok-statements.ensures
    (subst (λ rs. each (conversion_of g.operators) rs ≡ Ok cs) c.as_slice-clauses.ensures
    (subst (λ fs. each (conversion_of fs) c.as_slice-clauses.result.now ≡ Ok cs) c.in_ok-signature.ensures
    c.in_ok-conversions.ensures))
    (c.in_ok-implied.ensures ∙ ap (λ ds. new_among ds ss)
    (c.as_slice-discharge.ensures ∙ ap (λ (h : Gathered). h.discharge) c.flat.view_is))
    (sym c.if-are_too_many.true ∙ c.are_too_many.ensures
    ∙ ap (λ is. nat_lt MAX_DUTIES (length (all_duties (duties_in g is c.as_slice-2.result.now)))) c.as_slice.ensures
    ∙ ap (λ ks. nat_lt MAX_DUTIES (length (all_duties (duties_in g c.in_ok-implied.implied ks)))) c.as_slice-2.ensures)

pub returns : goal.returns
returns c =
    let g = c.args.flat.now in
    let ss = c.in_ok-statements.statements in
    let cs = c.in_ok-conversions.conversions in
    claims_kept c.args.sources.now c.args.raw.now g ss c.in_ok-implied.implied cs false c.in_ok-statements.ensures
    (subst (λ rs. each (conversion_of g.operators) rs ≡ Ok cs) c.as_slice-clauses.ensures
    (subst (λ fs. each (conversion_of fs) c.as_slice-clauses.result.now ≡ Ok cs) c.in_ok-signature.ensures
    c.in_ok-conversions.ensures))
    (c.in_ok-implied.ensures ∙ ap (λ ds. new_among ds ss)
    (c.as_slice-discharge.ensures ∙ ap (λ (h : Gathered). h.discharge) c.flat.view_is))
    (sym c.if-are_too_many.false ∙ c.are_too_many.ensures
    ∙ ap (λ is. nat_lt MAX_DUTIES (length (all_duties (duties_in g is c.as_slice-2.result.now)))) c.as_slice.ensures
    ∙ ap (λ ks. nat_lt MAX_DUTIES (length (all_duties (duties_in g c.in_ok-implied.implied ks)))) c.as_slice-2.ensures)

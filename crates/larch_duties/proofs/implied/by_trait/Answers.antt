use Rattle.std.proofs.Common.{◌≡◌, ◌∙◌, ap, sym, subst, map, not, true, false, Ok}
use Rattle.std.specs.List.{list_all}
use Rattle.larch_flat_meaning.specs.Gathered.{Gathered}
use Rattle.larch_flat_meaning.specs.Replacements.{new_operator, replacements_of}
use Rattle.larch_duties_meaning.specs.Implied.{is_among}
use Rattle.larch_duties.specs.Steps.{new_in}
use Rattle.larch_duties.specs.TraitDuties.{flat_with}
use Rattle.larch_duties.proofs.References.{implied_told}
use Rattle.larch_duties.proofs.implied.by_trait.Goals as goal

pub returns-then-lacks_one : goal.returns-then-lacks_one
returns-then-lacks_one c =
    let ref = c.args.reference.now in
    let by = c.in_ok-by.by in
    let fs = c.as_slice-operators.result.now in
    let o : fs ≡ c.args.other.now.flat.now.operators =
    c.as_slice-operators.ensures ∙ ap (λ (g : Gathered). g.operators) c.theirs.view_is in
    implied_told (flat_with c.args.own.now.text.now c.args.own.now.flat.now)
    (flat_with c.args.other.now.text.now c.args.other.now.flat.now) ref by c.as_slice-2.result.now
    c.lacks_one.result true
    (subst (λ gs. replacements_of gs c.args.other.now.text.now.formals ref ≡ Ok by) o
    (subst (λ ms. replacements_of fs ms ref ≡ Ok by) c.as_slice.ensures c.in_ok-by.ensures))
    (c.as_slice-2.ensures ∙ c.in_ok-operators.ensures ∙ ap (λ b. map (new_operator b) fs) c.in_ok-names.ensures
    ∙ ap (map (new_operator by)) o)
    (c.lacks_one.ensures ∙ ap (λ os. not (list_all (is_among os) c.as_slice-2.result.now)) c.requires.own)
    c.if-lacks_one.true

pub returns : goal.returns
returns c =
    let ref = c.args.reference.now in
    let by = c.in_ok-by.by in
    let fs = c.as_slice-operators.result.now in
    let o : fs ≡ c.args.other.now.flat.now.operators =
    c.as_slice-operators.ensures ∙ ap (λ (g : Gathered). g.operators) c.theirs.view_is in
    implied_told (flat_with c.args.own.now.text.now c.args.own.now.flat.now)
    (flat_with c.args.other.now.text.now c.args.other.now.flat.now) ref by c.as_slice-2.result.now
    c.lacks_one.result false
    (subst (λ gs. replacements_of gs c.args.other.now.text.now.formals ref ≡ Ok by) o
    (subst (λ ms. replacements_of fs ms ref ≡ Ok by) c.as_slice.ensures c.in_ok-by.ensures))
    (c.as_slice-2.ensures ∙ c.in_ok-operators.ensures ∙ ap (λ b. map (new_operator b) fs) c.in_ok-names.ensures
    ∙ ap (map (new_operator by)) o)
    (c.lacks_one.ensures ∙ ap (λ os. not (list_all (is_among os) c.as_slice-2.result.now)) c.requires.own)
    c.if-lacks_one.false
    ∙ ap Ok
    (sym (c.in_ok-statements.ensures
    ∙ ap (λ b. new_in c.ours.inside.marked b c.theirs.inside.marked) c.in_ok-names.ensures
    ∙ ap (λ (g : Gathered). new_in g.marked by c.theirs.inside.marked) c.ours.view_is
    ∙ ap (λ (g : Gathered). new_in c.args.own.now.flat.now.marked by g.marked) c.theirs.view_is))

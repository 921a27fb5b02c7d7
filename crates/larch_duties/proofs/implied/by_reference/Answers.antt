use Rattle.std.proofs.Common.{◌∙◌, ap, sym, subst, Some}
use Rattle.larch_base.specs.Answering.{Answers}
use Rattle.larch_flat.specs.Known.{stop_told}
use Rattle.larch_flat.proofs.Answering.{answers_surely}
use Rattle.larch_flat.proofs.Parts.{no_flat}
use Rattle.larch_duties.specs.Steps.{trait_implies}
use Rattle.larch_duties.specs.TraitDuties.{flat_with}
use Rattle.larch_duties.proofs.References.{reference_told}
use Rattle.larch_duties.proofs.implied.by_reference.Goals as goal

pub returns-in-Ok-text : goal.returns-in-Ok-text
returns-in-Ok-text c =
    let own = flat_with c.args.own.now.text.now c.args.own.now.flat.now in
    let ref = c.args.reference.now in
    subst (Answers stop_told c.by_trait.result)
    (sym (reference_told c.args.sources.now c.args.flat_traits.now c.in-Some.found own ref c.in-Ok-text.text
    c.in-Ok.flat c.requires.known c.in-Some.ensures.name
    (c.text.ensures ∙ ap Some c.in-Ok-text.is) (c.known_of.ensures ∙ ap Some c.in-Ok.is)))
    (answers_surely c.by_trait.result
    (trait_implies own ref (flat_with c.in-Ok-text.text c.in-Ok.flat)) c.by_trait.ensures)

pub returns-in-Err-text : goal.returns-in-Err-text
returns-in-Err-text c =
    absurd (no_flat c.args.sources.now c.args.flat_traits.now c.in-Some.found c.in-Err-text.field-0 c.in-Ok.flat
    c.requires.known
    (c.text.ensures ∙ ap Some c.in-Err-text.is) (c.known_of.ensures ∙ ap Some c.in-Ok.is))

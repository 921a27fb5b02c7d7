use Rattle.std.proofs.Common.{◌∙◌, ap, sym, subst, Some}
use Rattle.larch_base.specs.Answering.{Answers}
use Rattle.larch_base_meaning.specs.Steps.{after}
use Rattle.larch_flat.specs.Known.{stop_told}
use Rattle.larch_flat.proofs.Parts.{no_flat}
use Rattle.larch_duties.specs.TraitDuties.{claims_of}
use Rattle.larch_duties.proofs.References.{flat_known}
use Rattle.larch_duties.proofs.trait_duties.duties_of.Goals as goal

pub returns-in-Ok-text : goal.returns-in-Ok-text
returns-in-Ok-text c =
    subst (Answers stop_told c.claims_of.result)
    (sym (ap (λ r. after r (claims_of c.args.sources.now))
    (flat_known c.args.sources.now c.args.flat_traits.now c.args.number c.in-Ok-text.raw c.in-Ok.flat c.requires.known
    (c.text.ensures ∙ ap Some c.in-Ok-text.is) (c.known_of.ensures ∙ ap Some c.in-Ok.is))))
    c.claims_of.ensures

pub returns-in-Err-text : goal.returns-in-Err-text
returns-in-Err-text c =
    absurd (no_flat c.args.sources.now c.args.flat_traits.now c.args.number c.in-Err-text.fault c.in-Ok.flat
    c.requires.known
    (c.text.ensures ∙ ap Some c.in-Err-text.is) (c.known_of.ensures ∙ ap Some c.in-Ok.is))

use Rattle.std.proofs.Common.{◌≡◌, ◌∙◌, [], map, take, sym, subst, ap, Some}
use Rattle.std.proofs.lemmas.List.{take_all}
use Rattle.larch_flat_meaning.specs.Files.{target, targets_in}
use Rattle.larch_flat_sources.specs.Building.{AreLinksSoFar}
use Rattle.larch_flat_sources.specs.Sources.{targets_of}
use Rattle.larch_flat_sources.proofs.Linking.{map_take_more, next_so_far}
use Rattle.larch_flat_sources.proofs.building.link_file.Goals as goal

pub loop-reference-preserved : goal.loop-reference-preserved
loop-reference-preserved c =
    subst (λ ns. AreLinksSoFar c.args.sources.now c.args.number ns c.link_reference.new.referring.items)
    (map_take_more target c.as_slice-reference-items.result.now c.loop-reference.reference-index c.reference-item.result
    c.loop-reference-test.true c.reference-item.is)
    (c.in_ok-link_reference.ensures
    (map target (take c.loop-reference.reference-index c.as_slice-reference-items.result.now))
    c.loop-reference.invariant)

pub returns-after-loop-reference : goal.returns-after-loop-reference
returns-after-loop-reference c =
    let names : targets_of c.args.sources.now c.args.number ≡ map target c.as_slice-reference-items.result.now =
    ap targets_in (c.text.ensures ∙ ap Some c.in-Ok.is) ∙ ap (map target) (sym c.as_slice-reference-items.ensures) in
    next_so_far c.args.sources.now c.args.number c.loop-reference.referring.items
    (subst (λ ns. AreLinksSoFar c.args.sources.now c.args.number ns c.loop-reference.referring.items)
    (ap (map target) (take_all c.loop-reference.reference-index c.as_slice-reference-items.result.now
    c.loop-reference-test.false) ∙ sym names) c.loop-reference.invariant)

pub returns-in_default : goal.returns-in_default
returns-in_default c =
    let names : targets_of c.args.sources.now c.args.number ≡ [] =
    ap targets_in (c.text.ensures ∙ ap Some c.in_default.is) in
    next_so_far c.args.sources.now c.args.number c.args.referring.now.items
    (subst (λ ns. AreLinksSoFar c.args.sources.now c.args.number ns c.args.referring.now.items)
    (sym names) c.requires.far)

use Rattle.std.proofs.Common.{◌∙◌, ◌++◌, ◌∷◌, [], ℕ, List, sym, subst, ap}
use Rattle.std.specs.Prelude.{is_some}
use Rattle.larch_flat_sources.proofs.Linking.{absent_so_far, there_so_far}
use Rattle.larch_flat_meaning.specs.Files.{target}
use Rattle.larch_flat_sources.specs.Building.{AreLinksSoFar}
use Rattle.larch_flat_sources.specs.Sources.{files_in}
use Rattle.larch_flat_sources.proofs.Tables.{none_of}
use Rattle.larch_flat_sources.proofs.building.link_reference.Goals as goal

pub returns-in_ok-link : goal.returns-in_ok-link
returns-in_ok-link c = λ names s.
    let r = there_so_far c.args.sources.now c.args.number names c.args.referring.now.items s
    (target c.args.reference.now) c.in-Some.to c.in-Some.ensures.within c.in-Some.ensures.name in
    subst (λ (ls : List (List ℕ)).
    AreLinksSoFar c.args.sources.now c.args.number (names ++ target c.args.reference.now ∷ []) ls)
    (sym c.in_ok-link.ensures) r

pub returns-in_default : goal.returns-in_default
returns-in_default c =
    λ names s. absent_so_far c.args.sources.now c.args.number names c.args.referring.now.items s
    (target c.args.reference.now)
    (none_of (files_in c.args.sources.now (target c.args.reference.now))
    (sym c.number_of.ensures.there ∙ ap is_some c.in_default.is))

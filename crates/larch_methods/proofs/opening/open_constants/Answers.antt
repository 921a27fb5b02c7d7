use Rattle.std.proofs.Common.{rules, [], ap, map, ◌∙◌}
use Rattle.larch_derive_clauses.specs.DeriveBoxesBoxes.{Opens}
use Rattle.larch_methods.specs.Opening.{MayOpen}
use Rattle.larch_methods.proofs.Opened.{begins_inside}
use Rattle.larch_methods.proofs.opening.open_constants.Goals as goal

pub returns-clause-inside : goal.returns-clause-inside
returns-clause-inside c vs m own e n =
    let o : MayOpen c.args.builder.now c.args.constants.now []
    → Opens c.args.builder.now c.open_with-2.new.builder c.in_ok-opened.opened [] = search rules in
    begins_inside _ _ c.in_ok-opened.opened vs (o m) own
    (ap (map (λ f. f.range)) c.in_ok-opened.ensures.constants ∙ e) n

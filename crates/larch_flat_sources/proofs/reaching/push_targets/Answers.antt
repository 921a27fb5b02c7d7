use Rattle.std.proofs.Common.{sym, ap, ◌∙◌, ◌++◌, map}
use Rattle.std.specs.Prelude.{reverse}
use Rattle.larch_flat_meaning.specs.Reached.{all_targets_in}
use Rattle.larch_flat_sources.specs.Sources.{files_in}
use Rattle.larch_flat_sources.proofs.Visiting.{none_waits}
use Rattle.larch_flat_sources.proofs.reaching.push_targets.Goals as goal

pub returns-in-None : goal.returns-in-None
returns-in-None c =
    none_waits (map (λ n. n.now) c.args.waiting.now.items) (files_in c.args.sources.now c.args.name.now)
    (sym c.in-None.ensures.there)

pub returns-in_ok-push_text_targets-in-Some : goal.returns-in_ok-push_text_targets-in-Some
returns-in_ok-push_text_targets-in-Some c =
    c.in_ok-push_text_targets-in-Some.ensures
    ∙ ap (λ o. map (λ n. n.now) c.args.waiting.now.items ++ reverse (all_targets_in o))
    (sym c.text.ensures ∙ ap (files_in c.args.sources.now) c.in-Some.ensures.name)

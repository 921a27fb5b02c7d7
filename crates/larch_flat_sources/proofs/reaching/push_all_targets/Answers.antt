use Rattle.std.proofs.Common.{ap, ◌∙◌, ◌++◌, map}
use Rattle.std.specs.Prelude.{reverse}
use Rattle.larch_flat_meaning.specs.Files.{target}
use Rattle.larch_flat_meaning.specs.Reached.{implied_target}
use Rattle.larch_flat_sources.proofs.Visiting.{both_wait}
use Rattle.larch_flat_sources.proofs.reaching.push_all_targets.Goals as goal

pub returns : goal.returns
returns c =
    both_wait (map target c.args.raw.now.references) (map implied_target c.args.raw.now.implied)
    (map (λ n. n.now) c.args.waiting.now.items) (map (λ n. n.now) c.push_implied.new.waiting.items)
    (map (λ n. n.now) c.push_references.new.waiting.items)
    (c.in_ok-push_implied.ensures
    ∙ ap (λ rs. map (λ n. n.now) c.args.waiting.now.items ++ reverse (map implied_target rs))
    c.as_slice-implied.ensures)
    (c.in_ok-push_references.ensures
    ∙ ap (λ rs. map (λ n. n.now) c.push_implied.new.waiting.items ++ reverse (map target rs))
    c.as_slice-references.ensures)

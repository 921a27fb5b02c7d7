use Rattle.std.proofs.Common.{sym, ◌∙◌, map}
use Rattle.larch_flat_meaning.specs.Reached.{again}
use Rattle.larch_flat_sources.specs.Sources.{files_in}
use Rattle.larch_flat_sources.proofs.Visiting.{goes_first, visit_falls}
use Rattle.larch_flat_sources.proofs.reaching.visit.Goals as goal

pub returns-then-is_seen-clause-goes_on : goal.returns-then-is_seen-clause-goes_on
returns-then-is_seen-clause-goes_on c = λ all v. again (sym c.is_seen.ensures ∙ c.if-is_seen.true) v

pub returns-clause-goes_on : goal.returns-clause-goes_on
returns-clause-goes_on c =
    λ all v. goes_first (files_in c.args.sources.now) c.args.seen.now.keys c.see.new.seen.keys all
    (map (λ n. n.now) c.args.waiting.now.items) (map (λ n. n.now) c.push_targets.new.waiting.items) c.args.name.now
    (sym c.is_seen.ensures ∙ c.if-is_seen.false) c.in_ok-see.ensures c.in_ok-push_targets.ensures v

pub returns-clause-fewer : goal.returns-clause-fewer
returns-clause-fewer c =
    visit_falls (λ n. n.now) c.args.sources.now c.args.seen.now.keys c.see.new.seen.keys c.args.name.now
    c.args.waiting.now.items c.push_targets.new.waiting.items (sym c.is_seen.ensures ∙ c.if-is_seen.false)
    c.in_ok-see.ensures c.in_ok-push_targets.ensures

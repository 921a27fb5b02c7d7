use Rattle.std.proofs.Common.{◌-◌, sym, ap, arith}
use Rattle.larch_flat_meaning.specs.Reached.{implied_target}
use Rattle.larch_flat_sources.proofs.Visiting.{one_put}
use Rattle.larch_flat_sources.proofs.reaching.push_implied.Goals as goal

pub loop-index-preserved : goal.loop-index-preserved
loop-index-preserved c =
    let within = c.loop-index.invariant.within in
    let more = c.loop-index-test.true in
    record {
      within = omega (arith, within);
      waits =
          one_put (λ n. n.now) implied_target c.args.references.now (c.loop-index.index - 1) c.loop-index.index
          c.index-references-index.result c.args.waiting.now.items c.loop-index.waiting.items c.push.new.self.items _
          (omega (arith, more)) (omega (arith, within, more)) (sym c.index-references-index.is)
          c.in_ok-push.ensures.items (ap implied_target (sym c.index-references-index.is)) c.loop-index.invariant.waits;
    }

use Rattle.std.proofs.Common.{sym, ◌∙◌}
use Rattle.larch_flat_gathering.proofs.Kept.{full_took}
use Rattle.larch_flat_gathering.proofs.store.Gathering.take_marked.Goals as goal

pub returns-then-is_full : goal.returns-then-is_full
returns-then-is_full c g k =
    full_took c.args.self.now c.args.assumes c.args.assumed c.args.statement g
    (sym c.is_full.ensures ∙ c.if-is_full.true) k

use Rattle.std.proofs.Common.{sym}
use Rattle.larch_flat.proofs.flattening.flatten.Goals as goal

pub flatten_rest-requires : goal.flatten_rest-requires
flatten_rest-requires c = c.in_ok-known.ensures.knows c.args.sources.now (sym c.len.ensures.len)

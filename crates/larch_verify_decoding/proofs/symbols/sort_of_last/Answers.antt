use Rattle.std.proofs.Common.{◌<◌, length, sym, ◌∙◌, arith}
use Rattle.larch_verify_pool.specs.Pooled.{tree_in}
use Rattle.larch_verify_decoding.proofs.Owned.{last_some}
use Rattle.larch_verify_decoding.proofs.symbols.sort_of_last.Goals as goal

pub returns : goal.returns
returns c =
    let l : 0 < length c.args.arguments.now = grind arith in
    c.in_ok-sort.ensures ∙ c.sort_of.ensures ∙ sym (last_some (tree_in c.args.pool.now.trees) c.args.arguments.now 0 l)

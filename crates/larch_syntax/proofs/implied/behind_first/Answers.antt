use Rattle.std.proofs.Common.{refl, sym, ◌∙◌}
use Rattle.larch_syntax.proofs.Forgotten.{group_forgotten}
use Rattle.larch_syntax.proofs.implied.behind_first.Goals as goal

pub returns : goal.returns
returns c =
    group_forgotten c.args.raw c.args.word c.args.terms c.args.terminal _ _ _ _ _ c.forget.result
    (sym c.ends_reference.ensures ∙ c.if-ends_reference.false)
    refl refl c.in-Ok.ensures c.call_tree.ensures c.in_ok-found.ensures c.forget.ensures

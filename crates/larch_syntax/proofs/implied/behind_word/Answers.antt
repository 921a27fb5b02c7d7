use Rattle.std.proofs.Common.{sym, ◌∙◌}
use Rattle.larch_syntax.proofs.Forgotten.{word_forgotten}
use Rattle.larch_syntax.proofs.implied.behind_word.Goals as goal

pub returns : goal.returns
returns c =
    word_forgotten c.args.raw c.args.word c.args.terminal c.in-Ok.frames c.first_of_item.result c.in_ok-found.found
    c.forgetting.result (sym c.ends_reference.ensures ∙ c.if-ends_reference.false)
    c.first_of_item.ensures c.in-Ok.ensures c.in_ok-found.ensures c.forgetting.ensures

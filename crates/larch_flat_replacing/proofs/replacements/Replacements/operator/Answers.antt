use Rattle.std.proofs.Common.{sym, ◌∙◌, ap}
use Rattle.larch_flat_meaning.specs.Replacements.{new_operator}
use Rattle.larch_flat_replacing.proofs.Nothing.{nothing_new}
use Rattle.larch_flat_replacing.proofs.replacements.Replacements.operator.Goals as goal

pub returns-then-is_none : goal.returns-then-is_none
returns-then-is_none c =
    let f = c.args.operator.now in
    c.in_ok-same.ensures ∙ sym (nothing_new f)
    ∙ ap (λ by. new_operator by f) (sym (c.is_none.ensures.0 c.if-is_none.true))

use Rattle.std.proofs.Common.{sym, ◌∙◌, ap}
use Rattle.larch_renaming.specs.Renaming.{renamed_statement}
use Rattle.larch_flat_meaning.specs.Replacements.{renaming}
use Rattle.larch_flat_replacing.proofs.Nothing.{nothing_renamed}
use Rattle.larch_flat_replacing.proofs.new_names.NewNames.rename_statement.Goals as goal

pub returns-then-is_none : goal.returns-then-is_none
returns-then-is_none c =
    let s = c.args.statement.now in
    c.in_ok-same.ensures ∙ sym (nothing_renamed s)
    ∙ ap (λ by. renamed_statement (renaming by) s)
    (sym (c.is_none.ensures.0 c.if-is_none.true) ∙ c.replacements.ensures)

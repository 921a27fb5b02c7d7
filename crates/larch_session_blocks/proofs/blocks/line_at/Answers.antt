use Rattle.std.proofs.Common.{sym, ap, ◌∙◌}
use Rattle.std.specs.Option.{option_copied}
use Rattle.larch_session_blocks.proofs.Found.{line_found, line_missed}
use Rattle.larch_session_blocks.proofs.blocks.line_at.Goals as goal

pub returns-in-Some : goal.returns-in-Some
returns-in-Some c =
    line_found c.args.commands.now c.args.number c.in-Some.command.now
    (sym c.numbered.ensures ∙ ap option_copied c.in-Some.is)

pub returns-in-None : goal.returns-in-None
returns-in-None c =
    line_missed c.args.commands.now c.args.number (sym c.numbered.ensures ∙ ap option_copied c.in-None.is)

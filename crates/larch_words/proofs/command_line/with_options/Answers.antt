use Rattle.std.proofs.Common.{◌∙◌, ap₂, refl}
use Rattle.clap.specs.Words.{with_rule}
use Rattle.larch_words.proofs.command_line.with_options.Goals as goal

pub returns : goal.returns
returns c =
    c.in_ok-command.ensures.shape c.option-3.ensures.own
    ∙ ap₂ with_rule (c.in_ok-arg-2.ensures.shape c.option-2.ensures.own
    ∙ ap₂ with_rule (c.in_ok-arg.ensures.shape c.option.ensures.own ∙ ap₂ with_rule refl c.option.ensures.rule)
    c.option-2.ensures.rule)
    c.option-3.ensures.rule

use Rattle.std.proofs.Common.{◌∙◌}
use Rattle.clap.specs.Words.{found_of}
use Rattle.larch_words.proofs.Given.{given}
use Rattle.larch_words.proofs.options.is_given.Goals as goal

pub returns : goal.returns
returns c =
    c.is_some.ensures ∙ given (λ s. s.now)
    (found_of c.args.matches.now) c.args.id.now c.get_str.result c.get_str.ensures

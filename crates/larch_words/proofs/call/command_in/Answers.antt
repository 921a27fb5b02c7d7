use Rattle.std.proofs.Common.{◌∙◌, ap, codes}
use Rattle.clap.specs.Words.{found_of}
use Rattle.larch_words.proofs.Given.{taken}
use Rattle.larch_words.proofs.call.command_in.Goals as goal

pub returns : goal.returns
returns c =
    ap (λ s. s.now) c.unwrap_or.ensures
    ∙ taken (λ s. s.now) (found_of c.args.matches.now) (codes "COMMAND") c.get_str.result _ c.get_str.ensures

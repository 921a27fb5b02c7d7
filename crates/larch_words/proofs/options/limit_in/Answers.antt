use Rattle.std.proofs.Common.{ap, codes, ◌∙◌}
use Rattle.clap.specs.Words.{found_of}
use Rattle.larch_words.specs.Options.{read_limit}
use Rattle.larch_words.proofs.Given.{limit_taken, no_limit_taken}
use Rattle.larch_words.proofs.options.limit_in.Goals as goal

pub returns-in-Some : goal.returns-in-Some
returns-in-Some c =
    limit_taken (λ s. s.now) (found_of c.args.matches.now) (codes "limit") c.get_str.result c.in-Some.digits
    c.read_limit.result c.in-Some.is c.get_str.ensures (c.read_limit.ensures ∙ ap read_limit c.as_bytes.ensures.value)

pub returns-in-None : goal.returns-in-None
returns-in-None c =
    no_limit_taken (λ s. s.now) (found_of c.args.matches.now) (codes "limit") c.get_str.result c.in-None.is
    c.get_str.ensures

use Rattle.std.proofs.Common.{ap, codes, ◌∙◌}
use Rattle.clap.specs.Words.{found_of}
use Rattle.larch_words.specs.Options.{read_seed}
use Rattle.larch_words.proofs.Given.{no_value_taken, value_taken}
use Rattle.larch_words.proofs.options.seed_in.Goals as goal

pub returns-in-Some : goal.returns-in-Some
returns-in-Some c =
    value_taken (λ s. s.now) read_seed (found_of c.args.matches.now) (codes "seed") c.get_str.result c.in-Some.digits
    c.read_seed.result c.in-Some.is c.get_str.ensures (c.read_seed.ensures ∙ ap read_seed c.as_bytes.ensures.value)

pub returns-in-None : goal.returns-in-None
returns-in-None c =
    no_value_taken (λ s. s.now) read_seed (found_of c.args.matches.now) (codes "seed") c.get_str.result c.in-None.is
    c.get_str.ensures

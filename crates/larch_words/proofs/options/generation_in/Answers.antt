use Rattle.std.proofs.Common.{codes, map, []}
use Rattle.clap.specs.Words.{found_of, rows_of}
use Rattle.larch_words.specs.CommandLine.{request_in}
use Rattle.larch_words.proofs.Given.{all_taken, generates, none_taken}
use Rattle.larch_words.proofs.options.generation_in.Goals as goal

pub returns-in-Some : goal.returns-in-Some
returns-in-Some c =
    generates (request_in (rows_of (found_of c.args.matches.now))) c.seed_in-seed.result c.size_in-size.result
    (map (λ word. word.now) c.in-Some.words.now) c.generated_alone.result
    c.seed_in-seed.ensures c.size_in-size.ensures
    (all_taken (λ s. map (λ word. word.now) s.now) (found_of c.args.matches.now)
    (codes "WORD") c.get_strs.result c.in-Some.words
    c.in-Some.is c.get_strs.ensures) c.generated_alone.ensures

pub returns-in-None : goal.returns-in-None
returns-in-None c =
    generates (request_in (rows_of (found_of c.args.matches.now))) c.seed_in-seed.result c.size_in-size.result []
    c.generated_by.result c.seed_in-seed.ensures c.size_in-size.ensures
    (none_taken (λ s. map (λ word. word.now) s.now) (found_of c.args.matches.now) (codes "WORD") c.get_strs.result
    c.in-None.is c.get_strs.ensures) c.generated_by.ensures

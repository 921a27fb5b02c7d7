use Rattle.std.proofs.Common.{codes, map, []}
use Rattle.clap.specs.Words.{found_of, rows_of}
use Rattle.larch_words.specs.CommandLine.{request_in}
use Rattle.larch_words.proofs.Given.{all_taken, asks_for, none_taken}
use Rattle.larch_words.proofs.call.call_in.Goals as goal

pub returns-in_ok-call-in-Some : goal.returns-in_ok-call-in-Some
returns-in_ok-call-in-Some c =
    asks_for (request_in (rows_of (found_of c.args.matches.now)))
    c.command_in-command.result.now c.is_given-given.result c.limit_in-limit.result
    (map (λ word. word.now) c.in-Some.words.now) c.in_ok-call-in-Some.call
    c.command_in-command.ensures c.is_given-given.ensures c.limit_in-limit.ensures
    (all_taken (λ s. map (λ word. word.now) s.now) (found_of c.args.matches.now)
    (codes "WORD") c.get_strs.result c.in-Some.words
    c.in-Some.is c.get_strs.ensures) c.in_ok-call-in-Some.ensures

pub returns-in-None : goal.returns-in-None
returns-in-None c =
    asks_for (request_in (rows_of (found_of c.args.matches.now)))
    c.command_in-command.result.now c.is_given-given.result c.limit_in-limit.result []
    c.call_without_words.result c.command_in-command.ensures c.is_given-given.ensures c.limit_in-limit.ensures
    (none_taken (λ s. map (λ word. word.now) s.now) (found_of c.args.matches.now) (codes "WORD") c.get_strs.result
    c.in-None.is c.get_strs.ensures) (c.call_without_words.ensures c.is_given-given.result)

use Rattle.std.proofs.Common.{map, string_bytes}
use Rattle.clap.specs.Words.{app_of, found_of, rows_of}
use Rattle.larch_words.proofs.Given.{asks}
use Rattle.larch_words.proofs.call.read_words.Goals as goal

pub returns-in_ok-call-in-Ok : goal.returns-in_ok-call-in-Ok
returns-in_ok-call-in-Ok c =
    asks (app_of c.in_ok-command.command) (map string_bytes c.args.words.now) (rows_of (found_of c.in-Ok.matches))
    c.in_ok-call-in-Ok.call c.in_ok-command.ensures (λ s. (c.in-Ok.ensures.matches s).0) c.in-Ok.ensures.kinds
    c.in_ok-call-in-Ok.ensures

use Rattle.std.proofs.Common.{◌≡◌, ◌++◌, ◌+◌}
use Rattle.larch_certificate_printer.specs.Pending.{pending, next_text, waits, next_waits}
use Rattle.larch_certificate_text.specs.TermText.{term_text}
use Rattle.larch_certificate_printer.proofs.term.write_on.Given as goal

-- what is written and what is pending make up the whole
abbrev pub invariant-work : goal.invariant-work
invariant-work l =
    l.text ++ (next_text l.here l.next ++ pending l.here l.waiting) ≡ l.fn.text ++ term_text l.here l.term

abbrev pub decreases-work : goal.decreases-work
decreases-work l = next_waits l.next + waits l.waiting

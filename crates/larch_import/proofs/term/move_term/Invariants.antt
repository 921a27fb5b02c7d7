use Rattle.std.proofs.Common.{◌≡◌, ◌+◌}
use Rattle.larch_verify_law.specs.Moves.{moved_term}
use Rattle.larch_import.specs.Building.{whole, next_term, next_steps, steps}
use Rattle.larch_import.specs.ByWords.{move_of}
use Rattle.larch_import.proofs.term.move_term.Given as goal

-- with the next term, what waits will be the term moved
abbrev pub invariant-terms : goal.invariant-terms
invariant-terms l =
    whole (move_of l.words) l.waiting (next_term (move_of l.words) l.next) ≡ moved_term (move_of l.words) l.term

abbrev pub decreases-terms : goal.decreases-terms
decreases-terms l = next_steps l.next + steps l.waiting

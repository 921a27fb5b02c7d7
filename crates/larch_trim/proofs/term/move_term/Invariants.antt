use Rattle.std.proofs.Common.{◌≡◌, ◌+◌}
use Rattle.larch_verify_law.specs.Moves.{moved_term}
use Rattle.larch_trim.specs.Building.{whole, next_term, next_steps, steps}
use Rattle.larch_trim.specs.ByNumbers.{move_of}
use Rattle.larch_trim.proofs.term.move_term.Given as goal

-- with the next term, what waits will be the term moved
abbrev pub invariant-terms : goal.invariant-terms
invariant-terms l =
    whole (move_of l.numbers) l.waiting (next_term (move_of l.numbers) l.next) ≡ moved_term (move_of l.numbers) l.term

abbrev pub decreases-terms : goal.decreases-terms
decreases-terms l = next_steps l.next + steps l.waiting

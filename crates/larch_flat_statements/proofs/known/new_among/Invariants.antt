use Rattle.std.proofs.Common.{◌≡◌, [], filter, fold, not}
use Rattle.larch_flat_meaning.specs.Gathered.{stands_in, statements_in, with_new}
use Rattle.larch_flat_statements.specs.Marks.{stated_in}
use Rattle.larch_flat_statements.proofs.known.new_among.Given as goal

-- what is found so far are the new ones among the statements so far
abbrev pub invariant-loop-statement : goal.invariant-loop-statement
invariant-loop-statement l =
    stated_in l.found.keys ≡ fold with_new [] (filter (λ s. not (stands_in (statements_in l.known) s)) l.yielded)

use Rattle.std.proofs.Common.{◌≡◌, drop}
use Rattle.larch_rewrite_meaning.specs.Matching.{bound}
use Rattle.larch_rewrite_match.specs.Bound.{entries_of}
use Rattle.larch_store.specs.Numbered.{term_of}
use Rattle.larch_rewrite_match.proofs.patterns.bind.Given as goal

-- the bindings so far are of other variables
abbrev pub invariant-loop-entry : goal.invariant-loop-entry
invariant-loop-entry l =
    bound (entries_of l.entry-items) l.name l.sort (term_of l.term) (entries_of (drop l.entry-index l.entry-items))
    ≡ bound (entries_of l.entry-items) l.name l.sort (term_of l.term) (entries_of l.entry-items)

use Rattle.std.proofs.Common.{◌≡◌, ◌++◌}
use Rattle.larch_grammar.specs.Trees.{more_markers}
use Rattle.larch_grammar.proofs.names.write_more.Given as goal

-- so many markers are written
abbrev pub invariant-loop-marker : goal.invariant-loop-marker
invariant-loop-marker l = l.text ≡ l.initial.text ++ more_markers l._marker

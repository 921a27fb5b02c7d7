use Rattle.std.proofs.Common.{◌≡◌, ◌++◌, take}
use Rattle.larch_grammar.specs.Form.{variables_at}
use Rattle.larch_grammar.proofs.traits.with_group.Given as goal

-- the names so far have their variables
abbrev pub invariant-loop-name : goal.invariant-loop-name
invariant-loop-name l = l.variables ≡ l.initial.variables ++ variables_at (take l.name-index l.names) l.sort

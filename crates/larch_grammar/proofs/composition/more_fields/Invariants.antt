use Rattle.std.proofs.Common.{◌≡◌, ◌++◌, take}
use Rattle.larch_grammar.specs.Composition.{fields_at}
use Rattle.larch_grammar.proofs.composition.more_fields.Given as goal

-- the names so far have their fields
abbrev pub invariant-loop-name : goal.invariant-loop-name
invariant-loop-name l = l.fields ≡ l.initial.fields ++ fields_at (take l.name-index l.names) l.sort

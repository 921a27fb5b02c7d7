use Rattle.std.proofs.Common.{◌≡◌, length}
use Rattle.larch_script.specs.Commands.{behind_names, declaration_of}
use Rattle.larch_script.proofs.commands.declaration_of.Given as goal

-- the names so far and those that are left are all of them
abbrev pub invariant-loop-rest : goal.invariant-loop-rest
invariant-loop-rest l = behind_names l.names (declaration_of l.rest) ≡ declaration_of l.tokens

abbrev pub decreases-loop-rest : goal.decreases-loop-rest
decreases-loop-rest l = length l.rest

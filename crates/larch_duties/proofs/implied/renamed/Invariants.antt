use Rattle.std.proofs.Common.{◌≡◌, take}
use Rattle.larch_duties.specs.Steps.{renamed_in}
use Rattle.larch_duties.proofs.implied.renamed.Given as goal

-- the statements so far are renamed
abbrev pub invariant-loop-index : goal.invariant-loop-index
invariant-loop-index l = l.renamed ≡ renamed_in l.names (take l.index l.marked)

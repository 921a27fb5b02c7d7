use Rattle.std.proofs.Common.{take}
use Rattle.larch_derive_lines.specs.Rules.{AreWritten}
use Rattle.larch_derive_lines.proofs.rules.write_entries.Given as goal

-- the entries so far are written
abbrev pub invariant-loop-entry : goal.invariant-loop-entry
invariant-loop-entry l = AreWritten l.builder (take l.entry-index l.entries) l.bindings

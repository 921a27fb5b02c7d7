use Rattle.std.proofs.Common.{take}
use Rattle.larch_rewrite_step.specs.Encoding.{AreEncodings, AreOfStore}
use Rattle.larch_derive_lines.specs.Rules.{AreWritten}
use Rattle.larch_rewrite_match.specs.Bound.{entries_of}
use Rattle.larch_rewrite_step.proofs.writing.write_bound.Given as goal

-- the replacements so far are written
abbrev pub invariant-loop-binding : goal.invariant-loop-binding
invariant-loop-binding l = record {
  belong : AreOfStore l.store l.encodings;
  encodings : AreEncodings l.builder l.fn.encodings → AreEncodings l.builder l.encodings;
  written : AreEncodings l.builder l.fn.encodings
      → AreWritten l.builder (entries_of (take l.binding-index l.bound)) l.bindings;
}

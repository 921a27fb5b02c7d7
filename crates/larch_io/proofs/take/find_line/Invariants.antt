use Rattle.std.proofs.Common.{◌≡◌, ◌-◌, ◌+◌, [], length}
use Rattle.larch_base.specs.declared.limits.TheConstants.{MAX_LINE_BYTES}
use Rattle.larch_io.specs.Reader.{Takes}
use Rattle.larch_io.proofs.take.find_line.Given as goal

abbrev pub invariant-search : goal.invariant-search
invariant-search g l = record {
  taken : Takes l.initial.reader l.reader (g.S.Source.left l.initial.source) (g.S.Source.left l.source) [];
  counted : l.reader.count ≡ l.initial.reader.count;
  fine : g.S.Source.faults l.source ≡ g.S.Source.faults l.initial.source;
}

abbrev pub decreases-search : goal.decreases-search
decreases-search g l = MAX_LINE_BYTES + 1 - length l.reader.kept

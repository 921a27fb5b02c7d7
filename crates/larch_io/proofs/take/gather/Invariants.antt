use Rattle.std.proofs.Common.{◌≡◌, ◌-◌, [], length}
use Rattle.larch_io.specs.Reader.{Takes}
use Rattle.larch_io.proofs.take.gather.Given as goal

abbrev pub invariant-fill : goal.invariant-fill
invariant-fill g l = record {
  taken : Takes l.initial.reader l.reader (g.S.Source.left l.initial.source) (g.S.Source.left l.source) [];
  counted : l.reader.count ≡ l.initial.reader.count;
  fine : g.S.Source.faults l.source ≡ g.S.Source.faults l.initial.source;
}

abbrev pub decreases-fill : goal.decreases-fill
decreases-fill g l = l.count - length l.reader.kept

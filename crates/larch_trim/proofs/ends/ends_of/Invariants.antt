use Rattle.std.proofs.Common.{◌≡◌, suc, [], drop, length, replicate}
use Rattle.larch_trim.proofs.Filling.{filled}
use Rattle.larch_trim.proofs.ends.ends_of.Given as goal

-- with the lines to come, the table is that of all lines
abbrev pub invariant-loop-line : goal.invariant-loop-line
invariant-loop-line l = record {
  number : l.number ≡ l.line-index;
  ends : filled (suc l.line-index) l.inside (drop l.line-index l.lines) l.ends.items
      ≡ filled 1 [] l.lines (replicate (suc (length l.lines)) 0);
}

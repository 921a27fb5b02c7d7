use Rattle.std.proofs.Common.{◌≡◌, ◌++◌, [], drop, map}
use Rattle.larch_session_meaning.specs.ProveMeaningReports.{script_lines}
use Rattle.larch_session_blocks.proofs.faults.push_script_lines.Given as goal
use Rattle.larch_session_meaning.specs.Traits.{reported_line}

-- the lines so far, and those of the blocks that are left, are all
abbrev pub invariant-loop-block : goal.invariant-loop-block
invariant-loop-block l =
    l.lines ++ map reported_line (script_lines l.labels l.seen (drop l.block-index l.blocks))
    ≡ l.initial.lines ++ map reported_line (script_lines l.labels [] l.blocks)

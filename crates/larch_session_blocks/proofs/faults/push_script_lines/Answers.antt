-- Block by block.
use Rattle.std.proofs.Common.{ap, sym, ◌∙◌, ◌+◌, ◌++◌, drop, map}
use Rattle.std.proofs.lemmas.List.{append-nil, drop_all}
use Rattle.larch_session_meaning.specs.ProveMeaningReports.{script_lines}
use Rattle.larch_session_blocks.proofs.Seen.{drop_item}
use Rattle.larch_session_blocks.proofs.faults.push_script_lines.Goals as goal
use Rattle.larch_session_meaning.specs.Traits.{reported_line}

pub loop-block-preserved : goal.loop-block-preserved
loop-block-preserved c =
    c.in_ok-push_block_line.ensures (drop (c.loop-block.block-index + 1) c.args.blocks.now)
    ∙ sym (ap (λ bs. c.loop-block.lines
    ++ map reported_line (script_lines c.args.labels.now c.loop-block.seen bs))
    (drop_item c.args.blocks.now c.loop-block.block-index c.block-item.result c.loop-block-test.true c.block-item.is))
    ∙ c.loop-block.invariant

pub returns : goal.returns
returns c =
    sym (append-nil c.loop-block.lines)
    ∙ sym (ap (λ bs. c.loop-block.lines
    ++ map reported_line (script_lines c.args.labels.now c.loop-block.seen bs))
    (drop_all c.loop-block.block-index c.args.blocks.now c.loop-block-test.false))
    ∙ c.loop-block.invariant

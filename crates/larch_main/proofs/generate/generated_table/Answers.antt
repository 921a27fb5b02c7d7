-- File by file.
use Rattle.std.proofs.Common.{◌∙◌, sym}
use Rattle.larch_main.proofs.Generating.{next_short, puts_all, puts_none, puts_one}
use Rattle.larch_main.proofs.generate.generated_table.Goals as goal

pub loop-file-init : goal.loop-file-init
loop-file-init c =
    puts_none c.args.traits c.new-files.result _ c.in_ok-generated.generated c.new-files.ensures
    (c.into_iter-file-iterator.ensures.into_iter_gives.0 ∙ c.into_vec-file-items.ensures)
    c.in_ok-generated.ensures.files c.in_ok-generated.ensures.short

pub loop-file-preserved : goal.loop-file-preserved
loop-file-preserved c =
    puts_one c.args.traits c.loop-file.files _ c.next.new.self.rest.items c.in-Some.file c.in-Some.ensures.steps.0
    c.loop-file.invariant _ c.in_ok-put.ensures

pub put-requires : goal.put-requires
put-requires c =
    next_short c.args.traits c.loop-file.files _ c.next.new.self.rest.items c.in-Some.file c.in-Some.ensures.steps.0
    c.loop-file.invariant

pub returns : goal.returns
returns c =
    puts_all c.args.traits c.loop-file.files c.loop-file.file-iterator.rest.items
    (sym c.loop-file.file-iterator.rest.ok.0 ∙ c.in-None.ensures.steps.0) c.loop-file.invariant

use Rattle.std.proofs.Common.{◌∙◌, ap, sym, length, codes, arith}
use Rattle.std.proofs.lemmas.List.{length-append}
use Rattle.larch_duties.proofs.Free.{free_found, none_tried, one_tried, tried_few}
use Rattle.larch_duties.proofs.words.free_word.Goals as goal

pub loop-alloc-init : goal.loop-alloc-init
loop-alloc-init c = none_tried c.args.taken.now.keys c.args.tried

pub loop-alloc-preserved : goal.loop-alloc-preserved
loop-alloc-preserved c =
    one_tried c.args.taken.now.keys c.args.tried c.loop-alloc.word c.in_ok-word.word c.loop-alloc.invariant
    (sym c.is_taken.ensures ∙ c.loop-alloc-test.true) c.in_ok-word.ensures

pub loop-alloc-smaller : goal.loop-alloc-smaller
loop-alloc-smaller c =
    let few = tried_few c.args.taken.now.keys c.args.tried c.loop-alloc.word c.loop-alloc.invariant
    (sym c.is_taken.ensures ∙ c.loop-alloc-test.true) in
    let long = ap length c.in_ok-word.ensures ∙ length-append c.loop-alloc.word (codes "'") in
    omega (arith, few, long)

pub returns : goal.returns
returns c names h =
    free_found c.args.taken.now.keys names c.args.tried c.loop-alloc.word h c.loop-alloc.invariant
    (sym c.is_taken.ensures ∙ c.loop-alloc-test.false)

use Rattle.std.proofs.Common.{◌≡◌, ◌<◌, length, get_or, subst, ◌∙◌, ap}
use Rattle.larch_derive_join.specs.Joined.{joined_line}
use Rattle.larch_derive_join.proofs.Moving.{one_more}
use Rattle.larch_derive_join.proofs.join.push_part.Goals as goal

pub loop-line-preserved : goal.loop-line-preserved
loop-line-preserved c =
    let f = joined_line (length c.args.lines.now) c.args.lemmas.now c.args.part.now in
    let i = c.loop-line.line-index in
    let lines = c.args.part.now.certificate in
    let same : c.as_slice-line-items.result.now ≡ lines = c.as_slice-line-items.ensures in
    let made : c.in_ok-line.line ≡ f c.line-item.result =
    c.in_ok-line.ensures
    ∙ ap (λ n. joined_line n c.args.lemmas.now c.args.part.now c.line-item.result) c.line_count.ensures in
    c.in_ok-push.ensures.ok
    ∙ one_more f c.args.lines.now c.loop-line.lines lines i c.line-item.result c.in_ok-line.line
    (subst (λ xs. i < length xs) same c.loop-line-test.true)
    (c.line-item.is ∙ ap (λ xs. get_or xs i c.line-item.result) same) made c.loop-line.invariant

use Rattle.std.proofs.Common.{ap, sym, ◌∙◌}
use Rattle.larch_prove_plans.proofs.Steps.{names_later}
use Rattle.std.proofs.Common.{◌≡◌, ◌++◌, bytes_eq, length, not, ◌+◌}
use Rattle.std.specs.Fmt.{decimal}
use Rattle.std.specs.List.{list_any}
use Rattle.larch_prove_plans.proofs.new_names.free_number.Goals as goal

-- src/new_names.rt:38:5
pub loop-i-preserved : goal.loop-i-preserved
loop-i-preserved c =
    let name : c.bytes.result.now ≡ c.args.word.now ++ decimal (c.loop-i.i + 1) =
    c.bytes.ensures ∙ c.in_ok-name.ensures in
    names_later (λ m. not (list_any (bytes_eq m) c.args.taken.now)) c.args.word.now c.loop-i.i (length c.args.taken.now)
    _ c.loop-i-test.true
    (ap (λ m. not (list_any (bytes_eq m) c.args.taken.now)) (sym name)
    ∙ ap not (sym c.is_among.ensures ∙ c.if-not-is_among.false))
    c.loop-i.invariant

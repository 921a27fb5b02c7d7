use Rattle.std.proofs.Common.{◌≡◌, suc, ◌∙◌, ap, subst, arith}
use Rattle.std.specs.Prelude.{map}
use Rattle.std.specs.List.{list_all}
use Rattle.larch_models_meaning.specs.FiniteModel.{interpretation_of, last_among}
use Rattle.larch_models_meaning.specs.Standard.{standard_last}
use Rattle.larch_models.specs.Clauses.{IsNextMade, plain_operation}
use Rattle.larch_models.proofs.Generations.{all_made, made_further}
use Rattle.larch_models.proofs.generated.holds_generated.Goals as goal

pub loop-step-preserved : goal.loop-step-preserved
loop-step-preserved c =
    let os = map plain_operation c.in_ok-operations.operations in
    let next = c.in_ok-made-2.made.items in
    made_further (interpretation_of c.args.model.now) c.args.sort.now c.args.operators.now os c.loop-step.step
    c.loop-step.made.items next c.in_ok-operations.ensures c.loop-step.invariant
    (subst (λ made. IsNextMade os made next) c.as_slice-in-loop-step-2.ensures.value
    (subst (λ ps. IsNextMade (map plain_operation ps) c.as_slice-in-loop-step-2.result.now next)
    c.as_slice-in-loop-step.ensures c.in_ok-made-2.ensures))

pub returns : goal.returns
returns c =
    let ok = c.in_ok-made.made.ok in
    let many = c.in_ok-made.ensures.many in
    let steps : c.loop-step.step ≡ suc c.last_value-last.result =
    omega (arith, c.loop-step-test.false, c.loop-step.auto.step-end, c.len-step-end.ensures, ok, many) in
    c.are_all_made.ensures ∙ ap (list_all (λ one. one)) c.as_slice-2.ensures.value
    ∙ all_made (interpretation_of c.args.model.now) c.args.sort.now c.args.operators.now c.loop-step.step
    c.loop-step.made.items
    (steps ∙ ap suc (c.last_value-last.ensures ∙ ap (λ vs. standard_last (last_among vs) c.args.sort.now)
    c.as_slice.ensures)) c.loop-step.invariant

use Rattle.std.proofs.Common.{◌≡◌, ◌==◌, [], ◌∙◌, ap, subst}
use Rattle.std.specs.Prelude.{map}
use Rattle.larch_models_meaning.specs.Computed.{holds_equation}
use Rattle.larch_models_meaning.specs.FiniteModel.{interpretation_of, last_among, last_in}
use Rattle.larch_models_meaning.specs.Standard.{standard_last}
use Rattle.larch_models.specs.Every.{all_lists}
use Rattle.larch_models.specs.Stacks.{Computes, run, top}
use Rattle.larch_models.proofs.Equations.{equation_holds}
use Rattle.larch_models.proofs.Rests.{if_ok}
use Rattle.larch_models.proofs.equation.holds_equation.Goals as goal

pub returns : goal.returns
returns c =
    let m = c.args.model.now in
    let left = c.in_ok-sides.sides.left.items in
    let right = c.in_ok-sides.sides.right.items in
    if_ok (λ answer. answer ≡ all_lists c.as_slice-4.result.now (λ vs. top (run left vs []) == top (run right vs [])))
    (λ answer. answer ≡ holds_equation (interpretation_of m) c.args.left.now c.args.right.now) c.holds_for_all.result
    (λ answer a.
    equation_holds m c.in_ok-variables.variables c.args.left.now c.args.right.now left right c.in_ok-lasts.lasts answer
    c.in_ok-variables.ensures
    (subst (λ ws. Computes m ws left c.args.left.now) c.as_slice.ensures c.in_ok-sides.ensures.left)
    (subst (λ ws. Computes m ws right c.args.right.now) c.as_slice.ensures c.in_ok-sides.ensures.right)
    (c.in_ok-lasts.ensures
    ∙ ap (λ vs. map (λ w. standard_last (last_among vs) w.sort) c.as_slice-3.result.now) c.as_slice-2.ensures
    ∙ ap (map (λ w. last_in m w.sort)) c.as_slice-3.ensures)
    (a ∙ ap (λ ns. all_lists ns (λ vs. top (run left vs []) == top (run right vs []))) c.as_slice-4.ensures))
    c.holds_for_all.ensures

use Rattle.std.proofs.Common.{◌≡◌, ◌∙◌, sym, ap}
use Rattle.larch_models_meaning.specs.Computed.{holds, holds_equation, holds_generated, holds_partitioned}
use Rattle.larch_models_meaning.specs.FiniteModel.{interpretation_of}
use Rattle.larch_models.proofs.Rests.{if_ok}
use Rattle.larch_models.proofs.truth.holds.Goals as goal

pub returns-in-Equation : goal.returns-in-Equation
returns-in-Equation c =
    let m = interpretation_of c.args.model.now in
    if_ok (λ answer. answer ≡ holds_equation m c.in-Equation.left c.in-Equation.right)
    (λ answer. answer ≡ holds m c.args.statement.now) c.holds_equation.result
    (λ answer e. e ∙ ap (holds m) (sym c.in-Equation.is)) c.holds_equation.ensures

pub returns-in-Generated : goal.returns-in-Generated
returns-in-Generated c =
    let m = interpretation_of c.args.model.now in
    if_ok (λ answer. answer ≡ holds_generated m c.in-Generated.sort c.as_slice.result.now)
    (λ answer. answer ≡ holds m c.args.statement.now) c.holds_generated.result
    (λ answer e. e ∙ ap (holds_generated m c.in-Generated.sort) c.as_slice.ensures
    ∙ ap (holds m) (sym c.in-Generated.is)) c.holds_generated.ensures

pub returns-in-Partitioned : goal.returns-in-Partitioned
returns-in-Partitioned c =
    let m = interpretation_of c.args.model.now in
    if_ok (λ answer. answer ≡ holds_partitioned m c.in-Partitioned.sort c.as_slice-in-Partitioned.result.now)
    (λ answer. answer ≡ holds m c.args.statement.now) c.holds_partitioned.result
    (λ answer e. e ∙ ap (holds_partitioned m c.in-Partitioned.sort) c.as_slice-in-Partitioned.ensures
    ∙ ap (holds m) (sym c.in-Partitioned.is)) c.holds_partitioned.ensures

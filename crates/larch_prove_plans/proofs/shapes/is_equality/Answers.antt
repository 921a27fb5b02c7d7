use Rattle.std.proofs.Common.{sym, ◌∙◌, ap, slice_get}
use Rattle.std.specs.Option.{option_copied}
use Rattle.larch_prove_plans.proofs.Pairs.{no_equality}
use Rattle.std.proofs.Common.{◌-◌, length}
use Rattle.larch_prove_plans.proofs.shapes.is_equality.Goals as goal

-- src/shapes.rt:52:9
pub returns-in_default : goal.returns-in_default
returns-in_default c =
    no_equality c.args.operator.now (ap option_copied (sym c.in_default.is) ∙ c.last.ensures.value
    ∙ ap (λ d. slice_get d (length d - 1)) c.domain.ensures)

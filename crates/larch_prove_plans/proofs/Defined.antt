-- Plans that are answered.
use Rattle.std.specs.Prelude.{◌≡◌, Result, Ok, Err, refl}
use Rattle.std.proofs.Common.{sym}
use Rattle.larch_base.specs.declared.code.Code.{Code}
use Rattle.larch_prove_meaning.specs.Plans as defined
use Rattle.larch_prove_plans.specs.Planning.{plan_of, planned_by}
use Rattle.larch_prove_plans.specs.declared.subgoals.Plan.{Plan}

abbrev as_answer : Plan → Result Plan Code
as_answer made = Ok made

same_plan : {x y : Plan} → as_answer x ≡ as_answer y → x ≡ y
same_plan e = cc

pub is_defined : (answer : Result defined.Plan Code) (made : Plan) → planned_by answer ≡ Ok made
    → (p : defined.Plan) × ((answer ≡ Ok p) × (made ≡ plan_of p))
is_defined (Ok p) made e = (p, (refl, same_plan (sym e)))
is_defined (Err code) made e = cc

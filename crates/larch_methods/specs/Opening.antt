-- Boxes that may be opened for subgoals, and what is left of them when they are closed.
use Rattle.std.specs.Prelude.{◌≡◌, ℕ, List, map, All}
use Rattle.larch_term.specs.Operator.{PlainOperator}
use Rattle.larch_term.specs.declared.statement.Statement.{Statement}
use Rattle.larch_derive.specs.Builder.{boxes_in, theory_in}
use Rattle.larch_derive.specs.Predicates.{AreOthers, HasNoBadLine}
use Rattle.larch_derive.specs.Words.{AreWordedOperators}
use Rattle.larch_derive.specs.declared.builder.Builder.{Builder}
use Rattle.larch_derive.specs.declared.open_box.OpenBox.{OpenBox}
use Rattle.larch_derive_clauses.specs.DeriveBoxesBoxes.{AreOwnConstants, HasResult, MaySuppose}
use Rattle.larch_prove_plans.specs.RewriteMeaningSides.{Sides}
use Rattle.larch_prove_plans.specs.Planning.{equate}
use Rattle.larch_prove_plans.specs.ProveMeaningPlans.{Plan, Subgoal}

-- a box with these constants and hypotheses may be opened: the constants are neither the theory's nor built in, their
-- sorts are words, and each hypothesis may be supposed, whatever number the box gets
pub record MayOpen (b : Builder) (cs : List PlainOperator) (hs : List Statement) : Type 0 where
  pub stands : HasNoBadLine b
  pub others : AreOthers (theory_in b) cs
  pub parts : AreWordedOperators cs
  pub supposed : (n : ℕ) → All (MaySuppose b (record { number = n; constants = cs })) hs

-- so may the box of a subgoal, and the boxes of all subgoals of a plan
abbrev pub MayBegin : Builder → Subgoal → Type 0
MayBegin b s = MayOpen b s.constants (map equate s.hypotheses)

abbrev pub MayBeginAll : Builder → Plan → Type 0
MayBeginAll b made = All (MayBegin b) made.subgoals

-- the constants of each subgoal are neither the theory's nor built in
abbrev pub HasOtherConstants : Builder → Plan → Type 0
HasOtherConstants b made = All (λ s. AreOthers (theory_in b) s.constants) made.subgoals

-- the constants of each subgoal differ, and none of them stands for one of an open box
abbrev pub HasOwnConstants : Builder → Plan → Type 0
HasOwnConstants b made =
    All (λ s. AreOwnConstants (boxes_in b) (record { number = 0; constants = s.constants })) made.subgoals

-- the box has a subgoal's constants, and is closed with what must be said of the subgoal as its result
pub record IsShownIn (b : Builder) (s : Subgoal) (said : Sides) (x : OpenBox) : Type 0 where
  pub constants : x.constants ≡ s.constants
  pub result : HasResult b x (map equate s.hypotheses) (equate said)

-- Instances of facts, and what adding one comes to.
use Rattle.std.specs.Prelude.{◌≡◌, ℕ, List, Result, true, map, Option, None, Some}
use Rattle.larch_base.specs.declared.code.Code.{Code}
use Rattle.larch_base.specs.declared.fact_name.FactLetter.TheVariants.{Derived}
use Rattle.larch_base.specs.declared.fact_name.FactName.{FactName}
use Rattle.larch_derive.specs.Predicates.{Known}
use Rattle.larch_derive.specs.declared.builder.Builder.{Builder}
use Rattle.larch_complete_pairs.specs.DeriveLinesRules.{AreKnownEntries, variable_in}
use Rattle.larch_order.specs.declared.precedence.Ranked.{Ranked}
use Rattle.larch_prove_work.specs.ProveAddingBeside.{IsApart, manner_beside}
use Rattle.larch_prove_work.specs.ProveAddingEquation.{IsSaid, sides_in}
use Rattle.larch_prove_facts.specs.declared.instance.Asked.{Asked}
use Rattle.larch_prove_facts.specs.declared.instance.Formed.{Formed}
use Rattle.larch_prove_facts.specs.declared.instance.Formed.TheVariants.{LeftAlone, Whole}
use Rattle.larch_prove_work.specs.ProveLevelsDerived.{Worked, with_normal_goal}
use Rattle.larch_prove_meaning.specs.Facts.{add, whole_name}
use Rattle.larch_prove_meaning.specs.Levels.{Next, derived_by, settle_goal, work_result}
use Rattle.larch_prove_meaning.specs.Steps.{serves_beside}
use Rattle.larch_prove_work.specs.RewriteRefusalRewriteRefusal.{RewriteRefusal}
use Rattle.larch_prove_work.specs.RewriteRefusalRewriteRefusal.TheVariants.{Limit, TooLarge, Memory}
use Rattle.larch_rewrite_meaning.specs.Sides.{Sides, sides_under}
use Rattle.larch_rewrite_meaning.specs.Work.{is_large}
use Rattle.larch_term.specs.Tree.{Tree}
use Rattle.larch_base_meaning.specs.Steps.{after}
use Rattle.larch_derive.specs.VerifyMeaningMatching.{all_different}

-- the instance that is asked for
abbrev pub instance_in : Asked → Sides
instance_in asked = sides_under asked.entries (sides_in asked.equation)

-- it is added while the facts of its fact's name don't serve as rules, and what that leads to
abbrev pub instance_settled : Asked → Next
instance_settled asked p = after (derived_by (serves_beside asked.fact) (instance_in asked) p) settle_goal

-- the same by a level's facts and goal alone, where commands have derived so many equations
abbrev pub beside_in : FactName → List Ranked → ℕ → Sides → ℕ → Worked → Result Worked Code
beside_in n ranks limit e number level =
    after (work_result (add (manner_beside n ranks (whole_name Derived number)) e level.facts limit))
    (with_normal_goal limit level.goal)

-- a line says the equation of the fact, the terms can be written, each for another variable, and the instance's rules
-- get other names than the fact has
pub record MayInstantiate (b : Builder) (number : ℕ) (asked : Asked) : Type 0 where
  pub said : IsSaid b asked.equation
  pub entries : AreKnownEntries b asked.entries
  pub different : all_different (map variable_in asked.entries) ≡ true
  pub apart : IsApart asked.fact (whole_name Derived number)

-- a term, or none where it is too large
abbrev pub IsWithin : Tree → Option Tree → Type 0
IsWithin t None = is_large t ≡ true
IsWithin t (Some u) = u ≡ t

-- an instance as it is formed: with the line that says it; or its left side alone, where the right one is too large
abbrev pub IsFormed : Builder → Sides → FactName → Formed → Type 0
IsFormed b e n (Whole x) = (sides_in x.equation ≡ e) × ((x.fact ≡ n) × IsSaid b x.equation)
IsFormed b e n (LeftAlone x) = (x.left ≡ e.left) × ((x.fact ≡ n) × ((is_large e.right ≡ true) × Known b x.left))

-- by its sides
abbrev pub formed_of : FactName → Tree → Option Tree → ℕ → Formed
formed_of n l None line = LeftAlone (record { left = l; fact = n })
formed_of n l (Some r) line = Whole (record { equation = record { left = l; right = r; line = line }; fact = n })

-- it isn't formed, since its left side is too large
abbrev pub IsUnformed : Sides → RewriteRefusal → Type 0
IsUnformed e Memory = Unit {0}
IsUnformed e Limit = ⊥
IsUnformed e TooLarge = is_large e.left ≡ true

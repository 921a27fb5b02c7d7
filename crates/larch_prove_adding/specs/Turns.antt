-- What becomes of an equation that is taken, and what is refused.
use Rattle.std.specs.Prelude.{◌≡◌, ◌⊎◌, ◌<◌, ◌≤◌, ◌||◌, ℕ, suc, true, false, List, ◌++◌, length}
use Rattle.larch_base.specs.declared.fact_name.FactName.{FactName}
use Rattle.larch_prove_invariant.specs.CalculusFormula.{falsity}
use Rattle.larch_prove_invariant.specs.OrderPrecedenceRanked.{Ranked}
use Rattle.larch_prove_adding.specs.Equation.{waiting_in}
use Rattle.larch_prove_adding.specs.KeptFacts.{KeptFacts, facts_of}
use Rattle.larch_prove_adding.specs.declared.equation.SaidEquation.{SaidEquation}
use Rattle.larch_prove_invariant.specs.ProveMeaningFacts.{Contradict, Drop, Facts, Keep}
use Rattle.larch_prove_invariant.specs.ProveMeaningFacts.{Manner, Replace, Treatment, is_full}
use Rattle.larch_prove_invariant.specs.ProveMeaningFacts.{normal_sides, serving, treatment}
use Rattle.larch_prove_invariant.specs.ProveMeaningFacts.{with_contradiction, with_rule}
use Rattle.larch_prove_invariant.specs.ProveMeaningLevels.{all_serve}
use Rattle.larch_rewrite.specs.declared.refusal.RewriteRefusal.{RewriteRefusal}
use Rattle.larch_rewrite.specs.declared.refusal.RewriteRefusal.TheVariants.{Limit, TooLarge, Memory}
use Rattle.larch_rewrite_meaning.specs.Sides.{Sides}
use Rattle.larch_rewrite_meaning.specs.Work.{Made, OverLimit, OverSize, Work, is_large}
use Rattle.larch_store.specs.Stored.{most_nodes}
use Rattle.larch_term.specs.Tree.{Tree, nodes}
use Rattle.larch_term.specs.Truth.{truth}

-- a refusal tells the event in which work ends; out of memory it tells nothing
abbrev pub Tells : {A : Type 0} → Work A → RewriteRefusal → Type 0
Tells work Limit = work ≡ OverLimit
Tells work TooLarge = work ≡ OverSize
Tells work Memory = Unit {0}

-- equations are added under a name, oriented by a precedence, while all facts serve as rules
abbrev pub manner_of : List Ranked → FactName → Manner
manner_of ranks name = record { serves = all_serve; ranks = ranks; name = name }

-- how many rules an adding has made, the equations that wait, and the facts
pub record Course : Type 0 where
  pub made : ℕ
  pub waiting : List Sides
  pub facts : Facts

-- the course of an adding, with facts and equations as the code keeps them
abbrev pub course_of : ℕ → List SaidEquation → KeptFacts → Course
course_of made waiting facts = record { made = made; waiting = waiting_in waiting; facts = facts_of facts }

-- no more rules were made than there are facts
abbrev pub HasRoom : ℕ → KeptFacts → Type 0
HasRoom made facts = made ≤ length (facts_of facts).rules

-- the sides are true and false, in either order
abbrev pub IsOpposite : Sides → Type 0
IsOpposite e = ((e.left ≡ truth) × (e.right ≡ falsity)) ⊎ ((e.left ≡ falsity) × (e.right ≡ truth))

-- the second course is the first one with these parts
abbrev pub IsCourse : ℕ → List Sides → Facts → Course → Type 0
IsCourse made waiting facts new = (new.made ≡ made) × (new.waiting ≡ waiting) × (new.facts ≡ facts)

-- an equation that is treated so leads from one course to another
abbrev pub Leads : Treatment → FactName → Course → Course → Type 0
Leads Drop name old new = IsCourse old.made old.waiting old.facts new
Leads Contradict name old new = IsCourse old.made old.waiting (with_contradiction old.facts) new
Leads (Replace others) name old new = IsCourse old.made (others ++ old.waiting) old.facts new
Leads (Keep rule) name old new =
    ((is_large rule.left || is_full old.facts) ≡ false)
    × IsCourse (suc old.made) old.waiting (with_rule name (suc old.made) rule old.facts) new

-- a fact with these sides may be refused so: as too large where the facts are as many as may be, or a side is large
abbrev pub MayPut : Tree → Tree → Facts → RewriteRefusal → Type 0
MayPut l r facts Limit = ⊥
MayPut l r facts TooLarge = (is_full facts ≡ true) ⊎ ((most_nodes < nodes l) ⊎ (most_nodes < nodes r))
MayPut l r facts Memory = Unit {0}

-- an equation that is treated so may be refused so
abbrev pub MayRefuse : Treatment → Facts → RewriteRefusal → Type 0
MayRefuse t facts Memory = Unit {0}
MayRefuse t facts Limit = ⊥
MayRefuse Drop facts TooLarge = ⊥
MayRefuse Contradict facts TooLarge = ⊥
MayRefuse (Replace others) facts TooLarge = ⊥
MayRefuse (Keep rule) facts TooLarge = (is_large rule.left || is_full facts) ≡ true

-- an equation is taken: its sides get their normal forms, and are treated
pub record IsTaken (manner : Manner) (e : Sides) (b c : ℕ) (old new : Course) : Type 0 where
  pub found : Sides
  pub normal : normal_sides (serving manner old.facts) e b ≡ Made found c
  pub leads : Leads (treatment manner.ranks found) manner.name old new

-- or it is refused: on the way to the normal forms, or as it is treated
abbrev pub IsStopped : Manner → Sides → ℕ → Facts → RewriteRefusal → Type 0
IsStopped manner e b facts refusal =
    Tells (normal_sides (serving manner facts) e b) refusal
    ⊎ ((found : Sides) × ((c : ℕ) × ((normal_sides (serving manner facts) e b ≡ Made found c)
    × MayRefuse (treatment manner.ranks found) facts refusal)))

-- The facts of a level with the lines that say them.
use Rattle.std.specs.Prelude.{◌≡◌, ℕ, List, [], ◌∷◌, ◌++◌, All, map, length, is_some, Option, None, Some}
use Rattle.larch_base.specs.declared.fact_name.FactName.{FactName}
use Rattle.larch_prove_invariant.specs.CalculusFormula.{falsity}
use Rattle.larch_derive.specs.Predicates.{HasEquation}
use Rattle.larch_derive.specs.declared.builder.Builder.{Builder}
use Rattle.larch_prove_invariant.specs.ProveMeaningFacts.{Fact, Facts}
use Rattle.larch_rewrite.specs.Kept.{IsLed}
use Rattle.larch_rewrite.specs.RuleSet.{IsSaid, PlainRule, RuleSet, sides_of_plain}
use Rattle.larch_rewrite_meaning.specs.Sides.{Sides}
use Rattle.larch_term.specs.Truth.{truth}

-- rules with their names and lines; and the line that says that true is false, where the facts contradict each other
pub record KeptFacts : Type 0 where
  pub rules : RuleSet
  pub absurd : Option ℕ

-- a rule as a fact
abbrev pub fact_by : PlainRule → Fact
fact_by r = record { name = r.name; sides = sides_of_plain r }

-- the facts
abbrev pub facts_of : KeptFacts → Facts
facts_of k = record { rules = map fact_by k.rules.rules; contradictory = is_some k.absurd }

-- the line of each fact
abbrev pub lines_of : KeptFacts → List ℕ
lines_of k = map (λ r. r.line) k.rules.rules

-- the rules are counted
abbrev pub AreCounted : RuleSet → ℕ → Type 0
AreCounted set count = count ≡ length set.rules

-- there are no facts
abbrev pub AreNone : KeptFacts → Type 0
AreNone k = (k.rules.rules ≡ []) × (k.absurd ≡ None)

-- other facts with one more behind them
abbrev pub with_one : FactName → Sides → Facts → Facts
with_one name e facts = record facts { rules = facts.rules ++ record { name = name; sides = e } ∷ [] }

-- with the line that says that true is false
abbrev pub with_absurd : ℕ → KeptFacts → KeptFacts
with_absurd n k = record k { absurd = Some n }

-- facts and lines are the same
abbrev pub AreSame : KeptFacts → KeptFacts → Type 0
AreSame k j = (facts_of j ≡ facts_of k) × (lines_of j ≡ lines_of k)

-- a line says that true is false, where there is one
abbrev pub SaysAbsurd : Builder → Option ℕ → Type 0
SaysAbsurd b None = Unit {0}
SaysAbsurd b (Some n) = HasEquation b n truth falsity

-- the line of each fact says it, those of normal forms that are kept say these, and so does the one of true and false
abbrev pub AreSaid : Builder → KeptFacts → Type 0
AreSaid b k = (All (IsSaid b) k.rules.rules × All (IsLed b) k.rules.kept) × SaysAbsurd b k.absurd

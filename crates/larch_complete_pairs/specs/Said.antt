-- Equations and rules with the lines that say them, and what lines of critical pairs want.
use Rattle.std.specs.Prelude.{◌≡◌, true, List, ◌++◌, map, Ok, Err}
use Rattle.larch_complete_meaning.specs.Steps.{Step}
use Rattle.larch_complete_meaning.specs.Pairs.{as_rule}
use Rattle.larch_complete_meaning.specs.declared.answer.CompletionAnswer.TheVariants.{TooLarge}
use Rattle.larch_complete_pairs.specs.declared.said.SaidEquation.{SaidEquation}
use Rattle.larch_complete_pairs.specs.declared.said.SaidRule.{SaidRule}
use Rattle.larch_derive.specs.Predicates.{HasEquation}
use Rattle.larch_derive.specs.declared.builder.Builder.{Builder}
use Rattle.larch_derive_lines.specs.Rules.{AreKnownEntries, variable_in}
use Rattle.larch_pairs.specs.declared.refusal.PairRefusal.{PairRefusal}
use Rattle.larch_pairs.specs.declared.refusal.PairRefusal.TheVariants.{TooLarge as pair_too_large}
use Rattle.larch_pairs.specs.declared.refusal.PairRefusal.TheVariants.{Memory as pair_memory}
use Rattle.larch_pairs_critical.specs.Overlap.{Overlaps}
use Rattle.larch_pairs_critical.specs.declared.pair.Pair.{Pair}
use Rattle.larch_complete_meaning.specs.RewriteMeaningSides.{Sides}
use Rattle.larch_derive.specs.VerifyMeaningMatching.{all_different}

-- the sides of an equation, and of a rule
abbrev pub sides_in : SaidEquation → Sides
sides_in e = record { left = e.left; right = e.right }

abbrev pub rule_in : SaidRule → Sides
rule_in r = record { left = r.rule.left; right = r.rule.right }

-- its line says it
abbrev pub IsSaid : Builder → SaidEquation → Type 0
IsSaid b e = HasEquation b e.line e.left e.right

abbrev pub IsSaidRule : Builder → SaidRule → Type 0
IsSaidRule b r = HasEquation b r.line r.rule.left r.rule.right

-- a pair of two rules, what takes the places of whose variables can be written
pub record IsPairOf (b : Builder) (r q : Sides) (p : Pair) : Type 0 where
  pub overlaps : Overlaps (as_rule r) (as_rule q) p
  pub first : AreKnownEntries b p.first
  pub second : AreKnownEntries b p.second
  pub first_different : all_different (map variable_in p.first) ≡ true
  pub second_different : all_different (map variable_in p.second) ≡ true

-- the equations that a step comes to wait behind others
pub record WaitBehind (found : Step (List Sides)) (old new : List SaidEquation) : Type 0 where
  pub equations : List Sides
  pub comes_to : found ≡ Ok equations
  pub waiting : map sides_in new ≡ map sides_in old ++ equations

-- a refusal tells how a step ends; out of memory it tells nothing
abbrev pub Stops : {A : Type 0} → Step A → PairRefusal → Type 0
Stops step pair_too_large = step ≡ Err TooLarge
Stops step pair_memory = Unit {0}

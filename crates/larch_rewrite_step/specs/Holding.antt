-- Rules whose lines say what they say.
use Rattle.std.specs.Prelude.{◌≡◌, List, All, Some}
use Rattle.larch_term.specs.Tree.{Tree}
use Rattle.larch_term.specs.declared.statement.Statement.TheVariants.{Equation}
use Rattle.larch_derive.specs.VerifyMeaningRules.{row_says}
use Rattle.larch_derive.specs.Predicates.{HasEquation}
use Rattle.larch_derive.specs.declared.builder.Builder.{Builder}
use Rattle.larch_derive_lines.specs.Rules.{IsWordedSort}
use Rattle.larch_rewrite_match.specs.Rule.{left_of, right_of, reason_of}
use Rattle.larch_rewrite_match.specs.declared.rule.Reason.{Reason}
use Rattle.larch_rewrite_match.specs.declared.rule.Reason.TheVariants.{Row, Line}
use Rattle.larch_rewrite_match.specs.declared.rule.RewriteRule.{RewriteRule}

-- the row or the line of a builder that a reason names says an equation
abbrev pub ReasonSays : Builder → Reason → Tree → Tree → Type 0
ReasonSays b (Row k z) l r = row_says k z ≡ Some (Equation l r)
ReasonSays b (Line n) l r = HasEquation b n l r

-- it says the rule
abbrev pub RuleHolds : Builder → RewriteRule → Type 0
RuleHolds b rule = ReasonSays b (reason_of rule) (left_of rule) (right_of rule)

abbrev pub RulesHold : Builder → List RewriteRule → Type 0
RulesHold b rules = All (RuleHolds b) rules

-- the sort at which a reason's row is said is a word
abbrev pub IsWordedReason : Reason → Type 0
IsWordedReason (Row k z) = IsWordedSort z
IsWordedReason (Line n) = Unit {0}

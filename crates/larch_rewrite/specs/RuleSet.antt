-- Rules with their names and lines, and what is kept for them.
use Rattle.std.specs.Prelude.{◌==◌, ◌&&◌, ℕ, Bool, true, false, not, filter, List, All, map}
use Rattle.larch_base.specs.declared.fact_name.FactLetter.{FactLetter}
use Rattle.larch_base.specs.declared.fact_name.FactLetter.TheVariants.{Axiom, Lemma, Hypothesis, Derived}
use Rattle.larch_base.specs.declared.fact_name.FactName.{FactName}
use Rattle.larch_derive.specs.Predicates.{HasEquation}
use Rattle.larch_derive.specs.declared.builder.Builder.{Builder}
use Rattle.larch_rewrite_meaning.specs.Sides.{Sides}
use Rattle.larch_rewrite_step.specs.RewriteMatchRule.{IsRule, left_of, reason_of, right_of, rule_from}
use Rattle.larch_rewrite_step.specs.RewriteMatchRuleReason.{Reason}
use Rattle.larch_rewrite_step.specs.RewriteMatchRuleReason.TheVariants.{Row, Line}
use Rattle.larch_rewrite_step.specs.RewriteMatchRuleRewriteRule.{RewriteRule}
use Rattle.larch_store.specs.Numbered.{Numbered}
use Rattle.larch_term.specs.Tree.{Tree}
use Rattle.larch_rewrite.specs.Kept.{IsLed, IsOfStore}
use Rattle.larch_rewrite.specs.declared.kept.KeptForm.{KeptForm}

-- a rule from left to right, with its name and the number of the line that says it
pub record PlainRule : Type 0 where
  pub name : FactName
  pub left : Tree
  pub right : Tree
  pub line : ℕ

-- rules in order, and normal forms by them that are kept
pub record RuleSet : Type 0 where
  pub rules : List PlainRule
  pub kept : List KeptForm

-- the sides of rules
abbrev pub sides_of_plain : PlainRule → Sides
sides_of_plain r = record { left = r.left; right = r.right }

abbrev pub sides_in : List PlainRule → List Sides
sides_in rules = map sides_of_plain rules

-- the rule with these parts
abbrev pub rule_by : FactName → Tree → Tree → ℕ → PlainRule
rule_by name l r n = record { name = name; left = l; right = r; line = n }

-- whether two names begin with one letter
abbrev pub same_letter : FactLetter → FactLetter → Bool
same_letter Axiom Axiom = true
same_letter Lemma Lemma = true
same_letter Hypothesis Hypothesis = true
same_letter Derived Derived = true
same_letter l m = false

-- whether a rule has a name
abbrev pub has_name : FactName → PlainRule → Bool
has_name n r = same_letter n.letter r.name.letter && ((n.number == r.name.number) && (n.part == r.name.part))

-- the rules that have another name, in order
abbrev pub without : FactName → List PlainRule → List PlainRule
without name rules = filter (λ r. not (has_name name r)) rules

-- the line of each rule says it
abbrev pub IsSaid : Builder → PlainRule → Type 0
IsSaid b r = HasEquation b r.line r.left r.right

abbrev pub AreSaid : Builder → List PlainRule → Type 0
AreSaid b rules = All (IsSaid b) rules

-- what is kept belongs to a store
abbrev pub BelongsTo : List Numbered → RuleSet → Type 0
BelongsTo store set = All (IsOfStore store) set.kept

-- rules serve with a store and a builder: the line of each says it, and what is kept belongs to the store and is led to
pub record Serves (store : List Numbered) (b : Builder) (set : RuleSet) : Type 0 where
  pub said : AreSaid b set.rules
  pub belongs : BelongsTo store set
  pub led : All (IsLed b) set.kept

-- ---- rules of the code

-- the number of a reason's line; 0 where it has none
abbrev pub line_of : Reason → ℕ
line_of (Line n) = n
line_of (Row k z) = 0

-- a rule of the code, under a name
abbrev pub plain_of : FactName → RewriteRule → PlainRule
plain_of name r = rule_by name (left_of r) (right_of r) (line_of (reason_of r))

-- the rule of the code that a rule is
abbrev pub rule_of : PlainRule → RewriteRule
rule_of r = rule_from r.left r.right (Line r.line)

-- a rule is said by a line
abbrev pub IsByLine : Reason → Type 0
IsByLine (Line n) = Unit {0}
IsByLine (Row k z) = ⊥

abbrev pub IsLineRule : RewriteRule → Type 0
IsLineRule r = IsRule r × IsByLine (reason_of r)

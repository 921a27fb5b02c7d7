-- Rules, as contracts see them.
use Rattle.std.specs.Prelude.{◌≡◌, List, map, Some}
use Rattle.larch_term.specs.Tree.{Tree}
use Rattle.larch_term.specs.declared.statement.Statement.TheVariants.{Equation}
use Rattle.larch_verify_meaning.specs.Rules.{row_says}
use Rattle.larch_rewrite_meaning.specs.Sides.{Sides}
use Rattle.larch_rewrite_match.specs.Exchanged.{exchange_equality}
use Rattle.larch_rewrite_match.specs.declared.rule.Reason.{Reason}
use Rattle.larch_rewrite_match.specs.declared.rule.Reason.TheVariants.{Row, Line}
use Rattle.larch_rewrite_match.specs.declared.rule.RewriteRule.{RewriteRule}

-- its sides, and what says that they are equal
abbrev pub left_of : RewriteRule → Tree
left_of r = r.left

abbrev pub right_of : RewriteRule → Tree
right_of r = r.right

abbrev pub reason_of : RewriteRule → Reason
reason_of r = r.reason

-- what is kept as the left side with its sides exchanged is that
abbrev pub IsRule : RewriteRule → Type 0
IsRule r = r.turned ≡ exchange_equality r.left

-- the rule with these sides and this reason
abbrev pub rule_from : Tree → Tree → Reason → RewriteRule
rule_from l r w = record { left = l; right = r; turned = exchange_equality l; reason = w }

-- the sides alone
abbrev pub sides_of_rule : RewriteRule → Sides
sides_of_rule r = record { left = r.left; right = r.right }

abbrev pub all_sides : List RewriteRule → List Sides
all_sides rs = map sides_of_rule rs

-- the row that a reason names says an equation
abbrev pub RowSays : Reason → Tree → Tree → Type 0
RowSays (Row k z) l r = row_says k z ≡ Some (Equation l r)
RowSays (Line n) l r = ⊥

-- the rule is one of the built-in rows
abbrev pub IsSaidByRow : RewriteRule → Type 0
IsSaidByRow r = RowSays r.reason r.left r.right

-- Rules by the operators at the heads of their left sides.
use Rattle.std.specs.Prelude.{◌≡◌, Bool, true, false, filter, List, [], All, Option, Some, None}
use Rattle.std.specs.List.{flat_map}
use Rattle.std.specs.Map.{lookup}
use Rattle.larch_rewrite_meaning.specs.Rewriting.{rewrite_of, tries_of}
use Rattle.larch_term.specs.Equality.{same_operator}
use Rattle.larch_term.specs.Operator.{PlainOperator}
use Rattle.larch_term.specs.Tree.{Tree, var, app}
use Rattle.larch_rewrite_match.specs.Rule.{all_sides, left_of}
use Rattle.larch_rewrite_match.specs.declared.rule.RewriteRule.{RewriteRule}

-- whether an operator is at the head of a term
abbrev pub is_head : PlainOperator → Tree → Bool
is_head f (var n s) = false
is_head f (app g ts) = same_operator g f

-- whether it is at the head of a rule's left side
abbrev pub has_head : PlainOperator → RewriteRule → Bool
has_head f r = is_head f (left_of r)

-- a term is an application
abbrev pub IsApplication : Tree → Type 0
IsApplication (var n s) = ⊥
IsApplication (app f ts) = Unit {0}

-- the left side of a rule is one
abbrev pub IsApplied : RewriteRule → Type 0
IsApplied r = IsApplication (left_of r)

-- the rules that are found, if any are
abbrev pub found : Option (List RewriteRule) → List RewriteRule
found None = []
found (Some rs) = rs

-- the rules that stand under an operator
abbrev pub found_under : List (PlainOperator × List RewriteRule) → PlainOperator → List RewriteRule
found_under heads f = found (lookup (same_operator f) heads)

-- Rules are found by their heads: under each operator stand those that have it, in order. Where a left side is a
-- variable nothing is said.
abbrev pub IsIndexed : List (PlainOperator × List RewriteRule) → Bool → List RewriteRule → Type 0
IsIndexed heads true rs = Unit {0}
IsIndexed heads false rs = All IsApplied rs × ((f : PlainOperator) → found_under heads f ≡ filter (has_head f) rs)

-- some of the rules do at a term what all do
abbrev pub Suffice : List RewriteRule → List RewriteRule → Tree → Type 0
Suffice few rs t = rewrite_of (flat_map tries_of (all_sides few)) t ≡ rewrite_of (flat_map tries_of (all_sides rs)) t

-- What a search for a rule that applies finds, among rows and rules.
use Rattle.std.specs.Prelude.{◌≡◌, ◌++◌, List, map, Contains, Option, Some, None}
use Rattle.larch_term.specs.Tree.{Tree}
use Rattle.larch_term.specs.Substitution.{instance_of}
use Rattle.larch_rewrite_meaning.specs.Rewriting.{rewritten_once}
use Rattle.larch_rewrite_step.specs.RewriteMatchBound.{entries_of}
use Rattle.larch_rewrite_step.specs.RewriteMatchRule.{right_of}
use Rattle.larch_rewrite_step.specs.RewriteMatchSearch.{IsBy}
use Rattle.larch_rewrite_step.specs.RewriteMatchRuleRewriteRule.{RewriteRule}
use Rattle.larch_rewrite_step.specs.RewriteMatchSearchMatch.{Match}
use Rattle.larch_rewrite.specs.RuleSet.{PlainRule, rule_of, sides_in}

-- the first of the rows for a term, or else of some rules, that applies to it, and by which substitution
abbrev pub IsRedex : List RewriteRule → List PlainRule → Tree → Option Match → Type 0
IsRedex rows rules t None = rewritten_once (sides_in rules) t ≡ None
IsRedex rows rules t (Some m) =
    Contains (rows ++ map rule_of rules) m.rule.now × IsBy m.rule.now m.exchanged t (entries_of m.by)
    × (rewritten_once (sides_in rules) t ≡ Some (instance_of (entries_of m.by) (right_of m.rule.now)))

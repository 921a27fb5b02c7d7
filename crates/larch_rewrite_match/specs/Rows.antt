-- Built-in rows, as rules.
use Rattle.std.specs.Prelude.{◌≡◌, ℕ, All, IfSome, List, bytes_eq}
use Rattle.std.specs.Map.{lookup}
use Rattle.larch_rewrite_meaning.specs.Rewriting.{rewriting_rows}
use Rattle.larch_rewrite_match.specs.Rule.{IsRule, IsSaidByRow, all_sides}
use Rattle.larch_rewrite_match.specs.declared.rule.RewriteRule.{RewriteRule}

-- the rows that rewrite at a sort, as rules
abbrev pub AreRowsAt : List ℕ → List RewriteRule → Type 0
AreRowsAt s rows = (all_sides rows ≡ rewriting_rows s) × All IsSaidByRow rows × All IsRule rows

-- what stands under a sort are the rows there
abbrev pub AreRowTables : List (List ℕ × List RewriteRule) → Type 0
AreRowTables tables = (s : List ℕ) → IfSome (lookup (bytes_eq s) tables) (AreRowsAt s)

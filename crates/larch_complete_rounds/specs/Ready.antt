-- Rules with their lines that are ready to rewrite.
use Rattle.std.specs.Prelude.{◌≤◌, List}
use Rattle.larch_complete_pairs.specs.declared.said.SaidEquation.{SaidEquation}
use Rattle.larch_complete_rounds.specs.declared.rewriter.Rewriter.{Rewriter}
use Rattle.larch_rewrite.specs.RuleSet.{Serves, sides_in}
use Rattle.larch_rewrite_meaning.specs.Sides.{Sides}
use Rattle.larch_store.specs.Stored.{most_nodes}
use Rattle.larch_term.specs.Tree.{nodes}

-- the rules so far
abbrev pub rules_in : Rewriter → List Sides
rules_in r = sides_in r.rules.rules

-- lines say the rules, and what is kept for them
abbrev pub IsReady : Rewriter → Type 0
IsReady r = Serves r.store r.builder r.rules

-- neither side has more nodes than a term of a proof may have
abbrev pub IsSmall : SaidEquation → Type 0
IsSmall e = (nodes e.left ≤ most_nodes) × (nodes e.right ≤ most_nodes)

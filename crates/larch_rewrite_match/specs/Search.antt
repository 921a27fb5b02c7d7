-- What a search for a rule that applies finds.
use Rattle.std.specs.Prelude.{◌≡◌, Bool, true, false, List, [], Contains, Option, Some, None, option_and_then}
use Rattle.std.specs.List.{flat_map}
use Rattle.larch_term.specs.Arguments.{has_two_arguments}
use Rattle.larch_term.specs.Tree.{Tree}
use Rattle.larch_term.specs.Substitution.{instance_of}
use Rattle.larch_term.specs.declared.substitution.Entry.{Entry}
use Rattle.larch_rewrite_meaning.specs.Matching.{match_term}
use Rattle.larch_rewrite_meaning.specs.Rewriting.{tries_of, rewrite_of, rows_for}
use Rattle.larch_rewrite_match.specs.Bound.{IsBinding, entries_of}
use Rattle.larch_rewrite_match.specs.Exchanged.{exchange_equality}
use Rattle.larch_rewrite_match.specs.Rule.{sides_of_rule, all_sides, left_of}
use Rattle.larch_rewrite_match.specs.declared.rule.RewriteRule.{RewriteRule}
use Rattle.larch_store.specs.Numbered.{Numbered}
use Rattle.larch_rewrite_match.specs.declared.search.Match.{Match}

-- rows do at a term what all rows for it do
abbrev pub AreRowsFor : List RewriteRule → Tree → Type 0
AreRowsFor rows t = rewrite_of (flat_map tries_of (all_sides rows)) t ≡ rewrite_of (rows_for t) t

-- the left side of a rule, as it stands or exchanged, is a term under a substitution
abbrev pub IsBy : RewriteRule → Bool → Tree → List Entry → Type 0
IsBy r false t es = match_term r.left t [] ≡ Some es
IsBy r true t es = option_and_then (λ l. match_term l t []) (exchange_equality r.left) ≡ Some es

-- the bindings of what is found belong to a store, and bind no variable twice; a left side that was exchanged has two
-- arguments
abbrev pub IsFoundIn : List Numbered → Match → Type 0
IsFoundIn store m = IsBinding store m.by × (m.exchanged ≡ true → has_two_arguments (left_of m.rule.now) ≡ true)

-- what a rule makes of a term, and by which substitution
abbrev pub IsMatch : RewriteRule → Tree → Option Match → Type 0
IsMatch r t None = rewrite_of (tries_of (sides_of_rule r)) t ≡ None
IsMatch r t (Some m) =
    (m.rule.now ≡ r) × IsBy r m.exchanged t (entries_of m.by)
    × (rewrite_of (tries_of (sides_of_rule r)) t ≡ Some (instance_of (entries_of m.by) r.right))

-- the first of some rules that applies to a term, and by which substitution
abbrev pub IsFirst : List RewriteRule → Tree → Option Match → Type 0
IsFirst rs t None = rewrite_of (flat_map tries_of (all_sides rs)) t ≡ None
IsFirst rs t (Some m) =
    Contains rs m.rule.now × IsBy m.rule.now m.exchanged t (entries_of m.by)
    × (rewrite_of (flat_map tries_of (all_sides rs)) t ≡ Some (instance_of (entries_of m.by) m.rule.now.right))

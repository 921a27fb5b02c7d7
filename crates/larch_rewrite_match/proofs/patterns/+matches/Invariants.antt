use Rattle.std.specs.Prelude.{map}
use Rattle.std.proofs.Common.{◌≡◌, ◌*◌, ◌+◌, drop, sum_by}
use Rattle.larch_term.specs.Tree.{forest_of, nodes}
use Rattle.larch_rewrite_meaning.specs.Matching.{matched_all}
use Rattle.larch_rewrite_match.specs.Bound.{AreBound, entries_of}
use Rattle.larch_store.specs.Numbered.{term_of}
use Rattle.larch_rewrite_match.proofs.patterns.+matches.Given as goal

abbrev pub decreases-matches : goal.decreases-matches
decreases-matches l = 2 * nodes l.pattern.now

abbrev pub decreases-match_all : goal.decreases-match_all
decreases-match_all l = 2 * sum_by nodes l.patterns.now + 1

-- the arguments so far match
abbrev pub invariant-match_all-loop-i : goal.invariant-match_all-loop-i
invariant-match_all-loop-i l = record {
  bound : AreBound l.store l.bound.items;
  fits : matched_all (forest_of (drop l.i l.patterns)) (forest_of (map term_of (drop l.i l.terms)))
      (entries_of l.bound.items)
      ≡ matched_all (forest_of l.patterns) (forest_of (map term_of l.terms)) (entries_of l.initial.bound.items);
}

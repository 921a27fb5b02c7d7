use Rattle.std.proofs.Common.{◌≡◌, drop}
use Rattle.std.specs.List.{flat_map}
use Rattle.larch_rewrite_meaning.specs.Rewriting.{tries_of, rewrite_of}
use Rattle.larch_rewrite_match.specs.Rule.{all_sides}
use Rattle.larch_store.specs.Numbered.{term_of}
use Rattle.larch_rewrite_match.proofs.search.first_match.Given as goal

-- none of the rules so far applies
abbrev pub invariant-loop-rule : goal.invariant-loop-rule
invariant-loop-rule l =
    rewrite_of (flat_map tries_of (all_sides (drop l.rule-index l.rules))) (term_of l.term)
    ≡ rewrite_of (flat_map tries_of (all_sides l.rules)) (term_of l.term)

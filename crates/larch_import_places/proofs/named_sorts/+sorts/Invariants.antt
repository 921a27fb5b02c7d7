use Rattle.std.proofs.Common.{◌≡◌, ◌+◌, ◌*◌, sum_by, drop}
use Rattle.std.specs.List.{list_all}
use Rattle.larch_term.specs.Tree.{nodes}
use Rattle.larch_import_places.specs.NamedSorts.{names_term}
use Rattle.larch_import_places.proofs.named_sorts.+sorts.Given as goal

-- the terms so far have named sorts alone
abbrev pub invariant-names_terms-loop-term : goal.invariant-names_terms-loop-term
invariant-names_terms-loop-term l =
    list_all (names_term l.by) (drop l.term-index l.term-items) ≡ list_all (names_term l.by) l.term-items

-- a term has more nodes than its arguments together
abbrev pub decreases-names_term : goal.decreases-names_term
decreases-names_term l = 2 * nodes l.term.now

abbrev pub decreases-names_terms : goal.decreases-names_terms
decreases-names_terms l = 2 * sum_by nodes l.terms.now + 1

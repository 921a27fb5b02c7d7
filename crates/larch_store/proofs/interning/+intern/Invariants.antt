use Rattle.std.proofs.Common.{◌≡◌, ◌+◌, ◌*◌, map, take, sum_by}
use Rattle.larch_term.specs.Tree.{nodes}
use Rattle.larch_store.specs.Numbered.{term_of}
use Rattle.larch_store.specs.Stored.{AllBelong, Grows}
use Rattle.larch_store.proofs.interning.+intern.Given as goal

abbrev pub decreases-intern_term : goal.decreases-intern_term
decreases-intern_term l = 2 * nodes l.term.now

abbrev pub decreases-intern_terms : goal.decreases-intern_terms
decreases-intern_terms l = 2 * sum_by nodes l.terms.now + 1

abbrev pub invariant-intern_terms-loop-term : goal.invariant-intern_terms-loop-term
invariant-intern_terms-loop-term l = record {
  grows : Grows l.fn.store l.store;
  belong : AllBelong l.store l.list;
  terms : map term_of l.list ≡ take l.term-index l.terms;
}

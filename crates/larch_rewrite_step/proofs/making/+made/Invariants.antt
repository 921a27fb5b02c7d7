use Rattle.std.proofs.Common.{◌≡◌, ◌+◌, ◌*◌, map, take, sum_by}
use Rattle.larch_rewrite_match.specs.Bound.{AreBound, entries_of}
use Rattle.larch_store.specs.Numbered.{term_of}
use Rattle.larch_store.specs.Stored.{AllBelong, Grows}
use Rattle.larch_term.specs.Substitution.{instance_of}
use Rattle.larch_term.specs.Tree.{nodes}
use Rattle.larch_rewrite_step.proofs.making.+made.Given as goal

abbrev pub decreases-made : goal.decreases-made
decreases-made l = 2 * nodes l.term.now

abbrev pub decreases-made_all : goal.decreases-made_all
decreases-made_all l = 2 * sum_by nodes l.terms.now + 1

-- the terms so far are made
abbrev pub invariant-made_all-loop-term : goal.invariant-made_all-loop-term
invariant-made_all-loop-term l = record {
  grows : Grows l.fn.store l.store;
  bound : AreBound l.store l.by;
  belong : AllBelong l.store l.list;
  terms : map term_of l.list ≡ map (instance_of (entries_of l.by)) (take l.term-index l.terms);
}

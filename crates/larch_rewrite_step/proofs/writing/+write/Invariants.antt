use Rattle.std.proofs.Common.{◌+◌, ◌*◌, map, take, sum_by}
use Rattle.larch_rewrite_step.specs.Encoding.{AreEncodings, AreOfStore}
use Rattle.larch_certificate.specs.Coded.{coded_forest_of}
use Rattle.larch_derive.specs.Coding.{AreCodesOf}
use Rattle.larch_store.specs.Numbered.{term_of}
use Rattle.larch_term.specs.Tree.{forest_of, nodes}
use Rattle.larch_rewrite_step.proofs.writing.+write.Given as goal

-- a term has more nodes than its arguments together
abbrev pub decreases-write : goal.decreases-write
decreases-write l = 2 * nodes (term_of l.term.now)

abbrev pub decreases-write_all : goal.decreases-write_all
decreases-write_all l = 2 * sum_by (λ x. nodes (term_of x)) l.terms.now + 1

-- the terms so far are written
abbrev pub invariant-write_all-loop-term : goal.invariant-write_all-loop-term
invariant-write_all-loop-term l = record {
  belong : AreOfStore l.store l.encodings;
  encodings : AreEncodings l.builder l.fn.encodings → AreEncodings l.builder l.encodings;
  written : AreEncodings l.builder l.fn.encodings
      → AreCodesOf l.builder.boxes l.builder.theory.operators (forest_of (map term_of (take l.term-index l.terms)))
      (coded_forest_of l.items.items);
}

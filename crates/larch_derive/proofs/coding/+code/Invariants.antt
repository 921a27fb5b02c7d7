use Rattle.std.proofs.Common.{◌+◌, ◌*◌, sum_by, take}
use Rattle.larch_term.specs.Tree.{forest_of, nodes}
use Rattle.larch_certificate_text.specs.CertificateCoded.{coded_forest_of}
use Rattle.larch_derive.specs.Coding.{AreCodesOf}
use Rattle.larch_derive.proofs.coding.+code.Given as goal

-- the terms so far are written
abbrev pub invariant-code_all-loop-term : goal.invariant-code_all-loop-term
invariant-code_all-loop-term l =
    AreCodesOf l.boxes l.theory.operators (forest_of (take l.term-index l.term-items)) (coded_forest_of l.items.items)

-- a term has more nodes than its arguments together
abbrev pub decreases-code : goal.decreases-code
decreases-code l = 2 * nodes l.term.now

abbrev pub decreases-code_all : goal.decreases-code_all
decreases-code_all l = 2 * sum_by nodes l.terms.now + 1

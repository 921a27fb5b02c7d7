use Rattle.std.proofs.Common.{◌+◌, ◌*◌, sum_by}
use Rattle.larch_certificate.specs.Coded.{coded_nodes}
use Rattle.larch_theory_text.proofs.term.+read.Given as goal

abbrev pub decreases-read_term : goal.decreases-read_term
decreases-read_term l = 2 * coded_nodes l.term.now

abbrev pub decreases-read_terms : goal.decreases-read_terms
decreases-read_terms l = 2 * sum_by coded_nodes l.terms.now + 1

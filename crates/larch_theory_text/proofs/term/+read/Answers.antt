use Rattle.std.proofs.Common.{◌≡◌, ℕ, ◌<◌, ◌≤◌, sum_by, length, get_or, ap, arith}
use Rattle.std.proofs.lemmas.List.Sums.{get_or-le-sum_by}
use Rattle.larch_certificate.specs.Coded.{coded_nodes}
use Rattle.larch_theory_text.proofs.term.+read.Goals as goal

pub read_terms-read_term-requires : goal.read_terms-read_term-requires
read_terms-read_term-requires t c =
    let is : c.term-item.result ≡ get_or c.args.terms.now c.loop-term.term-index c.term-item.result =
    rw c.as_slice-term-items.ensures at c.term-item.is in
    let lt : c.loop-term.term-index < length c.args.terms.now =
    rw c.as_slice-term-items.ensures at c.loop-term-test.true in
    let k : coded_nodes (get_or c.args.terms.now c.loop-term.term-index c.term-item.result)
    ≤ sum_by coded_nodes c.args.terms.now =
    get_or-le-sum_by coded_nodes c.args.terms.now c.loop-term.term-index c.term-item.result lt in
    let m : coded_nodes c.term-item.result ≤ sum_by coded_nodes c.args.terms.now =
    omega (arith, k, ap coded_nodes is) in
    (omega (arith, m, c.decreases), tt)

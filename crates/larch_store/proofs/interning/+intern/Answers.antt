use Rattle.std.proofs.Common.{◌≡◌, ◌+◌, ◌<◌, ◌≤◌, sum_by, ◌++◌, ◌∷◌, [], List, length, take, map, get_or, sym, ◌∙◌, ap}
use Rattle.std.proofs.Common.{subst, arith}
use Rattle.std.proofs.lemmas.Grind.{common_steps}
use Rattle.std.proofs.lemmas.List.{take_more, map_push}
use Rattle.std.proofs.lemmas.List.Sums.{get_or-le-sum_by}
use Rattle.std.proofs.lemmas.List.Elements.{All-push}
use Rattle.std.proofs.lemmas.Result.{err_from_is_err_and}
use Rattle.larch_term.specs.Tree.{Tree, nodes, nodes_all, forest_of, nodes_all_is_sum}
use Rattle.larch_store.specs.Numbered.{Numbered, term_of}
use Rattle.larch_store.specs.Stored.{Belongs, AllBelong}
use Rattle.larch_store.proofs.Counting.{refused_above}
use Rattle.larch_store.proofs.Growth.{grows_trans, all_belong_stay}
use Rattle.larch_store.proofs.interning.+intern.Goals as goal

pub intern_terms-intern_term-requires : goal.intern_terms-intern_term-requires
intern_terms-intern_term-requires t c =
    let x : Tree = c.term-item.result in
    let is : x ≡ get_or c.args.terms.now c.loop-term.term-index x =
    rw c.as_slice-term-items.ensures at c.term-item.is in
    let lt : c.loop-term.term-index < length c.args.terms.now =
    rw c.as_slice-term-items.ensures at c.loop-term-test.true in
    let k : nodes (get_or c.args.terms.now c.loop-term.term-index x) ≤ sum_by nodes c.args.terms.now =
    get_or-le-sum_by nodes c.args.terms.now c.loop-term.term-index x lt in
    let m : nodes x ≤ sum_by nodes c.args.terms.now = omega (arith, k, ap nodes is) in
    (omega (arith, m, c.decreases), tt)

pub intern_terms-loop-term-preserved : goal.intern_terms-loop-term-preserved
intern_terms-loop-term-preserved t c =
    let s : List Numbered = c.loop-term.store in
    let u : List Numbered = c.intern_term.new.store in
    let x : Numbered = c.in_ok-shared.shared in
    let p : c.push.new.self ≡ c.loop-term.list ++ x ∷ [] = grind (arith, common_steps) in
    let y : Tree = c.term-item.result in
    let is : y ≡ get_or c.args.terms.now c.loop-term.term-index y =
    rw c.as_slice-term-items.ensures at c.term-item.is in
    let lt : c.loop-term.term-index < length c.args.terms.now =
    rw c.as_slice-term-items.ensures at c.loop-term-test.true in
    let m : take (c.loop-term.term-index + 1) c.args.terms.now
    ≡ take c.loop-term.term-index c.args.terms.now ++ y ∷ [] =
    take_more c.args.terms.now c.loop-term.term-index y lt
    ∙ ap (λ z. take c.loop-term.term-index c.args.terms.now ++ z ∷ []) (sym is) in
    record {
      grows = grows_trans c.args.store.now s u c.loop-term.invariant.grows c.intern_term.ensures.grows;
      belong =
          subst (AllBelong u) (sym p)
          (All-push (Belongs u) c.loop-term.list x
          (all_belong_stay s u c.loop-term.list c.intern_term.ensures.grows c.loop-term.invariant.belong)
          c.in_ok-shared.ensures.belongs);
      terms =
          ap (map term_of) p ∙ map_push term_of c.loop-term.list x
          ∙ (λ i. c.loop-term.invariant.terms i ++ c.in_ok-shared.ensures.term i ∷ []) ∙ sym m;
    }

pub intern_terms-returns-in_err-shared-clause-refused : goal.intern_terms-returns-in_err-shared-clause-refused
intern_terms-returns-in_err-shared-clause-refused t c =
    let p = err_from_is_err_and c.from_residual.result c.from_residual.ensures.1 in
    let ts : List Tree = c.args.terms.now in
    let x : Tree = c.term-item.result in
    let is : x ≡ get_or ts c.loop-term.term-index x = rw c.as_slice-term-items.ensures at c.term-item.is in
    let lt : c.loop-term.term-index < length ts = rw c.as_slice-term-items.ensures at c.loop-term-test.true in
    let k : nodes (get_or ts c.loop-term.term-index x) ≤ sum_by nodes ts =
    get_or-le-sum_by nodes ts c.loop-term.term-index x lt in
    let m : nodes x ≤ nodes_all (forest_of ts) = omega (arith, k, ap nodes is, nodes_all_is_sum ts) in
    rw (p.1, p.2) (refused_above (nodes x)
    (nodes_all (forest_of ts)) c.in_err-shared.field-0.0 m c.in_err-shared.ensures.refused)

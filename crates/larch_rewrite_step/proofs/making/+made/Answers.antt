use Rattle.std.proofs.Common.{◌≡◌, ◌+◌, ◌<◌, ◌≤◌, sum_by, ◌++◌, ◌∷◌, [], List, length, take, map, get_or, sym, ◌∙◌, ap}
use Rattle.std.proofs.Common.{subst, arith}
use Rattle.std.proofs.lemmas.Grind.{common_steps}
use Rattle.std.proofs.lemmas.List.{take_more, map_push}
use Rattle.std.proofs.lemmas.List.Sums.{get_or-le-sum_by}
use Rattle.std.proofs.lemmas.List.Elements.{All-push}
use Rattle.std.proofs.lemmas.Result.{err_from_is_err_and}
use Rattle.larch_rewrite_match.specs.Bound.{entries_of}
use Rattle.larch_term.specs.Substitution.{instance_of, substituted_all}
use Rattle.larch_term.specs.Tree.{Tree, nodes, nodes_all, forest_of}
use Rattle.larch_store.specs.Numbered.{Numbered, term_of}
use Rattle.larch_store.specs.Stored.{Belongs, AllBelong}
use Rattle.larch_store.proofs.Counting.{refused_above}
use Rattle.larch_store.proofs.Growth.{grows_trans, all_belong_stay}
use Rattle.larch_rewrite_step.proofs.RightSides.{bound_stay, part_within}
use Rattle.larch_rewrite_step.proofs.making.+made.Goals as goal

pub made_all-made-requires : goal.made_all-made-requires
made_all-made-requires t c =
    let x : Tree = c.term-item.result in
    let k : nodes (get_or c.args.terms.now c.loop-term.term-index x) ≤ sum_by nodes c.args.terms.now =
    get_or-le-sum_by nodes c.args.terms.now c.loop-term.term-index x c.loop-term-test.true in
    let m : nodes x ≤ sum_by nodes c.args.terms.now = omega (arith, k, ap nodes c.term-item.is) in
    (omega (arith, m, c.decreases), c.loop-term.invariant.bound)

pub made_all-loop-term-preserved : goal.made_all-loop-term-preserved
made_all-loop-term-preserved t c =
    let s : List Numbered = c.loop-term.store in
    let u : List Numbered = c.made.new.store in
    let x : Numbered = c.in_ok-shared.shared in
    let p : c.push.new.self ≡ c.loop-term.list ++ x ∷ [] = grind (arith, common_steps) in
    let y : Tree = c.term-item.result in
    let m : take (c.loop-term.term-index + 1) c.args.terms.now
    ≡ take c.loop-term.term-index c.args.terms.now ++ y ∷ [] =
    take_more c.args.terms.now c.loop-term.term-index y c.loop-term-test.true
    ∙ ap (λ z. take c.loop-term.term-index c.args.terms.now ++ z ∷ []) (sym c.term-item.is) in
    record {
      grows = grows_trans c.args.store.now s u c.loop-term.invariant.grows c.made.ensures.grows;
      bound = bound_stay s u c.args.by.now c.made.ensures.grows c.loop-term.invariant.bound;
      belong =
          subst (AllBelong u) (sym p)
          (All-push (Belongs u) c.loop-term.list x
          (all_belong_stay s u c.loop-term.list c.made.ensures.grows c.loop-term.invariant.belong)
          c.in_ok-shared.ensures.belongs);
      terms = ap (map term_of) p ∙ map_push term_of c.loop-term.list x
          ∙ (λ i. c.loop-term.invariant.terms i ++ c.in_ok-shared.ensures.term i ∷ [])
          ∙ sym (map_push (instance_of (entries_of c.args.by.now)) (take c.loop-term.term-index c.args.terms.now) y)
          ∙ ap (map (instance_of (entries_of c.args.by.now))) (sym m);
    }

pub made_all-returns-in_err-shared-clause-refused : goal.made_all-returns-in_err-shared-clause-refused
made_all-returns-in_err-shared-clause-refused t c =
    let p = err_from_is_err_and c.from_residual.result c.from_residual.ensures.1 in
    let ts : List Tree = c.args.terms.now in
    let x : Tree = c.term-item.result in
    rw (p.1, p.2)
    (refused_above (nodes (instance_of (entries_of c.args.by.now) x))
    (nodes_all (substituted_all (entries_of c.args.by.now) (forest_of ts))) c.in_err-shared.field-0.0
    (part_within (entries_of c.args.by.now) ts c.loop-term.term-index x c.loop-term-test.true c.term-item.is)
    c.in_err-shared.ensures.refused)

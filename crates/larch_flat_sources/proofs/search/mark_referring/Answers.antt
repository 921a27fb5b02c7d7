use Rattle.std.proofs.Common.{◌<◌, ◌≤◌, ◌∙◌, ℕ, Bool, Vec, Global, get_or, length, ap, subst, arith}
use Rattle.std.proofs.lemmas.List.{get_or_default}
use Rattle.larch_flat_sources.specs.Links.{referring}
use Rattle.larch_flat_sources.proofs.Searched.{next_within, visit_begun, visit_marked, visit_new, visit_within, visited}
use Rattle.larch_flat_sources.proofs.search.mark_referring.Goals.{then-not-index+in_ok-push, else-not-index}
use Rattle.larch_flat_sources.proofs.search.mark_referring.Goals as goal

pub index-requires : goal.index-requires
index-requires c = let lt = c.requires.next in let ok = c.args.found.now.ok in omega (arith, lt, ok)

pub referring_to-numbers-requires : goal.referring_to-numbers-requires
referring_to-numbers-requires c =
    (next_within c.args.links.now c.args.marked.now.items c.args.found.now.items c.args.next c.index.result.now
    c.requires.searching c.requires.next c.index.ensures).0

pub loop-number-init : goal.loop-number-init
loop-number-init c = (
  visit_begun c.args.links.now c.args.marked.now.items c.args.found.now.items c.args.next c.requires.searching
      c.requires.next,
  c.referring_to-numbers.ensures
      ∙ ap (referring c.args.links.now)
      (c.index.ensures ∙ get_or_default c.args.found.now.items c.args.next c.index.result.now 0 c.requires.next),
)

pub index-requires-in-loop-number : goal.index-requires-in-loop-number
index-requires-in-loop-number c =
    let lt : get_or c.referring_to-numbers.result.now c.loop-number.number-index 0 < length c.loop-number.marked.items =
    visit_within c.args.links.now c.loop-number.marked.items c.loop-number.found.items c.args.next
    (get_or c.args.found.now.items c.args.next 0)
    (get_or c.args.found.now.items 0 0) c.loop-number.number-index c.referring_to-numbers.result.now c.requires.within
    c.loop-number.invariant.0 c.loop-number.invariant.1 c.loop-number-test.true in
    let ok = c.loop-number.marked.ok in omega (arith, lt, ok)

pub index_mut-requires : goal.index_mut-requires
index_mut-requires c =
    let lt : get_or c.referring_to-numbers.result.now c.loop-number.number-index 0 < length c.loop-number.marked.items =
    visit_within c.args.links.now c.loop-number.marked.items c.loop-number.found.items c.args.next
    (get_or c.args.found.now.items c.args.next 0)
    (get_or c.args.found.now.items 0 0) c.loop-number.number-index c.referring_to-numbers.result.now c.requires.within
    c.loop-number.invariant.0 c.loop-number.invariant.1 c.loop-number-test.true in
    let ok = c.loop-number.marked.ok in omega (arith, lt, ok)

pub loop-number-preserved : goal.loop-number-preserved
loop-number-preserved c =
    elim c.if-not-index.branch [
      | then-not-index+in_ok-push w ↦ (
        visit_new c.args.links.now c.loop-number.marked.items c.loop-number.found.items c.args.next
            (get_or c.args.found.now.items c.args.next 0)
            (get_or c.args.found.now.items 0 0) c.loop-number.number-index c.referring_to-numbers.result.now
            c.requires.within c.loop-number.invariant.0 c.loop-number.invariant.1 c.loop-number-test.true
            c.index-in-loop-number.result.now c.index-in-loop-number.ensures w.if-not-index.true
            c.if-not-index.marked.items c.if-not-index.found.items
            (ap (λ (v : Vec Bool Global). v.items) w.marked-is)
            (ap (λ (v : Vec ℕ Global). v.items) w.found-is ∙ w.in_ok-push.ensures.items),
        c.loop-number.invariant.1,
      )
      | else-not-index w ↦ (
        visit_marked c.args.links.now c.loop-number.marked.items c.loop-number.found.items c.args.next
            (get_or c.args.found.now.items c.args.next 0)
            (get_or c.args.found.now.items 0 0) c.loop-number.number-index c.referring_to-numbers.result.now
            c.requires.within c.loop-number.invariant.0 c.loop-number.invariant.1 c.loop-number-test.true
            c.index-in-loop-number.result.now c.index-in-loop-number.ensures w.if-not-index.false
            c.if-not-index.marked.items c.if-not-index.found.items
            (ap (λ (v : Vec Bool Global). v.items) w.marked-is) (ap (λ (v : Vec ℕ Global). v.items) w.found-is),
        c.loop-number.invariant.1,
      )
    ]

pub returns-clause-searching : goal.returns-clause-searching
returns-clause-searching c =
    visited c.args.links.now c.loop-number.marked.items c.loop-number.found.items c.args.next
    (get_or c.args.found.now.items c.args.next 0)
    (get_or c.args.found.now.items 0 0) c.loop-number.number-index c.loop-number.invariant.0
    (subst (λ ns. length ns ≤ c.loop-number.number-index) c.loop-number.invariant.1 c.loop-number-test.false)

pub returns-clause-first : goal.returns-clause-first
returns-clause-first c = c.loop-number.invariant.0.first_is

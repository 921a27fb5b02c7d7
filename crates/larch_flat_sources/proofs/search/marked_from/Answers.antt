use Rattle.std.proofs.Common.{◌≡◌, ◌<◌, ◌∙◌, ◌++◌, ◌∷◌, List, [], Bool, true, length, get_or, set, sym, subst, ap}
use Rattle.std.proofs.Common.{arith}
use Rattle.std.specs.Bool.{Decides}
use Rattle.larch_flat_sources.specs.Links.{Leads, is_marked}
use Rattle.larch_flat_sources.specs.Search.{Searching}
use Rattle.larch_flat_sources.proofs.Linking.{plus_one}
use Rattle.larch_flat_sources.proofs.Searched.{begun, found_within, searched}
use Rattle.larch_flat_sources.proofs.search.marked_from.Goals as goal

pub loop-next-init : goal.loop-next-init
loop-next-init c =
    let found : c.push.new.self.items ≡ c.args.number ∷ [] =
    c.in_ok-push.ensures.items ∙ ap (λ xs. xs ++ c.args.number ∷ []) c.new-found.ensures.items in (
      subst (λ xs. Searching c.args.links.now (set c.in_ok-marked.marked.items c.args.number true) xs 0) (sym found)
          (subst (λ (bs : List Bool). Searching c.args.links.now (set bs c.args.number true) (c.args.number ∷ []) 0)
          (sym (c.in_ok-marked.ensures.items_if_clones_equal (λ y h. h)))
          (begun c.args.links.now c.args.number c.requires.number)),
      ap (λ xs. get_or xs 0 0) found,
    )

pub loop-next-preserved : goal.loop-next-preserved
loop-next-preserved c = (
  subst (λ n. Searching c.args.links.now c.mark_referring.new.marked.items c.mark_referring.new.found.items n)
      (sym (plus_one c.loop-next.next)) c.in_ok-mark_referring.ensures.searching,
  c.in_ok-mark_referring.ensures.first ∙ c.loop-next.invariant.1,
)

pub loop-next-smaller : goal.loop-next-smaller
loop-next-smaller c =
    let most =
    found_within c.args.links.now c.loop-next.marked.items c.loop-next.found.items c.loop-next.next
    c.loop-next.invariant.0 in
    let len = c.len.ensures in let ok = c.loop-next.found.ok in let test = c.loop-next-test.true in
    let lt : c.loop-next.next < length c.loop-next.found.items = omega (arith, len, ok, test) in
    let next : c.loop-next.next < length c.args.links.now = omega (arith, most, lt) in
    omega (arith, next)

pub returns-clause-leads : goal.returns-clause-leads
returns-clause-leads c = λ m.
    let len = c.len.ensures in let ok = c.loop-next.found.ok in let test = c.loop-next-test.false in
    subst (λ n. Decides (is_marked c.loop-next.marked.items m) (Leads c.args.links.now m n)) c.loop-next.invariant.1
    (searched c.args.links.now c.loop-next.marked.items c.loop-next.found.items c.loop-next.next c.loop-next.invariant.0
    (omega (arith, len, ok, test)) m)

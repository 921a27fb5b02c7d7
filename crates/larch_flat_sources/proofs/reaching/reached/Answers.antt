use Rattle.std.proofs.Common.{◌≡◌, ◌++◌, ◌∷◌, [], ◌+◌, length, ap, sym, subst, ◌∙◌, arith, map}
use Rattle.std.specs.Prelude.{reverse}
use Rattle.std.proofs.lemmas.Grind.{common_steps}
use Rattle.std.proofs.lemmas.List.{length-append}
use Rattle.larch_flat_meaning.specs.Reached.{AreReached, Visits, at_end}
use Rattle.larch_flat_sources.specs.Sources.{files_in}
use Rattle.larch_flat_sources.proofs.Visiting.{popped}
use Rattle.larch_flat_sources.proofs.reaching.reached.Goals as goal

pub loop-next-preserved : goal.loop-next-preserved
loop-next-preserved c =
    let w : c.loop-next.waiting.items ≡ c.pop.new.self.items ++ c.in-Some.next ∷ [] = grind (arith, common_steps) in
    λ all v. c.loop-next.invariant all
    (subst (λ xs. Visits (files_in c.args.sources.now) c.loop-next.seen.keys xs all)
    (sym (popped (λ n. n.now) c.loop-next.waiting.items c.pop.new.self.items c.in-Some.next w))
    (c.in_ok-visit.ensures.goes_on all v))

pub loop-next-smaller : goal.loop-next-smaller
loop-next-smaller c =
    let w : c.loop-next.waiting.items ≡ c.pop.new.self.items ++ c.in-Some.next ∷ [] = grind (arith, common_steps) in
    let l : length c.loop-next.waiting.items ≡ length c.pop.new.self.items + 1 =
    ap length w ∙ length-append c.pop.new.self.items (c.in-Some.next ∷ []) in
    let f = c.in_ok-visit.ensures.fewer in
    omega (arith, f, l)

pub returns : goal.returns
returns c =
    let n : c.loop-next.waiting.items ≡ [] = grind (arith, common_steps) in
    subst (AreReached (files_in c.args.sources.now) c.args.name.now) (sym c.in_ok-names.ensures)
    (c.loop-next.invariant c.loop-next.seen.keys
    (subst (λ ws. Visits (files_in c.args.sources.now) c.loop-next.seen.keys (reverse (map (λ m. m.now) ws))
    c.loop-next.seen.keys) (sym n) at_end))

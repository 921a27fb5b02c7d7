use Rattle.std.proofs.Common.{◌≡◌, ◌∙◌, ℕ, List, [], length, replicate, ap, sym, subst, arith}
use Rattle.larch_flat_sources.specs.Building.{AreLinksSoFar}
use Rattle.larch_flat_sources.proofs.Linking.{all_linked, none_so_far, plus_one}
use Rattle.larch_flat_sources.proofs.building.referrers.Goals as goal

pub loop-number-init : goal.loop-number-init
loop-number-init c =
    subst (λ (ls : List (List ℕ)). AreLinksSoFar c.args.sources.now 0 [] ls)
    (sym (c.in_ok-referring.ensures ∙ ap (λ n. replicate n []) c.len.ensures.len))
    (none_so_far c.args.sources.now c.len.ensures.apart)

pub loop-number-preserved : goal.loop-number-preserved
loop-number-preserved c =
    subst (λ n. AreLinksSoFar c.args.sources.now n [] c.link_file.new.referring.items)
    (sym (plus_one c.loop-number.number)) c.in_ok-link_file.ensures

pub returns : goal.returns
returns c =
    let low = c.loop-number-test.false in let high = c.loop-number.auto.number-end in
    let len = c.len-number-end.ensures.len in
    let e : c.loop-number.number ≡ length c.args.sources.now = omega (arith, low, high, len) in
    all_linked c.args.sources.now c.loop-number.referring.items
    (subst (λ n. AreLinksSoFar c.args.sources.now n [] c.loop-number.referring.items) e c.loop-number.invariant)

use Rattle.std.proofs.Common.{◌≡◌, ◌<◌, ◌∙◌, ℕ, List, Bool, length, sym, subst}
use Rattle.std.specs.Bool.{Decides}
use Rattle.larch_flat_sources.specs.Links.{AreLeading, AreWithin, Leads, is_marked}
use Rattle.larch_flat_sources.proofs.Leading.{are_leading}
use Rattle.larch_flat_sources.proofs.links.Links.leading_to.Goals as goal

pub marked_from-requires-clause-within : goal.marked_from-requires-clause-within
marked_from-requires-clause-within c =
    subst (λ (ls : List (List ℕ)). AreWithin ls) (sym c.as_slice.ensures.value) c.self.invariant

pub returns-clause-leading : goal.returns-clause-leading
returns-clause-leading c = λ table s.
    let same : c.as_slice.result.now ≡ c.args.self.now = c.as_slice.ensures.value ∙ c.self.view_is in
    let k : c.args.number < length table = subst (λ n. c.args.number < n) s.size c.requires in
    subst (λ (marks : List Bool). AreLeading table marks c.args.number) (sym c.from_vec.ensures)
    (are_leading table c.args.self.now s c.in_ok-marked.marked.items c.args.number k
    (subst (λ (ls : List (List ℕ)). (m : ℕ)
    → Decides (is_marked c.in_ok-marked.marked.items m) (Leads ls m c.args.number)) same
    c.in_ok-marked.ensures.leads))

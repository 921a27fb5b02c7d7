use Rattle.std.proofs.Common.{◌≡◌, ◌∙◌, ap, subst, map, IsTrue, ◌↔◌, not}
use Rattle.std.specs.List.{list_all}
use Rattle.larch_verify_history.specs.Past.{box_in}
use Rattle.larch_verify_box_rules.proofs.Boxes.{has_told}
use Rattle.larch_verify_box_rules.proofs.matching.has_constants.Goals as goal

pub returns-then-are_constants : goal.returns-then-are_constants
returns-then-are_constants c p =
    has_told (box_in p c.args.known.now) c.args.sorts.now c.are_constants.result c.have_sorts.result
    (c.are_constants.ensures ∙ ap (list_all (λ q. not q.predicate)) c.as_slice.ensures)
    (subst (λ ps. IsTrue c.have_sorts.result ↔ (map (λ q. q.sort) ps ≡ c.args.sorts.now))
    c.as_slice-then-are_constants.ensures c.have_sorts.ensures)
    c.if-are_constants.true

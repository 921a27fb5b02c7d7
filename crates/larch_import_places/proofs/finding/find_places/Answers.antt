use Rattle.std.proofs.Common.{not, ◌==◌, sym, ◌∙◌, ap}
use Rattle.std.specs.List.{list_all}
use Rattle.larch_import_places.proofs.Having.{has_renamed, five_true, none_had}
use Rattle.larch_import_places.proofs.finding.find_places.Goals as goal

pub returns-then-are_all-clause-found : goal.returns-then-are_all-clause-found
returns-then-are_all-clause-found c =
    let all = five_true c.stays-stays.result c.apart-apart.result c.names_theory-named.result
    c.are_found-operators.result c.are_found-statements.result (sym c.are_all.ensures ∙ c.if-are_all.true) in
    has_renamed c.args.by.now c.args.source.now c.args.target.now c.in_ok-truth.truth c.in_ok-numbers.numbers
    c.in_ok-places.places c.in_ok-truth.ensures (c.stays-stays.ensures.0 all.0) (c.apart-apart.ensures.0 all.1)
    (sym c.names_theory-named.ensures ∙ all.2) c.in_ok-numbers.ensures
    (ap (list_all (λ n. not (n == 0))) (sym c.as_slice.ensures) ∙ sym c.are_found-operators.ensures ∙ all.3)
    c.in_ok-places.ensures
    (ap (list_all (λ n. not (n == 0))) (sym c.as_slice-2.ensures) ∙ sym c.are_found-statements.ensures ∙ all.4)

pub returns-clause-none : goal.returns-clause-none
returns-clause-none c =
    none_had c.args.by.now c.args.source.now c.args.target.now c.in_ok-truth.truth c.in_ok-numbers.numbers
    c.in_ok-places.places c.stays-stays.result c.apart-apart.result c.names_theory-named.result
    c.are_found-operators.result c.are_found-statements.result c.in_ok-truth.ensures c.stays-stays.ensures
    c.apart-apart.ensures c.names_theory-named.ensures
    (c.are_found-operators.ensures ∙ ap (list_all (λ n. not (n == 0))) c.as_slice.ensures) c.in_ok-numbers.ensures
    (c.are_found-statements.ensures ∙ ap (list_all (λ n. not (n == 0))) c.as_slice-2.ensures) c.in_ok-places.ensures
    (sym c.are_all.ensures ∙ c.if-are_all.false)

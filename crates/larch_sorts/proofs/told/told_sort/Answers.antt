use Rattle.std.proofs.Common.{◌≡◌, ◌∙◌, sym, ap, subst}
use Rattle.std.specs.Option.{option_copied}
use Rattle.larch_raw.specs.RawTree.{apply, raw_forest}
use Rattle.larch_raw.specs.RawView.{view_node}
use Rattle.larch_sorts_signature.specs.SortsMeaningReadings.{Reads}
use Rattle.larch_sorts_signature.specs.SortsMeaningSignature.{kept}
use Rattle.larch_sorts.proofs.OnlyReadings.{one_sort}
use Rattle.larch_sorts.proofs.told.told_sort.Goals as goal

pub returns-in_ok-operator-in-Apply : goal.returns-in_ok-operator-in-Apply
returns-in_ok-operator-in-Apply c = λ t r.
    let raw : apply c.in-Apply.name (raw_forest c.in-Apply.arguments) c.in-Apply.field-2 ≡ c.args.raw.now =
    ap view_node (sym c.in-Apply.is) ∙ c.node.ensures in
    one_sort c.args.signature.now c.args.scope.now c.in-Apply.name c.in-Apply.arguments c.in-Apply.field-2
    c.in_ok-operator-in-Apply.operator.now
    (sym c.variable_sort.ensures ∙ ap option_copied c.in_default.is)
    (sym c.named.ensures ∙ ap (λ o. kept (option_copied o)) (c.in_ok-overloads-in-Apply.was)
    ∙ c.in_ok-operator-in-Apply.ensures) t
    (subst (λ x. Reads c.args.signature.now c.args.scope.now x t) (sym raw) r)
    ∙ sym c.range.ensures

use Rattle.std.proofs.Common.{◌≡◌, ◌∙◌, ◌<◌, Some, IfSome, [], bytes_eq, length, sym, ap, subst, arith}
use Rattle.std.specs.Option.{option_copied}
use Rattle.std.proofs.lemmas.Slice.Eq.{bytes_eq-Decides}
use Rattle.larch_raw.specs.RawTree.{apply, qualified, raw_forest}
use Rattle.larch_raw.specs.RawView.{view_node}
use Rattle.larch_sorts_signature.specs.Makers.{maker_among, making}
use Rattle.larch_sorts_signature.specs.SortsMeaningReadings.{ReadAt, ReadsAt, IsOnly}
use Rattle.larch_sorts_signature.specs.SortsMeaningSignature.{operators_named, taking_part}
use Rattle.larch_sorts.proofs.OnlyReadings.{OnlyAll, maker_only, not_false, only_next, only_taken, qualified_only}
use Rattle.larch_sorts.proofs.OnlyReadings.{variable_only}
use Rattle.larch_sorts.proofs.narrow.+narrow.Goals as goal

pub only_arguments-loop-i-init : goal.only_arguments-loop-i-init
only_arguments-loop-i-init t c =
    subst (OnlyAll c.args.signature.now c.args.scope.now [] []) (sym c.new-readings.ensures) tt

pub only_arguments-loop-i-preserved : goal.only_arguments-loop-i-preserved
only_arguments-loop-i-preserved t c =
    only_next c.args.signature.now c.args.scope.now c.as_slice-arguments.result.now c.args.sorts.now c.loop-i.i
    c.loop-i.readings c.push.new.self c.index-arguments-i.result c.index-sorts-i.result c.in-Some.reading
    (subst (λ n. c.loop-i.i < n) (sym c.if-arguments-sorts.false) c.loop-i-test.true) c.loop-i-test.true
    c.index-arguments-i.is c.index-sorts-i.is c.in_ok-push.ensures.ok c.loop-i.invariant
    (subst
    (λ o.
    IfSome o
    (IsOnly (ReadsAt c.args.signature.now c.args.scope.now c.index-arguments-i.result c.index-sorts-i.result)))
    c.in-Some.is c.in_ok-reading.ensures)

pub only_arguments-returns : goal.only_arguments-returns
only_arguments-returns t c =
    subst (λ raws. IsOnly (ReadAt c.args.signature.now c.args.scope.now raws c.args.sorts.now) c.loop-i.readings)
    c.as_slice-arguments.ensures
    (only_taken c.args.signature.now c.args.scope.now c.as_slice-arguments.result.now c.args.sorts.now c.loop-i.i
    c.loop-i.readings c.if-arguments-sorts.false
    (let over = c.loop-i-test.false in omega arith) c.loop-i.invariant)

pub only_at-returns-in-Some : goal.only_at-returns-in-Some
only_at-returns-in-Some t c =
    let raw : apply c.in-Apply.name (raw_forest c.in-Apply.arguments) c.in-Apply.field-2 ≡ c.args.raw.now =
    ap view_node (sym c.in-Apply.is) ∙ c.node.ensures in
    subst (λ r. IfSome c.in_ok-found-in-Apply.found
    (IsOnly (ReadsAt c.args.signature.now c.args.scope.now r c.args.sort.now))) raw
    (variable_only c.args.signature.now c.args.scope.now c.in-Apply.name c.in-Some.own.now
    (raw_forest c.in-Apply.arguments) c.in-Apply.field-2 c.args.sort.now c.in_ok-found-in-Apply.found
    (sym c.variable_sort.ensures ∙ ap option_copied c.in-Some.is) c.in_ok-found-in-Apply.ensures)

pub only_at-returns-in_ok-found-in-Some-One-2 : goal.only_at-returns-in_ok-found-in-Some-One-2
only_at-returns-in_ok-found-in-Some-One-2 t c =
    let raw : apply c.in-Apply.name (raw_forest c.in-Apply.arguments) c.in-Apply.field-2 ≡ c.args.raw.now =
    ap view_node (sym c.in-Apply.is) ∙ c.node.ensures in
    subst (λ r. IfSome c.in_ok-found-in-Some-One-2.found
    (IsOnly (ReadsAt c.args.signature.now c.args.scope.now r c.args.sort.now))) raw
    (maker_only c.args.signature.now c.args.scope.now c.in-Apply.name c.in-Apply.arguments c.in-Apply.field-2
    c.args.sort.now c.in-Some-One.operator c.in_ok-found-in-Some-One.found c.in_ok-found-in-Some-One-2.found
    (sym c.variable_sort.ensures ∙ ap option_copied c.in_default.is)
    (sym (c.in-Some-One.is ∙ ap Some c.in-Some-One.field-0-is) ∙ c.in_ok-maker_of-in-Apply.ensures
    ∙ ap (λ rs. maker_among (making (length rs) c.args.sort.now)
    (operators_named c.in-Apply.name (taking_part c.args.signature.now))) c.as_slice.ensures)
    (subst (λ ss. IfSome c.in_ok-found-in-Some-One.found
    (IsOnly (ReadAt c.args.signature.now c.args.scope.now c.in-Apply.arguments ss))) c.domain.ensures
    c.in_ok-found-in-Some-One.ensures)
    c.in_ok-found-in-Some-One-2.ensures)

pub only_at-returns-in_ok-found-in-Qualified : goal.only_at-returns-in_ok-found-in-Qualified
only_at-returns-in_ok-found-in-Qualified t c =
    let raw : qualified c.in-Qualified.term.value c.in-Qualified.own c.in-Qualified.field-2 ≡ c.args.raw.now =
    ap view_node (sym c.in-Qualified.is) ∙ c.node.ensures in
    subst (λ r. IfSome c.in_ok-found-in-Qualified.found
    (IsOnly (ReadsAt c.args.signature.now c.args.scope.now r c.args.sort.now))) raw
    (qualified_only c.args.signature.now c.args.scope.now c.in-Qualified.term.value c.in-Qualified.own
    c.in-Qualified.field-2 c.args.sort.now c.in_ok-found-in-Qualified.found
    ((bytes_eq-Decides c.in-Qualified.own.name c.args.sort.now).0
    (not_false (bytes_eq c.in-Qualified.own.name c.args.sort.now) (sym c.ne.ensures ∙ c.if-ne.false)))
    (subst (λ r. IfSome c.in_ok-found-in-Qualified.found
    (IsOnly (ReadsAt c.args.signature.now c.args.scope.now r c.args.sort.now))) c.deref.ensures
    c.in_ok-found-in-Qualified.ensures))

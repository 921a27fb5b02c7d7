use Rattle.std.proofs.Common.{◌≡◌, ◌∙◌, ◌<◌, IfSome, Contains, bytes_eq, sym, ap, subst, arith}
use Rattle.std.specs.Option.{option_copied}
use Rattle.std.proofs.lemmas.Slice.Eq.{bytes_eq-Decides}
use Rattle.larch_raw.specs.RawTree.{apply, raw_forest}
use Rattle.larch_raw.specs.RawView.{view_node}
use Rattle.larch_term.specs.Tree.{app, forest_of}
use Rattle.larch_sorts_signature.specs.SortsMeaningReadings.{ReadAt, ReadsAt}
use Rattle.larch_sorts_signature.specs.SortsMeaningSignature.{operators_named, taking_part}
use Rattle.larch_sorts.proofs.OnlyReadings.{not_false}
use Rattle.larch_sorts.proofs.Picked.{operator_picked, picked_next, picked_taken, qualified_picked, variable_picked}
use Rattle.larch_sorts.proofs.pick.+pick.Goals as goal

pub all_picked-loop-i-preserved : goal.all_picked-loop-i-preserved
all_picked-loop-i-preserved t c =
    picked_next c.args.signature.now c.args.scope.now c.as_slice-arguments.result.now c.args.sorts.now c.loop-i.i
    c.loop-i.readings c.push.new.self c.index-arguments-i.result c.index-sorts-i.result c.in-Some.reading
    (subst (λ n. c.loop-i.i < n) (sym c.if-arguments-sorts.false) c.loop-i-test.true) c.loop-i-test.true
    c.index-arguments-i.is c.index-sorts-i.is c.in_ok-push.ensures.ok c.loop-i.invariant
    (subst
    (λ o. IfSome o (ReadsAt c.args.signature.now c.args.scope.now c.index-arguments-i.result
    c.index-sorts-i.result)) c.in-Some.is c.in_ok-found.ensures)

pub all_picked-returns : goal.all_picked-returns
all_picked-returns t c =
    subst (λ raws. ReadAt c.args.signature.now c.args.scope.now raws c.args.sorts.now c.loop-i.readings)
    c.as_slice-arguments.ensures
    (picked_taken c.args.signature.now c.args.scope.now c.as_slice-arguments.result.now c.args.sorts.now c.loop-i.i
    c.loop-i.readings c.if-arguments-sorts.false
    (let over = c.loop-i-test.false in omega arith) c.loop-i.invariant)

pub picked_at-returns-in-Some : goal.picked_at-returns-in-Some
picked_at-returns-in-Some t c =
    subst (λ r. IfSome c.in_ok-found-in-Apply.found (ReadsAt c.args.signature.now c.args.scope.now r c.args.sort.now))
    (ap view_node (sym c.in-Apply.is) ∙ c.node.ensures)
    (variable_picked c.args.signature.now c.args.scope.now c.in-Apply.name c.in-Some.own.now
    (raw_forest c.in-Apply.arguments) c.in-Apply.field-2 c.args.sort.now c.in_ok-found-in-Apply.found
    (sym c.variable_sort.ensures ∙ ap option_copied c.in-Some.is) c.in_ok-found-in-Apply.ensures)

pub picked_at-returns-in_ok-reading-in-Apply : goal.picked_at-returns-in_ok-reading-in-Apply
picked_at-returns-in_ok-reading-in-Apply t c =
    subst (λ r. ReadsAt c.args.signature.now c.args.scope.now r c.args.sort.now c.in_ok-reading-in-Apply.reading)
    (ap view_node (sym c.in-Apply.is) ∙ c.node.ensures)
    (subst (ReadsAt c.args.signature.now c.args.scope.now
    (apply c.in-Apply.name (raw_forest c.in-Apply.arguments) c.in-Apply.field-2) c.args.sort.now)
    (sym (c.in_ok-reading-in-Apply.ensures ∙ ap (λ us. app c.in-Some-2.operator (forest_of us)) c.into_vec.ensures))
    (operator_picked c.args.signature.now c.args.scope.now c.in-Apply.name c.in-Apply.arguments c.in-Apply.field-2
    c.args.sort.now c.in-Some-2.operator c.in-Some-3.readings
    (sym c.variable_sort.ensures ∙ ap option_copied c.in_default.is)
    (subst
    (λ o. IfSome o (λ f. Contains (operators_named c.in-Apply.name (taking_part c.args.signature.now)) f
    × (f.range ≡ c.args.sort.now))) c.in-Some-2.is c.in_ok-operator-in-Apply.ensures)
    (subst (λ ss. ReadAt c.args.signature.now c.args.scope.now c.in-Apply.arguments ss c.in-Some-3.readings)
    c.domain-domain.ensures
    (subst
    (λ o. IfSome o (ReadAt c.args.signature.now c.args.scope.now c.in-Apply.arguments c.domain-domain.result.now))
    c.in-Some-3.is c.in_ok-readings-in-Apply.ensures))))

pub picked_at-returns-in_ok-found-in-Qualified : goal.picked_at-returns-in_ok-found-in-Qualified
picked_at-returns-in_ok-found-in-Qualified t c =
    subst (λ r. IfSome c.in_ok-found-in-Qualified.found
    (ReadsAt c.args.signature.now c.args.scope.now r c.args.sort.now))
    (ap view_node (sym c.in-Qualified.is) ∙ c.node.ensures)
    (qualified_picked c.args.signature.now c.args.scope.now c.in-Qualified.term.value c.in-Qualified.own
    c.in-Qualified.field-2 c.args.sort.now c.in_ok-found-in-Qualified.found
    ((bytes_eq-Decides c.in-Qualified.own.name c.args.sort.now).0
    (not_false (bytes_eq c.in-Qualified.own.name c.args.sort.now) (sym c.ne.ensures ∙ c.if-ne.false)))
    (subst (λ r. IfSome c.in_ok-found-in-Qualified.found
    (ReadsAt c.args.signature.now c.args.scope.now r c.args.sort.now)) c.deref.ensures
    c.in_ok-found-in-Qualified.ensures))

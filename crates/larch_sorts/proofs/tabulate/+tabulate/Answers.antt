use Rattle.std.proofs.Common.{◌≡◌, ◌∙◌, Some, None, sym, ap, subst, arith, map, length}
use Rattle.std.specs.Option.{option_copied}
use Rattle.std.proofs.lemmas.Result.{err_from_is_err_and}
use Rattle.larch_raw.specs.RawTree.{apply, raw_forest, qualified}
use Rattle.larch_raw.specs.RawView.{view_node}
use Rattle.larch_sorts_signature.specs.SortsMeaningRead.{unread_in}
use Rattle.larch_sorts_signature.specs.SortsMeaningParts.{parts_of, inner_parts}
use Rattle.larch_sorts_signature.specs.SortsMeaningReadings.{Reads}
use Rattle.larch_sorts.specs.Tabulate.{TableTells}
use Rattle.larch_sorts_signature.specs.Overloads.{IsMade}
use Rattle.larch_sorts_signature.specs.SortsMeaningSignature.{operators_named, taking_part}
use Rattle.larch_base.specs.declared.code.Code.TheVariants.{NoReading}
use Rattle.larch_sorts_signature.specs.SortsMeaningFaults.{fault, fault_at}
use Rattle.larch_sorts.proofs.Tables.{application_tells, variable_tells, narrowed_tells, unread_here, read_here}
use Rattle.larch_sorts.proofs.Tables.{all_tell_next}
use Rattle.larch_sorts_signature.proofs.SortsMeaningUnread.{variable_read, argument_read}
use Rattle.larch_sorts_signature.proofs.SortsMeaningUnread.{arguments_unread, nothing_unread}
use Rattle.larch_sorts.proofs.tabulate.+tabulate.Goals as goal

pub table_from_parts-returns-in-Some-clause-tells : goal.table_from_parts-returns-in-Some-clause-tells
table_from_parts-returns-in-Some-clause-tells t c =
    let raw : apply c.in-Apply.name (raw_forest c.in-Apply.arguments) c.in-Apply.field-2 ≡ c.args.raw.now =
    ap view_node (sym c.in-Apply.is) ∙ c.node.ensures in
    subst (λ r. TableTells c.in_ok-table-in-Apply.table.found.value.entries
    (Reads c.args.signature.now c.args.scope.now r)) raw
    (variable_tells c.args.signature.now c.args.scope.now c.in-Apply.name c.in-Some.sort.now
    (raw_forest c.in-Apply.arguments) c.in-Apply.field-2 c.in_ok-table-in-Apply.table.found.value.entries
    (sym c.variable_sort.ensures ∙ ap option_copied c.in-Some.is) c.in_ok-table-in-Apply.ensures)

pub table_from_parts-returns-in-Some-clause-read : goal.table_from_parts-returns-in-Some-clause-read
table_from_parts-returns-in-Some-clause-read t c =
    let raw : apply c.in-Apply.name (raw_forest c.in-Apply.arguments) c.in-Apply.field-2 ≡ c.args.raw.now =
    ap view_node (sym c.in-Apply.is) ∙ c.node.ensures in
    subst (λ r. unread_in c.args.signature.now c.args.scope.now (inner_parts r) ≡ None) raw
    (variable_read c.args.signature.now c.args.scope.now c.in-Apply.name c.in-Some.sort.now
    (raw_forest c.in-Apply.arguments) (sym c.variable_sort.ensures ∙ ap option_copied c.in-Some.is))

pub table_from_parts-returns-in_ok-table-in-Apply-2-clause-tells
    : goal.table_from_parts-returns-in_ok-table-in-Apply-2-clause-tells
table_from_parts-returns-in_ok-table-in-Apply-2-clause-tells t c =
    let raw : apply c.in-Apply.name (raw_forest c.in-Apply.arguments) c.in-Apply.field-2 ≡ c.args.raw.now =
    ap view_node (sym c.in-Apply.is) ∙ c.node.ensures in
    subst (λ r. TableTells c.in_ok-table-in-Apply-2.table.found.value.entries
    (Reads c.args.signature.now c.args.scope.now r)) raw
    (application_tells c.args.signature.now c.args.scope.now c.in-Apply.name c.in-Apply.arguments c.in-Apply.field-2
    c.in_ok-table-in-Apply-2.table.found.value.entries
    (map (λ t. t.found.value.entries) c.in_ok-tables-in-Apply.tables)
    (sym c.variable_sort.ensures ∙ ap option_copied c.in_default.is) c.in_ok-tables-in-Apply.ensures.tell
    (subst (λ ts. IsMade c.in_ok-table-in-Apply-2.table.found.value.entries (map (λ t. t.found.value.entries) ts)
    (operators_named c.in-Apply.name (taking_part c.args.signature.now))) c.as_slice.ensures
    (subst (IsMade c.in_ok-table-in-Apply-2.table.found.value.entries
    (map (λ t. t.found.value.entries) c.as_slice.result.now)) c.named.ensures c.in_ok-table-in-Apply-2.ensures)))

pub table_from_parts-returns-in_ok-narrow-in-Qualified-clause-tells
    : goal.table_from_parts-returns-in_ok-narrow-in-Qualified-clause-tells
table_from_parts-returns-in_ok-narrow-in-Qualified-clause-tells t c =
    let raw : qualified c.in-Qualified.term.value c.in-Qualified.sort c.in-Qualified.field-2 ≡ c.args.raw.now =
    ap view_node (sym c.in-Qualified.is) ∙ c.node.ensures in
    subst (λ r. TableTells c.in_ok-narrow-in-Qualified.narrow.found.value.entries
    (Reads c.args.signature.now c.args.scope.now r)) raw
    (narrowed_tells c.args.signature.now c.args.scope.now c.in-Qualified.term.value c.in-Qualified.sort
    c.in-Qualified.field-2 c.in_ok-table-in-Qualified.table.found.value.entries
    c.in_ok-narrow-in-Qualified.narrow.found.value.entries
    (subst (λ r. TableTells c.in_ok-table-in-Qualified.table.found.value.entries
    (Reads c.args.signature.now c.args.scope.now r)) c.deref.ensures c.in_ok-table-in-Qualified.ensures.tells)
    c.in_ok-narrow-in-Qualified.ensures)

pub table_of-returns-then-is_empty-clause-unread : goal.table_of-returns-then-is_empty-clause-unread
table_of-returns-then-is_empty-clause-unread t c =
    ap (fault_at NoReading) (unread_here c.args.signature.now c.args.scope.now c.args.raw.now
    c.in_ok-table.table.found.value.entries
    (ap (λ m. length m.entries) (sym c.deref.ensures) ∙ c.is_empty.ensures.0 c.if-is_empty.true)
    c.in_ok-table.ensures.read c.in_ok-table.ensures.tells)
    ∙ ap (λ pos. Some (fault NoReading pos)) (sym c.head_of.ensures)

pub table_of-returns-clause-read : goal.table_of-returns-clause-read
table_of-returns-clause-read t c =
    read_here c.args.signature.now c.args.scope.now c.args.raw.now c.in_ok-table.table.found.value.entries
    (λ e. let some = c.if-is_empty.false in
    let none = c.is_empty.ensures.1 (ap (λ m. length m.entries) c.deref.ensures ∙ e) in cc)
    c.in_ok-table.ensures.read c.in_ok-table.ensures.tells

pub tables_of-returns-in_err-table-clause-unread : goal.tables_of-returns-in_err-table-clause-unread
tables_of-returns-in_err-table-clause-unread t c =
    let p = err_from_is_err_and c.from_residual.result c.from_residual.ensures.1 in
    rw (p.1, p.2)
    (arguments_unread c.args.signature.now c.args.scope.now c.in_err-table.field-0.0
    c.as_slice-argument-items.result.now c.loop-argument.argument-index c.argument-item.result
    (unread_in c.args.signature.now c.args.scope.now (parts_of (raw_forest c.args.arguments.now)))
    c.loop-argument-test.true c.argument-item.is c.loop-argument.invariant.1 c.in_err-table.ensures.unread)

pub tables_of-loop-argument-preserved : goal.tables_of-loop-argument-preserved
tables_of-loop-argument-preserved t c = (
  all_tell_next (λ t. t.found.value.entries) c.args.signature.now c.args.scope.now c.loop-argument.tables
      c.push.new.self c.in_ok-table.table c.as_slice-argument-items.result.now c.loop-argument.argument-index
      c.argument-item.result c.loop-argument-test.true c.argument-item.is c.in_ok-push.ensures.ok
      c.loop-argument.invariant.0 c.in_ok-table.ensures.tells,
  sym (argument_read c.args.signature.now c.args.scope.now c.as_slice-argument-items.result.now
      c.loop-argument.argument-index c.argument-item.result c.loop-argument-test.true c.argument-item.is
      c.in_ok-table.ensures.read)
      ∙ c.loop-argument.invariant.1,
)

pub tables_of-returns-clause-read : goal.tables_of-returns-clause-read
tables_of-returns-clause-read t c =
    let over = c.loop-argument-test.false in
    sym c.loop-argument.invariant.1
    ∙ nothing_unread c.args.signature.now c.args.scope.now c.as_slice-argument-items.result.now
    c.loop-argument.argument-index (omega arith)

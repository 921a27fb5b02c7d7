use Rattle.std.proofs.Common.{◌≡◌, ◌∙◌, Some, IfSome, ap, map, subst, sym, arith, length, suc}
use Rattle.std.specs.Option.{option_copied}
use Rattle.std.proofs.lemmas.Result.{err_from_is_err_and}
use Rattle.larch_sorts_meaning.specs.RawRawTree.{raw_forest}
use Rattle.larch_sorts_meaning.specs.RawRawView.{view_node}
use Rattle.larch_sorts_meaning.specs.BaseCodeCode.TheVariants.{NoReading}
use Rattle.larch_sorts_counts.specs.Count.{count_at, sum_to}
use Rattle.larch_sorts_counts.specs.Counted.{counts_in}
use Rattle.larch_sorts_counts.specs.Counts.{AllCounts, AreCounts, AreRead}
use Rattle.larch_sorts_meaning.specs.Faults.{fault, fault_at}
use Rattle.larch_sorts_meaning.specs.Parts.{inner_parts, parts, parts_of}
use Rattle.larch_sorts_meaning.specs.Read.{unread_in}
use Rattle.larch_sorts_counts.specs.declared.count.Count.TheVariants.{Never}
use Rattle.larch_sorts_counts.proofs.CountsTold.{all_counts_next, application_counted, variable_counted, word_counted}
use Rattle.larch_sorts_counts.proofs.CountsTold.{counts_read, counts_unread, qualified_told, unread_outside}
use Rattle.larch_sorts_meaning.proofs.Unread.{argument_read, arguments_unread, nothing_inside, nothing_unread}
use Rattle.larch_sorts_meaning.proofs.Unread.{variable_read}
use Rattle.larch_sorts_counts.proofs.counts.+counts.Goals as goal

pub counts_from_parts-returns-in-Some-clause-counts : goal.counts_from_parts-returns-in-Some-clause-counts
counts_from_parts-returns-in-Some-clause-counts t c =
    subst (λ r. AreCounts c.args.numbers.now c.args.scope.now r (counts_in c.in_ok-counted-in-Apply.counted))
    (ap view_node (sym c.in-Apply.is) ∙ c.node.ensures)
    (variable_counted c.args.numbers.now c.args.scope.now c.in-Apply.name c.in-Some.sort.now
    (raw_forest c.in-Apply.arguments) c.in-Apply.field-2 (counts_in c.in_ok-counted-in-Apply.counted)
    (sym c.variable_sort.ensures ∙ ap option_copied c.in-Some.is) c.in_ok-counted-in-Apply.ensures)

pub counts_from_parts-returns-in-Some-clause-read : goal.counts_from_parts-returns-in-Some-clause-read
counts_from_parts-returns-in-Some-clause-read t c =
    subst (λ r. AreRead c.args.numbers.now c.args.scope.now (inner_parts r))
    (ap view_node (sym c.in-Apply.is) ∙ c.node.ensures)
    (λ fs are. variable_read fs c.args.scope.now c.in-Apply.name c.in-Some.sort.now (raw_forest c.in-Apply.arguments)
    (sym c.variable_sort.ensures ∙ ap option_copied c.in-Some.is))

pub counts_from_parts-returns-in-Some-word-clause-counts : goal.counts_from_parts-returns-in-Some-word-clause-counts
counts_from_parts-returns-in-Some-word-clause-counts t c =
    subst (λ r. AreCounts c.args.numbers.now c.args.scope.now r (counts_in c.in_ok-counted-in-Apply-2.counted))
    (ap view_node (sym c.in-Apply.is) ∙ c.node.ensures)
    (word_counted c.args.numbers.now c.args.scope.now c.in-Apply.name c.in-Apply.arguments c.in-Apply.field-2
    c.in-Some-word.counts.now (counts_in c.in_ok-counted-in-Apply-2.counted)
    (sym c.variable_sort.ensures ∙ ap option_copied c.in_default.is) c.in-Some-word.ensures
    c.in_ok-counted-in-Apply-2.ensures)

pub counts_from_parts-returns-in-Some-word-clause-read : goal.counts_from_parts-returns-in-Some-word-clause-read
counts_from_parts-returns-in-Some-word-clause-read t c =
    subst (λ r. AreRead c.args.numbers.now c.args.scope.now (inner_parts r))
    (ap view_node (sym c.in-Apply.is) ∙ c.node.ensures)
    (λ fs are. nothing_inside fs c.args.scope.now c.in-Apply.arguments c.in-Some-word.ensures.0)

pub counts_from_parts-returns-in_ok-counted-in-Apply-3-clause-counts
    : goal.counts_from_parts-returns-in_ok-counted-in-Apply-3-clause-counts
counts_from_parts-returns-in_ok-counted-in-Apply-3-clause-counts t c =
    subst (λ r. AreCounts c.args.numbers.now c.args.scope.now r (counts_in c.in_ok-counted-in-Apply-3.counted))
    (ap view_node (sym c.in-Apply.is) ∙ c.node.ensures)
    (application_counted c.args.numbers.now c.args.scope.now c.in-Apply.name c.in-Apply.arguments c.in-Apply.field-2
    (map counts_in c.in-Some-2.arguments) (counts_in c.in_ok-counted-in-Apply-3.counted)
    (sym c.variable_sort.ensures ∙ ap option_copied c.in_default.is)
    (subst
    (λ o. IfSome o (λ all. AllCounts c.args.numbers.now c.args.scope.now c.in-Apply.arguments (map counts_in all)))
    c.in-Some-2.is c.in_ok-arguments-in-Apply.ensures.counts)
    c.in_ok-counted-in-Apply-3.ensures)

pub counts_from_parts-returns-in_ok-counted-in-Qualified-2-clause-counts
    : goal.counts_from_parts-returns-in_ok-counted-in-Qualified-2-clause-counts
counts_from_parts-returns-in_ok-counted-in-Qualified-2-clause-counts t c =
    subst (λ r. IfSome c.in_ok-counted-in-Qualified-2.counted
    (λ now. AreCounts c.args.numbers.now c.args.scope.now r (counts_in now)))
    (ap view_node (sym c.in-Qualified.is) ∙ c.node.ensures)
    (qualified_told counts_in c.args.numbers.now c.args.scope.now c.in-Qualified.term.value c.in-Qualified.sort
    c.in-Qualified.field-2 c.in-Some-3.counted c.in_ok-counted-in-Qualified-2.counted
    (subst (λ o. IfSome o (λ x. AreCounts c.args.numbers.now c.args.scope.now c.in-Qualified.term.value (counts_in x)))
    c.in-Some-3.is
    (subst (λ r. IfSome c.in_ok-counted-in-Qualified.field-0
    (λ x. AreCounts c.args.numbers.now c.args.scope.now r (counts_in x))) c.deref.ensures
    c.in_ok-counted-in-Qualified.ensures.counts))
    c.in_ok-counted-in-Qualified-2.ensures)

pub counts_of-returns-in_err-counted-clause-unread : goal.counts_of-returns-in_err-counted-clause-unread
counts_of-returns-in_err-counted-clause-unread t c =
    let p = err_from_is_err_and c.from_residual.result c.from_residual.ensures.1 in
    rw (p.1, p.2) (unread_outside c.args.numbers.now c.args.scope.now c.args.raw.now c.in_err-counted.field-0.0
    c.in_err-counted.ensures.unread)

pub counts_of-returns-in-Never-clause-unread : goal.counts_of-returns-in-Never-clause-unread
counts_of-returns-in-Never-clause-unread t c = λ fs are.
    let counts : AreCounts c.args.numbers.now c.args.scope.now c.args.raw.now (counts_in c.in-Some.counted) =
    subst (λ o. IfSome o (λ x. AreCounts c.args.numbers.now c.args.scope.now c.args.raw.now (counts_in x))) c.in-Some.is
    c.in_ok-counted.ensures.counts in
    let read : AreRead c.args.numbers.now c.args.scope.now (inner_parts c.args.raw.now) =
    subst (λ o. IfSome o (λ x. AreRead c.args.numbers.now c.args.scope.now (inner_parts c.args.raw.now))) c.in-Some.is
    c.in_ok-counted.ensures.read in
    let total : sum_to (count_at (counts_in c.in-Some.counted)) (suc (length c.args.numbers.now.sorts.keys)) ≡ Never =
    sym (ap (λ n. sum_to (count_at (counts_in c.in-Some.counted)) (suc n)) c.len.ensures)
    ∙ sym c.total.ensures ∙ c.in-Never.is in
    ap (fault_at NoReading) (counts_unread c.args.numbers.now c.args.scope.now c.args.raw.now
    (counts_in c.in-Some.counted) counts total read fs are)
    ∙ ap (λ pos. Some (fault NoReading pos)) (sym c.head_of.ensures)

pub counts_of-returns : goal.counts_of-returns
counts_of-returns t c =
    let counts : AreCounts c.args.numbers.now c.args.scope.now c.args.raw.now (counts_in c.in-Some.counted) =
    subst (λ o. IfSome o (λ x. AreCounts c.args.numbers.now c.args.scope.now c.args.raw.now (counts_in x))) c.in-Some.is
    c.in_ok-counted.ensures.counts in
    let read : AreRead c.args.numbers.now c.args.scope.now (inner_parts c.args.raw.now) =
    subst (λ o. IfSome o (λ x. AreRead c.args.numbers.now c.args.scope.now (inner_parts c.args.raw.now))) c.in-Some.is
    c.in_ok-counted.ensures.read in
    record {
      counts = counts;
      read = counts_read c.args.numbers.now c.args.scope.now c.args.raw.now (counts_in c.in-Some.counted) counts
          (λ e. c.in_default-total.not-Never
          (c.total.ensures ∙ ap (λ n. sum_to (count_at (counts_in c.in-Some.counted)) (suc n)) c.len.ensures ∙ e))
          read;
      unread = tt;
    }

pub counts_of_all-returns-in_err-counted-clause-unread : goal.counts_of_all-returns-in_err-counted-clause-unread
counts_of_all-returns-in_err-counted-clause-unread t c =
    let p = err_from_is_err_and c.from_residual.result c.from_residual.ensures.1 in
    rw (p.1, p.2)
    (λ fs are. arguments_unread fs c.args.scope.now c.in_err-counted.field-0.0 c.as_slice-argument-items.result.now
    c.loop-argument.argument-index c.argument-item.result
    (unread_in fs c.args.scope.now (parts_of (raw_forest c.args.arguments.now))) c.loop-argument-test.true
    c.argument-item.is (c.loop-argument.invariant.1 fs are) (c.in_err-counted.ensures.unread fs are))

pub counts_of_all-loop-argument-preserved : goal.counts_of_all-loop-argument-preserved
counts_of_all-loop-argument-preserved t c =
    let counts : AreCounts c.args.numbers.now c.args.scope.now c.argument-item.result (counts_in c.in-Some.counted) =
    subst (λ o. IfSome o (λ x. AreCounts c.args.numbers.now c.args.scope.now c.argument-item.result (counts_in x)))
    c.in-Some.is c.in_ok-counted.ensures.counts in
    let read : AreRead c.args.numbers.now c.args.scope.now (parts c.argument-item.result) =
    subst (λ o. IfSome o (λ x. AreRead c.args.numbers.now c.args.scope.now (parts c.argument-item.result))) c.in-Some.is
    c.in_ok-counted.ensures.read in
    let never : count_at (counts_in c.in-Some.counted) (length c.args.numbers.now.sorts.keys) ≡ Never =
    sym (ap (count_at (counts_in c.in-Some.counted)) c.len.ensures) ∙ sym c.count_at.ensures ∙ c.in-Never.is in (
      all_counts_next counts_in c.args.numbers.now c.args.scope.now c.as_slice-argument-items.result.now
          c.loop-argument.argument-index c.loop-argument.all c.push.new.self c.argument-item.result c.in-Some.counted
          c.loop-argument-test.true c.argument-item.is c.in_ok-push.ensures.ok c.loop-argument.invariant.0 counts never,
      λ fs are.
          sym (argument_read fs c.args.scope.now c.as_slice-argument-items.result.now c.loop-argument.argument-index
          c.argument-item.result c.loop-argument-test.true c.argument-item.is (read fs are))
          ∙ c.loop-argument.invariant.1 fs are,
    )

pub counts_of_all-returns-clause-read : goal.counts_of_all-returns-clause-read
counts_of_all-returns-clause-read t c = λ fs are.
    let over = c.loop-argument-test.false in
    sym (c.loop-argument.invariant.1 fs are)
    ∙ nothing_unread fs c.args.scope.now c.as_slice-argument-items.result.now c.loop-argument.argument-index
    (omega arith)

use Rattle.std.proofs.Common.{◌≡◌, sym, ap, subst, ◌∙◌, not, Ok, Err, Some, arith}
use Rattle.std.specs.Prelude.{bytes_eq, IfSome}
use Rattle.std.proofs.lemmas.Result.{err_from_is_err_and}
use Rattle.larch_base_meaning.specs.Steps.{all_taken}
use Rattle.larch_flat_sources.proofs.TraitsItemsSteps.{step_refused, step_taken}
use Rattle.larch_flat_sources.specs.FlatMeaningGathered.{nothing}
use Rattle.larch_flat_sources.specs.Sources.{name_at}
use Rattle.larch_flat.specs.Known.{KeepsTold, stop_told}
use Rattle.larch_flat.specs.Parts.{parts_of, with_reference}
use Rattle.larch_flat.proofs.Files.{bad_text, other_name}
use Rattle.larch_flat.proofs.Steps.{references_refused, rest_told, told_kept}
use Rattle.larch_flat.proofs.Targets.{fewer, unfolded}
use Rattle.larch_flat.proofs.flattening.+flatten.Goals as goal

pub take_references-returns-in_err-found-clause-taken : goal.take_references-returns-in_err-found-clause-taken
take_references-returns-in_err-found-clause-taken t c =
    let p = err_from_is_err_and c.from_residual-in_err-found.result c.from_residual-in_err-found.ensures.1 in
    let sources = c.args.linked.now.sources.now in
    let left = c.loop-reference.invariant.left in
    rw (p.1, p.2)
    (step_refused (with_reference sources (name_at sources c.args.number)) c.args.references.now
    c.loop-reference.reference-index c.reference-item.result left.0 _
    c.loop-reference-test.true c.reference-item.is left.2 (stop_told c.in_err-found.field-0.0)
    (c.in_err-found.ensures.refused left.0))

pub take_references-see_to-requires : goal.take_references-see_to-requires
take_references-see_to-requires t c =
    let f =
    fewer c.args.linked.now.sources.now c.args.number c.args.references.now c.loop-reference.reference-index
    c.reference-item.result c.in_ok-found.found
    c.requires.references c.loop-reference-test.true c.reference-item.is c.in_ok-found.ensures.found in
    (omega (arith, f), (c.in_ok-found.ensures.found.within, (c.requires.links, c.loop-reference.invariant.knows)))

pub take_references-returns-in_err-take_target-clause-taken
    : goal.take_references-returns-in_err-take_target-clause-taken
take_references-returns-in_err-take_target-clause-taken t c =
    let p =
    err_from_is_err_and c.from_residual-in_err-take_target.result c.from_residual-in_err-take_target.ensures.1 in
    let sources = c.args.linked.now.sources.now in
    let left = c.loop-reference.invariant.left in
    rw (p.1, p.2)
    (step_refused (with_reference sources (name_at sources c.args.number)) c.args.references.now
    c.loop-reference.reference-index c.reference-item.result left.0 _
    c.loop-reference-test.true c.reference-item.is left.2 (stop_told c.in_err-take_target.field-0.0)
    (c.in_err-take_target.ensures c.args.number left.0 c.see_to.ensures.known c.in_ok-found.ensures.found left.1))

pub take_references-loop-reference-preserved : goal.take_references-loop-reference-preserved
take_references-loop-reference-preserved t c =
    let sources = c.args.linked.now.sources.now in
    let left = c.loop-reference.invariant.left in
    let p = told_kept c.take_target.new.store
    (with_reference sources (name_at sources c.args.number) c.reference-item.result left.0)
    (c.in_ok-take_target.ensures c.args.number left.0 c.see_to.ensures.known c.in_ok-found.ensures.found left.1) in
    record {
      knows = c.see_to.ensures.known;
      grows = λ m e. c.see_to.ensures.grows m (c.loop-reference.invariant.grows m e);
      left = (
        p.0,
        p.2,
        step_taken (with_reference sources (name_at sources c.args.number)) c.args.references.now
            c.loop-reference.reference-index c.reference-item.result left.0 _
            c.loop-reference-test.true c.reference-item.is left.2 p.0 p.1,
      );
    }

pub flat_of-returns-then-is_misnamed-clause-answer : goal.flat_of-returns-then-is_misnamed-clause-answer
flat_of-returns-then-is_misnamed-clause-answer t c =
    let sources = c.args.linked.now.sources.now in
    let name = name_at sources c.args.number in
    let named =
    subst (λ n. c.is_misnamed.result ≡ not (bytes_eq c.args.raw.now.name.name n)) c.name.ensures
    c.is_misnamed.ensures in
    other_name sources name c.args.raw.now (unfolded sources name) c.requires.text (sym named ∙ c.if-is_misnamed.true)

pub flat_of-returns-in_err-take_references-clause-answer : goal.flat_of-returns-in_err-take_references-clause-answer
flat_of-returns-in_err-take_references-clause-answer t c =
    let p = err_from_is_err_and c.from_residual.result c.from_residual.ensures.1 in
    let sources = c.args.linked.now.sources.now in
    let name = name_at sources c.args.number in
    let named =
    subst (λ n. c.is_misnamed.result ≡ not (bytes_eq c.args.raw.now.name.name n)) c.name.ensures
    c.is_misnamed.ensures in
    rw (p.1, p.2)
    (references_refused sources name c.args.raw.now (stop_told c.in_err-take_references.field-0.0) c.requires.text
    (sym named ∙ c.if-is_misnamed.false)
    (subst (λ rs. IfSome (stop_told c.in_err-take_references.field-0.0)
    (λ stop. all_taken (with_reference sources name) rs nothing ≡ Err stop)) c.as_slice-references.ensures
    c.in_err-take_references.ensures.taken))

pub flat_of-returns-in_err-flat-clause-answer : goal.flat_of-returns-in_err-flat-clause-answer
flat_of-returns-in_err-flat-clause-answer t c =
    let p = err_from_is_err_and c.from_residual-in_err-flat.result c.from_residual-in_err-flat.ensures.1 in
    let sources = c.args.linked.now.sources.now in
    let name = name_at sources c.args.number in
    let named =
    subst (λ n. c.is_misnamed.result ≡ not (bytes_eq c.args.raw.now.name.name n)) c.name.ensures
    c.is_misnamed.ensures in
    rw (p.1, p.2)
    (rest_told sources name c.args.raw.now c.take_references.new.store (Err c.in_err-flat.field-0.0) c.requires.text
    (sym named ∙ c.if-is_misnamed.false)
    (subst (λ rs. KeepsTold c.take_references.new.store (all_taken (with_reference sources name) rs nothing))
    c.as_slice-references.ensures c.in_ok-take_references.ensures.taken)
    (λ g k. c.in_err-flat.ensures g k))

pub flat_of-returns-clause-answer : goal.flat_of-returns-clause-answer
flat_of-returns-clause-answer t c =
    let sources = c.args.linked.now.sources.now in
    let name = name_at sources c.args.number in
    let named =
    subst (λ n. c.is_misnamed.result ≡ not (bytes_eq c.args.raw.now.name.name n)) c.name.ensures
    c.is_misnamed.ensures in
    rest_told sources name c.args.raw.now c.take_references.new.store (Ok c.in_ok-flat.flat) c.requires.text
    (sym named ∙ c.if-is_misnamed.false)
    (subst (λ rs. KeepsTold c.take_references.new.store (all_taken (with_reference sources name) rs nothing))
    c.as_slice-references.ensures c.in_ok-take_references.ensures.taken)
    (λ g k. c.in_ok-flat.ensures g k)

pub told_of-returns-in-Err-clause-answer : goal.told_of-returns-in-Err-clause-answer
told_of-returns-in-Err-clause-answer t c =
    let sources = c.args.linked.now.sources.now in
    let name = name_at sources c.args.number in
    ap parts_of (bad_text sources name c.in-Err.fault (unfolded sources name) (c.text.ensures ∙ ap Some c.in-Err.is))

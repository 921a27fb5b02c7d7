use Rattle.std.proofs.Common.{◌≡◌, ◌<◌, length, Some, None, sym, ◌∙◌, ap}
use Rattle.std.proofs.lemmas.Option.{slice_get_within}
use Rattle.larch_base.specs.ByNumber.{numbered}
use Rattle.larch_certificate.specs.declared.line.BoxPart.{BoxPart}
use Rattle.larch_verify_meaning.specs.Context.{find_open}
use Rattle.larch_verify_meaning.specs.Events.{part_operator}
use Rattle.larch_verify_pool.specs.Pooled.{operator_of}
use Rattle.larch_verify_history.specs.Past.{box_in, history_of}
use Rattle.larch_verify_decoding.proofs.Owned.{of_box, of_none}
use Rattle.larch_verify_decoding.proofs.symbols.box_operator.Goals as goal

pub returns-in_default-clause-operator : goal.returns-in_default-clause-operator
returns-in_default-clause-operator c =
    of_none (find_open (history_of c.args.pool.now c.args.context.now.past.now) c.args.of_box) c.args.number
    (c.in_default.ensures.known c.args.pool.now)

pub returns-in_default-numbered-clause-operator : goal.returns-in_default-numbered-clause-operator
returns-in_default-numbered-clause-operator c =
    of_box (find_open (history_of c.args.pool.now c.args.context.now.past.now) c.args.of_box)
    (box_in c.args.pool.now c.in-Some.known.now) c.args.number None
    (c.in-Some.ensures.known c.args.pool.now)
    (c.in_default-numbered.ensures ∙ ap (λ ps. numbered ps c.args.number) c.as_slice.ensures)

pub returns-clause-operator : goal.returns-clause-operator
returns-clause-operator c =
    c.in_ok-operator.ensures.number ∙ ap Some c.in_ok-symbol.ensures
    ∙ of_box (find_open (history_of c.args.pool.now c.args.context.now.past.now) c.args.of_box)
    (box_in c.args.pool.now c.in-Some.known.now) c.args.number
    (Some c.in-Some-numbered.part.now)
    (c.in-Some.ensures.known c.args.pool.now)
    (c.in-Some-numbered.ensures ∙ ap (λ ps. numbered ps c.args.number) c.as_slice.ensures)

pub returns-clause-within : goal.returns-clause-within
returns-clause-within c =
    slice_get_within c.operator.new.self.operators c.in_ok-operator.operator
    (operator_of c.in_ok-symbol.symbol) c.in_ok-operator.ensures.number

use Rattle.std.proofs.Common.{◌∙◌, Err, ap, drop}
use Rattle.std.specs.Prelude.{unwrap_or}
use Rattle.std.proofs.lemmas.Result.{err_from_is_err_and}
use Rattle.larch_grammar.specs.Machine.{as_reference}
use Rattle.larch_grammar.specs.declared.machine.Naming.TheVariants.{Lone}
use Rattle.larch_grammar.specs.declared.machine.State.TheVariants.{NeedForm}
use Rattle.larch_syntax.proofs.Fronts.{reference_told, tree_refused}
use Rattle.larch_syntax.proofs.Told.{reference_said}
use Rattle.larch_syntax.proofs.read.read_reference.Goals as goal

pub returns-in_err-whole-clause-answer : goal.returns-in_err-whole-clause-answer
returns-in_err-whole-clause-answer c =
    let p = err_from_is_err_and c.from_residual.result c.from_residual.ensures.1 in
    rw (p.1, p.2) (tree_refused as_reference c.args.tokens.now.end c.args.from (NeedForm Lone)
    (drop c.args.from c.args.tokens.now.tokens) c.in_err-whole.field-0.0 c.in_err-whole.ensures)

pub returns-in_err-whole-clause-grammar : goal.returns-in_err-whole-clause-grammar
returns-in_err-whole-clause-grammar c =
    let p = err_from_is_err_and c.from_residual.result c.from_residual.ensures.1 in
    rw (p.1, p.2)
    (reference_said c.args.tokens.now c.args.from (Err c.in_err-whole.field-0.0)
    (tree_refused as_reference c.args.tokens.now.end c.args.from (NeedForm Lone)
    (drop c.args.from c.args.tokens.now.tokens) c.in_err-whole.field-0.0 c.in_err-whole.ensures))

pub returns-clause-answer : goal.returns-clause-answer
returns-clause-answer c =
    reference_told c.args.tokens.now c.args.from c.in_ok-whole.field-0 c.unwrap_or.result c.as_reference.result
    c.tree_from.result
    c.in_ok-whole.ensures (c.unwrap_or.ensures ∙ ap (unwrap_or c.in_ok-whole.field-0.next) c.end.ensures)
    c.as_reference.ensures c.tree_from.ensures

pub returns-clause-grammar : goal.returns-clause-grammar
returns-clause-grammar c =
    reference_said c.args.tokens.now c.args.from c.tree_from.result
    (reference_told c.args.tokens.now c.args.from c.in_ok-whole.field-0 c.unwrap_or.result c.as_reference.result
    c.tree_from.result
    c.in_ok-whole.ensures (c.unwrap_or.ensures ∙ ap (unwrap_or c.in_ok-whole.field-0.next) c.end.ensures)
    c.as_reference.ensures c.tree_from.ensures)

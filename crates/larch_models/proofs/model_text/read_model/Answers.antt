use Rattle.std.proofs.Common.{◌≡◌, [], Ok, Err, true, ◌∙◌, sym, ap, subst}
use Rattle.std.specs.Prelude.{bytes_eq}
use Rattle.larch_certificate_text.specs.ListText.{split_at}
use Rattle.larch_models_meaning.specs.ModelText.{read_model, read_sorts}
use Rattle.larch_models.specs.Reading.{IfForm}
use Rattle.larch_models.proofs.ModelLines.{form_same, header_cut, not_so}
use Rattle.larch_models.proofs.Rests.{if_err, if_ok}
use Rattle.larch_models.proofs.model_text.read_model.Goals as goal

pub returns-clause-read : goal.returns-clause-read
returns-clause-read c =
    let fs = c.args.theory.now.operators in
    let lines = split_at 10 c.in-Some.rest.now in
    if_ok (λ model. read_sorts c.as_slice-2.result.now [] 2 lines ≡ Ok model)
    (λ model. read_model fs c.args.text.now ≡ Ok model) c.read_lines.result
    (λ model e.
    header_cut fs c.args.text.now c.in-Some.first.now c.in-Some.rest.now c.in-Some.ensures.some
    (subst (λ us. bytes_eq c.in-Some.first.now us ≡ true) c.as_slice.ensures (not_so _ c.if-ne.ensures))
    ∙ ap (λ gs. read_sorts gs [] 2 lines) (sym c.as_slice-2.ensures) ∙ e) c.read_lines.ensures.read

pub returns-clause-refused : goal.returns-clause-refused
returns-clause-refused c =
    let fs = c.args.theory.now.operators in
    let lines = split_at 10 c.in-Some.rest.now in
    if_err (λ refusal. IfForm refusal (λ n. read_sorts c.as_slice-2.result.now [] 2 lines ≡ Err n))
    (λ refusal. IfForm refusal (λ n. read_model fs c.args.text.now ≡ Err n)) c.read_lines.result
    (λ refusal.
    form_same refusal (read_sorts c.as_slice-2.result.now [] 2 lines) (read_model fs c.args.text.now)
    (header_cut fs c.args.text.now c.in-Some.first.now c.in-Some.rest.now c.in-Some.ensures.some
    (subst (λ us. bytes_eq c.in-Some.first.now us ≡ true) c.as_slice.ensures (not_so _ c.if-ne.ensures))
    ∙ ap (λ gs. read_sorts gs [] 2 lines) (sym c.as_slice-2.ensures))) c.read_lines.ensures.refused

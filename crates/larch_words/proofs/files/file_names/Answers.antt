use Rattle.std.proofs.Common.{rules, ◌∙◌, ap, sym, []}
use Rattle.std.specs.Result.{IsErrOf}
use Rattle.std.proofs.lemmas.Result.{err_from_is_err_and}
use Rattle.larch_base.specs.FileName.{is_file_name}
use Rattle.larch_base.specs.declared.file_name.NameRefusal.TheVariants.{NotAName}
use Rattle.larch_words.proofs.Given.{all_but}
use Rattle.larch_words.proofs.files.file_names.Goals as goal

pub returns-in_err-name-clause-other_form : goal.returns-in_err-name-clause-other_form
returns-in_err-name-clause-other_form c e =
    let p = err_from_is_err_and c.from_residual.result c.from_residual.ensures.1 in
    let refused : IsErrOf c.new.result NotAName = search rules in
    all_but (λ word. word.now) is_file_name c.args.words.now c.loop-word.word-index
    (record { ref_ptr = (0, 0); now = [] })
    c.loop-word-test.true (ap is_file_name (sym c.as_bytes.ensures.value) ∙ c.new.ensures.other_form refused)

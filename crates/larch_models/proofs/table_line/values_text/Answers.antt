use Rattle.larch_models.proofs.TableWords.{two_words}
use Rattle.larch_models.proofs.table_line.values_text.Goals as goal

pub returns-in_err-place-clause-none : goal.returns-in_err-place-clause-none
returns-in_err-place-clause-none c =
    rw c.from_residual-in_err-place.ensures (λ last f.
    two_words c.args.line.now c.in_ok-word.word.now c.in_ok-word.rest.now last c.args.number f
    c.in_ok-word.ensures.some c.in_err-place.ensures.none)

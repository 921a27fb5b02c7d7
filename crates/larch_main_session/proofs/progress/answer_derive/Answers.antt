-- What is written is the text of what was derived.
use Rattle.larch_main_session.proofs.progress.answer_derive.Goals as goal

pub returns-clause-reply : goal.returns-clause-reply
returns-clause-reply g c = record {
  derivation = c.in_ok-derived.derived;
  derives = c.in_ok-derived.ensures.derived;
  is_text = c.in_ok-text.ensures;
}

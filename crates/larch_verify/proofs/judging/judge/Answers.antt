use Rattle.std.proofs.Common.{◌∷◌, sym, ◌∙◌, ap}
use Rattle.std.specs.List.{slice_get}
use Rattle.larch_term.specs.Statement.{statement_zero}
use Rattle.larch_verify_meaning.specs.Run.{judge}
use Rattle.larch_verify_history.specs.Past.{history_of}
use Rattle.larch_verify.proofs.judging.judge.Goals as goal

pub returns-in_ok-stated-in-Axiom-clause-within : goal.returns-in_ok-stated-in-Axiom-clause-within
returns-in_ok-stated-in-Axiom-clause-within c =
    c.in_ok-stated-in-Axiom.ensures.within c.args.pool.now c.requires.axioms.within

pub returns-in_ok-stated-in-Axiom-clause-says : goal.returns-in_ok-stated-in-Axiom-clause-says
returns-in_ok-stated-in-Axiom-clause-says c =
    c.in_ok-stated-in-Axiom.ensures.says c.args.pool.now
    ∙ ap (λ ss. slice_get (statement_zero ∷ ss) c.in-Axiom.number) c.requires.axioms.says
    ∙ ap (judge c.args.theory.now (history_of c.args.pool.now c.args.past.now)) (sym c.in-Axiom.is)

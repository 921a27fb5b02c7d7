use Rattle.std.specs.Prelude.{◌+◌, length}
use Rattle.std.proofs.Common.{ap, subst, sym}
use Rattle.larch_derive.proofs.Growth.{extends_trans}
use Rattle.larch_prove_opening.proofs.Stating.{lemmas_stated, own_stated, stated_stay}
use Rattle.larch_prove_opening.proofs.opening.open_facts.Goals as goal
use Rattle.larch_prove_opening.specs.Stating.{AreStated, duties_of, what_state}
use Rattle.larch_store.proofs.Growth.{grows_trans}

pub add_axioms-requires-clause-stated : goal.add_axioms-requires-clause-stated
add_axioms-requires-clause-stated c =
    subst (AreStated c.args.builder.now 1) (sym c.as_slice-statements.ensures)
    (own_stated c.args.builder.now c.args.theory.now (what_state (duties_of c.args.lemmas.now)) c.requires.theory
    c.requires.stands c.requires.sorted)

pub add_axioms-requires-clause-said : goal.add_axioms-requires-clause-said
add_axioms-requires-clause-said c = c.in_ok-facts.ensures.said c.args.builder.now

pub add_lemmas-requires-clause-stated : goal.add_lemmas-requires-clause-stated
add_lemmas-requires-clause-stated c =
    stated_stay c.args.builder.now c.add_axioms.new.builder _ (what_state (duties_of c.args.lemmas.now))
    c.in_ok-add_axioms.ensures.extends
    (lemmas_stated c.args.builder.now c.args.theory.now (duties_of c.args.lemmas.now) _ c.requires.theory
    c.requires.stands c.requires.lemmas (ap (λ xs. length xs + 1) c.as_slice-statements.ensures))

pub returns-in_err-add_lemmas-clause-grows : goal.returns-in_err-add_lemmas-clause-grows
returns-in_err-add_lemmas-clause-grows c =
    grows_trans _ _ _ c.in_ok-add_axioms.ensures.grows c.in_err-add_lemmas.ensures.grows

pub returns-in_err-add_lemmas-clause-extends : goal.returns-in_err-add_lemmas-clause-extends
returns-in_err-add_lemmas-clause-extends c =
    extends_trans _ _ _ c.in_ok-add_axioms.ensures.extends c.in_err-add_lemmas.ensures.extends

pub returns-clause-grows : goal.returns-clause-grows
returns-clause-grows c = grows_trans _ _ _ c.in_ok-add_axioms.ensures.grows c.in_ok-add_lemmas.ensures.grows

pub returns-clause-extends : goal.returns-clause-extends
returns-clause-extends c = extends_trans _ _ _ c.in_ok-add_axioms.ensures.extends c.in_ok-add_lemmas.ensures.extends

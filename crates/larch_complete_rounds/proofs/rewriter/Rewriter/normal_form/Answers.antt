use Rattle.std.specs.Prelude.{refl}
use Rattle.std.proofs.Common.{subst, sym}
use Rattle.std.proofs.lemmas.Result.{err_from_is_err_and}
use Rattle.larch_complete_rounds.proofs.Reducing.{start_tells}
use Rattle.larch_complete_rounds.proofs.rewriter.Rewriter.normal_form.Goals as goal
use Rattle.larch_derive.specs.Predicates.{HasEquation, Known}
use Rattle.larch_derive.proofs.Growth.{extends_refl}
use Rattle.larch_rewrite.proofs.RuleSets.{belongs_on, serves_still}
use Rattle.larch_store.specs.Numbered.{term_of}
use Rattle.larch_store.proofs.Growth.{grows_trans}
use Rattle.larch_term.specs.Tree.{Tree}

pub returns-in_err-start-clause-refused : goal.returns-in_err-start-clause-refused
returns-in_err-start-clause-refused c =
    let p = err_from_is_err_and c.from_residual.result c.from_residual.ensures.1 in
    rw (p.1, p.2) (start_tells _ _ _ _ c.in_err-start.ensures.refused)

pub returns-in_err-start-clause-extends : goal.returns-in_err-start-clause-extends
returns-in_err-start-clause-extends c = extends_refl _

pub normalise-requires-clause-kept : goal.normalise-requires-clause-kept
normalise-requires-clause-kept c =
    belongs_on _ _ c.args.self.now.rules c.in_ok-start.ensures.grows c.requires.ready.belongs

pub returns-in_err-normal-clause-grows : goal.returns-in_err-normal-clause-grows
returns-in_err-normal-clause-grows c = grows_trans _ _ _ c.in_ok-start.ensures.grows c.in_err-normal.ensures.grows

pub returns-in_err-normal-clause-extends : goal.returns-in_err-normal-clause-extends
returns-in_err-normal-clause-extends c =
    c.in_err-normal.ensures.extends
    (subst (Known c.args.self.now.builder) (sym c.in_ok-start.ensures.term) c.requires.known)
    (serves_still _ _ _ _ _ refl c.in_ok-start.ensures.grows c.requires.ready)

pub returns-clause-says : goal.returns-clause-says
returns-clause-says c =
    subst
    (λ (t : Tree). HasEquation c.normalise.new.builder c.in_ok-normal.normal.line t
    (term_of c.in_ok-normal.normal.form)) c.in_ok-start.ensures.term
    (c.in_ok-normal.ensures.says
    (subst (Known c.args.self.now.builder) (sym c.in_ok-start.ensures.term) c.requires.known)
    (serves_still _ _ _ _ _ refl c.in_ok-start.ensures.grows c.requires.ready))

pub returns-clause-grows : goal.returns-clause-grows
returns-clause-grows c = grows_trans _ _ _ c.in_ok-start.ensures.grows c.in_ok-normal.ensures.grows

pub returns-clause-extends : goal.returns-clause-extends
returns-clause-extends c =
    c.in_ok-normal.ensures.extends
    (subst (Known c.args.self.now.builder) (sym c.in_ok-start.ensures.term) c.requires.known)
    (serves_still _ _ _ _ _ refl c.in_ok-start.ensures.grows c.requires.ready)

pub returns-clause-ready : goal.returns-clause-ready
returns-clause-ready c =
    c.in_ok-normal.ensures.serves
    (subst (Known c.args.self.now.builder) (sym c.in_ok-start.ensures.term) c.requires.known)
    (serves_still _ _ _ _ _ refl c.in_ok-start.ensures.grows c.requires.ready)

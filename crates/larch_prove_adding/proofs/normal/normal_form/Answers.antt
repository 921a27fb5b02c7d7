use Rattle.std.proofs.lemmas.Result.{err_from_is_err_and}
use Rattle.larch_derive.proofs.Growth.{extends_refl}
use Rattle.larch_prove_adding.proofs.Staying.{belongs_further}
use Rattle.larch_prove_adding.proofs.Views.{start_tells}
use Rattle.larch_prove_adding.proofs.normal.normal_form.Goals as goal
use Rattle.larch_store.proofs.Growth.{grows_trans}

pub returns-in_err-start-clause-refused : goal.returns-in_err-start-clause-refused
returns-in_err-start-clause-refused c =
    let p = err_from_is_err_and c.from_residual.result c.from_residual.ensures.1 in
    rw (p.1, p.2) (start_tells _ _ _ _ c.in_err-start.ensures.refused)

pub returns-in_err-start-clause-extends : goal.returns-in_err-start-clause-extends
returns-in_err-start-clause-extends c = extends_refl _

pub normalise-requires-clause-kept : goal.normalise-requires-clause-kept
normalise-requires-clause-kept c =
    belongs_further _ _ c.args.facts.now.rules c.in_ok-start.ensures.grows c.requires.kept

pub returns-in_err-normal-clause-grows : goal.returns-in_err-normal-clause-grows
returns-in_err-normal-clause-grows c = grows_trans _ _ _ c.in_ok-start.ensures.grows c.in_err-normal.ensures.grows

pub returns-clause-grows : goal.returns-clause-grows
returns-clause-grows c = grows_trans _ _ _ c.in_ok-start.ensures.grows c.in_ok-normal.ensures.grows

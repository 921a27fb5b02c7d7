use Rattle.std.proofs.lemmas.Result.{err_from_is_err_and}
use Rattle.larch_prove_adding.proofs.Staying.{absurd_stays}
use Rattle.larch_prove_adding.proofs.Views.{made_now, said_now, serving_now, tells_now}
use Rattle.larch_prove_adding.proofs.facts.Facts.normalise.Goals as goal

pub returns-in_err-normal-clause-refused : goal.returns-in_err-normal-clause-refused
returns-in_err-normal-clause-refused c =
    let p = err_from_is_err_and c.from_residual.result c.from_residual.ensures.1 in
    rw (p.1, p.2)
    (tells_now c.args.self.now c.self.inside.rules c.self.inside.absurd c.self.inside.count _ _ _ c.self.view_is
    c.self.invariant c.in_err-normal.ensures.refused)

pub returns-in_err-normal-clause-extends : goal.returns-in_err-normal-clause-extends
returns-in_err-normal-clause-extends c =
    c.in_err-normal.ensures.extends c.requires.known
    (serving_now _ _ c.args.self.now c.self.inside.rules c.self.inside.absurd c.self.view_is c.requires.kept
    c.requires.said)

pub returns-clause-made : goal.returns-clause-made
returns-clause-made c =
    made_now c.args.self.now c.self.inside.rules c.self.inside.absurd c.self.inside.count _ _ _ _ c.self.view_is
    c.self.invariant c.in_ok-normal.ensures.made

pub returns-clause-says : goal.returns-clause-says
returns-clause-says c =
    c.in_ok-normal.ensures.says c.requires.known
    (serving_now _ _ c.args.self.now c.self.inside.rules c.self.inside.absurd c.self.view_is c.requires.kept
    c.requires.said)

pub returns-clause-extends : goal.returns-clause-extends
returns-clause-extends c =
    c.in_ok-normal.ensures.extends c.requires.known
    (serving_now _ _ c.args.self.now c.self.inside.rules c.self.inside.absurd c.self.view_is c.requires.kept
    c.requires.said)

pub returns-clause-said : goal.returns-clause-said
returns-clause-said c =
    let s = serving_now _ _ c.args.self.now c.self.inside.rules c.self.inside.absurd c.self.view_is c.requires.kept
    c.requires.said in
    let g = c.in_ok-normal.ensures.serves c.requires.known s in (
      (g.said, g.led),
      absurd_stays _ _ _ (c.in_ok-normal.ensures.extends c.requires.known s)
          (said_now _ c.args.self.now c.self.inside.rules c.self.inside.absurd c.self.view_is c.requires.said).1,
    )

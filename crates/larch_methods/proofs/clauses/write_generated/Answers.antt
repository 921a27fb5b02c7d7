use Rattle.larch_derive.proofs.Growth.{extends_grows, grows_trans}
use Rattle.larch_methods.proofs.Shown.{numbers_still, shows_generated}
use Rattle.larch_methods.proofs.clauses.write_generated.Goals as goal

pub returns-clause-says : goal.returns-clause-says
returns-clause-says c a fs e k =
    let i = k.inside in
    let g = c.in_ok-close_box.ensures.grows a i.opened k.box _ _ _ i.opens i.grows k.says in
    let r = c.in_ok-close_box.ensures.result a i.opened k.box _ _ _ i.opens i.grows k.says in
    c.in_ok-said.ensures.says fs (numbers_still a _ c.args.operators fs g e) k.ranges
    (shows_generated a _ _ _ _ _ _ k g r)

pub returns-clause-grows : goal.returns-clause-grows
returns-clause-grows c a fs e k =
    let i = k.inside in
    let g = c.in_ok-close_box.ensures.grows a i.opened k.box _ _ _ i.opens i.grows k.says in
    let r = c.in_ok-close_box.ensures.result a i.opened k.box _ _ _ i.opens i.grows k.says in
    grows_trans a _ _ g (extends_grows _ _
    (c.in_ok-said.ensures.extends fs (numbers_still a _ c.args.operators fs g e) k.ranges
    (shows_generated a _ _ _ _ _ _ k g r)))

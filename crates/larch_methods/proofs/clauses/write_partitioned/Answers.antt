use Rattle.larch_derive.proofs.Growth.{extends_grows, grows_trans}
use Rattle.larch_methods.proofs.Shown.{numbers_still, shows_partitioned}
use Rattle.larch_methods.proofs.clauses.write_partitioned.Goals as goal

pub returns-clause-says : goal.returns-clause-says
returns-clause-says c a os e k =
    let i = k.inside in
    let x = c.in_ok-same.ensures.extends _ _ _ k.says in
    let j = grows_trans i.opened _ _ i.grows (extends_grows _ _ x) in
    let q = c.in_ok-same.ensures.says _ _ _ k.says in
    let g = c.in_ok-close_box.ensures.grows a i.opened k.box _ _ _ i.opens j q in
    let r = c.in_ok-close_box.ensures.result a i.opened k.box _ _ _ i.opens j q in
    c.in_ok-said.ensures.says os (numbers_still a _ c.args.operators os g e) k.domains
    (shows_partitioned a _ _ _ _ _ _ k g r)

pub returns-clause-grows : goal.returns-clause-grows
returns-clause-grows c a os e k =
    let i = k.inside in
    let x = c.in_ok-same.ensures.extends _ _ _ k.says in
    let j = grows_trans i.opened _ _ i.grows (extends_grows _ _ x) in
    let q = c.in_ok-same.ensures.says _ _ _ k.says in
    let g = c.in_ok-close_box.ensures.grows a i.opened k.box _ _ _ i.opens j q in
    let r = c.in_ok-close_box.ensures.result a i.opened k.box _ _ _ i.opens j q in
    grows_trans a _ _ g (extends_grows _ _
    (c.in_ok-said.ensures.extends os (numbers_still a _ c.args.operators os g e) k.domains
    (shows_partitioned a _ _ _ _ _ _ k g r)))

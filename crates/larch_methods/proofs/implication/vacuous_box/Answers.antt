use Rattle.std.specs.Prelude.{false, refl}
use Rattle.larch_term.specs.BuiltIn.{built_in, bool_sort}
use Rattle.larch_term.specs.Truth.{truth}
use Rattle.larch_term.specs.declared.built_in.BuiltIn.TheVariants.{Implies}
use Rattle.larch_derive.proofs.Growth.{extends_grows, extends_trans}
use Rattle.larch_derive_clauses.proofs.DeriveBoxesSupposing.{opens_is_open}
use Rattle.larch_methods.proofs.Connectives.{only_arguments}
use Rattle.larch_methods.proofs.Settled.{premise_known, premise_settles}
use Rattle.larch_methods.proofs.Sharing.{formula_inside, shows_of}
use Rattle.larch_methods.proofs.implication.vacuous_box.Goals as goal

pub returns-clause-shows : goal.returns-clause-shows
returns-clause-shows c p q e k =
    let two = only_arguments _ _ _ (built_in Implies bool_sort) p q c.in_ok-two.ensures e in
    let o = c.in_ok-number.ensures.opens (premise_known _ _ p q _ e two.0 k) in
    let there = opens_is_open _ _ _ _ o in
    let x = c.in_ok-denied.ensures.extends _ _ _ refl there refl in
    let d = c.in_ok-denied.ensures.says _ _ _ refl there refl in
    let m = premise_settles _ _ p q _ _ _ e two.0 two.1 (formula_inside _ _ _ _ _ _ o x k) d in
    let g = extends_grows _ _ (extends_trans _ _ _ x (c.in_ok-line.ensures.extends truth m)) in
    let s = c.in_ok-line.ensures.says truth m in
    shows_of _ _ _ p _ false two.0 (c.in_ok-close_box.ensures.result _ _ _ _ _ truth o g s)

pub returns-clause-grows : goal.returns-clause-grows
returns-clause-grows c p q e k =
    let two = only_arguments _ _ _ (built_in Implies bool_sort) p q c.in_ok-two.ensures e in
    let o = c.in_ok-number.ensures.opens (premise_known _ _ p q _ e two.0 k) in
    let there = opens_is_open _ _ _ _ o in
    let x = c.in_ok-denied.ensures.extends _ _ _ refl there refl in
    let d = c.in_ok-denied.ensures.says _ _ _ refl there refl in
    let m = premise_settles _ _ p q _ _ _ e two.0 two.1 (formula_inside _ _ _ _ _ _ o x k) d in
    let g = extends_grows _ _ (extends_trans _ _ _ x (c.in_ok-line.ensures.extends truth m)) in
    let s = c.in_ok-line.ensures.says truth m in
    c.in_ok-close_box.ensures.grows _ _ _ _ _ truth o g s

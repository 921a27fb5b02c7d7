-- Trees are told apart by a code.
use Rattle.std.specs.Prelude.{◌≡◌, ℕ, List}
use base.Stored.{Gv, gnil, gnum, gcons}
use Rattle.std.specs.Coded.{Coded, coded_ℕ, coded_list}
use Rattle.larch_term.specs.Operator.{coded_operator}
use Rattle.larch_term.specs.Tree.{Tree, Forest, var, app, none, more}

abbrev pub text : Coded (List ℕ)
text = coded_list coded_ℕ

abbrev mutual
  pub tree_code : Tree → Gv
  tree_code (var n s) = gcons (gnum 0) (gcons (text.code n) (text.code s))
  tree_code (app f ts) = gcons (gnum 1) (gcons (coded_operator.code f) (forest_code ts))

  pub forest_code : Forest → Gv
  forest_code none = gnil
  forest_code (more t ts) = gcons (tree_code t) (forest_code ts)

mutual
  pub tree_inj : (t u : Tree) → tree_code t ≡ tree_code u → t ≡ u
  tree_inj (var n s) (var m r) p =
      let a : text.code n ≡ text.code m = cc in
      let b : text.code s ≡ text.code r = cc in
      cc (text.inj n m a, text.inj s r b)
  tree_inj (var n s) (app g us) p = cc
  tree_inj (app f ts) (var m r) p = cc
  tree_inj (app f ts) (app g us) p =
      let a : coded_operator.code f ≡ coded_operator.code g = cc in
      let b : forest_code ts ≡ forest_code us = cc in
      cc (coded_operator.inj f g a, forest_inj ts us b)

  pub forest_inj : (ts us : Forest) → forest_code ts ≡ forest_code us → ts ≡ us
  forest_inj none none p = cc
  forest_inj none (more u us) p = cc
  forest_inj (more t ts) none p = cc
  forest_inj (more t ts) (more u us) p =
      let a : tree_code t ≡ tree_code u = cc in
      let b : forest_code ts ≡ forest_code us = cc in
      cc (tree_inj t u a, forest_inj ts us b)

abbrev pub coded_tree : Coded Tree
coded_tree = record { code = tree_code; inj = tree_inj }

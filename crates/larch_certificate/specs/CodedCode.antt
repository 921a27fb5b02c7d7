-- Terms of certificates are told apart by a code.
use Rattle.std.specs.Prelude.{◌≡◌, ℕ, List}
use base.Stored.{Gv, gnil, gnum, gcons}
use Rattle.std.specs.Coded.{Coded, coded_ℕ, coded_list}
use Rattle.larch_certificate.specs.SymbolCode.{coded_symbol}
use Rattle.larch_certificate.specs.Coded.{CodedTree, CodedForest, coded_var, coded_app, no_terms, term_then}

abbrev pub text : Coded (List ℕ)
text = coded_list coded_ℕ

abbrev mutual
  pub coded_tree_code : CodedTree → Gv
  coded_tree_code (coded_var n s) = gcons (gnum 0) (gcons (text.code n) (text.code s))
  coded_tree_code (coded_app f ts) = gcons (gnum 1) (gcons (coded_symbol.code f) (coded_forest_code ts))

  pub coded_forest_code : CodedForest → Gv
  coded_forest_code no_terms = gnil
  coded_forest_code (term_then t ts) = gcons (coded_tree_code t) (coded_forest_code ts)

mutual
  pub coded_tree_inj : (t u : CodedTree) → coded_tree_code t ≡ coded_tree_code u → t ≡ u
  coded_tree_inj (coded_var n s) (coded_var m r) p =
      let a : text.code n ≡ text.code m = cc in
      let b : text.code s ≡ text.code r = cc in
      cc (text.inj n m a, text.inj s r b)
  coded_tree_inj (coded_var n s) (coded_app g us) p = cc
  coded_tree_inj (coded_app f ts) (coded_var m r) p = cc
  coded_tree_inj (coded_app f ts) (coded_app g us) p =
      let a : coded_symbol.code f ≡ coded_symbol.code g = cc in
      let b : coded_forest_code ts ≡ coded_forest_code us = cc in
      cc (coded_symbol.inj f g a, coded_forest_inj ts us b)

  pub coded_forest_inj : (ts us : CodedForest) → coded_forest_code ts ≡ coded_forest_code us → ts ≡ us
  coded_forest_inj no_terms no_terms p = cc
  coded_forest_inj no_terms (term_then u us) p = cc
  coded_forest_inj (term_then t ts) no_terms p = cc
  coded_forest_inj (term_then t ts) (term_then u us) p =
      let a : coded_tree_code t ≡ coded_tree_code u = cc in
      let b : coded_forest_code ts ≡ coded_forest_code us = cc in
      cc (coded_tree_inj t u a, coded_forest_inj ts us b)

abbrev pub coded_coded_tree : Coded CodedTree
coded_coded_tree = record { code = coded_tree_code; inj = coded_tree_inj }

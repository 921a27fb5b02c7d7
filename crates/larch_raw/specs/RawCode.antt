-- Raw trees are told apart by a code.
use Rattle.std.specs.Prelude.{◌≡◌, ℕ, List, refl}
use base.Stored.{Gv, gnil, gnum, gcons}
use Rattle.std.specs.Coded.{Coded, code_by, coded×, coded_ℕ, coded_list}
use Rattle.larch_base.specs.declared.position.Pos.{Pos}
use Rattle.larch_base.specs.contracts.Pos as pos_row
use Rattle.larch_raw.specs.declared.declared.RawWord.{RawWord}
use Rattle.larch_raw.specs.RawTree.{RawTree, RawForest, apply, qualified, no_more, one_more}

abbrev text : Coded (List ℕ)
text = coded_list coded_ℕ

abbrev position : Coded Pos
position = pos_row.the_row.coded

abbrev word : Coded RawWord
word =
    code_by (List ℕ × Pos) (coded× text position) (λ w. (w.name, w.pos))
    (λ p. record { name = p.0; pos = p.1 }) (λ _. refl)

abbrev mutual
  pub raw_code : RawTree → Gv
  raw_code (apply n ts p) = gcons (gnum 0) (gcons (text.code n) (gcons (position.code p) (raw_forest_code ts)))
  raw_code (qualified t w p) = gcons (gnum 1) (gcons (raw_code t) (gcons (word.code w) (position.code p)))

  pub raw_forest_code : RawForest → Gv
  raw_forest_code no_more = gnil
  raw_forest_code (one_more t ts) = gcons (raw_code t) (raw_forest_code ts)

mutual
  pub raw_inj : (t u : RawTree) → raw_code t ≡ raw_code u → t ≡ u
  raw_inj (apply n ts p) (apply m us q) e =
      let a : text.code n ≡ text.code m = cc in
      let b : position.code p ≡ position.code q = cc in
      let c : raw_forest_code ts ≡ raw_forest_code us = cc in
      cc (text.inj n m a, position.inj p q b, raw_forest_inj ts us c)
  raw_inj (apply n ts p) (qualified u w q) e = cc
  raw_inj (qualified t v p) (apply m us q) e = cc
  raw_inj (qualified t v p) (qualified u w q) e =
      let a : raw_code t ≡ raw_code u = cc in
      let b : word.code v ≡ word.code w = cc in
      let c : position.code p ≡ position.code q = cc in
      cc (raw_inj t u a, word.inj v w b, position.inj p q c)

  pub raw_forest_inj : (ts us : RawForest) → raw_forest_code ts ≡ raw_forest_code us → ts ≡ us
  raw_forest_inj no_more no_more e = cc
  raw_forest_inj no_more (one_more u us) e = cc
  raw_forest_inj (one_more t ts) no_more e = cc
  raw_forest_inj (one_more t ts) (one_more u us) e =
      let a : raw_code t ≡ raw_code u = cc in
      let b : raw_forest_code ts ≡ raw_forest_code us = cc in
      cc (raw_inj t u a, raw_forest_inj ts us b)

abbrev pub coded_raw_tree : Coded RawTree
coded_raw_tree = record { code = raw_code; inj = raw_inj }

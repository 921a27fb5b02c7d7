-- Shared terms are told apart by a code.
use Rattle.std.specs.Prelude.{◌≡◌}
use base.Stored.{Gv, gnil, gnum, gcons}
use Rattle.std.specs.Coded.{Coded}
use Rattle.larch_term.specs.Operator.{coded_operator}
use Rattle.larch_term.specs.TreeCode.{text}
use Rattle.larch_store.specs.Numbered.{Numbered, Several, leaf, branch, nothing, further}

abbrev mutual
  pub numbered_code : Numbered → Gv
  numbered_code (leaf k z n s) = gcons (gnum 0) (gcons (gnum k) (gcons (gnum z) (gcons (text.code n) (text.code s))))
  numbered_code (branch k z f xs) =
      gcons (gnum 1) (gcons (gnum k) (gcons (gnum z) (gcons (coded_operator.code f) (several_code xs))))

  pub several_code : Several → Gv
  several_code nothing = gnil
  several_code (further x xs) = gcons (numbered_code x) (several_code xs)

mutual
  pub numbered_inj : (x y : Numbered) → numbered_code x ≡ numbered_code y → x ≡ y
  numbered_inj (leaf k z n s) (leaf l w m r) p =
      let a : text.code n ≡ text.code m = cc in
      let b : text.code s ≡ text.code r = cc in
      cc (text.inj n m a, text.inj s r b)
  numbered_inj (leaf k z n s) (branch l w g ys) p = cc
  numbered_inj (branch k z f xs) (leaf l w m r) p = cc
  numbered_inj (branch k z f xs) (branch l w g ys) p =
      let a : coded_operator.code f ≡ coded_operator.code g = cc in
      let b : several_code xs ≡ several_code ys = cc in
      cc (coded_operator.inj f g a, several_inj xs ys b)

  pub several_inj : (xs ys : Several) → several_code xs ≡ several_code ys → xs ≡ ys
  several_inj nothing nothing p = cc
  several_inj nothing (further y ys) p = cc
  several_inj (further x xs) nothing p = cc
  several_inj (further x xs) (further y ys) p =
      let a : numbered_code x ≡ numbered_code y = cc in
      let b : several_code xs ≡ several_code ys = cc in
      cc (numbered_inj x y a, several_inj xs ys b)

abbrev pub coded_numbered : Coded Numbered
coded_numbered = record { code = numbered_code; inj = numbered_inj }

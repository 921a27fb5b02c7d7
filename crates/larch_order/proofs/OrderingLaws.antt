-- What holds of the ordering.
use Rattle.std.proofs.Common.{◌≡◌, ℕ, zero, suc, true, ◌&&◌, ◌||◌, List, [], ◌∷◌, Some, None, option_and_then, refl}
use Rattle.std.proofs.Common.{◌∙◌, ap}
use Rattle.std.specs.List.{list_any, list_all}
use Rattle.larch_term.specs.Operator.{PlainOperator}
use Rattle.larch_term.specs.Tree.{Tree, Forest, var, app, none, more, list_of}
use Rattle.larch_term.specs.Place.{at, argument}
use Rattle.larch_order.specs.declared.precedence.Ranked.{Ranked}
use Rattle.larch_term.specs.Equality.{same_tree}
use Rattle.larch_order.specs.Greater.{greater, some_reaches, heads_beat}
use Rattle.larch_term.proofs.Decided.{tree_Decides}
use Rattle.larch_base.proofs.Bools.{or_left, or_right}
use Rattle.larch_base.proofs.Options.{some_inj}
use Rattle.larch_order.proofs.Ordering.{reached_by, above_each}

-- an application is greater than a term by one of three cases
pub reaches_is : (ranks : List Ranked) (ss : Forest) (t : Tree)
    → some_reaches ranks ss t ≡ list_any (λ s. same_tree s t || greater ranks s t) (list_of ss)
reaches_is ranks none t = refl
reaches_is ranks (more s ss) t = ap (λ b. (same_tree s t || greater ranks s t) || b) (reaches_is ranks ss t)

pub greater_than_variable : (ranks : List Ranked) (f : PlainOperator) (ss : Forest) (n s : List ℕ)
    → greater ranks (app f ss) (var n s)
    ≡ list_any (λ u. same_tree u (var n s) || greater ranks u (var n s)) (list_of ss)
greater_than_variable ranks f ss n s = reaches_is ranks ss (var n s)

pub greater_than_application : (ranks : List Ranked) (f g : PlainOperator) (ss ts : Forest)
    → greater ranks (app f ss) (app g ts)
    ≡ (list_any (λ s. same_tree s (app g ts) || greater ranks s (app g ts)) (list_of ss)
    || (heads_beat ranks f ss g (list_of ts) && list_all (greater ranks (app f ss)) (list_of ts)))
greater_than_application ranks f g ss ts =
    ap (λ b. some_reaches ranks ss (app g ts) || (heads_beat ranks f ss g (list_of ts) && b)) (above_each ranks f ss ts)
    ∙ ap (λ b. b || (heads_beat ranks f ss g (list_of ts) && list_all (greater ranks (app f ss)) (list_of ts)))
    (reaches_is ranks ss (app g ts))

none_below : {u : Tree} → None ≡ Some u → ⊥
none_below e = cc

mutual
  -- a term is greater than what stands at a place below its root
  pub subterm_below : (ranks : List Ranked) (t u : Tree) (k : ℕ) (p : List ℕ) → at t (k ∷ p) ≡ Some u
      → greater ranks t u ≡ true
  subterm_below ranks (var n s) u k p e = absurd (none_below e)
  subterm_below ranks (app f ts) u k p e = reached_by ranks f ts u (argument_reaches ranks ts u k p e)

  argument_reaches : (ranks : List Ranked) (ts : Forest) (u : Tree) (k : ℕ) (p : List ℕ)
      → option_and_then (λ w. at w p) (argument ts k) ≡ Some u → some_reaches ranks ts u ≡ true
  argument_reaches ranks none u k p e = absurd (none_below e)
  argument_reaches ranks (more t ts) u zero p e = absurd (none_below e)
  argument_reaches ranks (more t ts) u (suc zero) [] e =
      or_left (same_tree t u || greater ranks t u) (some_reaches ranks ts u)
      (or_left (same_tree t u) (greater ranks t u) ((tree_Decides t u).1 (some_inj e)))
  argument_reaches ranks (more t ts) u (suc zero) (j ∷ q) e =
      or_left (same_tree t u || greater ranks t u) (some_reaches ranks ts u)
      (or_right (same_tree t u) (greater ranks t u) (subterm_below ranks t u j q e))
  argument_reaches ranks (more t ts) u (suc (suc k)) p e =
      or_right (same_tree t u || greater ranks t u) (some_reaches ranks ts u) (argument_reaches ranks ts u (suc k) p e)

-- The steps of a unification.
use Rattle.std.proofs.Common.{◌≡◌, ℕ, zero, suc, ◌<◌, ◌-◌, cond, false, List, [], ◌∷◌, ◌++◌, length, Some, None, Ok}
use Rattle.std.proofs.Common.{Err, All, AllPairs, arith, refl, ◌∙◌, ap, subst}
use Rattle.std.specs.List.{list_any}
use Rattle.std.proofs.lemmas.List.Elements.{All-head, All-tail}
use Rattle.larch_base.proofs.Bools.{or_both}
use Rattle.larch_base.proofs.Lists.{pairs_head, pairs_tail}
use Rattle.larch_term.specs.Substitution.{is_entry_of}
use Rattle.larch_term.specs.Tree.{Tree}
use Rattle.larch_term.specs.declared.substitution.Entry.{Entry}
use Rattle.larch_term.specs.declared.variable.Variable.{Variable}
use Rattle.larch_pairs.specs.Demand.{demand, first_demand}
use Rattle.larch_pairs.specs.Unify.{a_term_is_too_large, entry, extend, sides_under, some_large, unify, unify_from}
use Rattle.larch_pairs.specs.Unify.{variables_of_both}
use Rattle.larch_pairs.specs.declared.demand.Demand.TheVariants.{Nothing, Bind, Clash}
use Rattle.larch_pairs.specs.declared.demand.Sides.{Sides}

pub from_nothing : (n : ℕ) (bs : List Entry) → unify_from n Nothing bs ≡ Ok (Some bs)
unfolding unify_from
from_nothing zero bs = refl
from_nothing (suc n) bs = refl

pub from_clash : (n : ℕ) (bs : List Entry) → unify_from n Clash bs ≡ Ok None
unfolding unify_from
from_clash zero bs = refl
from_clash (suc n) bs = refl

pub from_zero : (v : Variable) (t : Tree) (es : List Sides) (bs : List Entry)
    → unify_from 0 (Bind v t es) bs ≡ Err a_term_is_too_large
unfolding unify_from
from_zero v t es bs = refl

pub from_bind : (n : ℕ) (v : Variable) (t : Tree) (es : List Sides) (bs : List Entry) → 0 < n
    → unify_from n (Bind v t es) bs
    ≡ cond (some_large (sides_under (entry v t ∷ []) es) (extend v t bs)) (Err a_term_is_too_large)
    (unify_from (n - 1) (first_demand (sides_under (entry v t ∷ []) es)) (extend v t bs))
unfolding unify_from
from_bind zero v t es bs h = absurd (omega arith)
from_bind (suc n) v t es bs h = let e : suc n - 1 ≡ n = omega arith in rw e refl

pub unify_is : (t u : Tree) → unify t u ≡ unify_from (length (variables_of_both t u)) (demand t u) []
unfolding unify
unify_is t u = refl

All-middle : {X : Type 0} (P : X → Type 0) (xs ys : List X) (x : X) → All P (xs ++ x ∷ ys) → P x
All-middle P [] ys x h = All-head P x ys h
All-middle P (z ∷ xs) ys x h = All-middle P xs ys x (All-tail P z (xs ++ x ∷ ys) h)

-- an entry has none of its variable before it
none_in_front : (ys zs : List Entry) (e : Entry) → AllPairs (λ d e. is_entry_of e.name e.sort d ≡ false) (ys ++ e ∷ zs)
    → list_any (is_entry_of e.name e.sort) ys ≡ false
none_in_front [] zs e h = refl
none_in_front (y ∷ ys) zs e h =
    or_both (is_entry_of e.name e.sort y) (list_any (is_entry_of e.name e.sort) ys)
    (All-middle (λ d. is_entry_of d.name d.sort y ≡ false) ys zs e
    (pairs_head (λ d e. is_entry_of e.name e.sort d ≡ false) y (ys ++ e ∷ zs) h))
    (none_in_front ys zs e (pairs_tail (λ d e. is_entry_of e.name e.sort d ≡ false) y (ys ++ e ∷ zs) h))

pub none_before : (es ys rs zs : List Entry) (e : Entry) → AllPairs (λ d e. is_entry_of e.name e.sort d ≡ false) es
    → es ≡ ys ++ rs → rs ≡ e ∷ zs
    → list_any (is_entry_of e.name e.sort) ys ≡ false
none_before es ys rs zs e h a b =
    none_in_front ys zs e (subst (AllPairs (λ d e. is_entry_of e.name e.sort d ≡ false)) (a ∙ ap (λ xs. ys ++ xs) b) h)

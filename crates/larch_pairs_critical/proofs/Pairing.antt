-- The steps of critical pairs.
use Rattle.std.proofs.Common.{◌≡◌, ℕ, Bool, true, false, List, [], ◌∷◌, drop, Option, Some, None, Result, Ok, Err, refl}
use Rattle.std.proofs.Common.{◌∙◌, ap}
use Rattle.larch_term.specs.Place.{at}
use Rattle.larch_term.specs.Tree.{Tree}
use Rattle.larch_term.specs.declared.substitution.Entry.{Entry}
use Rattle.larch_pairs_critical.specs.Pairs.{apart, critical_pairs, inner_places, name_variables, pair_at, pair_within}
use Rattle.larch_pairs_critical.specs.Pairs.{pairs_of, raw_pair, with_pair, with_pairs_at}
use Rattle.larch_pairs.specs.Unify.{Oversize, unify}
use Rattle.larch_pairs_critical.specs.declared.pair.Pair.{Pair}
use Rattle.larch_pairs_critical.specs.declared.pair.Rule.{Rule}
use Rattle.larch_pairs_critical.specs.declared.pair.Apart.{Apart}

pub of_apart : (r q : Rule) (b : Bool) → critical_pairs r q b ≡ pairs_of (apart 1 r) (apart 2 q) b
unfolding critical_pairs
of_apart r q b = refl

pub pairs_of_one : (one two : Apart) (b : Bool) → b ≡ true
    → pairs_of one two b ≡ with_pairs_at one two [] (drop 1 (inner_places one.rule.left))
pairs_of_one one two true e = refl
pairs_of_one one two false e = cc

pub pairs_of_two : (one two : Apart) (b : Bool) → b ≡ false
    → pairs_of one two b ≡ with_pairs_at one two [] (inner_places one.rule.left)
pairs_of_two one two true e = cc
pairs_of_two one two false e = refl

-- what a pair within the size becomes
abbrev pub named_within : Result Pair Oversize → Result (Option Pair) Oversize
named_within (Err e) = Err e
named_within (Ok q) = Ok (Some (name_variables q))

abbrev after_unifying : Apart → Apart → List ℕ → Result (Option (List Entry)) Oversize → Result (Option Pair) Oversize
after_unifying one two p (Err e) = Err e
after_unifying one two p (Ok None) = Ok None
after_unifying one two p (Ok (Some u)) = named_within (pair_within (raw_pair one two p u))

abbrev from_place : Apart → Apart → List ℕ → Option Tree → Result (Option Pair) Oversize
from_place one two p None = Ok None
from_place one two p (Some t) = after_unifying one two p (unify t two.rule.left)

pair_at_is : (one two : Apart) (p : List ℕ) → pair_at one two p ≡ from_place one two p (at one.rule.left p)
unfolding pair_at
pair_at_is one two p = refl

pub no_place : (one two : Apart) (p : List ℕ) → at one.rule.left p ≡ None → pair_at one two p ≡ Ok None
no_place one two p e = pair_at_is one two p ∙ ap (from_place one two p) e

pub no_unifier : (one two : Apart) (p : List ℕ) (t : Tree) → at one.rule.left p ≡ Some t
    → unify t two.rule.left ≡ Ok None → pair_at one two p ≡ Ok None
no_unifier one two p t e u = pair_at_is one two p ∙ ap (from_place one two p) e ∙ ap (after_unifying one two p) u

pub too_large : (one two : Apart) (p : List ℕ) (t : Tree) (o : Oversize) → at one.rule.left p ≡ Some t
    → unify t two.rule.left ≡ Err o → pair_at one two p ≡ Err o
too_large one two p t o e u = pair_at_is one two p ∙ ap (from_place one two p) e ∙ ap (after_unifying one two p) u

pub from_unifier : (one two : Apart) (p : List ℕ) (t : Tree) (u : List Entry) → at one.rule.left p ≡ Some t
    → unify t two.rule.left ≡ Ok (Some u)
    → pair_at one two p ≡ named_within (pair_within (raw_pair one two p u))
from_unifier one two p t u e f = pair_at_is one two p ∙ ap (from_place one two p) e ∙ ap (after_unifying one two p) f

pub too_wide : (one two : Apart) (p : List ℕ) (t : Tree) (u : List Entry) (o : Oversize) → at one.rule.left p ≡ Some t
    → unify t two.rule.left ≡ Ok (Some u)
    → pair_within (raw_pair one two p u) ≡ Err o → pair_at one two p ≡ Err o
too_wide one two p t u o e f g = from_unifier one two p t u e f ∙ ap named_within g

pub by_unifier : (one two : Apart) (p : List ℕ) (t : Tree) (u : List Entry) (q : Pair) → at one.rule.left p ≡ Some t
    → unify t two.rule.left ≡ Ok (Some u)
    → pair_within (raw_pair one two p u) ≡ Ok q → pair_at one two p ≡ Ok (Some (name_variables q))
by_unifier one two p t u q e f g = from_unifier one two p t u e f ∙ ap named_within g

abbrev pub after_pair : Apart → Apart → List Pair → List (List ℕ) → Result (Option Pair) Oversize
    → Result (List Pair) Oversize
after_pair one two found ps (Err e) = Err e
after_pair one two found ps (Ok q) = with_pairs_at one two (with_pair found q) ps

pub after_pair_is : (one two : Apart) (found : List Pair) (p : List ℕ) (ps : List (List ℕ))
    → with_pairs_at one two found (p ∷ ps) ≡ after_pair one two found ps (pair_at one two p)
after_pair_is one two found p ps = refl

pub next_pair : (one two : Apart) (found : List Pair) (p : List ℕ) (ps : List (List ℕ)) (q : Option Pair)
    → pair_at one two p ≡ Ok q
    → with_pairs_at one two found (p ∷ ps) ≡ with_pairs_at one two (with_pair found q) ps
next_pair one two found p ps q e = after_pair_is one two found p ps ∙ ap (after_pair one two found ps) e

pub no_pair : (one two : Apart) (found : List Pair) (p : List ℕ) (ps : List (List ℕ)) (o : Oversize)
    → pair_at one two p ≡ Err o
    → with_pairs_at one two found (p ∷ ps) ≡ Err o
no_pair one two found p ps o e = after_pair_is one two found p ps ∙ ap (after_pair one two found ps) e

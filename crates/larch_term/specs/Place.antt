-- Places of a term: lists of argument numbers, counted from 1, from the root down.
use Rattle.std.specs.Prelude.{ℕ, zero, suc, List, [], ◌∷◌, ◌++◌, map, Option, Some, None, option_and_then}
use Rattle.larch_term.specs.Tree.{Tree, Forest, var, app, none, more}

-- the argument with a number
abbrev pub argument : Forest → ℕ → Option Tree
argument none k = None
argument (more t ts) zero = None
argument (more t ts) (suc zero) = Some t
argument (more t ts) (suc (suc k)) = argument ts (suc k)

-- the subterm at a place, if the term has such a place
abbrev pub at : Tree → List ℕ → Option Tree
at t [] = Some t
at (var n s) (k ∷ p) = None
at (app f ts) (k ∷ p) = option_and_then (λ u. at u p) (argument ts k)

abbrev mutual
  -- the term with another one in the stead of what stands at a place; unchanged where it has no such place
  pub put : Tree → List ℕ → Tree → Tree
  put t [] u = u
  put (var n s) (k ∷ p) u = var n s
  put (app f ts) (k ∷ p) u = app f (put_in ts k p u)

  -- the arguments with another term at a place of the argument with a number
  pub put_in : Forest → ℕ → List ℕ → Tree → Forest
  put_in none k p u = none
  put_in (more t ts) zero p u = more t ts
  put_in (more t ts) (suc zero) p u = more (put t p u) ts
  put_in (more t ts) (suc (suc k)) p u = more t (put_in ts (suc k) p u)

abbrev mutual
  -- the subterms of a term, a node before its arguments, from left to right
  pub preorder : Tree → List Tree
  preorder (var n s) = var n s ∷ []
  preorder (app f ts) = app f ts ∷ preorder_all ts

  pub preorder_all : Forest → List Tree
  preorder_all none = []
  preorder_all (more t ts) = preorder t ++ preorder_all ts

abbrev mutual
  -- the places of a term, in the order of its subterms
  pub places : Tree → List (List ℕ)
  places (var n s) = [] ∷ []
  places (app f ts) = [] ∷ places_from 0 ts

  -- those below arguments before which a number of arguments stands
  pub places_from : ℕ → Forest → List (List ℕ)
  places_from k none = []
  places_from k (more t ts) = map (λ p. suc k ∷ p) (places t) ++ places_from (suc k) ts

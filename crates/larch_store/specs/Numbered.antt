-- Shared terms as definitions see them: trees whose nodes have numbers and sizes.
use Rattle.std.specs.Prelude.{ℕ, List, [], ◌∷◌}
use Rattle.larch_term.specs.Operator.{PlainOperator}
use Rattle.larch_term.specs.Tree.{Tree, Forest, var, app, none, more}

mutual
  -- a shared term: a number and a size, with a variable's name and sort or an operator and its arguments
  pub data Numbered : Type 0 where
    leaf : ℕ → ℕ → List ℕ → List ℕ → Numbered
    branch : ℕ → ℕ → PlainOperator → Several → Numbered

  -- the arguments of an operator, from left to right
  pub data Several : Type 0 where
    nothing : Several
    further : Numbered → Several → Several

abbrev mutual
  -- the term that a shared term is
  pub term_of : Numbered → Tree
  term_of (leaf k z n s) = var n s
  term_of (branch k z f xs) = app f (terms_of xs)

  pub terms_of : Several → Forest
  terms_of nothing = none
  terms_of (further x xs) = more (term_of x) (terms_of xs)

-- its number
abbrev pub number_of : Numbered → ℕ
number_of (leaf k z n s) = k
number_of (branch k z f xs) = k

-- its size
abbrev pub size_of : Numbered → ℕ
size_of (leaf k z n s) = z
size_of (branch k z f xs) = z

-- shared terms as arguments
abbrev pub several : List Numbered → Several
several [] = nothing
several (x ∷ xs) = further x (several xs)

-- arguments as a list
abbrev pub list_of_several : Several → List Numbered
list_of_several nothing = []
list_of_several (further x xs) = x ∷ list_of_several xs

-- the arguments of a shared term; a variable has none
abbrev pub children_of : Numbered → List Numbered
children_of (leaf k z n s) = []
children_of (branch k z f xs) = list_of_several xs

-- Coded terms, their arguments before them, and how they are read from such a list.
use Rattle.std.specs.Prelude.{ℕ, suc, ◌-◌, List, [], ◌∷◌, ◌++◌, length, take, drop, Option, Some, None, option_and_then}
use Rattle.larch_term.specs.Operator.{PlainOperator}
use Rattle.larch_term.specs.Sorts.{sorts_of}
use Rattle.larch_term.specs.Tree.{Tree, Forest, var, app, forest_of}
use Rattle.larch_certificate.specs.Coded.{CodedTree, CodedForest, coded_var, coded_app, no_terms, term_then}
use Rattle.larch_certificate.specs.declared.symbol.Symbol.{Symbol}
use Rattle.larch_verify_meaning.specs.Decoding.{applied_to}

abbrev mutual
  -- a term and all terms in it, from left to right and each behind its arguments
  pub postorder : CodedTree → List CodedTree
  postorder (coded_var n s) = coded_var n s ∷ []
  postorder (coded_app f cs) = postorder_all cs ++ coded_app f cs ∷ []

  pub postorder_all : CodedForest → List CodedTree
  postorder_all no_terms = []
  postorder_all (term_then c cs) = postorder c ++ postorder_all cs

-- those of several terms
abbrev pub postorders : List CodedTree → List CodedTree
postorders [] = []
postorders (c ∷ cs) = postorder c ++ postorders cs

-- how many arguments there are
abbrev pub count_of : CodedForest → ℕ
count_of no_terms = 0
count_of (term_then c cs) = suc (count_of cs)

-- what a symbol makes of the last values, args many args it has arguments, and what is left before them
abbrev pub value_of : (Symbol → List (List ℕ) → Option PlainOperator) → Symbol → List Tree → Option Tree
value_of find f ts = option_and_then (applied_to (forest_of ts)) (find f (sorts_of (forest_of ts)))

-- the values that are left behind all terms of a list: each takes those of its arguments
abbrev pub values_after : (Symbol → List (List ℕ) → Option PlainOperator) → List CodedTree → List Tree
    → Option (List Tree)
values_after find [] ts = Some ts
values_after find (coded_var n s ∷ cs) ts = values_after find cs (ts ++ var n s ∷ [])
values_after find (coded_app f args ∷ cs) ts =
    option_and_then (λ t. values_after find cs (take (length ts - count_of args) ts ++ t ∷ []))
    (value_of find f (drop (length ts - count_of args) ts))

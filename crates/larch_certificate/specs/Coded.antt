-- Terms of certificates as definitions see them: plain trees.
use Rattle.std.specs.Prelude.{◌≡◌, ℕ, ◌+◌, List, [], ◌∷◌, sum_by, refl}
use Rattle.std.proofs.lemmas.List.Recursion.{is_sum_by}
use Rattle.larch_certificate.specs.declared.symbol.Symbol.{Symbol}

mutual
  -- a term: a variable with its name and sort, or a symbol with its arguments
  pub data CodedTree : Type 0 where
    coded_var : List ℕ → List ℕ → CodedTree
    coded_app : Symbol → CodedForest → CodedTree

  -- the arguments of a symbol, from left to right
  pub data CodedForest : Type 0 where
    no_terms : CodedForest
    term_then : CodedTree → CodedForest → CodedForest

-- what holds of each argument
abbrev pub AllCoded : (CodedTree → Type 0) → CodedForest → Type 0
AllCoded P no_terms = Unit {0}
AllCoded P (term_then t ts) = P t × AllCoded P ts

-- induction on terms: what holds of variables, and of each application where it holds of all its arguments, holds
-- of each term
mutual
  pub coded_induction : (P : CodedTree → Type 0) → ((n s : List ℕ) → P (coded_var n s))
      → ((f : Symbol) (ts : CodedForest) → AllCoded P ts → P (coded_app f ts)) → (t : CodedTree) → P t
  coded_induction P v a (coded_var n s) = v n s
  coded_induction P v a (coded_app f ts) = a f ts (coded_forest_induction P v a ts)

  pub coded_forest_induction : (P : CodedTree → Type 0) → ((n s : List ℕ) → P (coded_var n s))
      → ((f : Symbol) (ts : CodedForest) → AllCoded P ts → P (coded_app f ts)) → (ts : CodedForest) → AllCoded P ts
  coded_forest_induction P v a no_terms = tt
  coded_forest_induction P v a (term_then t ts) = (coded_induction P v a t, coded_forest_induction P v a ts)

-- the trees of a list as arguments
abbrev pub coded_forest_of : List CodedTree → CodedForest
coded_forest_of [] = no_terms
coded_forest_of (t ∷ ts) = term_then t (coded_forest_of ts)

-- the arguments as a list
abbrev pub coded_list_of : CodedForest → List CodedTree
coded_list_of no_terms = []
coded_list_of (term_then t ts) = t ∷ coded_list_of ts

abbrev mutual
  -- how many nodes a term has
  pub coded_nodes : CodedTree → ℕ
  coded_nodes (coded_var n s) = 1
  coded_nodes (coded_app f ts) = 1 + coded_nodes_all ts

  -- how many nodes the arguments have together
  pub coded_nodes_all : CodedForest → ℕ
  coded_nodes_all no_terms = 0
  coded_nodes_all (term_then t ts) = coded_nodes t + coded_nodes_all ts

pub coded_nodes_all_is_sum : (ts : List CodedTree) → coded_nodes_all (coded_forest_of ts) ≡ sum_by coded_nodes ts
coded_nodes_all_is_sum ts = is_sum_by (λ us. coded_nodes_all (coded_forest_of us)) coded_nodes refl (λ _ _. refl) ts

-- The formula of a generator, joined as it is built.
use Rattle.std.proofs.Common.{◌≡◌, ℕ, suc, ◌+◌, ◌<◌, true, false, if◌then◌else◌, List, [], ◌∷◌, length, map, drop}
use Rattle.std.proofs.Common.{get_or, bytes_eq, Option, Some, None, refl, sym, ◌∙◌, ap}
use Rattle.std.proofs.lemmas.List.{drop_more}
use Rattle.larch_term.specs.Operator.{PlainOperator}
use Rattle.larch_term.specs.Sorts.{sort_of}
use Rattle.larch_term.specs.Tree.{Tree, var, app, more, forest_of}
use Rattle.larch_term.specs.declared.variable.Variable.{Variable}
use Rattle.larch_calculus.specs.Formula.{apply_one, conjunction}
use Rattle.larch_calculus.specs.Generation.{place_name, variables_from, variable_terms, holding, conjunction_from}
use Rattle.larch_calculus.specs.Generation.{implied_by, generation_formula}
use Rattle.larch_verify_clause_rules.specs.Inheriting.{holding_of, with_term, with_terms, following}
use Rattle.larch_verify_clause_rules.specs.Naming.{variables_named, variable_term}

named_from : (k : ℕ) (ds : List (List ℕ)) → variables_from k ds ≡ variables_named place_name k ds
named_from k [] = refl
named_from k (d ∷ ds) = ap (λ vs. record { name = place_name k; sort = d } ∷ vs) (named_from (suc k) ds)

terms_of : (vs : List Variable) → variable_terms vs ≡ forest_of (map variable_term vs)
terms_of [] = refl
terms_of (v ∷ vs) = ap (more (var v.name v.sort)) (terms_of vs)

holding_terms : (p : PlainOperator) (s : List ℕ) (vs : List Variable)
    → holding p s vs ≡ holding_of p s (map variable_term vs)
holding_terms p s [] = refl
holding_terms p s (v ∷ vs) =
    λ i. if bytes_eq v.sort s then apply_one p (var v.name v.sort) ∷ holding_terms p s vs i else holding_terms p s vs i

conjoined_with : (t : Tree) (us : List Tree) → with_terms (Some t) us ≡ Some (conjunction_from t us)
conjoined_with t [] = refl
conjoined_with t (u ∷ us) = conjoined_with (conjunction t u) us

implied : (us : List Tree) (t : Tree) → following (with_terms None us) t ≡ implied_by us t
implied [] t = refl
implied (u ∷ us) t = ap (λ o. following o t) (conjoined_with u us)

-- what follows from what holds of the variables is the generator's formula
pub formula_of : (p : PlainOperator) (s : List ℕ) (f : PlainOperator) (us : List Tree)
    → us ≡ map variable_term (variables_named place_name 1 f.domain)
    → following (with_terms None (holding_of p s us)) (apply_one p (app f (forest_of us))) ≡ generation_formula p s f
formula_of p s f us e =
    (λ i. following (with_terms None (holding_of p s ((e ∙ ap (map variable_term) (sym (named_from 1 f.domain))) i)))
    (apply_one p (app f (forest_of ((e ∙ ap (map variable_term) (sym (named_from 1 f.domain))) i)))))
    ∙ implied (holding_of p s (map variable_term (variables_from 1 f.domain)))
    (apply_one p (app f (forest_of (map variable_term (variables_from 1 f.domain)))))
    ∙ (λ i. implied_by (sym (holding_terms p s (variables_from 1 f.domain)) i)
    (apply_one p (app f (sym (terms_of (variables_from 1 f.domain)) i))))

-- the next term has the sort, or it hasn't
pub holding_yes : {X : Type 0} (tree : X → Tree) (p : PlainOperator) (s : List ℕ) (xs : List X) (i : ℕ) (d : X)
    (o : Option Tree)
    → i < length xs → bytes_eq (sort_of (tree (get_or xs i d))) s ≡ true
    → with_terms o (holding_of p s (map tree (drop i xs)))
    ≡ with_terms (Some (with_term o (apply_one p (tree (get_or xs i d))))) (holding_of p s (map tree (drop (i + 1) xs)))
holding_yes tree p s xs i d o l e =
    ap (λ ys. with_terms o (holding_of p s (map tree ys))) (drop_more xs i d l)
    ∙ ap
    (λ b. with_terms o (if b then apply_one p (tree (get_or xs i d))
    ∷ holding_of p s (map tree (drop (i + 1) xs)) else holding_of p s (map tree (drop (i + 1) xs)))) e

pub holding_no : {X : Type 0} (tree : X → Tree) (p : PlainOperator) (s : List ℕ) (xs : List X) (i : ℕ) (d : X)
    (o : Option Tree)
    → i < length xs → bytes_eq (sort_of (tree (get_or xs i d))) s ≡ false
    → with_terms o (holding_of p s (map tree (drop i xs))) ≡ with_terms o (holding_of p s (map tree (drop (i + 1) xs)))
holding_no tree p s xs i d o l e =
    ap (λ ys. with_terms o (holding_of p s (map tree ys))) (drop_more xs i d l)
    ∙ ap
    (λ b. with_terms o (if b then apply_one p (tree (get_or xs i d))
    ∷ holding_of p s (map tree (drop (i + 1) xs)) else holding_of p s (map tree (drop (i + 1) xs)))) e

-- What becomes of sorts that aren't named doesn't matter where all sorts are named.
use Rattle.std.proofs.Common.{◌≡◌, List, ℕ, All, map, false, cond, Some, refl, sym, ◌∙◌, ap}
use Rattle.std.specs.Prelude.{unwrap_or, find}
use Rattle.std.proofs.lemmas.List.Elements.{All-contains}
use Rattle.larch_base.proofs.Lists.{map_by}
use Rattle.larch_term.specs.BuiltIn.{is_built_in}
use Rattle.larch_term.specs.Equality.{same_operator}
use Rattle.larch_term.specs.Operator.{PlainOperator, plain, name_bytes}
use Rattle.larch_term.specs.Tree.{Tree, Forest, var, app, none, more}
use Rattle.larch_term.specs.declared.statement.Statement.{Statement}
use Rattle.larch_term.specs.declared.statement.Statement.TheVariants.{Equation, Generated, Partitioned}
use Rattle.larch_renaming.specs.Renaming.{rename_tree, renamed_all, renamed_statement}
use Rattle.larch_import_names.specs.Names.{IsNamed, sort_or, name_by, new_name, operator_by, renaming_or}
use Rattle.larch_import_names.specs.Names.{renaming}
use Rattle.larch_import_names.specs.Sorted.{OfOperator, OfTerm, OfTerms, HasNamedSorts}
use Rattle.larch_import_names.specs.declared.pairs.OperatorPair.{OperatorPair}
use Rattle.larch_import_names.specs.declared.pairs.Renaming.{Renaming}

module _ (by : Renaming) (new other : List ℕ → List ℕ) where
  pub same_sort : (s : List ℕ) → IsNamed by s → sort_or new by s ≡ sort_or other by s
  same_sort s n = ap (λ o. unwrap_or o (new s)) n.1 ∙ sym (ap (λ o. unwrap_or o (other s)) n.1)

  pub same_sorts : (ss : List (List ℕ)) → All (IsNamed by) ss → map (sort_or new by) ss ≡ map (sort_or other by) ss
  same_sorts ss n =
      map_by (sort_or new by) (sort_or other by) ss (λ s c. same_sort s (All-contains (IsNamed by) ss s n c))

  pub same_operator_by : (f : PlainOperator) → OfOperator (IsNamed by) f
      → operator_by (sort_or new by) by f ≡ operator_by (sort_or other by) by f
  unfolding operator_by
  same_operator_by f n = λ i.
      record { name = new_name by f; domain = same_sorts f.domain n.0 i; range = same_sort f.range n.1 i }

  pub same_operators_by : (fs : List PlainOperator) → All (OfOperator (IsNamed by)) fs
      → map (operator_by (sort_or new by) by) fs ≡ map (operator_by (sort_or other by) by) fs
  same_operators_by fs n =
      map_by (operator_by (sort_or new by) by) (operator_by (sort_or other by) by) fs
      (λ f c. same_operator_by f (All-contains (OfOperator (IsNamed by)) fs f n c))

  mutual
    same_term : (t : Tree) → OfTerm (IsNamed by) t
        → rename_tree (renaming_or new by) t ≡ rename_tree (renaming_or other by) t
    same_term (var x s) n = ap (var x) (same_sort s n)
    same_term (app f ts) n = λ i. app (same_operator_by f n.0 i) (same_terms ts n.1 i)

    same_terms : (ts : Forest) → OfTerms (IsNamed by) ts
        → renamed_all (renaming_or new by) ts ≡ renamed_all (renaming_or other by) ts
    same_terms none n = refl
    same_terms (more t ts) n = λ i. more (same_term t n.0 i) (same_terms ts n.1 i)

  pub same_renamed : (s : Statement) → HasNamedSorts by s
      → renamed_statement (renaming_or new by) s ≡ renamed_statement (renaming_or other by) s
  same_renamed (Equation l r) n = λ i. Equation (same_term l n.0 i) (same_term r n.1 i)
  same_renamed (Generated s fs) n = λ i. Generated (same_sort s n.0 i) (same_operators_by fs n.1 i)
  same_renamed (Partitioned s fs) n = λ i. Partitioned (same_sort s n.0 i) (same_operators_by fs n.1 i)

-- a pair whose new operator stands at the new sorts gives it
pub pair_given : (by : Renaming) (f : PlainOperator) (p : OperatorPair) (n m : List ℕ) → is_built_in f ≡ false
    → find (λ q. same_operator q.old f) by.operators ≡ Some p → f.name ≡ plain n → p.new.name ≡ plain m
    → p.new.domain ≡ map (sort_or (λ s. s) by) f.domain → p.new.range ≡ sort_or (λ s. s) by f.range
    → (renaming by).operator f ≡ p.new
unfolding operator_by
pair_given by f p n m own found old new domain range =
    let name : new_name by f ≡ p.new.name =
    ap (λ b. cond b f.name (name_by f.name (find (λ q. same_operator q.old f) by.operators))) own
    ∙ (λ i. name_by (old i) (found i)) ∙ ap (λ x. plain (name_bytes x)) new ∙ sym new in
    λ i. record { name = name i; domain = sym domain i; range = sym range i }

-- What is read is well sorted, over the operators that take part, and its variables are in scope.
use Rattle.std.proofs.Common.{◌≡◌, ℕ, ◌⊎◌, inl, inr, List, [], ◌++◌, map, All, Contains, Option, Some, None, refl, sym}
use Rattle.std.proofs.Common.{◌∙◌, ap, subst}
use Rattle.std.proofs.lemmas.List.Elements.{All-nil, All-cons, All-append}
use Rattle.larch_raw.specs.RawTree.{RawTree, RawForest, apply, qualified, no_more, one_more}
use Rattle.larch_raw.specs.declared.equation.RawRight.{RawRight}
use Rattle.larch_raw.specs.declared.equation.RawEquation.{RawEquation}
use Rattle.larch_term.specs.BuiltIn.{IsBuiltIn, built_in}
use Rattle.larch_term.specs.Variable.{occurrences, occurrences_in}
use Rattle.larch_term.specs.Operator.{PlainOperator}
use Rattle.larch_term.specs.Sorts.{sort_of, WellSorted, AllWellSorted, IsKnown, IsOver, AllOver}
use Rattle.larch_term.specs.Statement.{IsStatementOver}
use Rattle.larch_term.specs.Tree.{Tree, Forest, var, app, none, more}
use Rattle.larch_term.specs.BuiltIn.{bool_sort}
use Rattle.larch_term.specs.declared.built_in.BuiltIn.{BuiltIn}
use Rattle.larch_term.specs.declared.built_in.BuiltIn.TheVariants.{True, Equal, Unequal, If}
use Rattle.larch_term.specs.declared.statement.Statement.{Statement}
use Rattle.larch_term.specs.declared.statement.Statement.TheVariants.{Equation, Generated, Partitioned}
use Rattle.larch_sorts_meaning.specs.Scope.{HasVariablesOf, IsInScope, Variables, sort_in}
use Rattle.larch_sorts_known.specs.BuiltIns.{built_ins_at, propositional}
use Rattle.larch_sorts_known.specs.Sorts.{existing_sorts}
use Rattle.larch_sorts_meaning.specs.Signature.{taking_part}
use Rattle.larch_sorts_meaning.specs.Readings.{variable_sort, Reads, a_variable, an_operator, of_sort, AllRead}
use Rattle.larch_sorts_meaning.specs.Readings.{all_read, one_read, ReadsRight, ReadsEquation}
use Rattle.larch_term.specs.Truth.{truth}
use Rattle.larch_base.proofs.Members.{contains_either, contained_in_map}

-- what is made of a list of sorts is made of one of them
of_map : (b : BuiltIn) (sorts : List (List ℕ)) (f : PlainOperator) → Contains (map (built_in b) sorts) f
    → (c : BuiltIn) × (s : List ℕ) × ((s ≡ bool_sort) ⊎ Contains sorts s) × (f ≡ built_in c s)
of_map b sorts f c = let r = contained_in_map (built_in b) sorts f c in (b, r.0, inr r.1, sym r.2)

-- what is among the built-in operators at sorts is built in, at Bool or one of the sorts
pub among_built_ins : (sorts : List (List ℕ)) (f : PlainOperator) → Contains (built_ins_at sorts) f
    → (b : BuiltIn) × (s : List ℕ) × ((s ≡ bool_sort) ⊎ Contains sorts s) × (f ≡ built_in b s)
among_built_ins sorts f c =
    elim (contains_either (map (λ b. built_in b bool_sort) propositional)
    (map (built_in Equal) sorts ++ (map (built_in Unequal) sorts ++ map (built_in If) sorts)) f c) [
      | inl d ↦ let r = contained_in_map (λ b. built_in b bool_sort) propositional f d in
          (r.0, bool_sort, inl refl, sym r.2)
      | inr d ↦
          elim (contains_either (map (built_in Equal) sorts)
          (map (built_in Unequal) sorts ++ map (built_in If) sorts) f d) [
            | inl e ↦ of_map Equal sorts f e
            | inr e ↦ elim (contains_either (map (built_in Unequal) sorts) (map (built_in If) sorts) f e) [
              | inl g ↦ of_map Unequal sorts f g
              | inr g ↦ of_map If sorts f g
            ]
          ]
    ]

built_in_known : (sorts : List (List ℕ)) (f : PlainOperator) → Contains (built_ins_at sorts) f → IsBuiltIn f
built_in_known sorts f c = let r = among_built_ins sorts f c in (r.0, (r.1, r.3))

-- what takes part is one of the operators or built in
pub known : (fs : List PlainOperator) (f : PlainOperator) → Contains (taking_part fs) f → IsKnown fs f
known fs f c =
    elim (contains_either fs (built_ins_at (existing_sorts fs)) f c) [
      | inl d ↦ inl d
      | inr d ↦ inr (built_in_known (existing_sorts fs) f d)
    ]

mutual
  pub well_sorted : (fs : List PlainOperator) (vs : Variables) (raw : RawTree) (t : Tree) → Reads fs vs raw t
      → WellSorted t × IsOver fs t
  well_sorted fs vs (apply n raws p) (var m s) (a_variable e) = (tt, tt)
  well_sorted fs vs (apply n raws p) (app f ts) (an_operator e c d all sorts) =
      let r = all_well_sorted fs vs raws ts all in ((sorts, r.0), (known fs f c, r.1))
  well_sorted fs vs (qualified raw w p) t (of_sort r e) = well_sorted fs vs raw t r

  pub all_well_sorted : (fs : List PlainOperator) (vs : Variables) (raws : RawForest) (ts : Forest)
      → AllRead fs vs raws ts → AllWellSorted ts × AllOver fs ts
  all_well_sorted fs vs no_more none all_read = (tt, tt)
  all_well_sorted fs vs no_more (more t ts) r = elim r [ ]
  all_well_sorted fs vs (one_more raw raws) none r = elim r [ ]
  all_well_sorted fs vs (one_more raw raws) (more t ts) (one_read r all) =
      let a = well_sorted fs vs raw t r in
      let b = all_well_sorted fs vs raws ts all in ((a.0, b.0), (a.1, b.1))

variable_in_scope : (vs : Variables) (n s : List ℕ) (raws : RawForest) → variable_sort vs n raws ≡ Some s
    → sort_in vs n ≡ Some s
variable_in_scope vs n s no_more e = e
variable_in_scope vs n s (one_more raw raws) e = cc

mutual
  pub in_scope : (fs : List PlainOperator) (vs : Variables) (raw : RawTree) (t : Tree) → Reads fs vs raw t
      → All (λ v. sort_in vs v.name ≡ Some v.sort) (occurrences t)
  in_scope fs vs (apply n raws p) (var m s) (a_variable e) =
      All-cons (λ v. sort_in vs v.name ≡ Some v.sort) (record { name = n; sort = s }) []
      (variable_in_scope vs n s raws e) (All-nil (λ v. sort_in vs v.name ≡ Some v.sort))
  in_scope fs vs (apply n raws p) (app f ts) (an_operator e c d all sorts) = all_in_scope fs vs raws ts all
  in_scope fs vs (qualified raw w p) t (of_sort r e) = in_scope fs vs raw t r

  pub all_in_scope : (fs : List PlainOperator) (vs : Variables) (raws : RawForest) (ts : Forest) → AllRead fs vs raws ts
      → All (λ v. sort_in vs v.name ≡ Some v.sort) (occurrences_in ts)
  all_in_scope fs vs no_more none all_read = All-nil (λ v. sort_in vs v.name ≡ Some v.sort)
  all_in_scope fs vs no_more (more t ts) r = elim r [ ]
  all_in_scope fs vs (one_more raw raws) none r = elim r [ ]
  all_in_scope fs vs (one_more raw raws) (more t ts) (one_read r all) =
      All-append (λ v. sort_in vs v.name ≡ Some v.sort) (occurrences t) (occurrences_in ts) (in_scope fs vs raw t r)
      (all_in_scope fs vs raws ts all)

truth_over : (fs : List PlainOperator) → WellSorted truth × IsOver fs truth
truth_over fs = ((refl, tt), (inr (True, (bool_sort, refl)), tt))

right_over : (fs : List PlainOperator) (vs : Variables) (right : Option RawRight) (l r : Tree)
    → ReadsRight fs vs right l r → (WellSorted r × IsOver fs r) × (sort_of l ≡ sort_of r)
right_over fs vs None l r (e, t) =
    (subst (λ u. WellSorted u × IsOver fs u) (sym t) (truth_over fs), e ∙ ap sort_of (sym t))
right_over fs vs (Some right) l r (q, e) = (well_sorted fs vs right.term r q, e)

-- a statement that is read is well sorted over the operators
pub statement_over : (fs : List PlainOperator) (vs : Variables) (raw : RawEquation) (s : Statement)
    → ReadsEquation fs vs raw s → IsStatementOver fs s
statement_over fs vs raw (Equation l r) (a, b) = let q = right_over fs vs raw.right l r b in
    (well_sorted fs vs raw.left l a, q.0, q.1)
statement_over fs vs raw (Generated z gs) n = absurd n
statement_over fs vs raw (Partitioned z gs) n = absurd n

right_in_scope : (fs : List PlainOperator) (vs : Variables) (right : Option RawRight) (l r : Tree)
    → ReadsRight fs vs right l r → HasVariablesOf vs r
right_in_scope fs vs None l r (e, t) =
    subst (HasVariablesOf vs) (sym t) (All-nil (λ v. sort_in vs v.name ≡ Some v.sort))
right_in_scope fs vs (Some right) l r (q, e) = in_scope fs vs right.term r q

-- its variables are in scope
pub statement_in_scope : (fs : List PlainOperator) (vs : Variables) (raw : RawEquation) (s : Statement)
    → ReadsEquation fs vs raw s → IsInScope vs s
statement_in_scope fs vs raw (Equation l r) (a, b) = (in_scope fs vs raw.left l a, right_in_scope fs vs raw.right l r b)
statement_in_scope fs vs raw (Generated z gs) n = absurd n
statement_in_scope fs vs raw (Partitioned z gs) n = absurd n

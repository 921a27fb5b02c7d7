-- The sorts and the variables in what is read.
use Rattle.std.proofs.Common.{◌≡◌, ℕ, inl, inr, Bool, true, false, cond, List, [], ◌∷◌, All, Contains, Option, Some}
use Rattle.std.proofs.Common.{None, bytes_eq, refl, sym, subst}
use Rattle.std.proofs.lemmas.List.Elements.{All-nil, All-cons, All-contains}
use Rattle.std.proofs.lemmas.Slice.Eq.{bytes_eq-Decides}
use Rattle.larch_base.proofs.Lists.{all_from}
use Rattle.larch_base.proofs.Members.{contains_here, contains_later, contains_either}
use Rattle.larch_base.proofs.Options.{some_inj}
use Rattle.larch_raw.specs.RawTree.{RawTree, RawForest, apply, qualified, no_more, one_more}
use Rattle.larch_raw.specs.declared.equation.RawEquation.{RawEquation}
use Rattle.larch_raw.specs.declared.equation.RawRight.{RawRight}
use Rattle.larch_term.specs.BuiltIn.{built_in, bool_sort}
use Rattle.larch_term.specs.Operator.{PlainOperator}
use Rattle.larch_term.specs.Tree.{Tree, Forest, var, app, none, more}
use Rattle.larch_term.specs.Variable.{occurrences}
use Rattle.larch_term.specs.declared.built_in.BuiltIn.{BuiltIn}
use Rattle.larch_term.specs.declared.built_in.BuiltIn.TheVariants.{True, False, Not, And, Or, Implies, Iff, Equal}
use Rattle.larch_term.specs.declared.built_in.BuiltIn.TheVariants.{Unequal, If}
use Rattle.larch_term.specs.declared.statement.Statement.{Statement}
use Rattle.larch_term.specs.declared.statement.Statement.TheVariants.{Equation, Generated, Partitioned}
use Rattle.larch_sorts_known.specs.BuiltIns.{built_ins_at}
use Rattle.larch_sorts_known.specs.Sorts.{existing_sorts}
use Rattle.larch_sorts_meaning.specs.Laws.{ForestSorts, IsSortOf, OperatorSorts, StatementSorts, StatementVariables}
use Rattle.larch_sorts_meaning.specs.Laws.{TermSorts, sorts_of_operator}
use Rattle.larch_sorts_meaning.specs.Readings.{variable_sort, Reads, a_variable, an_operator, of_sort, AllRead}
use Rattle.larch_sorts_meaning.specs.Readings.{all_read, one_read, ReadsRight, ReadsEquation}
use Rattle.larch_sorts_meaning.specs.Scope.{HasVariablesOf, IsInScope, Variables, sort_in}
use Rattle.larch_sorts_meaning.specs.Signature.{taking_part}
use Rattle.larch_sorts_meaning.proofs.Existing.{existing_stands}
use Rattle.larch_sorts_meaning.proofs.Sorted.{among_built_ins}

variable_here : (v : List ℕ × List ℕ) (vs : Variables) (n s : List ℕ) (b : Bool) → bytes_eq n v.0 ≡ b
    → (sort_in vs n ≡ Some s → Contains vs (n, s))
    → cond b (Some v.1) (sort_in vs n) ≡ Some s → Contains (v ∷ vs) (n, s)
variable_here v vs n s true q later h =
    let name : v.0 ≡ n = sym ((bytes_eq-Decides n v.0).0 q) in
    let sort : v.1 ≡ s = some_inj h in
    subst (Contains (v ∷ vs)) (λ i. (name i, sort i)) (contains_here v vs)
variable_here v vs n s false q later h = contains_later v (n, s) vs (later h)

-- a variable in scope is one of those in scope
scope_contains : (vs : Variables) (n s : List ℕ) → sort_in vs n ≡ Some s → Contains vs (n, s)
scope_contains [] n s e = cc
scope_contains (v ∷ vs) n s e = variable_here v vs n s (bytes_eq n v.0) refl (scope_contains vs n s) e

module _ (P : List ℕ → Type 0) where
  two : {a b : List ℕ} → P a → P b → All P (a ∷ b ∷ [])
  two {a} {b} p q = All-cons P a (b ∷ []) p (All-cons P b [] q (All-nil P))

  three : {a b c : List ℕ} → P a → P b → P c → All P (a ∷ b ∷ c ∷ [])
  three {a} {b} {c} p q r = All-cons P a (b ∷ c ∷ []) p (two q r)

  -- the sorts of a built-in operator are Bool and its own
  built_in_sorts : (b : BuiltIn) (s : List ℕ) → P bool_sort → P s → OperatorSorts P (built_in b s)
  built_in_sorts True s p q = All-cons P bool_sort [] p (All-nil P)
  built_in_sorts False s p q = All-cons P bool_sort [] p (All-nil P)
  built_in_sorts Not s p q = two p p
  built_in_sorts And s p q = three p p p
  built_in_sorts Or s p q = three p p p
  built_in_sorts Implies s p q = three p p p
  built_in_sorts Iff s p q = three p p p
  built_in_sorts Equal s p q = three q q p
  built_in_sorts Unequal s p q = three q q p
  built_in_sorts If s p q = All-cons P bool_sort (s ∷ s ∷ s ∷ []) p (three q q q)

-- a property of sorts that Bool, the sorts of operators and those of variables have
module _ (P : List ℕ → Type 0) (fs : List PlainOperator) (vs : Variables) (bool : P bool_sort)
    (own : (f : PlainOperator) → Contains fs f → OperatorSorts P f)
    (scope : All (λ v. P v.1) vs) where
  exists_so : (s : List ℕ) → IsSortOf fs s → P s
  exists_so s (inl e) = subst P (sym e) bool
  exists_so s (inr (f, c, d)) = All-contains P (sorts_of_operator f) s (own f c) d

  known_sorts : (f : PlainOperator) → Contains (taking_part fs) f → OperatorSorts P f
  known_sorts f c =
      elim (contains_either fs (built_ins_at (existing_sorts fs)) f c) [
        | inl d ↦ own f d
        | inr d ↦ let r = among_built_ins (existing_sorts fs) f d in
            subst (OperatorSorts P) (sym r.3)
            (built_in_sorts P r.0 r.1 bool
            (elim r.2 [ inl e ↦ subst P (sym e) bool | inr e ↦ exists_so r.1 (existing_stands fs r.1 e) ]))
      ]

  variable_so : (n s : List ℕ) (raws : RawForest) → variable_sort vs n raws ≡ Some s → P s
  variable_so n s no_more e = All-contains (λ v. P v.1) vs (n, s) scope (scope_contains vs n s e)
  variable_so n s (one_more raw raws) e = cc

  mutual
    term_so : (raw : RawTree) (t : Tree) → Reads fs vs raw t → TermSorts P t
    term_so (apply n raws p) (var m s) (a_variable e) = variable_so n s raws e
    term_so (apply n raws p) (app f ts) (an_operator e c d all sorts) = (known_sorts f c, all_so raws ts all)
    term_so (qualified raw w p) t (of_sort r e) = term_so raw t r

    all_so : (raws : RawForest) (ts : Forest) → AllRead fs vs raws ts → ForestSorts P ts
    all_so no_more none all_read = tt
    all_so no_more (more t ts) r = elim r [ ]
    all_so (one_more raw raws) none r = elim r [ ]
    all_so (one_more raw raws) (more t ts) (one_read r all) = (term_so raw t r, all_so raws ts all)

  right_so : (right : Option RawRight) (l r : Tree) → ReadsRight fs vs right l r → TermSorts P r
  right_so None l r (e, t) = subst (TermSorts P) (sym t) (built_in_sorts P True bool_sort bool bool, tt)
  right_so (Some right) l r (q, e) = term_so right.term r q

  -- each sort in what is read has it
  pub statement_so : (raw : RawEquation) (s : Statement) → ReadsEquation fs vs raw s → StatementSorts P s
  statement_so raw (Equation l r) (a, b) = (term_so raw.left l a, right_so raw.right l r b)
  statement_so raw (Generated z gs) n = absurd n
  statement_so raw (Partitioned z gs) n = absurd n

-- the operators' own sorts stand in them
pub own_sorts : (fs : List PlainOperator) (f : PlainOperator) → Contains fs f → OperatorSorts (IsSortOf fs) f
own_sorts fs f c = all_from (IsSortOf fs) (sorts_of_operator f) (λ s d. inr (f, c, d))

-- each sort in what is read exists, where those of the variables do
pub statement_sorts_exist : (fs : List PlainOperator) (vs : Variables) (raw : RawEquation) (s : Statement)
    → All (λ v. IsSortOf fs v.1) vs → ReadsEquation fs vs raw s
    → StatementSorts (IsSortOf fs) s
statement_sorts_exist fs vs raw s scope r = statement_so (IsSortOf fs) fs vs (inl refl) (own_sorts fs) scope raw s r

-- the same of a term
pub term_sorts_exist : (fs : List PlainOperator) (vs : Variables) (raw : RawTree) (t : Tree)
    → All (λ v. IsSortOf fs v.1) vs → Reads fs vs raw t → TermSorts (IsSortOf fs) t
term_sorts_exist fs vs raw t scope r = term_so (IsSortOf fs) fs vs (inl refl) (own_sorts fs) scope raw t r

names_so : (P : List ℕ → Type 0) (vs : Variables) → All (λ v. P v.0) vs → (t : Tree) → HasVariablesOf vs t
    → All (λ v. P v.name) (occurrences t)
names_so P vs h t in_scope =
    all_from (λ v. P v.name) (occurrences t)
    (λ v c. All-contains (λ w. P w.0) vs (v.name, v.sort) h
    (scope_contains vs v.name v.sort
    (All-contains (λ w. sort_in vs w.name ≡ Some w.sort) (occurrences t) v in_scope c)))

-- each name of a variable in what is in scope has a property that those in scope have
pub statement_names : (P : List ℕ → Type 0) (vs : Variables) (s : Statement) → All (λ v. P v.0) vs → IsInScope vs s
    → StatementVariables P s
statement_names P vs (Equation l r) h (a, b) = (names_so P vs h l a, names_so P vs h r b)
statement_names P vs (Generated z gs) h n = tt
statement_names P vs (Partitioned z gs) h n = tt

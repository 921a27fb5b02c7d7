-- What is declared and stated over operators.
use Rattle.std.proofs.Common.{◌≡◌, if◌then◌else◌, ℕ, inl, Bool, true, false, not, is_some, Option, Some, None, Ok, Err}
use Rattle.std.proofs.Common.{List, [], ◌∷◌, ◌++◌, map, All, Contains, find, refl, sym, ap, subst}
use Rattle.std.specs.Option.{option_and_then}
use Rattle.std.proofs.lemmas.List.Elements.{All-nil, All-cons, All-push, All-contains}
use Rattle.std.proofs.lemmas.Slice.Eq.{bytes_eq-Decides}
use Rattle.larch_base.specs.declared.code.Code.TheVariants.{Arity, BuiltIn, UnknownSort, VariableTwice}
use Rattle.larch_base.specs.declared.fault.Fault.{Fault}
use Rattle.larch_base.proofs.Bools.{and_right}
use Rattle.larch_base.proofs.Lists.{all_from}
use Rattle.larch_base.proofs.Members.{contained_in_map}
use Rattle.larch_raw.specs.declared.declared.RawDecl.{RawDecl}
use Rattle.larch_raw.specs.declared.declared.RawForm.{RawForm}
use Rattle.larch_raw.specs.declared.declared.RawOpRef.{RawOpRef}
use Rattle.larch_raw.specs.declared.declared.RawSig.{RawSig}
use Rattle.larch_raw.specs.declared.declared.RawWord.{RawWord}
use Rattle.larch_raw.specs.declared.equation.ClauseKind.{ClauseKind}
use Rattle.larch_raw.specs.declared.equation.ClauseKind.TheVariants.{Generated, Partitioned}
use Rattle.larch_raw.specs.declared.equation.RawEquation.{RawEquation}
use Rattle.larch_raw.specs.declared.equation.RawItem.{RawItem}
use Rattle.larch_raw.specs.declared.equation.RawItem.TheVariants.{Clause, Equations}
use Rattle.larch_raw.specs.declared.equation.RawVar.{RawVar}
use Rattle.larch_term.specs.BuiltIn.{IsBuiltIn, is_built_in}
use Rattle.larch_term.specs.Operator.{PlainOperator}
use Rattle.larch_term.specs.Sorts.{IsKnown}
use Rattle.larch_term.specs.Statement.{IsStatementOver}
use Rattle.larch_term.specs.declared.statement.Statement.{Statement}
use Rattle.larch_term.specs.declared.statement.Statement.TheVariants as statement
use Rattle.larch_term.proofs.BuiltIns.{is_built_in_Decides}
use Rattle.larch_sorts.specs.SortsKnownSorts.{exists_sort}
use Rattle.larch_sorts.specs.SortsMeaningFaults.{fault, fault_at}
use Rattle.larch_sorts.specs.SortsMeaningLaws.{IsSortOf, OperatorSorts, StatementSorts, StatementVariables}
use Rattle.larch_sorts.specs.SortsMeaningRead.{read_equation}
use Rattle.larch_sorts.specs.SortsMeaningReadings.{ReadsEquation}
use Rattle.larch_sorts.specs.SortsMeaningScope.{Variables, sort_in}
use Rattle.larch_sorts.proofs.SortsMeaningExisting.{any_contained, exists_Decides}
use Rattle.larch_sorts.proofs.SortsMeaningReadAnswers.{equation_ok}
use Rattle.larch_sorts.proofs.SortsMeaningSorted.{statement_in_scope, statement_over}
use Rattle.larch_sorts.proofs.SortsMeaningSortsRead.{own_sorts, statement_names, statement_sorts_exist}
use Rattle.larch_traits_items.specs.Declarations.{declared_operators, declared_by, fits, operator_of, own_operator}
use Rattle.larch_traits_items.specs.Items.{clause_statement, clause_states, item_states, items_state}
use Rattle.larch_base_meaning.specs.Word.{IsWord}
use Rattle.larch_traits_items.specs.Laws.{BindsWords, DeclaresWords, NamesOwn}
use Rattle.larch_traits_items.specs.References.{all_same, clause_code, found_or, is_meant, is_wanted, only_operator}
use Rattle.larch_traits_items.specs.References.{operator_named, operators_named, suits, wanted_of}
use Rattle.larch_base_meaning.specs.Steps.{after, all_taken, each, first_position}
use Rattle.larch_traits_items.specs.Variables.{variables_declared, with_declared}
use Rattle.larch_traits_items.proofs.Kept.{Any, after_was, all_any, each_kept, found_is, kept, no_fault_is, not_false}
use Rattle.larch_traits_items.proofs.Kept.{ok_inj, several_kept, unless_was}

own_by : (sig : RawSig) (form : RawForm) (f : PlainOperator) (b : Bool) → is_built_in (operator_of sig form) ≡ b
    → (if b then Err (fault BuiltIn form.pos) else Ok (operator_of sig form)) ≡ Ok f
    → (operator_of sig form ≡ f) × (is_built_in (operator_of sig form) ≡ false)
own_by sig form f true e h = cc
own_by sig form f false e h = (ok_inj h, e)

own_is : (sig : RawSig) (form : RawForm) (f : PlainOperator) → own_operator sig form ≡ Ok f
    → (operator_of sig form ≡ f) × (is_built_in (operator_of sig form) ≡ false)
own_is sig form f h = own_by sig form f (is_built_in (operator_of sig form)) refl h

own_not_built_in : (sig : RawSig) (form : RawForm) (f : PlainOperator) → own_operator sig form ≡ Ok f → IsBuiltIn f → ⊥
own_not_built_in sig form f h built =
    let r = own_is sig form f h in
    let yes : is_built_in (operator_of sig form) ≡ true =
    (is_built_in_Decides (operator_of sig form)).1 (subst IsBuiltIn (sym r.0) built) in
    let no : is_built_in (operator_of sig form) ≡ false = r.1 in cc

-- a property of each operator that is declared
module _ (Q : RawDecl → Type 0) (P : PlainOperator → Type 0)
    (h : (decl : RawDecl) (form : RawForm) (f : PlainOperator) → Q decl → own_operator decl.sig form ≡ Ok f → P f) where
  declared_by_so : (decl : RawDecl) (fs : List PlainOperator) → Q decl → declared_by decl ≡ Ok fs → All P fs
  declared_by_so decl fs q e =
      let r =
      unless_was (fault_at Arity (first_position (λ form. not (fits decl.sig form)) (λ form. form.pos) decl.forms))
      (each (own_operator decl.sig) decl.forms) fs e in
      each_kept (own_operator decl.sig) Any P (λ form f _ s. h decl form f q s) decl.forms fs (all_any decl.forms) r.1

  pub declared_so : (decls : List RawDecl) (fs : List PlainOperator) → All Q decls
      → declared_operators decls ≡ Ok fs → All P fs
  declared_so decls fs q e = several_kept declared_by Q P declared_by_so decls fs q e

-- no operator that is declared is built in
pub declared_own : (decls : List RawDecl) (fs : List PlainOperator) → declared_operators decls ≡ Ok fs
    → All (λ f. IsBuiltIn f → ⊥) fs
declared_own decls fs e =
    declared_so Any (λ f. IsBuiltIn f → ⊥) (λ decl form f _ s. own_not_built_in decl.sig form f s) decls fs
    (all_any decls) e

word_sorts : (decl : RawDecl) (form : RawForm) (f : PlainOperator) → DeclaresWords decl
    → own_operator decl.sig form ≡ Ok f → OperatorSorts IsWord f
word_sorts decl form f w s =
    subst (OperatorSorts IsWord) (own_is decl.sig form f s).0
    (All-push IsWord (map (λ v. v.name) decl.sig.domain) decl.sig.range.name
    (all_from IsWord (map (λ v. v.name) decl.sig.domain)
    (λ n c. let r = contained_in_map (λ v. v.name) decl.sig.domain n c in
    subst IsWord r.2 (All-contains (λ v. IsWord v.name) decl.sig.domain r.0 w.0 r.1))) w.1)

-- the sorts of operators that are declared with words are words
pub declared_words : (decls : List RawDecl) (fs : List PlainOperator) → All DeclaresWords decls
    → declared_operators decls ≡ Ok fs → All (OperatorSorts IsWord) fs
declared_words decls fs w e = declared_so DeclaresWords (OperatorSorts IsWord) word_sorts decls fs w e

with_by : (v : RawVar) (vs ws : Variables) (b : Bool)
    → (if b then Err (fault VariableTwice v.name.pos) else Ok (vs ++ (v.name.name, v.sort.name) ∷ [])) ≡ Ok ws
    → vs ++ (v.name.name, v.sort.name) ∷ [] ≡ ws
with_by v vs ws true e = cc
with_by v vs ws false e = ok_inj e

-- a property of each variable that is declared
scope_so : (Q : RawVar → Type 0) (P : (List ℕ × List ℕ) → Type 0) → ((v : RawVar) → Q v → P (v.name.name, v.sort.name))
    → (vs : List RawVar) (scope : Variables) → All Q vs
    → all_taken with_declared vs [] ≡ Ok scope → All P scope
scope_so Q P h vs scope q e =
    kept with_declared Q (All P)
    (λ v b c w s p. subst (All P) (with_by v b c (is_some (sort_in b v.name.name)) s)
    (All-push P b (v.name.name, v.sort.name) p (h v w))) vs [] scope q e (All-nil P)

module _ (fs : List PlainOperator) (vs : List RawVar) (scope : Variables)
    (e : variables_declared fs vs ≡ Ok scope) where
  variables_were : (fault_at UnknownSort (first_position (λ v. not (exists_sort fs v.sort.name)) (λ v. v.sort.pos) vs)
      ≡ None) × (all_taken with_declared vs [] ≡ Ok scope)
  variables_were =
      unless_was (fault_at UnknownSort (first_position (λ v. not (exists_sort fs v.sort.name)) (λ v. v.sort.pos) vs))
      (all_taken with_declared vs []) scope e

  -- the sorts of variables that are declared exist
  pub scope_exists : All (λ v. IsSortOf fs v.1) scope
  scope_exists =
      scope_so (λ v. not (exists_sort fs v.sort.name) ≡ false) (λ v. IsSortOf fs v.1)
      (λ v h. (exists_Decides fs v.sort.name).0 (not_false (exists_sort fs v.sort.name) h)) vs scope
      (no_fault_is UnknownSort (λ v. not (exists_sort fs v.sort.name)) (λ v. v.sort.pos) vs variables_were.0)
      variables_were.1

  -- variables that are declared with words are words
  pub scope_words : All (λ v. IsWord v.name.name) vs → All (λ v. IsWord v.0) scope
  scope_words w = scope_so (λ v. IsWord v.name.name) (λ v. IsWord v.0) (λ v h. h) vs scope w variables_were.1

picked : (f g : PlainOperator) (b : Bool) → (if b then Some f else None) ≡ Some g → Some f ≡ Some g
picked f g true h = h
picked f g false h = cc

-- the one operator that is so is the first that is so
pub only_by : (is_so : PlainOperator → Bool) (fs : List PlainOperator) (g : PlainOperator)
    (found : Option PlainOperator)
    → option_and_then (λ f. if all_same is_so f fs then Some f else None) found ≡ Some g → found ≡ Some g
only_by is_so fs g None e = cc
only_by is_so fs g (Some f) e = picked f g (all_same is_so f fs) e

or_was : {A : Type 0} (f : Fault) (found : Option A) (x : A) → found_or f found ≡ Ok x → found ≡ Some x
or_was f None x e = cc
or_was f (Some y) x e = ap Some (ok_inj e)

-- the operator that a reference names is one of these, and suits the clause
named_is : (fs : List PlainOperator) (kind : ClauseKind) (sort : List ℕ) (ref : RawOpRef) (g : PlainOperator)
    → operator_named fs kind sort ref ≡ Ok g
    → Contains fs g × (suits kind sort g ≡ true)
named_is fs kind sort ref g e =
    let w = wanted_of kind sort ref in
    let r = found_is (is_wanted w) fs g
    (only_by (is_wanted w) fs g (find (is_wanted w) fs)
    (or_was (fault (clause_code kind) ref.form.pos) (only_operator (is_wanted w) fs) g e)) in
    (r.0, and_right (is_meant w.exact w.name g) (suits kind sort g) r.1)

-- what is stated over operators: well sorted, with clauses that name these alone, and of sorts that exist
abbrev pub IsStated : List PlainOperator → Statement → Type 0
IsStated fs s = IsStatementOver fs s × NamesOwn fs s × StatementSorts (IsSortOf fs) s

clause_is : (fs : List PlainOperator) (kind : ClauseKind) (sort : List ℕ) (gs : List PlainOperator) → IsSortOf fs sort
    → All (λ g. Contains fs g × (suits kind sort g ≡ true)) gs → IsStated fs (clause_statement kind sort gs)
clause_is fs Generated sort gs exists h = (
  all_from (λ g. IsKnown fs g × (g.range ≡ sort)) gs
      (λ g c. let r = All-contains (λ g. Contains fs g × (suits Generated sort g ≡ true)) gs g h c in
      (inl r.0, (bytes_eq-Decides g.range sort).0 r.1)),
  all_from (Contains fs) gs (λ g c. (All-contains (λ g. Contains fs g × (suits Generated sort g ≡ true)) gs g h c).0),
  (
    exists,
    all_from (OperatorSorts (IsSortOf fs)) gs
        (λ g c. own_sorts fs g (All-contains (λ g. Contains fs g × (suits Generated sort g ≡ true)) gs g h c).0),
  ),
)
clause_is fs Partitioned sort gs exists h = (
  all_from (λ g. IsKnown fs g × Contains g.domain sort) gs
      (λ g c. let r = All-contains (λ g. Contains fs g × (suits Partitioned sort g ≡ true)) gs g h c in
      (inl r.0, any_contained sort g.domain r.1)),
  all_from (Contains fs) gs (λ g c. (All-contains (λ g. Contains fs g × (suits Partitioned sort g ≡ true)) gs g h c).0),
  (
    exists,
    all_from (OperatorSorts (IsSortOf fs)) gs
        (λ g c. own_sorts fs g (All-contains (λ g. Contains fs g × (suits Partitioned sort g ≡ true)) gs g h c).0),
  ),
)

clause_by : (fs : List PlainOperator) (kind : ClauseKind) (sort : RawWord) (refs : List RawOpRef) (s : Statement)
    (b : Bool) → exists_sort fs sort.name ≡ b
    → (if b then after (operators_named fs kind sort.name refs) (λ gs. Ok (clause_statement kind sort.name gs)) else Err
    (fault UnknownSort sort.pos)) ≡ Ok s
    → IsStated fs s
clause_by fs kind sort refs s false e h = cc
clause_by fs kind sort refs s true e h =
    let r = after_was (operators_named fs kind sort.name refs) (λ gs. Ok (clause_statement kind sort.name gs)) s h in
    subst (IsStated fs) (ok_inj r.2)
    (clause_is fs kind sort.name r.0 ((exists_Decides fs sort.name).0 e)
    (each_kept (operator_named fs kind sort.name) Any (λ g. Contains fs g × (suits kind sort.name g ≡ true))
    (λ ref g _ n. named_is fs kind sort.name ref g n)
    refs r.0 (all_any refs) r.1))

names_none : (fs : List PlainOperator) (scope : Variables) (raw : RawEquation) (s : Statement)
    → ReadsEquation fs scope raw s → NamesOwn fs s
names_none fs scope raw (statement.Equation l r) n = tt
names_none fs scope raw (statement.Generated z gs) n = absurd n
names_none fs scope raw (statement.Partitioned z gs) n = absurd n

equation_is : (fs : List PlainOperator) (scope : Variables) → All (λ v. IsSortOf fs v.1) scope
    → (raw : RawEquation) (s : Statement)
    → read_equation fs scope raw ≡ Ok s → IsStated fs s
equation_is fs scope h raw s e =
    let r = (equation_ok fs scope raw s e).1.0 in
    (statement_over fs scope raw s r, names_none fs scope raw s r, statement_sorts_exist fs scope raw s h r)

-- what an item states over operators
pub item_is : (fs : List PlainOperator) (item : RawItem) (ss : List Statement) → item_states fs item ≡ Ok ss
    → All (IsStated fs) ss
item_is fs (Clause kind sort refs) ss e =
    let r = after_was (clause_states fs kind sort refs) (λ s. Ok (s ∷ [])) ss e in
    subst (All (IsStated fs)) (ok_inj r.2)
    (All-cons (IsStated fs) r.0 [] (clause_by fs kind sort refs r.0 (exists_sort fs sort.name) refl r.1)
    (All-nil (IsStated fs)))
item_is fs (Equations variables equations) ss e =
    let r = after_was (variables_declared fs variables) (λ scope. each (read_equation fs scope) equations) ss e in
    each_kept (read_equation fs r.0) Any (IsStated fs)
    (λ raw s _ n. equation_is fs r.0 (scope_exists fs variables r.0 r.1) raw s n) equations ss
    (all_any equations) r.2

-- what items state over operators
pub items_are : (fs : List PlainOperator) (items : List RawItem) (ss : List Statement) → items_state fs items ≡ Ok ss
    → All (IsStated fs) ss
items_are fs items ss e =
    several_kept (item_states fs) Any (IsStated fs) (λ item zs _ n. item_is fs item zs n) items ss (all_any items) e

clause_binds : (kind : ClauseKind) (sort : List ℕ) (gs : List PlainOperator)
    → StatementVariables IsWord (clause_statement kind sort gs)
clause_binds Generated sort gs = tt
clause_binds Partitioned sort gs = tt

clause_binds_by : (fs : List PlainOperator) (kind : ClauseKind) (sort : RawWord) (refs : List RawOpRef)
    (s : Statement) (b : Bool)
    → (if b then after (operators_named fs kind sort.name refs) (λ gs. Ok (clause_statement kind sort.name gs)) else Err
    (fault UnknownSort sort.pos)) ≡ Ok s
    → StatementVariables IsWord s
clause_binds_by fs kind sort refs s false h = cc
clause_binds_by fs kind sort refs s true h =
    let r = after_was (operators_named fs kind sort.name refs) (λ gs. Ok (clause_statement kind sort.name gs)) s h in
    subst (StatementVariables IsWord) (ok_inj r.2) (clause_binds kind sort.name r.0)

-- the variables in what an item states with words are words
item_binds : (fs : List PlainOperator) (item : RawItem) (ss : List Statement) → BindsWords item
    → item_states fs item ≡ Ok ss → All (StatementVariables IsWord) ss
item_binds fs (Clause kind sort refs) ss w e =
    let r = after_was (clause_states fs kind sort refs) (λ s. Ok (s ∷ [])) ss e in
    subst (All (StatementVariables IsWord)) (ok_inj r.2)
    (All-cons (StatementVariables IsWord) r.0 [] (clause_binds_by fs kind sort refs r.0 (exists_sort fs sort.name) r.1)
    (All-nil (StatementVariables IsWord)))
item_binds fs (Equations variables equations) ss w e =
    let r = after_was (variables_declared fs variables) (λ scope. each (read_equation fs scope) equations) ss e in
    each_kept (read_equation fs r.0) Any (StatementVariables IsWord)
    (λ raw s _ n. statement_names IsWord r.0 s (scope_words fs variables r.0 r.1 w)
    (statement_in_scope fs r.0 raw s (equation_ok fs r.0 raw s n).1.0))
    equations ss (all_any equations) r.2

pub items_bind : (fs : List PlainOperator) (items : List RawItem) (ss : List Statement) → All BindsWords items
    → items_state fs items ≡ Ok ss → All (StatementVariables IsWord) ss
items_bind fs items ss w e =
    several_kept (item_states fs) BindsWords (StatementVariables IsWord)
    (λ item zs q n. item_binds fs item zs q n) items ss w e

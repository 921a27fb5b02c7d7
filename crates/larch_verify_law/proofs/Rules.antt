-- What rules that name no box say of derivable statements is derivable.
use Rattle.std.proofs.Common.{◌≡◌, ℕ, zero, suc, cond, List, [], ◌∷◌, All, Contains, Option, Some, None}
use Rattle.std.proofs.Common.{option_and_then, refl, subst}
use Rattle.std.proofs.lemmas.List.Elements.{All-weaker}
use Rattle.std.proofs.lemmas.Option.{option_and_then_some, cond_some}
use Rattle.larch_base.proofs.Members.{got_contains}
use Rattle.larch_base.proofs.Options.{some_inj}
use Rattle.larch_term.specs.BuiltIn.{bool_sort}
use Rattle.larch_term.specs.Equality.{same_statement}
use Rattle.larch_term.specs.Place.{at, put}
use Rattle.larch_term.specs.Sorts.{sort_of, WellSorted, IsOver}
use Rattle.larch_term.specs.Statement.{statement_zero, IsWellSortedTheory}
use Rattle.larch_term.specs.Substitution.{Fits}
use Rattle.larch_term.specs.Tree.{Tree}
use Rattle.larch_term.specs.Truth.{truth}
use Rattle.larch_term.specs.declared.statement.Statement.{Statement}
use Rattle.larch_term.specs.declared.statement.Statement.TheVariants.{Equation, Generated, Partitioned}
use Rattle.larch_term.specs.declared.statement.Theory.{Theory}
use Rattle.larch_term.specs.declared.substitution.Entry.{Entry}
use Rattle.larch_verify_meaning.proofs.TablesIdentities.{row_identity}
use Rattle.larch_verify_meaning.specs.TablesRow.{PlainRow}
use Rattle.larch_verify_meaning.specs.TablesStatement.{IsIdentityStatement}
use Rattle.larch_verify_meaning.specs.TablesTables.{built_in_rows}
use Rattle.larch_verify_meaning.proofs.CalculusDerivedRules.{stated}
use Rattle.larch_verify_meaning.proofs.CalculusSorted.{zero_over}
use Rattle.larch_verify_meaning.specs.CalculusDerivable.{Derivable, axiom_, identity, symmetric}
use Rattle.larch_verify_meaning.specs.CalculusDerivable.{replace, instance, equal}
use Rattle.larch_verify_meaning.specs.CalculusFormula.{equality}
use Rattle.larch_base.proofs.Members.{contains_here}
use Rattle.larch_base.specs.ByNumber.{numbered}
use Rattle.larch_verify_meaning.specs.Rules.{axiom_says, row_says, exchange_sides, instance_by, stands_at}
use Rattle.larch_verify_meaning.specs.Rules.{replace_right, equality_sides, stated_equal}
use Rattle.larch_verify_law.proofs.Decoded.{IsEntryOver}
use Rattle.larch_verify_law.proofs.Told.{cond_either, place_told, statement_told}

-- axiom: from a well sorted theory that has the first one's statements
pub axiom_derivable : (t u : Theory) → IsWellSortedTheory u
    → ((r : Statement) → Contains t.statements r → Contains u.statements r)
    → (k : ℕ) (s : Statement) → axiom_says t k ≡ Some s → Derivable u s
axiom_derivable t u w i zero s e =
    subst (Derivable u) (some_inj e) (axiom_ (contains_here statement_zero u.statements) (zero_over u.operators))
axiom_derivable t u w i (suc k) s e = stated u s w (i s (got_contains t.statements k s e))

identity_derivable : (t : Theory) (s : Statement) → IsIdentityStatement s → Derivable t s
identity_derivable t (Equation l r) i = identity i
identity_derivable t (Generated s fs) i = absurd i
identity_derivable t (Partitioned s fs) i = absurd i

without_sort : (row : PlainRow) (s : Statement) → cond row.sorted None (Some row.given) ≡ Some s → row.given ≡ s
without_sort row s e = cond_either row.sorted None (Some row.given) s e (λ p q. cc) (λ p q. some_inj q)

-- row: an identity
pub row_derivable : (t : Theory) (k : ℕ) (z : Option (List ℕ)) (s : Statement) → row_says k z ≡ Some s → Derivable t s
row_derivable t k None s e =
    option_and_then_some (λ row. cond row.sorted None (Some row.given)) (numbered (built_in_rows bool_sort) k) s e
    (λ row p q. subst (Derivable t) (without_sort row s q)
    (identity_derivable t row.given (row_identity bool_sort k row p)))
row_derivable t k (Some z) s e =
    option_and_then_some (λ row. cond row.sorted (Some row.given) None) (numbered (built_in_rows z) k) s e
    (λ row p q.
    subst (Derivable t) (cond_some row.sorted row.given s q).1
    (identity_derivable t row.given (row_identity z k row p)))

-- sym
pub exchanged_derivable : (t : Theory) (s r : Statement) → Derivable t s → exchange_sides s ≡ Some r → Derivable t r
exchanged_derivable t (Equation a b) r d e = subst (Derivable t) (some_inj e) (symmetric d)
exchanged_derivable t (Generated z fs) r d e = cc
exchanged_derivable t (Partitioned z fs) r d e = cc

-- inst
pub instance_derivable : (t : Theory) (es : List Entry) → All (IsEntryOver t.operators) es → (s r : Statement)
    → Derivable t s → instance_by es s ≡ Some r → Derivable t r
instance_derivable t es w (Equation a b) r d e =
    let fits : Fits es = All-weaker (IsEntryOver t.operators) (λ e. WellSorted e.term × (sort_of e.term ≡ e.sort))
    (λ e h. (h.0.0, h.1)) es w in
    let over : All (λ e. IsOver t.operators e.term) es =
    All-weaker (IsEntryOver t.operators) (λ e. IsOver t.operators e.term) (λ e h. h.0.1) es w in
    subst (Derivable t) (some_inj e) (instance es fits over d refl refl)
instance_derivable t es w (Generated z fs) r d e = cc
instance_derivable t es w (Partitioned z fs) r d e = cc

-- repl
pub replaced_derivable : (t : Theory) (p : List ℕ) (s r q : Statement) → Derivable t s → Derivable t r
    → replace_right p s r ≡ Some q → Derivable t q
replaced_derivable t p (Equation a b) (Equation u v) q d f e =
    let c = cond_some (stands_at b p u) (Equation a (put b p v)) q e in
    subst (Derivable t) c.1 (replace p d f (place_told b p u c.0) refl)
replaced_derivable t p (Equation a b) (Generated z fs) q d f e = cc
replaced_derivable t p (Equation a b) (Partitioned z fs) q d f e = cc
replaced_derivable t p (Generated z fs) r q d f e = cc
replaced_derivable t p (Partitioned z fs) r q d f e = cc

equated_derivable : (t : Theory) (s r : Statement) (a b : Tree) → Derivable t s → equality_sides s a b ≡ Some r
    → Derivable t r
equated_derivable t s r a b d e =
    let wanted = Equation (equality (sort_of a) a b) truth in
    let c = cond_some (same_statement s wanted) (Equation a b) r e in
    subst (Derivable t) c.1 (equal (sort_of a) (subst (Derivable t) (statement_told s wanted c.0) d))

-- equal
pub stated_derivable : (t : Theory) (s r : Statement) → Derivable t s → stated_equal s ≡ Some r → Derivable t r
stated_derivable t (Equation l q) r d e =
    option_and_then_some (λ a. option_and_then (equality_sides (Equation l q) a) (at l (2 ∷ []))) (at l (1 ∷ [])) r e
    (λ a h i. option_and_then_some (equality_sides (Equation l q) a) (at l (2 ∷ [])) r i
    (λ b j k. equated_derivable t (Equation l q) r a b d k))
stated_derivable t (Generated z fs) r d e = cc
stated_derivable t (Partitioned z fs) r d e = cc

-- What follows from the equations of the deduction rows.
use Rattle.std.proofs.Common.{rules, sym, ◌≡◌, ℕ, ◌-◌, Bool, true, false, cond, List, [], ◌∷◌, All, codes, Some, refl}
use Rattle.std.proofs.Common.{◌∙◌, ap}
use Rattle.std.proofs.lemmas.List.Elements.{All-nil, All-cons}
use Rattle.larch_calculus.specs.BaseByNumber.{numbered}
use Rattle.larch_calculus.specs.TermOperator.{PlainOperator}
use Rattle.larch_calculus.specs.TermTree.{Tree}
use Rattle.larch_calculus.specs.TermBuiltIn.{bool_sort, built_in}
use Rattle.larch_calculus.specs.TermBuilt_inBuiltIn.TheVariants.{Not, And, Or, Implies, Iff}
use Rattle.larch_calculus.specs.TermSubstitution.{image, instance_of, substituted_statement}
use Rattle.larch_calculus.specs.TermSubstitutionEntry.{Entry}
use Rattle.larch_calculus.specs.TermStatementStatement.{Statement}
use Rattle.larch_calculus.specs.TermStatementStatement.TheVariants.{Equation}
use Rattle.larch_calculus.specs.TermStatementTheory.{Theory}
use Rattle.larch_calculus.specs.Formula.{apply_one, apply_two, falsity, negation, conjunction, disjunction, implication}
use Rattle.larch_calculus.specs.Formula.{equivalence, equality}
use Rattle.larch_calculus.specs.TermTruth.{truth}
use Rattle.larch_calculus.specs.Identity.{IsIdentity, Proposition, always, never, denied, both, either, implied}
use Rattle.larch_calculus.specs.Identity.{equivalent, chosen, term_of, agree_itself, value, propositional}
use Rattle.larch_calculus.specs.Derivable.{Derivable, replace, equal}
use Rattle.larch_calculus.specs.Letters.{two, x_letter, y_letter}
use Rattle.larch_calculus.specs.Theories.{IsTermOf}
use Rattle.larch_calculus.specs.TermSorts.{IsTermOver}
use Rattle.larch_calculus.specs.TermStatement.{IsStatementOver}
use Rattle.larch_tables.specs.Row.{PlainRow}
use Rattle.larch_tables.specs.Spelling.{x, y, a, b}
use Rattle.larch_tables.specs.Tables.{deduction_rows}
use Rattle.larch_tables.proofs.Identities.{assigned, Every, every_at, at_place}

-- laws of the calculus, which the lemmas below take: identities with terms for variables, transitivity, what is
-- derivable
-- is well sorted, and arguments have the sorts of the domain
abbrev pub WithTerms : Type 0
WithTerms =
    (t : Theory) (s : List ℕ) (a b c d : Tree) → IsTermOf t.operators s a → IsTermOf t.operators s b → IsIdentity c d
    → Derivable t (Equation (instance_of (two s a b) c) (instance_of (two s a b) d))

abbrev pub Chained : Type 0
Chained =
    (t : Theory) (a b c : Tree) → Derivable t (Equation a b) → Derivable t (Equation b c) → Derivable t (Equation a c)

abbrev pub Sorted : Type 0
Sorted = (t : Theory) (s : Statement) → Derivable t s → IsStatementOver t.operators s

abbrev pub OneArgument : Type 0
OneArgument =
    (fs : List PlainOperator) (f : PlainOperator) (r : List ℕ) (a : Tree) → f.domain ≡ r ∷ []
    → IsTermOver fs (apply_one f a) → IsTermOf fs r a

abbrev pub TwoArguments : Type 0
TwoArguments =
    (fs : List PlainOperator) (f : PlainOperator) (r s : List ℕ) (a b : Tree) → f.domain ≡ r ∷ s ∷ []
    → IsTermOver fs (apply_two f a b)
    → IsTermOf fs r a × IsTermOf fs s b

-- the proposition as a term, with terms in the places of x and y
abbrev under : Tree → Tree → Proposition → Tree
under a b p = instance_of (two bool_sort a b) (term_of p)

-- the second proposition where two others agree, and else the first
abbrev so : Proposition → Proposition → Proposition → Proposition → Proposition
so g v c w = chosen (equivalent g v) w c

-- the proposition has no letters but x and y
abbrev IsOfTwo : Proposition → Type 0
IsOfTwo p = (given : List ℕ → Bool) → value given p ≡ value (assigned (given (codes "x")) (given (codes "y"))) p

-- two propositions have one value, for a value of x and one of y
abbrev AgreeAt : Bool → Bool → Proposition → Proposition → Type 0
AgreeAt b c p q = value (assigned b c) p ≡ value (assigned b c) q

agreeing : (p q : Proposition) → AgreeAt true true p q → AgreeAt true false p q → AgreeAt false true p q
    → AgreeAt false false p q
    → (b c : Bool) → AgreeAt b c p q
agreeing p q e f g h true true = e
agreeing p q e f g h true false = f
agreeing p q e f g h false true = g
agreeing p q e f g h false false = h

one : (P : Statement → Type 0) (c : Statement) → P c → All P (c ∷ [])
one P c p = All-cons P c [] p (All-nil P)

both_of : (P : Statement → Type 0) (c d : Statement) → P c → P d → All P (c ∷ d ∷ [])
both_of P c d p q = All-cons P c (d ∷ []) p (one P d q)

-- an instance of the statement is derivable
abbrev instance_is : Theory → List Entry → Statement → Type 0
instance_is t es c = Derivable t (substituted_statement es c)

module _ (with_terms : WithTerms) (chained : Chained) (sorted : Sorted) (one_argument : OneArgument)
    (two_arguments : TwoArguments) where
  identical : {t : Theory} (a b : Tree) → IsTermOf t.operators bool_sort a → IsTermOf t.operators bool_sort b
      → (p q : Proposition)
      → ((given : List ℕ → Bool) → value given p ≡ value given q) → Derivable t (Equation (under a b p) (under a b q))
  identical {t} a b wa wb p q h =
      with_terms t bool_sort a b (term_of p) (term_of q) wa wb (propositional p q refl refl h)

  -- c == w follows from g == v: c equals w where g and v agree, and else itself; and v takes the place of g
  followed : {t : Theory} (a b : Tree) → IsTermOf t.operators bool_sort a → IsTermOf t.operators bool_sort b
      → (g v c w : Proposition)
      → IsOfTwo c → IsOfTwo (so g v c w)
      → AgreeAt true true c (so g v c w) → AgreeAt true false c (so g v c w) → AgreeAt false true c (so g v c w)
      → AgreeAt false false c (so g v c w)
      → Derivable t (Equation (under a b g) (under a b v)) → Derivable t (Equation (under a b c) (under a b w))
  followed {t} a b wa wb g v c w l r e f h k d =
      chained t (under a b c) (under a b (so v v c w)) (under a b w)
      (replace (1 ∷ 1 ∷ [])
      (identical a b wa wb c (so g v c w)
      (λ given. l given ∙ agreeing c (so g v c w) e f h k (given (codes "x")) (given (codes "y")) ∙ sym (r given)))
      d refl refl)
      (identical a b wa wb (so v v c w) w
      (λ given. ap (λ z. cond z (value given w) (value given c)) (agree_itself (value given v))))

  -- what an operator over Bool is applied to is of sort Bool
  argument_sort : {t : Theory} (f : PlainOperator) {a v : Tree} → f.domain ≡ bool_sort ∷ []
      → Derivable t (Equation (apply_one f a) v) → IsTermOf t.operators bool_sort a
  argument_sort {t} f {a} {v} e d = one_argument t.operators f bool_sort a e (sorted t (Equation (apply_one f a) v) d).0

  argument_sorts : {t : Theory} (f : PlainOperator) {a b v : Tree} → f.domain ≡ bool_sort ∷ bool_sort ∷ []
      → Derivable t (Equation (apply_two f a b) v)
      → IsTermOf t.operators bool_sort a × IsTermOf t.operators bool_sort b
  argument_sorts {t} f {a} {b} {v} e d =
      two_arguments t.operators f bool_sort bool_sort a b e (sorted t (Equation (apply_two f a b) v) d).0

  from_conjunction : (t : Theory) (es : List Entry) → instance_is t es (Equation (conjunction x y) truth)
      → All (instance_is t es) (Equation x truth ∷ Equation y truth ∷ [])
  from_conjunction t es d =
      let m = image es (codes "x") bool_sort in
      let n = image es (codes "y") bool_sort in
      let p = argument_sorts (built_in And bool_sort) refl d in
      both_of (instance_is t es) (Equation x truth) (Equation y truth)
      (followed m n p.0 p.1 (both x_letter y_letter) always x_letter always (λ given. refl)
      (λ given. refl) refl refl refl refl d)
      (followed m n p.0 p.1 (both x_letter y_letter) always y_letter always (λ given. refl)
      (λ given. refl) refl refl refl refl d)

  from_no_disjunction : (t : Theory) (es : List Entry) → instance_is t es (Equation (disjunction x y) falsity)
      → All (instance_is t es) (Equation x falsity ∷ Equation y falsity ∷ [])
  from_no_disjunction t es d =
      let m = image es (codes "x") bool_sort in
      let n = image es (codes "y") bool_sort in
      let p = argument_sorts (built_in Or bool_sort) refl d in
      both_of (instance_is t es) (Equation x falsity) (Equation y falsity)
      (followed m n p.0 p.1 (either x_letter y_letter) never x_letter never (λ given. refl)
      (λ given. refl) refl refl refl refl d)
      (followed m n p.0 p.1 (either x_letter y_letter) never y_letter never (λ given. refl)
      (λ given. refl) refl refl refl refl d)

  from_negation : (t : Theory) (es : List Entry) → instance_is t es (Equation (negation x) truth)
      → All (instance_is t es) (Equation x falsity ∷ [])
  from_negation t es d =
      let m = image es (codes "x") bool_sort in
      let p = argument_sort (built_in Not bool_sort) refl d in
      one (instance_is t es) (Equation x falsity)
      (followed m m p p (denied x_letter) always x_letter never (λ given. refl) (λ given. refl) refl refl refl refl d)

  from_no_negation : (t : Theory) (es : List Entry) → instance_is t es (Equation (negation x) falsity)
      → All (instance_is t es) (Equation x truth ∷ [])
  from_no_negation t es d =
      let m = image es (codes "x") bool_sort in
      let p = argument_sort (built_in Not bool_sort) refl d in
      one (instance_is t es) (Equation x truth)
      (followed m m p p (denied x_letter) never x_letter always (λ given. refl) (λ given. refl) refl refl refl refl d)

  from_no_implication : (t : Theory) (es : List Entry) → instance_is t es (Equation (implication x y) falsity)
      → All (instance_is t es) (Equation x truth ∷ Equation y falsity ∷ [])
  from_no_implication t es d =
      let m = image es (codes "x") bool_sort in
      let n = image es (codes "y") bool_sort in
      let p = argument_sorts (built_in Implies bool_sort) refl d in
      both_of (instance_is t es) (Equation x truth) (Equation y falsity)
      (followed m n p.0 p.1 (implied x_letter y_letter) never x_letter always (λ given. refl)
      (λ given. refl) refl refl refl refl d)
      (followed m n p.0 p.1 (implied x_letter y_letter) never y_letter never (λ given. refl)
      (λ given. refl) refl refl refl refl d)

  from_equivalence : (t : Theory) (es : List Entry) → instance_is t es (Equation (equivalence x y) truth)
      → All (instance_is t es) (Equation x y ∷ [])
  from_equivalence t es d =
      let m = image es (codes "x") bool_sort in
      let n = image es (codes "y") bool_sort in
      let p = argument_sorts (built_in Iff bool_sort) refl d in
      one (instance_is t es) (Equation x y)
      (followed m n p.0 p.1 (equivalent x_letter y_letter) always x_letter y_letter (λ given. refl)
      (λ given. refl) refl refl refl refl d)

  from_equality : (t : Theory) (s : List ℕ) (es : List Entry)
      → instance_is t es (Equation (equality s (a s) (b s)) truth) → All (instance_is t es) (Equation (a s) (b s) ∷ [])
  from_equality t s es d = one (instance_is t es) (Equation (a s) (b s)) (equal s d)

  -- the claim of a deduction row
  abbrev IsDeduced : Theory → List Entry → PlainRow → Type 0
  IsDeduced t es row = instance_is t es row.given → All (instance_is t es) row.consequences

  deduced : (t : Theory) (s : List ℕ) (es : List Entry) → Every (IsDeduced t es) (deduction_rows s)
  deduced t s es =
      search (
        rules,
        from_conjunction,
        from_no_disjunction,
        from_negation,
        from_no_negation,
        from_no_implication,
        from_equality,
        from_equivalence,
      )

  pub consequences : (t : Theory) (s : List ℕ) (es : List Entry) (n : ℕ) (row : PlainRow)
      → numbered (deduction_rows s) n ≡ Some row → IsDeduced t es row
  consequences t s es n row e =
      every_at (IsDeduced t es) (deduction_rows s) (n - 1) row (deduced t s es) (at_place (deduction_rows s) n row e)

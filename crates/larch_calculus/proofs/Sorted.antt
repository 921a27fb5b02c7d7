-- Statements stay well sorted over more operators; hypotheses are well sorted.
use Rattle.std.proofs.Common.{◌≡◌, ℕ, suc, ◌⊎◌, inl, inr, cond, List, [], ◌∷◌, ◌++◌, All, Contains, bytes_eq, refl, sym}
use Rattle.std.proofs.Common.{◌∙◌, ap, subst, arith}
use Rattle.std.proofs.lemmas.List.Elements.{All-nil, All-cons, All-append, All-head, All-tail, All-map, All-weaker}
use Rattle.std.proofs.lemmas.List.Elements.{All-contains}
use Rattle.std.proofs.lemmas.Slice.Eq.{bytes_eq-Decides}
use Rattle.larch_term.proofs.BaseBools.{true_or_false}
use Rattle.larch_term.proofs.BaseLists.{all_from}
use Rattle.larch_term.proofs.BaseMembers.{contains_left, contains_right, contains_either}
use Rattle.larch_term.specs.Operator.{PlainOperator}
use Rattle.larch_term.specs.BuiltIn.{bool_sort, built_in}
use Rattle.larch_term.specs.Tree.{Tree, Forest, var, app, none, more}
use Rattle.larch_term.specs.Sorts.{sort_of, sorts_of, WellSorted, AllWellSorted, IsOver, AllOver, IsKnown, IsTermOver}
use Rattle.larch_term.specs.Statement.{IsStatementOver, statement_zero, IsWellSortedTheory}
use Rattle.larch_term.specs.Substitution.{Fits}
use Rattle.larch_term.specs.declared.built_in.BuiltIn.TheVariants.{True, False, And, Implies}
use Rattle.larch_term.specs.declared.variable.Variable.{Variable}
use Rattle.larch_term.specs.declared.statement.Statement.{Statement}
use Rattle.larch_term.specs.declared.statement.Statement.TheVariants.{Equation, Generated, Partitioned}
use Rattle.larch_term.specs.declared.statement.Theory.{Theory}
use Rattle.larch_term_law.proofs.Substitutions.{substituted_sort, substituted_well_sorted, substituted_over}
use Rattle.larch_calculus.specs.Formula.{constant, apply_one, apply_two, falsity, conjunction, implication}
use Rattle.larch_term.specs.Truth.{truth}
use Rattle.larch_calculus.specs.Theories.{IsTermOf, IsIncluded, AreConstants, extend, with_statements}
use Rattle.larch_calculus.specs.Generation.{variables_from, variable_terms, holding, conjunction_from, implied_by}
use Rattle.larch_calculus.specs.Generation.{generation_formula, generation_hypotheses, only, equation_at}
use Rattle.larch_calculus.specs.Generation.{induction_hypotheses}

-- operators known among some are known among others
abbrev pub Knows : List PlainOperator → List PlainOperator → Type 0
Knows fs gs = (f : PlainOperator) → IsKnown fs f → IsKnown gs f

mutual
  pub over_more : (fs gs : List PlainOperator) → Knows fs gs → (t : Tree) → IsOver fs t → IsOver gs t
  over_more fs gs k (var n s) o = tt
  over_more fs gs k (app f ts) o = (k f o.0, all_over_more fs gs k ts o.1)

  pub all_over_more : (fs gs : List PlainOperator) → Knows fs gs → (ts : Forest) → AllOver fs ts → AllOver gs ts
  all_over_more fs gs k none o = tt
  all_over_more fs gs k (more t ts) o = (over_more fs gs k t o.0, all_over_more fs gs k ts o.1)

pub term_over_more : (fs gs : List PlainOperator) → Knows fs gs → (t : Tree) → IsTermOver fs t → IsTermOver gs t
term_over_more fs gs k t w = (w.0, over_more fs gs k t w.1)

pub statement_over_more : (fs gs : List PlainOperator) → Knows fs gs → (s : Statement) → IsStatementOver fs s
    → IsStatementOver gs s
statement_over_more fs gs k (Equation l r) w = (term_over_more fs gs k l w.0, term_over_more fs gs k r w.1, w.2)
statement_over_more fs gs k (Generated s hs) w =
    All-weaker (λ g. IsKnown fs g × (g.range ≡ s)) (λ g. IsKnown gs g × (g.range ≡ s)) (λ g p. (k g p.0, p.1)) hs w
statement_over_more fs gs k (Partitioned s hs) w =
    All-weaker (λ g. IsKnown fs g × Contains g.domain s) (λ g. IsKnown gs g × Contains g.domain s)
    (λ g p. (k g p.0, p.1)) hs w

pub knows_more : (fs gs : List PlainOperator) → Knows fs (fs ++ gs)
knows_more fs gs f (inl c) = inl (contains_left fs gs f c)
knows_more fs gs f (inr b) = inr b

pub knows_last : (fs gs : List PlainOperator) (f : PlainOperator) → Contains gs f → IsKnown (fs ++ gs) f
knows_last fs gs f c = inl (contains_right fs gs f c)

pub known_cases : (fs gs : List PlainOperator) (f : PlainOperator) → IsKnown (fs ++ gs) f → IsKnown fs f ⊎ Contains gs f
known_cases fs gs f (inl c) = elim (contains_either fs gs f c) [ inl a ↦ inl (inl a) | inr b ↦ inr b ]
known_cases fs gs f (inr b) = inl (inr b)

pub knows_included : (t u : Theory) → IsIncluded t u → Knows t.operators u.operators
knows_included t u i f (inl c) = inl (i.operators f c)
knows_included t u i f (inr b) = inr b

-- a theory is included in its extensions
pub included_more : (u : Theory) (cs : List PlainOperator) (hs : List Statement) → IsIncluded u (extend u cs hs)
included_more u cs hs =
    record {
      operators = λ f c. contains_left u.operators cs f c;
      statements = λ s c. contains_left u.statements hs s c;
    }

pub included_with : (u : Theory) (hs : List Statement) → IsIncluded u (with_statements u hs)
included_with u hs = record { operators = λ f c. c; statements = λ s c. contains_left u.statements hs s c }

pub extended_well_sorted : (t : Theory) (cs : List PlainOperator) (hs : List Statement) → IsWellSortedTheory t
    → All (IsStatementOver (t.operators ++ cs)) hs → IsWellSortedTheory (extend t cs hs)
extended_well_sorted t cs hs w h =
    All-append (IsStatementOver (t.operators ++ cs)) t.statements hs
    (All-weaker (IsStatementOver t.operators) (IsStatementOver (t.operators ++ cs))
    (statement_over_more t.operators (t.operators ++ cs) (knows_more t.operators cs)) t.statements w)
    h

pub with_statements_well_sorted : (t : Theory) (hs : List Statement) → IsWellSortedTheory t
    → All (IsStatementOver t.operators) hs → IsWellSortedTheory (with_statements t hs)
with_statements_well_sorted t hs w h = All-append (IsStatementOver t.operators) t.statements hs w h

-- a well sorted formula over operators
abbrev pub IsFormulaOver : List PlainOperator → Tree → Type 0
IsFormulaOver fs t = IsTermOf fs bool_sort t

pub truth_over : (fs : List PlainOperator) → IsFormulaOver fs truth
truth_over fs = ((((refl), tt), (inr (True, (bool_sort, refl)), tt)), refl)

pub falsity_over : (fs : List PlainOperator) → IsFormulaOver fs falsity
falsity_over fs = (((refl, tt), (inr (False, (bool_sort, refl)), tt)), refl)

-- what every theory states of the truth values is well sorted
pub zero_over : (fs : List PlainOperator) → IsStatementOver fs statement_zero
zero_over fs =
    let P : PlainOperator → Type 0 = λ g. IsKnown fs g × (g.range ≡ bool_sort) in
    All-cons P (built_in True bool_sort) (built_in False bool_sort ∷ []) (inr (True, (bool_sort, refl)), refl)
    (All-cons P (built_in False bool_sort) [] (inr (False, (bool_sort, refl)), refl) (All-nil P))

conjunction_over : (fs : List PlainOperator) (t u : Tree) → IsFormulaOver fs t → IsFormulaOver fs u
    → IsFormulaOver fs (conjunction t u)
conjunction_over fs t u p q =
    ((((λ i. p.1 i ∷ q.1 i ∷ []), (p.0.0, (q.0.0, tt))), (inr (And, (bool_sort, refl)), (p.0.1, (q.0.1, tt)))), refl)

implication_over : (fs : List PlainOperator) (t u : Tree) → IsFormulaOver fs t → IsFormulaOver fs u
    → IsFormulaOver fs (implication t u)
implication_over fs t u p q = (
  (((λ i. p.1 i ∷ q.1 i ∷ []), (p.0.0, (q.0.0, tt))), (inr (Implies, (bool_sort, refl)), (p.0.1, (q.0.1, tt)))),
  refl,
)

conjoined_over : (fs : List PlainOperator) (t : Tree) (us : List Tree) → IsFormulaOver fs t
    → All (IsFormulaOver fs) us → IsFormulaOver fs (conjunction_from t us)
conjoined_over fs t [] p h = p
conjoined_over fs t (u ∷ us) p h =
    conjoined_over fs (conjunction t u) us (conjunction_over fs t u p (All-head (IsFormulaOver fs) u us h))
    (All-tail (IsFormulaOver fs) u us h)

implied_over : (fs : List PlainOperator) (us : List Tree) (t : Tree) → All (IsFormulaOver fs) us → IsFormulaOver fs t
    → IsFormulaOver fs (implied_by us t)
implied_over fs [] t h p = p
implied_over fs (u ∷ us) t h p =
    implication_over fs (conjunction_from u us) t
    (conjoined_over fs u us (All-head (IsFormulaOver fs) u us h) (All-tail (IsFormulaOver fs) u us h)) p

-- arguments of a well sorted term have the sorts of its operator's domain
pub side_over : (fs : List PlainOperator) (f : PlainOperator) (r : List ℕ) (a : Tree) → f.domain ≡ r ∷ []
    → IsTermOver fs (apply_one f a) → IsTermOf fs r a
side_over fs f r a e w = let p : sort_of a ∷ [] ≡ r ∷ [] = w.0.0 ∙ e in ((w.0.1.0, w.1.1.0), cc)

pub sides_over : (fs : List PlainOperator) (f : PlainOperator) (r s : List ℕ) (a b : Tree) → f.domain ≡ r ∷ s ∷ []
    → IsTermOver fs (apply_two f a b) → IsTermOf fs r a × IsTermOf fs s b
sides_over fs f r s a b e w =
    let p : sort_of a ∷ sort_of b ∷ [] ≡ r ∷ s ∷ [] = w.0.0 ∙ e in
    (((w.0.1.0, w.1.1.0), cc), ((w.0.1.1.0, w.1.1.1.0), cc))

applied_over : (fs : List PlainOperator) (p : PlainOperator) (s : List ℕ) (t : Tree) → Contains fs p
    → p.domain ≡ s ∷ [] → p.range ≡ bool_sort
    → IsTermOver fs t → sort_of t ≡ s → IsFormulaOver fs (apply_one p t)
applied_over fs p s t c d r w e = (((ap (λ x. x ∷ []) e ∙ sym d, (w.0, tt)), (inl c, (w.1, tt))), r)

holding_over : (fs : List PlainOperator) (p : PlainOperator) (s : List ℕ) (vs : List Variable) → Contains fs p
    → p.domain ≡ s ∷ [] → p.range ≡ bool_sort
    → All (IsFormulaOver fs) (holding p s vs)
holding_over fs p s [] c d r = All-nil (IsFormulaOver fs)
holding_over fs p s (v ∷ vs) c d r =
    let rest = holding_over fs p s vs c d r in
    elim (true_or_false (bytes_eq v.sort s)) [
      | inl e ↦
          subst (λ b. All (IsFormulaOver fs)
          (cond b (apply_one p (var v.name v.sort) ∷ holding p s vs) (holding p s vs)))
          (sym e)
          (All-cons (IsFormulaOver fs) (apply_one p (var v.name v.sort)) (holding p s vs)
          (applied_over fs p s (var v.name v.sort) c d r (tt, tt) ((bytes_eq-Decides v.sort s).0 e)) rest)
      | inr e ↦
          subst (λ b. All (IsFormulaOver fs)
          (cond b (apply_one p (var v.name v.sort) ∷ holding p s vs) (holding p s vs)))
          (sym e) rest
    ]

variable_sorts : (k : ℕ) (ss : List (List ℕ)) → sorts_of (variable_terms (variables_from k ss)) ≡ ss
variable_sorts k [] = refl
variable_sorts k (s ∷ ss) = ap (λ rs. s ∷ rs) (variable_sorts (suc k) ss)

variables_well_sorted : (vs : List Variable) → AllWellSorted (variable_terms vs)
variables_well_sorted [] = tt
variables_well_sorted (v ∷ vs) = (tt, variables_well_sorted vs)

variables_over : (fs : List PlainOperator) (vs : List Variable) → AllOver fs (variable_terms vs)
variables_over fs [] = tt
variables_over fs (v ∷ vs) = (tt, variables_over fs vs)

-- the hypotheses of a generation clause are well sorted over the operators with the predicate
pub generation_over : (t : Theory) (p : PlainOperator) (s : List ℕ) (gs : List PlainOperator)
    → IsStatementOver t.operators (Generated s gs)
    → p.domain ≡ s ∷ [] → p.range ≡ bool_sort
    → All (IsStatementOver (t.operators ++ p ∷ [])) (generation_hypotheses p s gs)
generation_over t p s gs w d r =
    let fs = t.operators ++ p ∷ [] in
    let c : Contains fs p = contains_right t.operators (p ∷ []) p (0, omega arith, refl) in
    All-map (IsStatementOver fs) (λ f. Equation (generation_formula p s f) truth) gs
    (All-weaker (λ f. IsKnown t.operators f × (f.range ≡ s))
    (λ f. IsStatementOver fs (Equation (generation_formula p s f) truth))
    (λ f h.
    let vs = variables_from 1 f.domain in
    let made : IsTermOver fs (app f (variable_terms vs)) = (
      (variable_sorts 1 f.domain, variables_well_sorted vs),
      (knows_more t.operators (p ∷ []) f h.0, variables_over fs vs),
    ) in
    let whole =
    implied_over fs (holding p s vs) (apply_one p (app f (variable_terms vs))) (holding_over fs p s vs c d r)
    (applied_over fs p s (app f (variable_terms vs)) c d r made h.1) in
    (whole.0, (truth_over fs).0, whole.1))
    gs w)

-- a substitution of one variable
pub only_fits : (x s : List ℕ) (t : Tree) → WellSorted t → sort_of t ≡ s → Fits (only x s t)
only_fits x s t w e =
    All-cons (λ e. WellSorted e.term × (sort_of e.term ≡ e.sort)) (record { name = x; sort = s; term = t }) [] (w, e)
    (All-nil (λ e. WellSorted e.term × (sort_of e.term ≡ e.sort)))

pub equation_over : (fs : List PlainOperator) (x s : List ℕ) (l r t : Tree) → IsStatementOver fs (Equation l r)
    → IsTermOver fs t → sort_of t ≡ s
    → IsStatementOver fs (equation_at x s l r t)
equation_over fs x s l r t w v e =
    let es = only x s t in
    let fit = only_fits x s t v.0 e in
    let over : All (λ e. IsOver fs e.term) es = All-cons (λ e. IsOver fs e.term)
    (record { name = x; sort = s; term = t }) [] v.1 (All-nil (λ e. IsOver fs e.term)) in (
      (substituted_well_sorted es l fit w.0.0, substituted_over fs es l over w.0.1),
      (substituted_well_sorted es r fit w.1.0, substituted_over fs es r over w.1.1),
      substituted_sort es l fit ∙ w.2 ∙ sym (substituted_sort es r fit),
    )

-- the hypotheses of an induction are well sorted over operators among which the constants are
pub induction_over : (fs : List PlainOperator) (x s : List ℕ) (l r : Tree) (cs : List PlainOperator)
    → IsStatementOver fs (Equation l r)
    → All (λ c. Contains fs c × (c.domain ≡ [])) cs → All (IsStatementOver fs) (induction_hypotheses x s l r cs)
induction_over fs x s l r [] w h = All-nil (IsStatementOver fs)
induction_over fs x s l r (c ∷ cs) w h =
    let rest = induction_over fs x s l r cs w (All-tail (λ c. Contains fs c × (c.domain ≡ [])) c cs h) in
    let own = All-head (λ c. Contains fs c × (c.domain ≡ [])) c cs h in
    elim (true_or_false (bytes_eq c.range s)) [
      | inl e ↦
          subst (λ b. All (IsStatementOver fs)
          (cond b (equation_at x s l r (constant c) ∷ induction_hypotheses x s l r cs)
          (induction_hypotheses x s l r cs)))
          (sym e)
          (All-cons (IsStatementOver fs) (equation_at x s l r (constant c)) (induction_hypotheses x s l r cs)
          (equation_over fs x s l r (constant c) w ((sym own.1, tt), (inl own.0, tt))
          ((bytes_eq-Decides c.range s).0 e)) rest)
      | inr e ↦
          subst (λ b. All (IsStatementOver fs)
          (cond b (equation_at x s l r (constant c) ∷ induction_hypotheses x s l r cs)
          (induction_hypotheses x s l r cs)))
          (sym e) rest
    ]

-- the hypotheses of an induction are well sorted over the theory's operators and the constants
pub suppositions_over : (t : Theory) (x s : List ℕ) (a b : Tree) (cs : List PlainOperator)
    → IsStatementOver t.operators (Equation a b)
    → AreConstants cs → All (IsStatementOver (t.operators ++ cs)) (induction_hypotheses x s a b cs)
suppositions_over t x s a b cs w k =
    induction_over (t.operators ++ cs) x s a b cs
    (statement_over_more t.operators (t.operators ++ cs) (knows_more t.operators cs) (Equation a b) w)
    (all_from (λ c. Contains (t.operators ++ cs) c × (c.domain ≡ [])) cs
    (λ c h. (contains_right t.operators cs c h, All-contains (λ c. c.domain ≡ []) cs c k h)))

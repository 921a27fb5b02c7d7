-- A term that is true by its conjuncts.
use Rattle.std.specs.Prelude.{◌≡◌, ◌<◌, ℕ, true, false, List, [], ◌∷◌, ◌++◌, refl}
use Rattle.std.proofs.Common.{arith, ap, sym, subst, ◌∙◌}
use Rattle.std.proofs.lemmas.List.{append_assoc, append-nil}
use Rattle.larch_term.specs.BuiltIn.{bool_sort, built_in}
use Rattle.larch_term.specs.Operator.{PlainOperator}
use Rattle.larch_term.specs.OperatorKey.{operator_Decides, same_operator}
use Rattle.larch_term.specs.Tree.{Tree, var, app, nodes}
use Rattle.larch_term.specs.Truth.{truth}
use Rattle.larch_term.specs.declared.built_in.BuiltIn.TheVariants.{And}
use Rattle.larch_term.specs.declared.statement.Statement.TheVariants.{Equation}
use Rattle.larch_derive.specs.TablesSpelling.{x}
use Rattle.larch_calculus.specs.Formula.{conjunction, apply_two}
use Rattle.larch_derive.specs.Predicates.{Extends, HasEquation, Known}
use Rattle.larch_derive.specs.declared.builder.Builder.{Builder}
use Rattle.larch_derive.proofs.Growth.{extends_trans, stays_said}
use Rattle.larch_prove_plans.specs.ProveMeaningPlans.{conjuncts, conjuncts_in}
use Rattle.larch_methods.specs.Conjuncts.{AreTrue, HasConjuncts, is_headed_by}
use Rattle.larch_methods.specs.Methods.{IsKnownFormula}
use Rattle.larch_methods.specs.Rows.{HasArguments, IsSettledBy}
use Rattle.larch_methods.proofs.Connectives.{known_arguments}
use Rattle.larch_methods.proofs.Settled.{formula_stays}

pub true_still : (a b : Builder) (ts : List Tree) (ns : List ℕ) → Extends a b → AreTrue a ts ns → AreTrue b ts ns
true_still a b [] [] e h = tt
true_still a b [] (n ∷ ns) e h = h
true_still a b (t ∷ ts) [] e h = h
true_still a b (t ∷ ts) (n ∷ ns) e h = (stays_said a b n (Equation t truth) e h.0, true_still a b ts ns e h.1)

-- lines of two lists of terms are those of the one and those of the other
parted : (b : Builder) (ts us : List Tree) (ns : List ℕ) (P : Type 0) → AreTrue b (ts ++ us) ns
    → ((ms ks : List ℕ) → ns ≡ ms ++ ks → AreTrue b ts ms → AreTrue b us ks → P) → P
parted b [] us ns P h go = go [] ns refl tt h
parted b (t ∷ ts) us [] P h go = absurd h
parted b (t ∷ ts) us (n ∷ ns) P h go =
    parted b ts us ns P h.1 (λ ms ks e p q. go (n ∷ ms) ks (ap (λ l. n ∷ l) e) (h.0, p) q)

-- ---- a conjunction

-- its arguments, and its operator
headed : (f : PlainOperator) (g first second : Tree) → is_headed_by f g ≡ true → HasArguments g first second
    → g ≡ apply_two f first second
headed f g first second e h =
    h.whole_is ∙ ap (λ k. apply_two k first second)
    (sym ((operator_Decides f h.operator).0 (ap (is_headed_by f) (sym h.whole_is) ∙ e)))

pub is_conjunction : (b : Builder) (f : PlainOperator) (g first second : Tree) (lines those behind : List ℕ)
    → is_headed_by f g ≡ true → HasArguments g first second → HasConjuncts b f g lines those behind
    → g ≡ conjunction first second
is_conjunction b f g first second lines those behind e h c =
    headed f g first second e h ∙ ap (λ k. apply_two k first second) c.operator_is

both_of : (t u : Tree) → conjuncts (conjunction t u) ≡ conjuncts t ++ conjuncts u
unfolding same_operator
both_of t u = ap (λ ts. conjuncts t ++ ts) (append-nil (conjuncts u))

-- what the lines are of each of its arguments
pub by_arguments : (b : Builder) (f : PlainOperator) (g first second : Tree) (lines those behind : List ℕ) (P : Type 0)
    → is_headed_by f g ≡ true → HasArguments g first second → HasConjuncts b f g lines those behind
    → ((ms ks : List ℕ) → HasConjuncts b f first lines ms (ks ++ behind) → AreTrue b (conjuncts second) ks
    → IsKnownFormula b second → P)
    → P
by_arguments b f g first second lines those behind P e h c go =
    let i = is_conjunction b f g first second lines those behind e h c in
    let k = known_arguments b (built_in And bool_sort) first second refl (subst (Known b) i c.formula.known) in
    parted b (conjuncts first) (conjuncts second) those P
    (subst (λ ts. AreTrue b ts those) (ap conjuncts i ∙ both_of first second) c.shown)
    (λ ms ks q p r. go ms ks (record {
      operator_is = c.operator_is;
      lines_are = c.lines_are ∙ (ap (λ ns. ns ++ behind) q ∙ append_assoc ms ks behind);
      shown = p;
      formula = k.0;
    }) r k.1)

-- the lines of the second argument, where lines were written for the first
pub second_has : (a b : Builder) (f : PlainOperator) (second : Tree) (left ks behind : List ℕ) → Extends a b
    → f ≡ built_in And bool_sort → left ≡ ks ++ behind → AreTrue a (conjuncts second) ks → IsKnownFormula a second
    → HasConjuncts b f second left ks behind
second_has a b f second left ks behind x e q h k =
    record {
      operator_is = e;
      lines_are = q;
      shown = true_still a b (conjuncts second) ks x h;
      formula = formula_stays a b second x k;
    }

-- an argument has fewer nodes
pub first_falls : (g first second : Tree) → HasArguments g first second → nodes first < nodes g
first_falls g first second h = let e = ap nodes h.whole_is in omega (arith, e)

pub second_falls : (g first second : Tree) → HasArguments g first second → nodes second < nodes g
second_falls g first second h = let e = ap nodes h.whole_is in omega (arith, e)

-- ---- another term is its only conjunct

alone : (f : PlainOperator) (g : Tree) → f ≡ built_in And bool_sort → is_headed_by f g ≡ false → conjuncts g ≡ g ∷ []
alone f (var n s) e h = refl
alone f (app k ts) e h =
    ap (λ b. elim b [ true ↦ conjuncts_in ts | false ↦ app k ts ∷ [] ]) (ap (λ o. same_operator o k) (sym e) ∙ h)

front_same : (n m : ℕ) (ns ms : List ℕ) → n ∷ ns ≡ m ∷ ms → (n ≡ m) × (ns ≡ ms)
front_same n m ns ms e = (cc, cc)

pub only_line : (b : Builder) (f : PlainOperator) (g : Tree) (lines : List ℕ) (n : ℕ) (ns those behind : List ℕ)
    → is_headed_by f g ≡ false → lines ≡ n ∷ ns → HasConjuncts b f g lines those behind
    → HasEquation b n g truth × (ns ≡ behind)
only_line b f g lines n ns those behind e q c =
    one those (subst (λ ts. AreTrue b ts those) (alone f g c.operator_is e) c.shown) (sym q ∙ c.lines_are)
  where
    one : (ms : List ℕ) → AreTrue b (g ∷ []) ms → n ∷ ns ≡ ms ++ behind → HasEquation b n g truth × (ns ≡ behind)
    one [] h p = absurd h
    one (m ∷ []) h p =
        let r = front_same n m ns behind p in (subst (λ k. HasEquation b k g truth) (sym r.0) h.0, r.1)
    one (m ∷ k ∷ ms) h p = absurd h.1

pub only_says : (b : Builder) (f : PlainOperator) (g : Tree) (lines : List ℕ) (n : ℕ) (ns those behind : List ℕ)
    → is_headed_by f g ≡ false → lines ≡ n ∷ ns → HasConjuncts b f g lines those behind → HasEquation b n g truth
only_says b f g lines n ns those behind e q c = (only_line b f g lines n ns those behind e q c).0

pub only_behind : (b : Builder) (f : PlainOperator) (g : Tree) (lines : List ℕ) (n : ℕ) (ns those behind : List ℕ)
    → is_headed_by f g ≡ false → lines ≡ n ∷ ns → HasConjuncts b f g lines those behind → ns ≡ behind
only_behind b f g lines n ns those behind e q c = (only_line b f g lines n ns those behind e q c).1

-- ---- the arguments of a conjunction, one after the other

-- what was written for the first argument
pub first_joined : (a b : Builder) (f : PlainOperator) (g first second : Tree) (lines left those behind : List ℕ)
    (P : Type 0) → is_headed_by f g ≡ true → HasArguments g first second → HasConjuncts a f g lines those behind
    → ((ms ks : List ℕ) → HasConjuncts a f first lines ms ks → left ≡ ks)
    → ((ms ks : List ℕ) → HasConjuncts a f first lines ms ks → Extends a b)
    → (Extends a b → (ks : List ℕ) → HasConjuncts b f second left ks behind → P) → P
first_joined a b f g first second lines left those behind P e h k rest extends go =
    by_arguments a f g first second lines those behind P e h k (λ ms ks p q r.
    let x = extends ms (ks ++ behind) p in
    go x ks (second_has a b f second left ks behind x k.operator_is (rest ms (ks ++ behind) p) q r))

-- what was written for the first argument, and then for the second
pub both_joined : (a b c : Builder) (f : PlainOperator) (g first second : Tree) (lines left right those behind : List ℕ)
    (line further : ℕ) (P : Type 0) → is_headed_by f g ≡ true → HasArguments g first second
    → HasConjuncts a f g lines those behind
    → ((ms ks : List ℕ) → HasConjuncts a f first lines ms ks → HasEquation b line first truth)
    → ((ms ks : List ℕ) → HasConjuncts a f first lines ms ks → left ≡ ks)
    → ((ms ks : List ℕ) → HasConjuncts a f first lines ms ks → Extends a b)
    → ((ms ks : List ℕ) → HasConjuncts b f second left ms ks → HasEquation c further second truth)
    → ((ms ks : List ℕ) → HasConjuncts b f second left ms ks → right ≡ ks)
    → ((ms ks : List ℕ) → HasConjuncts b f second left ms ks → Extends b c)
    → (Extends a c → right ≡ behind → g ≡ conjunction first second → IsKnownFormula c g
    → HasEquation c line first truth → HasEquation c further second truth → P)
    → P
both_joined a b c f g first second lines left right those behind line further P e h k says0 rest0 extends0 says1
    rest1 extends1 go =
    by_arguments a f g first second lines those behind P e h k (λ ms ks p q r.
    let x = extends0 ms (ks ++ behind) p in
    let n = second_has a b f second left ks behind x k.operator_is (rest0 ms (ks ++ behind) p) q r in
    let y = extends1 ks behind n in
    let z = extends_trans a b c x y in
    go z (rest1 ks behind n) (is_conjunction a f g first second lines those behind e h k)
    (formula_stays a c g z k.formula) (stays_said b c line (Equation first truth) y (says0 ms (ks ++ behind) p))
    (says1 ks behind n))

-- ---- the row

pub both_settles : (b : Builder) (whole t u first : Tree) (line : ℕ) → whole ≡ conjunction t u → first ≡ t
    → IsKnownFormula b whole → HasEquation b line u truth → IsSettledBy b whole 2 line 5 first first
both_settles b whole t u first line e f k h =
    record {
      operator = built_in And bool_sort;
      before = t ∷ [];
      argument = u;
      behind = [];
      now = truth;
      left = conjunction x truth;
      right = x;
      whole_is = e;
      number_is = refl;
      says = h;
      row_is = refl;
      left_is = ap (λ s. conjunction s truth) f;
      right_is = refl;
      known = k.known;
      formula_known = subst (IsKnownFormula b) (sym f)
          (known_arguments b (built_in And bool_sort) t u refl (subst (Known b) e k.known)).0;
    }

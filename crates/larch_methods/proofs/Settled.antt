-- What connectives come to by rows, in lines.
use Rattle.std.specs.Prelude.{◌≡◌, ◌+◌, ◌++◌, ℕ, true, List, [], ◌∷◌, map, codes, length, refl}
use Rattle.std.proofs.Common.{ap, sym, subst}
use Rattle.std.proofs.lemmas.List.Elements.{All-cons, All-nil}
use Rattle.larch_term.specs.BuiltIn.{bool_sort, built_in}
use Rattle.larch_term.specs.Operator.{PlainOperator}
use Rattle.larch_term.specs.Sorts.{sort_of}
use Rattle.larch_term.specs.Substitution.{instance_of}
use Rattle.larch_term.specs.Tree.{Tree, app, forest_of}
use Rattle.larch_term.specs.Truth.{truth}
use Rattle.larch_term.specs.declared.built_in.BuiltIn.TheVariants.{Implies}
use Rattle.larch_term.specs.declared.statement.Statement.TheVariants.{Equation}
use Rattle.larch_term.specs.declared.substitution.Entry.{Entry}
use Rattle.larch_calculus.specs.Formula.{falsity, implication}
use Rattle.larch_calculus.specs.Generation.{only}
use Rattle.larch_derive.specs.VerifyMeaningMatching.{all_different}
use Rattle.larch_derive.specs.VerifyMeaningRules.{row_says}
use Rattle.larch_derive.specs.TablesSpelling.{x}
use Rattle.std.specs.Prelude.{None, Some}
use Rattle.larch_derive.specs.Predicates.{Extends, HasEquation, Known}
use Rattle.larch_derive.specs.declared.builder.Builder.{Builder}
use Rattle.larch_derive.proofs.Growth.{extends_trans, stays_known, stays_said}
use Rattle.larch_derive_lines.specs.Rules.{variable_in, AreKnownEntries}
use Rattle.larch_methods.specs.Methods.{IsKnownFormula}
use Rattle.larch_derive.specs.CertificateTextLineText.{IsWord}
use Rattle.larch_methods.specs.Rows.{IsSettledBy, of_formula}
use Rattle.larch_methods.proofs.Connectives.{known_arguments}

pub formula_stays : (a b : Builder) (f : Tree) → Extends a b → IsKnownFormula a f → IsKnownFormula b f
formula_stays a b f e k = record { known = stays_known a b f e k.known; sort = k.sort }

-- ---- a row with a formula in the place of its variable

entry_known : (b : Builder) (f : Tree) → IsKnownFormula b f → AreKnownEntries b (only (codes "x") bool_sort f)
entry_known b f k =
    All-cons (λ e. Known b e.term × (sort_of e.term ≡ e.sort) × IsWord e.name)
    (record { name = codes "x"; sort = bool_sort; term = f }) [] (k.known, k.sort, refl)
    (All-nil (λ e. Known b e.term × (sort_of e.term ≡ e.sort) × IsWord e.name))

row_of_formula : (b : Builder) (m : ℕ) (es : List Entry) (f l r : Tree) (P : List Entry → Type 0)
    → es ≡ only (codes "x") bool_sort f → IsKnownFormula b f → HasEquation b m l r
    → ((l r : Tree) → HasEquation b m l r → AreKnownEntries b es → all_different (map variable_in es) ≡ true
    → P es)
    → P (only (codes "x") bool_sort f)
row_of_formula b m es f l r P e k h go =
    subst P e (go l r h (subst (AreKnownEntries b) (sym e) (entry_known b f k))
    (ap (λ ds. all_different (map variable_in ds)) e))

pub row_said : (b c : Builder) (m n : ℕ) (es : List Entry) (f l r : Tree) → es ≡ only (codes "x") bool_sort f
    → IsKnownFormula b f → HasEquation b m l r
    → ((l r : Tree) → HasEquation b m l r → AreKnownEntries b es → all_different (map variable_in es) ≡ true
    → HasEquation c n (instance_of es l) (instance_of es r))
    → HasEquation c n (of_formula f l) (of_formula f r)
row_said b c m n es f l r e k h go =
    row_of_formula b m es f l r (λ ds. HasEquation c n (instance_of ds l) (instance_of ds r)) e k h
    (λ u v w j d. go l r h j d)

pub row_extends : (b c : Builder) (m : ℕ) (es : List Entry) (f l r : Tree) → es ≡ only (codes "x") bool_sort f
    → IsKnownFormula b f → HasEquation b m l r
    → ((l r : Tree) → HasEquation b m l r → AreKnownEntries b es → all_different (map variable_in es) ≡ true
    → Extends b c)
    → Extends b c
row_extends b c m es f l r e k h go =
    row_of_formula b m es f l r (λ ds. Extends b c) e k h (λ u v w j d. go u v w j d)

-- ---- a term that a row settles

-- what the line of the changed argument takes
pub settled_begun : (a b : Builder) (whole : Tree) (number line row : ℕ) (formula v : Tree) (same : ℕ) (P : Type 0)
    (h : IsSettledBy a whole number line row formula v) → (Known a whole → HasEquation b same whole whole)
    → (Known a whole → Extends a b)
    → (Extends a b → HasEquation b same whole (app h.operator (forest_of (h.before ++ h.argument ∷ h.behind)))
    → HasEquation b line h.argument h.now → P) → P
settled_begun a b whole number line row formula v same P h s0 e0 go =
    let first = e0 h.known in
    go first (subst (HasEquation b same whole) h.whole_is (s0 h.known))
    (stays_said a b line (Equation h.argument h.now) first h.says)

-- and what the row takes behind it
pub settled_changed : (a b c : Builder) (whole : Tree) (number line row : ℕ) (formula v : Tree) (same : ℕ) (P : Type 0)
    (h : IsSettledBy a whole number line row formula v) → (Known a whole → HasEquation b same whole whole)
    → (Known a whole → Extends a b)
    → ((s t u : Tree) (f : PlainOperator) (done rest : List Tree) → number ≡ length done + 1
    → HasEquation b same s (app f (forest_of (done ++ t ∷ rest))) → HasEquation b line t u → Extends b c)
    → (Extends a c → IsKnownFormula c formula → P) → P
settled_changed a b c whole number line row formula v same P h s0 e0 e1 go =
    settled_begun a b whole number line row formula v same P h s0 e0 (λ first begun changing.
    let second = e1 whole h.argument h.now h.operator h.before h.behind h.number_is begun changing in
    go (extends_trans a b c first second)
    (formula_stays b c formula second (formula_stays a b formula first h.formula_known)))

pub settles : (a b c d : Builder) (whole : Tree) (number line row : ℕ) (formula v : Tree) (same changed settled : ℕ)
    (P : Type 0) → IsSettledBy a whole number line row formula v
    → (Known a whole → HasEquation b same whole whole) → (Known a whole → Extends a b)
    → ((s t u : Tree) (f : PlainOperator) (done rest : List Tree) → number ≡ length done + 1
    → HasEquation b same s (app f (forest_of (done ++ t ∷ rest))) → HasEquation b line t u
    → HasEquation c changed s (app f (forest_of (done ++ u ∷ rest))))
    → ((s t u : Tree) (f : PlainOperator) (done rest : List Tree) → number ≡ length done + 1
    → HasEquation b same s (app f (forest_of (done ++ t ∷ rest))) → HasEquation b line t u → Extends b c)
    → ((l r : Tree) → row_says row None ≡ Some (Equation l r) → IsKnownFormula c formula
    → HasEquation d settled (of_formula formula l) (of_formula formula r))
    → ((l r : Tree) → row_says row None ≡ Some (Equation l r) → IsKnownFormula c formula → Extends c d)
    → (Extends a d → (u : Tree) → HasEquation d changed whole u → HasEquation d settled u v → P) → P
settles a b c d whole number line row formula v same changed settled P h s0 e0 s1 e1 s2 e2 go =
    let first = e0 h.known in
    let begun = subst (HasEquation b same whole) h.whole_is (s0 h.known) in
    let changing = stays_said a b line (Equation h.argument h.now) first h.says in
    let second = e1 whole h.argument h.now h.operator h.before h.behind h.number_is begun changing in
    let known = formula_stays b c formula second (formula_stays a b formula first h.formula_known) in
    let third = e2 h.left h.right h.row_is known in
    let after = app h.operator (forest_of (h.before ++ h.now ∷ h.behind)) in
    go (extends_trans a c d (extends_trans a b c first second) third) after
    (stays_said c d changed (Equation whole after) third
    (s1 whole h.argument h.now h.operator h.before h.behind h.number_is begun changing))
    (subst (λ t. HasEquation d settled t v) h.left_is
    (subst (HasEquation d settled (of_formula formula h.left)) h.right_is (s2 h.left h.right h.row_is known)))

-- ---- implications

-- the arguments of an implication are known formulas
sides_known : (b : Builder) (whole p q : Tree) → whole ≡ implication p q → IsKnownFormula b whole
    → IsKnownFormula b p × IsKnownFormula b q
sides_known b whole p q e k =
    known_arguments b (built_in Implies bool_sort) p q refl (subst (Known b) e k.known)

pub premise_known : (b : Builder) (whole p q first : Tree) → whole ≡ implication p q → first ≡ p
    → IsKnownFormula b whole → IsKnownFormula b first
premise_known b whole p q first e f k = subst (IsKnownFormula b) (sym f) (sides_known b whole p q e k).0

pub conclusion_settles : (b : Builder) (whole p q first : Tree) (line : ℕ) → whole ≡ implication p q → first ≡ p
    → IsKnownFormula b whole → HasEquation b line q truth → IsSettledBy b whole 2 line 16 first truth
conclusion_settles b whole p q first line e f k h =
    record {
      operator = built_in Implies bool_sort;
      before = p ∷ [];
      argument = q;
      behind = [];
      now = truth;
      left = implication x truth;
      right = truth;
      whole_is = e;
      number_is = refl;
      says = h;
      row_is = refl;
      left_is = ap (λ t. implication t truth) f;
      right_is = refl;
      known = k.known;
      formula_known = premise_known b whole p q first e f k;
    }

pub premise_settles : (b : Builder) (whole p q first second : Tree) (line : ℕ) → whole ≡ implication p q
    → first ≡ p → second ≡ q → IsKnownFormula b whole → HasEquation b line first falsity
    → IsSettledBy b whole 1 line 15 second truth
premise_settles b whole p q first second line e f g k h =
    record {
      operator = built_in Implies bool_sort;
      before = [];
      argument = p;
      behind = q ∷ [];
      now = falsity;
      left = implication falsity x;
      right = truth;
      whole_is = e;
      number_is = refl;
      says = subst (λ t. HasEquation b line t falsity) f h;
      row_is = refl;
      left_is = ap (λ t. implication falsity t) g;
      right_is = refl;
      known = k.known;
      formula_known = subst (IsKnownFormula b) (sym g) (sides_known b whole p q e k).1;
    }

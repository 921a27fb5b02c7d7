-- Equalities, and the row that says that a term is equal to itself.
use Rattle.std.specs.Prelude.{◌≡◌, ◌+◌, ℕ, true, cond, List, [], ◌∷◌, ◌++◌, map, length, codes, Some}
use Rattle.std.specs.Prelude.{refl}
use Rattle.std.proofs.Common.{ap, subst, sym, ◌∙◌}
use Rattle.std.proofs.lemmas.List.Elements.{All-cons, All-nil}
use Rattle.std.proofs.lemmas.Slice.Eq.{bytes_eq-Decides}
use Rattle.larch_term.specs.BuiltIn.{built_in, is_built_in_as}
use Rattle.larch_term.specs.Operator.{PlainOperator}
use Rattle.larch_term.specs.OperatorKey.{operator_Decides}
use Rattle.larch_term.specs.Sorts.{sort_of}
use Rattle.larch_term.specs.Substitution.{image, instance_of}
use Rattle.larch_term.specs.Tree.{Tree, app, forest_of, var}
use Rattle.larch_term.specs.Truth.{truth}
use Rattle.larch_term.specs.declared.built_in.BuiltIn.TheVariants.{Equal}
use Rattle.larch_term.specs.declared.statement.Statement.{Statement}
use Rattle.larch_term.specs.declared.statement.Statement.TheVariants.{Equation}
use Rattle.larch_term.specs.declared.substitution.Entry.{Entry}
use Rattle.larch_derive.specs.TablesSpelling.{a}
use Rattle.larch_calculus.specs.Formula.{apply_two, equality}
use Rattle.larch_derive.specs.CertificateTextLineText.{IsWord}
use Rattle.larch_derive.specs.VerifyMeaningMatching.{all_different}
use Rattle.larch_derive.specs.VerifyMeaningRules.{row_says}
use Rattle.larch_derive.specs.Predicates.{Extends, HasEquation, HasNoBadLine, HasStatement, Known}
use Rattle.larch_derive.specs.declared.builder.Builder.{Builder}
use Rattle.larch_derive.proofs.Growth.{extends_trans, known_left, known_stands, stays_known, stays_said}
use Rattle.larch_derive.proofs.Words.{known_sort}
use Rattle.larch_prove_invariant.specs.DeriveLinesRules.{variable_in, AreKnownEntries, IsWordedSort}
use Rattle.larch_prove_invariant.specs.ProveMeaningPlans.{two_arguments}
use Rattle.larch_prove_invariant.proofs.ProveMeaningCasePlans.{arguments_found}
use Rattle.larch_prove_invariant.proofs.Knowing.{known_over}

-- a term for the variable a of its sort
abbrev pub for_a : Tree → List Entry
for_a t = record { name = codes "a"; sort = sort_of t; term = t } ∷ []

a_is : (t : Tree) → image (for_a t) (codes "a") (sort_of t) ≡ t
a_is t =
    ap (λ c. cond c t (var (codes "a") (sort_of t))) ((bytes_eq-Decides (sort_of t) (sort_of t)).1 refl)

a_known : (b : Builder) (t : Tree) → Known b t → AreKnownEntries b (for_a t)
a_known b t k =
    let P : Entry → Type 0 = λ e. Known b e.term × (sort_of e.term ≡ e.sort) × IsWord e.name in
    All-cons P (record { name = codes "a"; sort = sort_of t; term = t }) [] (k, refl, refl) (All-nil P)

-- what pushes the row at a sort says
abbrev SaysRow : Builder → Builder → ℕ → List ℕ → Type 0
SaysRow m n k z =
    (s : Statement) → HasNoBadLine m → row_says 24 (Some z) ≡ Some s → IsWordedSort (Some z) → HasStatement n k s

abbrev PushesRow : Builder → Builder → List ℕ → Type 0
PushesRow m n z =
    (s : Statement) → HasNoBadLine m → row_says 24 (Some z) ≡ Some s → IsWordedSort (Some z) → Extends m n

row_is : (z s : List ℕ) → z ≡ s → row_says 24 (Some z) ≡ Some (Equation (equality s (a s) (a s)) truth)
row_is z s e = subst (λ y. row_says 24 (Some y) ≡ Some (Equation (equality s (a s) (a s)) truth)) (sym e) refl

-- a line of the row is there, and a term may take the variable's place
pub record ItselfAt (m n : Builder) (k : ℕ) (t : Tree) (es : List Entry) : Type 0 where
  pub extends : Extends m n
  pub says : HasEquation n k (equality (sort_of t) (a (sort_of t)) (a (sort_of t))) truth
  pub known : AreKnownEntries n es
  pub different : all_different (map variable_in es) ≡ true

pub itself_at : (m n : Builder) (k : ℕ) (t : Tree) (es : List Entry) (z : List ℕ) → es ≡ for_a t → z ≡ sort_of t
    → Known m t → SaysRow m n k z → PushesRow m n z → ItselfAt m n k t es
itself_at m n k t es z e i h says extends =
    let s = sort_of t in
    let stands = known_stands m t h in
    let word = subst IsWord (sym i) (known_sort m t h) in
    let x = extends (Equation (equality s (a s) (a s)) truth) stands (row_is z s i) word in
    record {
      extends = x;
      says = says (Equation (equality s (a s) (a s)) truth) stands (row_is z s i) word;
      known = subst (AreKnownEntries n) (sym e) (a_known n t (stays_known m n t x h));
      different = subst (λ fs. all_different (map variable_in fs) ≡ true) (sym e) refl;
    }

-- with the term in it
pub itself_says : (o : Builder) (q : ℕ) (t : Tree) (es : List Entry) → es ≡ for_a t
    → HasEquation o q (instance_of es (equality (sort_of t) (a (sort_of t)) (a (sort_of t)))) (instance_of es truth)
    → HasEquation o q (equality (sort_of t) t t) truth
itself_says o q t es e h =
    let s = sort_of t in
    subst (λ u. HasEquation o q (equality s u u) truth) (a_is t)
    (subst (λ fs. HasEquation o q (instance_of fs (equality s (a s) (a s))) (instance_of fs truth)) e h)

-- ---- the equality of two terms

-- the term's equality with itself is true, and the sides are exchanged
abbrev pub SaysItself : Builder → Builder → ℕ → Tree → Type 0
SaysItself b m itself l = Known b l → HasEquation m itself (equality (sort_of l) l l) truth

abbrev pub Exchanges : Builder → Builder → ℕ → ℕ → Type 0
Exchanges m d itself back = (u v : Tree) → HasEquation m itself u v → HasEquation d back v u

abbrev pub ExchangesOn : Builder → Builder → ℕ → Type 0
ExchangesOn m d itself = (u v : Tree) → HasEquation m itself u v → Extends m d

pub changed_says : (b m d c : Builder) (line itself back changed : ℕ) (l : Tree) → SaysItself b m itself l
    → (Known b l → Extends b m) → Exchanges m d itself back → ExchangesOn m d itself
    → ((s t u : Tree) (f : PlainOperator) (done rest : List Tree) → 2 ≡ length done + 1
    → HasEquation d back s (app f (forest_of (done ++ t ∷ rest))) → HasEquation d line t u
    → HasEquation c changed s (app f (forest_of (done ++ u ∷ rest))))
    → (r : Tree) → HasEquation b line l r → HasEquation c changed truth (equality (sort_of l) l r)
changed_says b m d c line itself back changed l says extends turn turns change r h =
    let k = known_left b line l r h in
    let i = says k in
    let x = extends_trans b m d (extends k) (turns (equality (sort_of l) l l) truth i) in
    change truth l r (built_in Equal (sort_of l)) (l ∷ []) [] refl (turn (equality (sort_of l) l l) truth i)
    (stays_said b d line (Equation l r) x h)

pub changed_extends : (b m d c : Builder) (line itself back : ℕ) (l : Tree) → SaysItself b m itself l
    → (Known b l → Extends b m) → Exchanges m d itself back → ExchangesOn m d itself
    → ((s t u : Tree) (f : PlainOperator) (done rest : List Tree) → 2 ≡ length done + 1
    → HasEquation d back s (app f (forest_of (done ++ t ∷ rest))) → HasEquation d line t u → Extends d c)
    → (r : Tree) → HasEquation b line l r → Extends b c
changed_extends b m d c line itself back l says extends turn turns change r h =
    let k = known_left b line l r h in
    let i = says k in
    let x = extends_trans b m d (extends k) (turns (equality (sort_of l) l l) truth i) in
    extends_trans b d c x
    (change truth l r (built_in Equal (sort_of l)) (l ∷ []) [] refl (turn (equality (sort_of l) l l) truth i)
    (stays_said b d line (Equation l r) x h))

-- ---- the goal of a partition

same_sort : (x y z : List ℕ) → x ∷ y ∷ [] ≡ z ∷ z ∷ [] → x ≡ z
same_sort x y z e = cc

-- a known equality is that of its sides at their sort
pub equality_of : (b : Builder) (g l r : Tree) → Known b g → two_arguments (λ f. is_built_in_as f Equal) g ≡ Some (l, r)
    → g ≡ equality (sort_of l) l r
equality_of b g l r k e =
    let two = arguments_found (λ f. is_built_in_as f Equal) g (l, r) e in
    let f = two.0 in
    let q = (operator_Decides f (built_in Equal _)).0 two.1.0 in
    let w = known_over b (apply_two f l r) (subst (Known b) two.1.1 k) in
    let s = same_sort (sort_of l) (sort_of r) _ (w.0.0 ∙ ap (λ (h : PlainOperator). h.domain) q) in
    two.1.1 ∙ ap (λ h. apply_two h l r) (q ∙ ap (built_in Equal) (sym s))

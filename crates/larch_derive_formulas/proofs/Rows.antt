-- Rows with known terms in the places of their variables.
use Rattle.std.specs.Prelude.{◌≡◌, ℕ, true, cond, List, [], ◌∷◌, map, codes, bytes_eq, None, Some, refl}
use Rattle.std.proofs.Common.{ap, ap₂, sym, subst, ◌∙◌}
use Rattle.std.proofs.lemmas.List.Elements.{All-cons, All-nil, All-weaker}
use Rattle.std.proofs.lemmas.Slice.Eq.{bytes_eq-Decides}
use Rattle.larch_term.specs.BuiltIn.{bool_sort}
use Rattle.larch_term.specs.Operator.{PlainOperator}
use Rattle.larch_term.specs.Sorts.{sort_of}
use Rattle.larch_term.specs.Substitution.{image, instance_of}
use Rattle.larch_term.specs.Tree.{Tree, var, app}
use Rattle.larch_term.specs.Truth.{truth}
use Rattle.larch_term.specs.declared.statement.Statement.{Statement}
use Rattle.larch_term.specs.declared.statement.Statement.TheVariants.{Equation}
use Rattle.larch_term.specs.declared.substitution.Entry.{Entry}
use Rattle.larch_derive_lines.specs.CalculusFormula.{apply_one, choice, equality, equivalence, falsity, apply_two}
use Rattle.larch_derive_lines.specs.TablesSpelling.{x, y, a, b}
use Rattle.larch_derive_lines.specs.CertificateTextLineText.{IsWord}
use Rattle.larch_derive_lines.specs.VerifyMeaningMatching.{all_different}
use Rattle.larch_derive_lines.specs.VerifyMeaningRules.{row_says}
use Rattle.larch_derive_lines.specs.DerivePredicates.{written_term, Known, HasNoBadLine}
use Rattle.larch_derive_lines.specs.DerivePredicates.{HasEquation, HasStatement, Extends}
use Rattle.larch_derive_lines.specs.DeriveBuilderBuilder.{Builder}
use Rattle.larch_derive_lines.specs.DeriveOpen_boxOpenBox.{OpenBox}
use Rattle.larch_derive_lines.proofs.DeriveGrowth.{extends_grows, grown_stands, known_stands}
use Rattle.larch_derive_lines.proofs.DeriveGrowth.{extends_trans, stays_known}
use Rattle.larch_derive_lines.proofs.DeriveWords.{known_sort}
use Rattle.larch_derive_lines.specs.Rules.{variable_in, AreKnownEntries, IsWordedSort}
use Rattle.larch_derive_formulas.specs.Instances.{truths, values, of_truths, of_values, IsKnownAt, MayReplace}
use Rattle.larch_derive_formulas.specs.Instances.{IsInstance}
use Rattle.larch_derive_formulas.specs.declared.instances.Instance.{Instance}

-- ---- terms that may take the places of variables

abbrev Fitting : Builder → Entry → Type 0
Fitting m e = Known m e.term × (sort_of e.term ≡ e.sort) × IsWord e.name

two_fit : (m : Builder) (d e : Entry) → Fitting m d → Fitting m e → AreKnownEntries m (d ∷ e ∷ [])
two_fit m d e p q = All-cons (Fitting m) d (e ∷ []) p (All-cons (Fitting m) e [] q (All-nil (Fitting m)))

pub truths_may : (m : Builder) (t u : Tree) → IsKnownAt m bool_sort t → IsKnownAt m bool_sort u
    → MayReplace m (truths t u)
truths_may m t u p q = (
  known_stands m t p.0,
  (
    two_fit m (record { name = codes "x"; sort = bool_sort; term = t })
        (record { name = codes "y"; sort = bool_sort; term = u }) (p.0, p.1, refl) (q.0, q.1, refl),
    refl,
  ),
)

pub values_may : (m : Builder) (s : List ℕ) (t u : Tree) → IsKnownAt m s t → IsKnownAt m s u
    → MayReplace m (values s t u)
values_may m s t u p q = (
  known_stands m t p.0,
  (
    two_fit m (record { name = codes "a"; sort = s; term = t }) (record { name = codes "b"; sort = s; term = u })
        (p.0, p.1, refl) (q.0, q.1, refl),
    refl,
  ),
)

entries_stay : (m n : Builder) (es : List Entry) → Extends m n → AreKnownEntries m es → AreKnownEntries n es
entries_stay m n es x k =
    All-weaker (Fitting m) (Fitting n) (λ e p. (stays_known m n e.term x p.0, p.1, p.2)) es k

-- a row's instance stays one where lines are added
pub instance_stays : (m n : Builder) (i : Instance) (l r : Tree) → Extends m n → IsInstance m i l r → IsInstance n i l r
instance_stays m n i l r e h = record {
  given = h.given;
  gives = h.gives;
  row = h.row;
  left = h.left;
  right = h.right;
  may = (
    grown_stands m n (extends_grows m n e) h.may.0,
    (entries_stay m n i.by e h.may.1.0, h.may.1.1),
  );
  words = h.words;
}

-- the sort of a known term is a word
sort_is_word : (m : Builder) (s : List ℕ) (t : Tree) → IsKnownAt m s t → IsWord s
sort_is_word m s t k = subst IsWord k.1 (known_sort m t k.0)

-- ---- lines

-- a line that says the row, and one that says its instance
pub instance_says : (m n o : Builder) (k q : ℕ) (i : Instance) (l r : Tree) → IsInstance m i l r
    → ((s : Statement) → HasNoBadLine m → row_says i.row i.sort ≡ Some s → IsWordedSort i.sort
    → HasStatement n k s)
    → ((s : Statement) → HasNoBadLine m → row_says i.row i.sort ≡ Some s → IsWordedSort i.sort
    → Extends m n)
    → ((v w : Tree) → HasEquation n k v w → AreKnownEntries n i.by → all_different (map variable_in i.by) ≡ true
    → HasEquation o q (instance_of i.by v) (instance_of i.by w))
    → HasEquation o q l r
instance_says m n o k q i l r h says extends inst =
    subst (λ t. HasEquation o q t r) h.left
    (subst (HasEquation o q (instance_of i.by h.given)) h.right
    (inst h.given h.gives (says (Equation h.given h.gives) h.may.0 h.row h.words)
    (entries_stay m n i.by (extends (Equation h.given h.gives) h.may.0 h.row h.words) h.may.1.0) h.may.1.1))

pub instance_extends : (m n o : Builder) (k : ℕ) (i : Instance) (l r : Tree) → IsInstance m i l r
    → ((s : Statement) → HasNoBadLine m → row_says i.row i.sort ≡ Some s → IsWordedSort i.sort
    → HasStatement n k s)
    → ((s : Statement) → HasNoBadLine m → row_says i.row i.sort ≡ Some s → IsWordedSort i.sort
    → Extends m n)
    → ((v w : Tree) → HasEquation n k v w → AreKnownEntries n i.by → all_different (map variable_in i.by) ≡ true
    → Extends n o)
    → Extends m o
instance_extends m n o k i l r h says extends inst =
    let e = extends (Equation h.given h.gives) h.may.0 h.row h.words in
    extends_trans m n o e
    (inst h.given h.gives (says (Equation h.given h.gives) h.may.0 h.row h.words) (entries_stay m n i.by e h.may.1.0)
    h.may.1.1)

pub row_extends : (m n : Builder) (i : Instance) (l r : Tree) → IsInstance m i l r
    → ((s : Statement) → HasNoBadLine m → row_says i.row i.sort ≡ Some s → IsWordedSort i.sort
    → Extends m n) → Extends m n
row_extends m n i l r h extends = extends (Equation h.given h.gives) h.may.0 h.row h.words

-- ---- arguments of known terms

sort_written : (bs : List OpenBox) (t : Tree) → sort_of (written_term bs t) ≡ sort_of t
sort_written bs (var n s) = refl
sort_written bs (app f ts) = refl

both : (p q z w : List ℕ) → p ∷ q ∷ [] ≡ z ∷ w ∷ [] → (p ≡ z) × (q ≡ w)
both p q z w e = (cc, cc)

one : (p z : List ℕ) → p ∷ [] ≡ z ∷ [] → p ≡ z
one p z e = cc

sorts_of_two : (m : Builder) (f : PlainOperator) (t u : Tree) → Known m (apply_two f t u)
    → sort_of t ∷ sort_of u ∷ [] ≡ f.domain
unfolding Known
sorts_of_two m f t u (st, k) =
    ap₂ (λ p q. p ∷ q ∷ []) (sym (sort_written m.boxes t)) (sym (sort_written m.boxes u)) ∙ k.over.0.0

known_parts : (m : Builder) (f : PlainOperator) (t u : Tree) → Known m (apply_two f t u) → Known m t × Known m u
unfolding Known
known_parts m f t u (st, k) = (
  (st, record { stand = k.stand; over = (k.over.0.1.0, k.over.1.1.0); words = k.words.1.0 }),
  (st, record { stand = k.stand; over = (k.over.0.1.1.0, k.over.1.1.1.0); words = k.words.1.1.0 }),
)

pub known_two : (m : Builder) (f : PlainOperator) (p q : List ℕ) (t u : Tree) → f.domain ≡ p ∷ q ∷ []
    → Known m (apply_two f t u) → IsKnownAt m p t × IsKnownAt m q u
known_two m f p q t u d k =
    let s = both (sort_of t) (sort_of u) p q (sorts_of_two m f t u k ∙ d) in
    let w = known_parts m f t u k in
    ((w.0, s.0), (w.1, s.1))

sort_of_one : (m : Builder) (f : PlainOperator) (t : Tree) → Known m (apply_one f t) → sort_of t ∷ [] ≡ f.domain
unfolding Known
sort_of_one m f t (st, k) = ap (λ p. p ∷ []) (sym (sort_written m.boxes t)) ∙ k.over.0.0

known_part : (m : Builder) (f : PlainOperator) (t : Tree) → Known m (apply_one f t) → Known m t
unfolding Known
known_part m f t (st, k) =
    (st, record { stand = k.stand; over = (k.over.0.1.0, k.over.1.1.0); words = k.words.1.0 })

pub known_one : (m : Builder) (f : PlainOperator) (p : List ℕ) (t : Tree) → f.domain ≡ p ∷ [] → Known m (apply_one f t)
    → IsKnownAt m p t
known_one m f p t d k = (known_part m f t k, one (sort_of t) p (sort_of_one m f t k ∙ d))

-- ---- rows

itself : (z : List ℕ) → bytes_eq z z ≡ true
itself z = (bytes_eq-Decides z z).1 refl

pub image_a : (s : List ℕ) (t u : Tree) → image (values s t u) (codes "a") s ≡ t
image_a s t u =
    ap (λ c. cond c t (image (record { name = codes "b"; sort = s; term = u } ∷ []) (codes "a") s)) (itself s)

pub image_b : (s : List ℕ) (t u : Tree) → image (values s t u) (codes "b") s ≡ u
image_b s t u = ap (λ c. cond c u (var (codes "b") s)) (itself s)

-- a row of truth values
pub of_row : (m : Builder) (k : ℕ) (g h : Tree) (t u : Tree) → row_says k None ≡ Some (Equation g h)
    → IsKnownAt m bool_sort t → IsKnownAt m bool_sort u
    → IsInstance m (of_truths k t u) (instance_of (truths t u) g) (instance_of (truths t u) h)
of_row m k g h t u e p q = record {
  given = g;
  gives = h;
  row = e;
  left = refl;
  right = refl;
  may = truths_may m t u p q;
  words = tt;
}

-- it is the same instance by another name
pub instance_as : (m : Builder) (i j : Instance) (l r : Tree) → i ≡ j → IsInstance m j l r → IsInstance m i l r
instance_as m i j l r e h = subst (λ k. IsInstance m k l r) (sym e) h

pub equivalent_to_itself : (m : Builder) (t : Tree) → IsKnownAt m bool_sort t
    → IsInstance m (of_truths 23 t t) (equivalence t t) truth
equivalent_to_itself m t k = of_row m 23 (equivalence x x) truth t t refl k k

pub equal_to_itself : (m : Builder) (s : List ℕ) (t : Tree) → IsKnownAt m s t
    → IsInstance m (of_values 24 s t t) (equality s t t) truth
equal_to_itself m s t k = record {
  given = equality s (a s) (a s);
  gives = truth;
  row = refl;
  left = ap (λ w. equality s w w) (image_a s t t);
  right = refl;
  may = values_may m s t t k k;
  words = sort_is_word m s t k;
}

pub equality_of_truth_values : (m : Builder) (t u : Tree) → IsKnownAt m bool_sort t → IsKnownAt m bool_sort u
    → IsInstance m (of_truths 25 t u) (equality bool_sort t u) (equivalence t u)
equality_of_truth_values m t u k q = of_row m 25 (equality bool_sort x y) (equivalence x y) t u refl k q

pub choice_by_true : (m : Builder) (s : List ℕ) (t u : Tree) → IsKnownAt m s t → IsKnownAt m s u
    → IsInstance m (of_values 27 s t u) (choice s truth t u) t
choice_by_true m s t u k q = record {
  given = choice s truth (a s) (b s);
  gives = a s;
  row = refl;
  left = ap₂ (λ v w. choice s truth v w) (image_a s t u) (image_b s t u);
  right = image_a s t u;
  may = values_may m s t u k q;
  words = sort_is_word m s t k;
}

pub choice_by_false : (m : Builder) (s : List ℕ) (t u : Tree) → IsKnownAt m s t → IsKnownAt m s u
    → IsInstance m (of_values 28 s t u) (choice s falsity t u) u
choice_by_false m s t u k q = record {
  given = choice s falsity (a s) (b s);
  gives = b s;
  row = refl;
  left = ap₂ (λ v w. choice s falsity v w) (image_a s t u) (image_b s t u);
  right = image_b s t u;
  may = values_may m s t u k q;
  words = sort_is_word m s t k;
}

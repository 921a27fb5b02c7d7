-- Ends of methods: what the calls of larch_methods say is what is said of subgoals that were left.
use Rattle.std.specs.Prelude.{◌≡◌, ℕ, true, List, [], ◌∷◌, map, bytes_eq, find, Option, Some, option_map, Result}
use Rattle.std.specs.Prelude.{IfOk, OnOk}
use Rattle.std.specs.List.{slice_get}
use Rattle.std.proofs.Common.{subst, sym}
use Rattle.std.proofs.lemmas.Result.{IfOk-weaker}
use Rattle.larch_term.specs.BuiltIn.{is_built_in_as}
use Rattle.larch_term.specs.Sorts.{sort_of}
use Rattle.larch_term.specs.Statement.{IsWellSortedTheory, statement_zero}
use Rattle.larch_term.specs.Substitution.{instance_of}
use Rattle.larch_term.specs.Tree.{Tree}
use Rattle.larch_term.specs.Truth.{truth}
use Rattle.larch_term.specs.Variable.{variables_of}
use Rattle.larch_term.specs.declared.built_in.BuiltIn.TheVariants.{Equal}
use Rattle.larch_term.specs.declared.statement.Statement.{Statement}
use Rattle.larch_term.specs.declared.statement.Statement.TheVariants.{Generated, Partitioned}
use Rattle.larch_term.specs.declared.statement.Theory.{Theory}
use Rattle.larch_term.specs.declared.substitution.Entry.{Entry}
use Rattle.larch_term.specs.declared.variable.Variable.{Variable}
use Rattle.larch_calculus.specs.Formula.{equality, implication}
use Rattle.larch_derive.specs.VerifyMeaningMatching.{all_different}
use Rattle.larch_derive.specs.Builder.{theory_in}
use Rattle.larch_derive.specs.Predicates.{Extends, Grows, HasEquation, Known}
use Rattle.larch_derive.specs.declared.builder.Builder.{Builder}
use Rattle.larch_derive.specs.declared.open_box.OpenBox.{OpenBox}
use Rattle.larch_derive.proofs.Growth.{extends_grows, extends_trans, grows_trans}
use Rattle.larch_prove_invariant.specs.DeriveLinesRules.{variable_in, AreKnownEntries}
use Rattle.larch_prove_invariant.specs.ProveMeaningPlans.{Cases, Conjunction, Contradiction}
use Rattle.larch_prove_invariant.specs.ProveMeaningPlans.{Implication, Induction, Method}
use Rattle.larch_prove_invariant.specs.ProveMeaningPlans.{Partition, closed_by, conjuncts}
use Rattle.larch_prove_invariant.specs.ProveMeaningPlans.{generators, observers, two_arguments}
use Rattle.larch_prove_invariant.specs.MethodsConjuncts.{AreTrue}
use Rattle.larch_prove_invariant.specs.MethodsMethods.{ByCases, ByContradiction, ByImplication}
use Rattle.larch_prove_invariant.specs.MethodsMethods.{ByInduction, IsKnownFormula}
use Rattle.larch_prove_invariant.specs.MethodsObservers.{ByObservers}
use Rattle.larch_prove_invariant.specs.Book.{InBox, Kept}
use Rattle.larch_prove_invariant.specs.Ending.{StandsAt}
use Rattle.larch_prove_invariant.proofs.Left.{stands_grow}
use Rattle.larch_prove_boxes.specs.BoxLists.{box_list}
use Rattle.larch_prove_boxes.specs.Ends.{AreLeft, number_of}
use Rattle.larch_prove_boxes.specs.Leave.{left_of}
use Rattle.larch_prove_boxes.specs.declared.leave.Leave.{Leave}
use Rattle.larch_prove_boxes.proofs.Ended.{cases_as, conjunction_as, contradiction_as, implication_as, induction_as}
use Rattle.larch_prove_boxes.proofs.Ended.{left_by, partition_as}
use Rattle.larch_prove_boxes.proofs.Equalities.{ItselfAt, equality_of, for_a, itself_says}

-- ---- by cases

pub cases_say : {E : Type 0} (r : Result ℕ E) (b c : Builder) (f : Tree) (shared : Option OpenBox)
    (lefts : List Leave) (x : OpenBox) (p q : ℕ)
    → box_list shared ≡ x ∷ []
    → map number_of lefts ≡ p ∷ q ∷ []
    → IfOk r (λ n. (a : Builder) (g : Tree) → ByCases a b f g x.number p q → HasEquation c n g truth)
    → IfOk r (λ n. (a : Builder) (g : Tree) → AreLeft a b (Cases f) g shared lefts → HasEquation c n g truth)
cases_say r b c f shared lefts x p q e m h =
    IfOk-weaker r (λ n. (a : Builder) (g : Tree) → ByCases a b f g x.number p q → HasEquation c n g truth)
    (λ n. (a : Builder) (g : Tree) → AreLeft a b (Cases f) g shared lefts → HasEquation c n g truth)
    (λ n s a g k. let d = cases_as a b f g shared lefts x p q k e m in s d.0 g d.1.1) h

pub cases_grow : {E : Type 0} (r : Result ℕ E) (b c : Builder) (f : Tree) (shared : Option OpenBox)
    (lefts : List Leave) (x : OpenBox) (p q : ℕ)
    → box_list shared ≡ x ∷ []
    → map number_of lefts ≡ p ∷ q ∷ []
    → IfOk r (λ n. (a : Builder) (g : Tree) → ByCases a b f g x.number p q → Grows a c)
    → OnOk r ((a : Builder) (g : Tree) → AreLeft a b (Cases f) g shared lefts → Grows a c)
cases_grow r b c f shared lefts x p q e m h =
    IfOk-weaker r (λ n. (a : Builder) (g : Tree) → ByCases a b f g x.number p q → Grows a c)
    (λ n. (a : Builder) (g : Tree) → AreLeft a b (Cases f) g shared lefts → Grows a c)
    (λ n s a g k. let d = cases_as a b f g shared lefts x p q k e m in grows_trans a d.0 c d.1.0 (s d.0 g d.1.1)) h

-- ---- by contradiction

pub contradiction_says : {E : Type 0} (r : Result ℕ E) (b c : Builder) (g : Tree) (shared : Option OpenBox)
    (lefts : List Leave) (x : OpenBox) (p : ℕ) (closed : Tree)
    → box_list shared ≡ x ∷ []
    → map number_of lefts ≡ p ∷ []
    → closed ≡ closed_by g x.constants g
    → IfOk r (λ n. (a : Builder) → ByContradiction a b g closed x.number p → HasEquation c n g truth)
    → IfOk r (λ n. (a : Builder) → AreLeft a b Contradiction g shared lefts → HasEquation c n g truth)
contradiction_says r b c g shared lefts x p closed e m i h =
    IfOk-weaker r (λ n. (a : Builder) → ByContradiction a b g closed x.number p → HasEquation c n g truth)
    (λ n. (a : Builder) → AreLeft a b Contradiction g shared lefts → HasEquation c n g truth)
    (λ n s a k. let d = contradiction_as a b g shared lefts x p closed k e m i in s d.0 d.1.1) h

pub contradiction_grows : {E : Type 0} (r : Result ℕ E) (b c : Builder) (g : Tree) (shared : Option OpenBox)
    (lefts : List Leave) (x : OpenBox) (p : ℕ) (closed : Tree)
    → box_list shared ≡ x ∷ []
    → map number_of lefts ≡ p ∷ []
    → closed ≡ closed_by g x.constants g
    → IfOk r (λ n. (a : Builder) → ByContradiction a b g closed x.number p → Grows a c)
    → OnOk r ((a : Builder) → AreLeft a b Contradiction g shared lefts → Grows a c)
contradiction_grows r b c g shared lefts x p closed e m i h =
    IfOk-weaker r (λ n. (a : Builder) → ByContradiction a b g closed x.number p → Grows a c)
    (λ n. (a : Builder) → AreLeft a b Contradiction g shared lefts → Grows a c)
    (λ n s a k. let d = contradiction_as a b g shared lefts x p closed k e m i in grows_trans a d.0 c d.1.0
    (s d.0 d.1.1)) h

-- ---- of an implication

pub implication_says : {E : Type 0} (r : Result ℕ E) (b c : Builder) (g : Tree) (shared : Option OpenBox)
    (lefts : List Leave) (x : OpenBox) (p : ℕ) (closed : Tree)
    → box_list shared ≡ x ∷ []
    → map number_of lefts ≡ p ∷ []
    → ((u v : Tree) → g ≡ implication u v → closed ≡ closed_by u x.constants g)
    → IfOk r (λ n. (a : Builder) (u v : Tree) → g ≡ implication u v → ByImplication a b u v closed x.number p
    → HasEquation c n g truth)
    → IfOk r (λ n. (a : Builder) → AreLeft a b Implication g shared lefts → HasEquation c n g truth)
implication_says r b c g shared lefts x p closed e m i h =
    IfOk-weaker r (λ n. (a : Builder) (u v : Tree) → g ≡ implication u v → ByImplication a b u v closed x.number p
    → HasEquation c n g truth)
    (λ n. (a : Builder) → AreLeft a b Implication g shared lefts → HasEquation c n g truth)
    (λ n s a k. let d = implication_as a b g shared lefts x p closed k e m i in s d.outside d.premise d.conclusion
    d.goal_is d.shown) h

pub implication_grows : {E : Type 0} (r : Result ℕ E) (b c : Builder) (g : Tree) (shared : Option OpenBox)
    (lefts : List Leave) (x : OpenBox) (p : ℕ) (closed : Tree)
    → box_list shared ≡ x ∷ []
    → map number_of lefts ≡ p ∷ []
    → ((u v : Tree) → g ≡ implication u v → closed ≡ closed_by u x.constants g)
    → IfOk r (λ n. (a : Builder) (u v : Tree) → g ≡ implication u v → ByImplication a b u v closed x.number p
    → Grows a c)
    → OnOk r ((a : Builder) → AreLeft a b Implication g shared lefts → Grows a c)
implication_grows r b c g shared lefts x p closed e m i h =
    IfOk-weaker r (λ n. (a : Builder) (u v : Tree) → g ≡ implication u v → ByImplication a b u v closed x.number p
    → Grows a c)
    (λ n. (a : Builder) → AreLeft a b Implication g shared lefts → Grows a c)
    (λ n s a k. let d = implication_as a b g shared lefts x p closed k e m i in grows_trans a d.outside c d.grows
    (s d.outside d.premise d.conclusion d.goal_is d.shown)) h

-- ---- of a conjunction

pub conjunction_says : {E : Type 0} (r : Result ℕ E) (b c : Builder) (g : Tree) (lefts : List Leave) (ns : List ℕ)
    → ns ≡ map number_of lefts
    → IfOk r (λ n. IsKnownFormula b g → AreTrue b (conjuncts g) ns → HasEquation c n g truth)
    → IfOk r (λ n. (a : Builder) (x : Option OpenBox) → AreLeft a b Conjunction g x lefts → HasEquation c n g truth)
conjunction_says r b c g lefts ns e h =
    IfOk-weaker r (λ n. IsKnownFormula b g → AreTrue b (conjuncts g) ns → HasEquation c n g truth)
    (λ n. (a : Builder) (x : Option OpenBox) → AreLeft a b Conjunction g x lefts → HasEquation c n g truth)
    (λ n s a x k. let d = conjunction_as a b g x lefts ns k e in s d.1.0 d.1.1) h

pub conjunction_grows : {E : Type 0} (r : Result ℕ E) (b c : Builder) (g : Tree) (lefts : List Leave) (ns : List ℕ)
    → ns ≡ map number_of lefts
    → (IsKnownFormula b g → AreTrue b (conjuncts g) ns → Extends b c)
    → IfOk r (λ n. IsKnownFormula b g → AreTrue b (conjuncts g) ns → HasEquation c n g truth)
    → OnOk r ((a : Builder) (x : Option OpenBox) → AreLeft a b Conjunction g x lefts → Grows a c)
conjunction_grows r b c g lefts ns e w h =
    IfOk-weaker r (λ n. IsKnownFormula b g → AreTrue b (conjuncts g) ns → HasEquation c n g truth)
    (λ n. (a : Builder) (x : Option OpenBox) → AreLeft a b Conjunction g x lefts → Grows a c)
    (λ n s a x k. let d = conjunction_as a b g x lefts ns k e in grows_trans a b c d.0
    (extends_grows b c (w d.1.0 d.1.1))) h

-- ---- by induction

pub induction_says : {E : Type 0} (r : Result ℕ E) (b c : Builder) (z : List ℕ) (g : Tree) (lefts : List Leave)
    (t : Theory) (ss : List Statement) (v : Variable) (clause : ℕ) (ns : List ℕ)
    → ss ≡ t.statements
    → t ≡ theory_in b
    → IsWellSortedTheory t
    → find (λ v. bytes_eq v.name z) (variables_of g) ≡ Some v
    → slice_get (statement_zero ∷ ss) clause
    ≡ option_map (Generated v.sort) (generators v.sort (statement_zero ∷ ss))
    → ns ≡ map number_of lefts
    → IfOk r (λ n. ByInduction b clause v g ns → HasEquation c n g truth)
    → IfOk r (λ n. (a : Builder) (x : Option OpenBox) → AreLeft a b (Induction z) g x lefts → HasEquation c n g truth)
induction_says r b c z g lefts t ss v clause ns q e w f l m h =
    IfOk-weaker r (λ n. ByInduction b clause v g ns → HasEquation c n g truth)
    (λ n. (a : Builder) (x : Option OpenBox) → AreLeft a b (Induction z) g x lefts → HasEquation c n g truth)
    (λ n s a x k. s (induction_as a b z g x lefts t v clause ns e w f
    (subst (λ us. slice_get (statement_zero ∷ us) clause ≡ option_map (Generated v.sort)
    (generators v.sort (statement_zero ∷ us))) q l) m k).1) h

pub induction_grows : {E : Type 0} (r : Result ℕ E) (b c : Builder) (z : List ℕ) (g : Tree) (lefts : List Leave)
    (t : Theory) (ss : List Statement) (v : Variable) (clause : ℕ) (ns : List ℕ)
    → ss ≡ t.statements
    → t ≡ theory_in b
    → IsWellSortedTheory t
    → find (λ v. bytes_eq v.name z) (variables_of g) ≡ Some v
    → slice_get (statement_zero ∷ ss) clause
    ≡ option_map (Generated v.sort) (generators v.sort (statement_zero ∷ ss))
    → ns ≡ map number_of lefts
    → (ByInduction b clause v g ns → Extends b c)
    → IfOk r (λ n. ByInduction b clause v g ns → HasEquation c n g truth)
    → OnOk r ((a : Builder) (x : Option OpenBox) → AreLeft a b (Induction z) g x lefts → Grows a c)
induction_grows r b c z g lefts t ss v clause ns q e w f l m y h =
    IfOk-weaker r (λ n. ByInduction b clause v g ns → HasEquation c n g truth)
    (λ n. (a : Builder) (x : Option OpenBox) → AreLeft a b (Induction z) g x lefts → Grows a c)
    (λ n s a x k. let d = induction_as a b z g x lefts t v clause ns e w f
    (subst (λ us. slice_get (statement_zero ∷ us) clause ≡ option_map (Generated v.sort)
    (generators v.sort (statement_zero ∷ us))) q l) m k in grows_trans a b c d.0 (extends_grows b c (y d.1))) h

-- ---- by partition

pub partition_says : {E : Type 0} (r : Result ℕ E) (b c : Builder) (u v : Tree) (lefts : List Leave) (t : Theory)
    (ss : List Statement) (z : List ℕ) (clause : ℕ) (xs ys : List OpenBox)
    → ss ≡ t.statements
    → z ≡ sort_of u
    → t ≡ theory_in b
    → IsWellSortedTheory t
    → slice_get (statement_zero ∷ ss) clause ≡ option_map (Partitioned z) (observers z (statement_zero ∷ ss))
    → map left_of lefts ≡ map InBox xs
    → ys ≡ xs
    → IfOk r (λ n. ByObservers b clause u v ys → HasEquation c n u v)
    → IfOk r (λ n. (a : Builder) (g : Tree) (x : Option OpenBox)
    → two_arguments (λ f. is_built_in_as f Equal) g ≡ Some (u, v) → AreLeft a b Partition g x lefts
    → HasEquation c n u v)
partition_says r b c u v lefts t ss z clause xs ys q j e w l m i h =
    IfOk-weaker r (λ n. ByObservers b clause u v ys → HasEquation c n u v)
    (λ n. (a : Builder) (g : Tree) (x : Option OpenBox)
    → two_arguments (λ f. is_built_in_as f Equal) g ≡ Some (u, v) → AreLeft a b Partition g x lefts
    → HasEquation c n u v)
    (λ n s a g x f k. let d = partition_as a b g u v x lefts t clause xs e w f
    (subst (λ us. slice_get (statement_zero ∷ us) clause ≡ option_map (Partitioned (sort_of u))
    (observers (sort_of u) (statement_zero ∷ us))) q
    (subst (λ z. slice_get (statement_zero ∷ ss) clause ≡ option_map (Partitioned z)
    (observers z (statement_zero ∷ ss))) j l)) m k in s (subst (ByObservers b clause u v) (sym i) d.1)) h

pub partition_grows : {E : Type 0} (r : Result ℕ E) (b c : Builder) (u v : Tree) (lefts : List Leave) (t : Theory)
    (ss : List Statement) (z : List ℕ) (clause : ℕ) (xs ys : List OpenBox)
    → ss ≡ t.statements
    → z ≡ sort_of u
    → t ≡ theory_in b
    → IsWellSortedTheory t
    → slice_get (statement_zero ∷ ss) clause ≡ option_map (Partitioned z) (observers z (statement_zero ∷ ss))
    → map left_of lefts ≡ map InBox xs
    → ys ≡ xs
    → (ByObservers b clause u v ys → Extends b c)
    → IfOk r (λ n. ByObservers b clause u v ys → HasEquation c n u v)
    → OnOk r ((a : Builder) (g : Tree) (x : Option OpenBox)
    → two_arguments (λ f. is_built_in_as f Equal) g ≡ Some (u, v) → AreLeft a b Partition g x lefts → Grows a c)
partition_grows r b c u v lefts t ss z clause xs ys q j e w l m i y h =
    IfOk-weaker r (λ n. ByObservers b clause u v ys → HasEquation c n u v)
    (λ n. (a : Builder) (g : Tree) (x : Option OpenBox)
    → two_arguments (λ f. is_built_in_as f Equal) g ≡ Some (u, v) → AreLeft a b Partition g x lefts → Grows a c)
    (λ n s a g x f k. let d = partition_as a b g u v x lefts t clause xs e w f
    (subst (λ us. slice_get (statement_zero ∷ us) clause ≡ option_map (Partitioned (sort_of u))
    (observers (sort_of u) (statement_zero ∷ us))) q
    (subst (λ z. slice_get (statement_zero ∷ ss) clause ≡ option_map (Partitioned z)
    (observers z (statement_zero ∷ ss))) j l)) m k in grows_trans a b c d.0
    (extends_grows b c (y (subst (ByObservers b clause u v) (sym i) d.1)))) h

-- ---- the equality of a partition

pub equality_says : {E : Type 0} (r : Result ℕ E) (b m c : Builder) (g u v : Tree) (lefts : List Leave) (line : ℕ)
    → two_arguments (λ f. is_built_in_as f Equal) g ≡ Some (u, v)
    → ((a : Builder) (g : Tree) (x : Option OpenBox) → two_arguments (λ f. is_built_in_as f Equal) g ≡ Some (u, v)
    → AreLeft a b Partition g x lefts → HasEquation m line u v)
    → IfOk r (λ n. (w : Tree) → HasEquation m line u w → HasEquation c n (equality (sort_of u) u w) truth)
    → IfOk r (λ n. (a : Builder) (x : Option OpenBox) → AreLeft a b Partition g x lefts → HasEquation c n g truth)
equality_says r b m c g u v lefts line e i h =
    IfOk-weaker r (λ n. (w : Tree) → HasEquation m line u w → HasEquation c n (equality (sort_of u) u w) truth)
    (λ n. (a : Builder) (x : Option OpenBox) → AreLeft a b Partition g x lefts → HasEquation c n g truth)
    (λ n s a x k. subst (λ t. HasEquation c n t truth) (sym (equality_of a g u v k.left.planned.goal_known.known e))
    (s v (i a g x e k))) h

pub equality_grows : {E : Type 0} (r : Result ℕ E) (b m c : Builder) (g u v : Tree) (lefts : List Leave) (line : ℕ)
    → two_arguments (λ f. is_built_in_as f Equal) g ≡ Some (u, v)
    → ((a : Builder) (g : Tree) (x : Option OpenBox) → two_arguments (λ f. is_built_in_as f Equal) g ≡ Some (u, v)
    → AreLeft a b Partition g x lefts → HasEquation m line u v)
    → ((a : Builder) (g : Tree) (x : Option OpenBox) → two_arguments (λ f. is_built_in_as f Equal) g ≡ Some (u, v)
    → AreLeft a b Partition g x lefts → Grows a m)
    → IfOk r (λ n. (w : Tree) → HasEquation m line u w → Extends m c)
    → OnOk r ((a : Builder) (x : Option OpenBox) → AreLeft a b Partition g x lefts → Grows a c)
equality_grows r b m c g u v lefts line e i j h =
    IfOk-weaker r (λ n. (w : Tree) → HasEquation m line u w → Extends m c)
    (λ n. (a : Builder) (x : Option OpenBox) → AreLeft a b Partition g x lefts → Grows a c)
    (λ n s a x k. grows_trans a m c (j a g x e k) (extends_grows m c (s v (i a g x e k)))) h

-- ---- the equality of a term with itself

pub itself_said : {E : Type 0} (r : Result ℕ E) (b m c : Builder) (k : ℕ) (t : Tree) (es : List Entry)
    → es ≡ for_a t
    → (Known b t → ItselfAt b m k t es)
    → IfOk r (λ n. (l r : Tree) → HasEquation m k l r → AreKnownEntries m es → all_different (map variable_in es)
    ≡ true → HasEquation c n (instance_of es l) (instance_of es r))
    → IfOk r (λ n. Known b t → HasEquation c n (equality (sort_of t) t t) truth)
itself_said r b m c k t es e w h =
    IfOk-weaker r (λ n. (l r : Tree) → HasEquation m k l r → AreKnownEntries m es → all_different (map variable_in es)
    ≡ true → HasEquation c n (instance_of es l) (instance_of es r))
    (λ n. Known b t → HasEquation c n (equality (sort_of t) t t) truth)
    (λ n s y. let i = w y in itself_says c n t es e (s _ truth i.says i.known i.different)) h

pub itself_grows : {E : Type 0} (r : Result ℕ E) (b m c : Builder) (k : ℕ) (t : Tree) (es : List Entry)
    → (Known b t → ItselfAt b m k t es)
    → IfOk r (λ n. (l r : Tree) → HasEquation m k l r → AreKnownEntries m es → all_different (map variable_in es)
    ≡ true → Extends m c)
    → OnOk r (Known b t → Extends b c)
itself_grows r b m c k t es w h =
    IfOk-weaker r (λ n. (l r : Tree) → HasEquation m k l r → AreKnownEntries m es → all_different (map variable_in es)
    ≡ true → Extends m c)
    (λ n. Known b t → Extends b c)
    (λ n s y. let i = w y in extends_trans b m c i.extends (s _ truth i.says i.known i.different)) h

-- ---- the equality of two terms

pub turned_said : {E : Type 0} (r : Result ℕ E) (b d c : Builder) (line changed : ℕ) (l : Tree)
    → ((r : Tree) → HasEquation b line l r → HasEquation d changed truth (equality (sort_of l) l r))
    → IfOk r (λ n. (u v : Tree) → HasEquation d changed u v → HasEquation c n v u)
    → IfOk r (λ n. (r : Tree) → HasEquation b line l r → HasEquation c n (equality (sort_of l) l r) truth)
turned_said r b d c line changed l w h =
    IfOk-weaker r (λ n. (u v : Tree) → HasEquation d changed u v → HasEquation c n v u)
    (λ n. (r : Tree) → HasEquation b line l r → HasEquation c n (equality (sort_of l) l r) truth)
    (λ n s r y. s truth (equality (sort_of l) l r) (w r y)) h

pub turned_grows : {E : Type 0} (r : Result ℕ E) (b d c : Builder) (line changed : ℕ) (l : Tree)
    → ((r : Tree) → HasEquation b line l r → HasEquation d changed truth (equality (sort_of l) l r))
    → ((r : Tree) → HasEquation b line l r → Extends b d)
    → IfOk r (λ n. (u v : Tree) → HasEquation d changed u v → Extends d c)
    → OnOk r ((r : Tree) → HasEquation b line l r → Extends b c)
turned_grows r b d c line changed l w x h =
    IfOk-weaker r (λ n. (u v : Tree) → HasEquation d changed u v → Extends d c)
    (λ n. (r : Tree) → HasEquation b line l r → Extends b c)
    (λ n s r y. extends_trans b d c (x r y) (s truth (equality (sort_of l) l r) (w r y))) h

-- ---- whatever the method

pub plain_says : {E : Type 0} (r : Result ℕ E) (b c : Builder) (m w : Method) (g : Tree) (shared : Option OpenBox)
    (lefts : List Leave)
    → w ≡ m
    → ((a : Builder) × AreLeft a b w g shared lefts)
    → IfOk r (λ n. (a : Builder) → AreLeft a b m g shared lefts → HasEquation c n g truth)
    → IfOk r (λ n. HasEquation c n g truth)
plain_says r b c m w g shared lefts e y h =
    IfOk-weaker r (λ n. (a : Builder) → AreLeft a b m g shared lefts → HasEquation c n g truth)
    (λ n. HasEquation c n g truth)
    (λ n s. s y.0 (left_by y.0 b w m g shared lefts e y.1)) h

pub plain_stands : {E : Type 0} (r : Result ℕ E) (b c : Builder) (m w : Method) (g : Tree) (shared : Option OpenBox)
    (lefts : List Leave)
    → w ≡ m
    → IfOk r (λ n. (a : Builder) → AreLeft a b m g shared lefts → Grows a c)
    → OnOk r ((t : Theory) (z : Statement) (a : Builder) (k : Kept) (ks : List Kept)
    → AreLeft a b w g shared lefts → StandsAt t z a k ks → StandsAt t z c k ks)
plain_stands r b c m w g shared lefts e u =
    IfOk-weaker r (λ n. (a : Builder) → AreLeft a b m g shared lefts → Grows a c)
    (λ n. (t : Theory) (z : Statement) (a : Builder) (k : Kept) (ks : List Kept)
    → AreLeft a b w g shared lefts → StandsAt t z a k ks → StandsAt t z c k ks)
    (λ n s t z a k ks h i. stands_grow t z a c k ks (s a (left_by a b w m g shared lefts e h)) i) u

pub some_says : {E : Type 0} (r : Result ℕ E) (b c : Builder) (m w : Method) (g : Tree) (shared : Option OpenBox)
    (lefts : List Leave)
    → w ≡ m
    → ((a : Builder) × AreLeft a b w g shared lefts)
    → IfOk r (λ n. (a : Builder) (g : Tree) → AreLeft a b m g shared lefts → HasEquation c n g truth)
    → IfOk r (λ n. HasEquation c n g truth)
some_says r b c m w g shared lefts e y h =
    IfOk-weaker r (λ n. (a : Builder) (g : Tree) → AreLeft a b m g shared lefts → HasEquation c n g truth)
    (λ n. HasEquation c n g truth)
    (λ n s. s y.0 g (left_by y.0 b w m g shared lefts e y.1)) h

pub some_stands : {E : Type 0} (r : Result ℕ E) (b c : Builder) (m w : Method) (g : Tree) (shared : Option OpenBox)
    (lefts : List Leave)
    → w ≡ m
    → IfOk r (λ n. (a : Builder) (g : Tree) → AreLeft a b m g shared lefts → Grows a c)
    → OnOk r ((t : Theory) (z : Statement) (a : Builder) (k : Kept) (ks : List Kept)
    → AreLeft a b w g shared lefts → StandsAt t z a k ks → StandsAt t z c k ks)
some_stands r b c m w g shared lefts e u =
    IfOk-weaker r (λ n. (a : Builder) (g : Tree) → AreLeft a b m g shared lefts → Grows a c)
    (λ n. (t : Theory) (z : Statement) (a : Builder) (k : Kept) (ks : List Kept)
    → AreLeft a b w g shared lefts → StandsAt t z a k ks → StandsAt t z c k ks)
    (λ n s t z a k ks h i. stands_grow t z a c k ks (s a g (left_by a b w m g shared lefts e h)) i) u

pub boxed_says : {E : Type 0} (r : Result ℕ E) (b c : Builder) (m w : Method) (g : Tree) (shared : Option OpenBox)
    (lefts : List Leave)
    → w ≡ m
    → ((a : Builder) × AreLeft a b w g shared lefts)
    → IfOk r (λ n. (a : Builder) (x : Option OpenBox) → AreLeft a b m g x lefts → HasEquation c n g truth)
    → IfOk r (λ n. HasEquation c n g truth)
boxed_says r b c m w g shared lefts e y h =
    IfOk-weaker r (λ n. (a : Builder) (x : Option OpenBox) → AreLeft a b m g x lefts → HasEquation c n g truth)
    (λ n. HasEquation c n g truth)
    (λ n s. s y.0 shared (left_by y.0 b w m g shared lefts e y.1)) h

pub boxed_stands : {E : Type 0} (r : Result ℕ E) (b c : Builder) (m w : Method) (g : Tree) (shared : Option OpenBox)
    (lefts : List Leave)
    → w ≡ m
    → IfOk r (λ n. (a : Builder) (x : Option OpenBox) → AreLeft a b m g x lefts → Grows a c)
    → OnOk r ((t : Theory) (z : Statement) (a : Builder) (k : Kept) (ks : List Kept)
    → AreLeft a b w g shared lefts → StandsAt t z a k ks → StandsAt t z c k ks)
boxed_stands r b c m w g shared lefts e u =
    IfOk-weaker r (λ n. (a : Builder) (x : Option OpenBox) → AreLeft a b m g x lefts → Grows a c)
    (λ n. (t : Theory) (z : Statement) (a : Builder) (k : Kept) (ks : List Kept)
    → AreLeft a b w g shared lefts → StandsAt t z a k ks → StandsAt t z c k ks)
    (λ n s t z a k ks h i. stands_grow t z a c k ks (s a shared (left_by a b w m g shared lefts e h)) i) u

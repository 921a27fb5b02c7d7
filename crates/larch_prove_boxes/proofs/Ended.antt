-- What was left of a method's subgoals is what the call of its end takes, by numbers and terms as they are handed over.
use Rattle.std.specs.Prelude.{◌≡◌, ℕ, List, [], ◌∷◌, map, length, bytes_eq, find, All, Option, Some, None, option_map}
use Rattle.std.specs.Prelude.{cond, refl}
use Rattle.std.specs.List.{slice_get}
use Rattle.std.proofs.Common.{ap, ap₂, subst, sym, ◌∙◌}
use Rattle.std.proofs.lemmas.List.{length-map}
use Rattle.std.proofs.lemmas.List.Elements.{All-cons, All-nil}
use Rattle.larch_base.proofs.Options.{some_inj}
use Rattle.larch_term.specs.BuiltIn.{bool_sort, built_in, is_built_in_as}
use Rattle.larch_term.specs.Equality.{same_operator}
use Rattle.larch_term.specs.Operator.{PlainOperator}
use Rattle.larch_term.specs.OperatorKey.{operator_Decides}
use Rattle.larch_term.specs.Sorts.{sort_of}
use Rattle.larch_term.specs.Statement.{IsWellSortedTheory, statement_zero}
use Rattle.larch_term.specs.Tree.{Tree}
use Rattle.larch_term.specs.Variable.{variables_of}
use Rattle.larch_term.specs.declared.built_in.BuiltIn.TheVariants.{Equal, Implies}
use Rattle.larch_term.specs.declared.statement.Statement.TheVariants.{Generated, Partitioned}
use Rattle.larch_term.specs.declared.statement.Theory.{Theory}
use Rattle.larch_term.specs.declared.variable.Variable.{Variable}
use Rattle.larch_calculus.specs.Formula.{implication}
use Rattle.larch_derive.specs.Builder.{theory_in}
use Rattle.larch_derive.specs.Predicates.{Grows}
use Rattle.larch_derive.specs.declared.builder.Builder.{Builder}
use Rattle.larch_derive.specs.declared.open_box.OpenBox.{OpenBox}
use Rattle.larch_prove_invariant.specs.ProveMeaningPlans.{Cases, Conjunction, Contradiction}
use Rattle.larch_prove_invariant.specs.ProveMeaningPlans.{Implication, Induction, Method}
use Rattle.larch_prove_invariant.specs.ProveMeaningPlans.{Partition}
use Rattle.larch_prove_invariant.specs.ProveMeaningPlans.{closed_by, conjuncts, generators, observers, two_arguments}
use Rattle.larch_prove_invariant.specs.MethodsConjuncts.{AreTrue}
use Rattle.larch_prove_invariant.specs.MethodsMethods.{ByCases, ByContradiction, ByImplication}
use Rattle.larch_prove_invariant.specs.MethodsMethods.{ByInduction, IsKnownFormula, IsStated}
use Rattle.larch_prove_invariant.specs.MethodsObservers.{ByObservers}
use Rattle.larch_prove_invariant.specs.Book.{AtLine, InBox, Left}
use Rattle.larch_prove_invariant.specs.Ending.{EndsByCases, EndsByContradiction, EndsByImplication}
use Rattle.larch_prove_invariant.specs.Ending.{EndsByInduction, EndsByPartition, SharedBox}
use Rattle.larch_prove_invariant.proofs.Boxes.{through_boxes}
use Rattle.larch_prove_invariant.proofs.MethodEnds.{cases_end, conjunction_end, contradiction_end, implication_end}
use Rattle.larch_prove_invariant.proofs.MethodEnds.{induction_end, shares_none}
use Rattle.larch_prove_invariant.proofs.PartitionEnd.{partition_end}
use Rattle.larch_prove_boxes.specs.BoxLists.{box_list, boxes_with}
use Rattle.larch_prove_boxes.specs.Ends.{AreLeft, IsBoxed, number_of}
use Rattle.larch_prove_boxes.specs.Leave.{left_of}
use Rattle.larch_prove_boxes.specs.declared.leave.Leave.{Leave}
use Rattle.larch_prove_boxes.specs.declared.leave.Leave.TheVariants as leave
use Rattle.larch_prove_boxes.proofs.Stated.{stated_found}

-- ---- numbers

-- the number of a box or a line
abbrev book_number : Left → ℕ
book_number (InBox x) = x.number
book_number (AtLine n) = n

number_as : (l : Leave) → number_of l ≡ book_number (left_of l)
number_as (leave.InBox x) = refl
number_as (leave.AtLine n) = refl

numbers_as : (lefts : List Leave) → map number_of lefts ≡ map book_number (map left_of lefts)
numbers_as [] = refl
numbers_as (l ∷ ls) = ap₂ (λ n ns. n ∷ ns) (number_as l) (numbers_as ls)

-- of lefts that are known
numbers_left : (lefts : List Leave) (ls : List Left) → map left_of lefts ≡ ls
    → map number_of lefts ≡ map book_number ls
numbers_left lefts ls e = numbers_as lefts ∙ ap (map book_number) e

numbers_of_lines : (ns : List ℕ) → map book_number (map AtLine ns) ≡ ns
numbers_of_lines [] = refl
numbers_of_lines (n ∷ ns) = ap (λ ms. n ∷ ms) (numbers_of_lines ns)

numbers_of_boxes : (xs : List OpenBox) → map book_number (map InBox xs) ≡ map (λ (x : OpenBox). x.number) xs
numbers_of_boxes [] = refl
numbers_of_boxes (x ∷ xs) = ap (λ ms. x.number ∷ ms) (numbers_of_boxes xs)

-- where each subgoal was left by a box
boxed_as : (l : Leave) (x : OpenBox) → left_of l ≡ InBox x → IsBoxed l
boxed_as (leave.InBox y) x e = tt
boxed_as (leave.AtLine n) x e = cc

first_left : (l m : Left) (ls ms : List Left) → l ∷ ls ≡ m ∷ ms → l ≡ m
first_left l m ls ms e = cc

others_left : (l m : Left) (ls ms : List Left) → l ∷ ls ≡ m ∷ ms → ls ≡ ms
others_left l m ls ms e = cc

all_boxed : (lefts : List Leave) (xs : List OpenBox) → map left_of lefts ≡ map InBox xs → All IsBoxed lefts
all_boxed [] xs e = All-nil IsBoxed
all_boxed (l ∷ ls) [] e = cc
all_boxed (l ∷ ls) (x ∷ xs) e =
    All-cons IsBoxed l ls
    (boxed_as l x (first_left (left_of l) (InBox x) (map left_of ls) (map InBox xs) e))
    (all_boxed ls xs (others_left (left_of l) (InBox x) (map left_of ls) (map InBox xs) e))

inside : (x y : OpenBox) → InBox x ≡ InBox y → x ≡ y
inside x y e = cc

same_boxes : (xs ys : List OpenBox) → map InBox xs ≡ map InBox ys → xs ≡ ys
same_boxes [] [] e = refl
same_boxes [] (y ∷ ys) e = cc
same_boxes (x ∷ xs) [] e = cc
same_boxes (x ∷ xs) (y ∷ ys) e =
    ap₂ (λ z zs. z ∷ zs) (inside x y (first_left (InBox x) (InBox y) (map InBox xs) (map InBox ys) e))
    (same_boxes xs ys (others_left (InBox x) (InBox y) (map InBox xs) (map InBox ys) e))

lefts_count : (lefts : List Leave) (ls : List Left) → map left_of lefts ≡ ls → length lefts ≡ length ls
lefts_count lefts ls e = sym (length-map lefts left_of) ∙ ap length e

only_same : {A : Type 0} (x y : A) → x ∷ [] ≡ y ∷ [] → x ≡ y
only_same x y e = cc

first_same : {A : Type 0} (x y v w : A) → x ∷ y ∷ [] ≡ v ∷ w ∷ [] → x ≡ v
first_same x y v w e = cc

second_same : {A : Type 0} (x y v w : A) → x ∷ y ∷ [] ≡ v ∷ w ∷ [] → y ≡ w
second_same x y v w e = cc

found_none : {A : Type 0} (o : Option A) (x : A) → o ≡ Some x → o ≡ None → ⊥
found_none o x e n = cc

-- ---- the method

pub left_by : (a b : Builder) (m n : Method) (g : Tree) (shared : Option OpenBox) (lefts : List Leave) → m ≡ n
    → AreLeft a b m g shared lefts → AreLeft a b n g shared lefts
left_by a b m n g shared lefts e h = subst (λ (w : Method). AreLeft a b w g shared lefts) e h

-- ---- the shared box

-- where it is missing, no list has it
pub none_shared : {A : Type 0} (o : Option A) (f : A → OpenBox) (x : OpenBox) → o ≡ None
    → box_list (option_map f o) ≡ x ∷ [] → ⊥
none_shared None f x e h = cc
none_shared (Some y) f x e h = cc

-- it was handed over
pub shared_there : (a b : Builder) (method : Method) (g : Tree) (shared : Option OpenBox) (lefts : List Leave)
    (h : AreLeft a b method g shared lefts) → SharedBox a h.running.shared → (x : OpenBox) × (box_list shared ≡ x ∷ [])
shared_there a b method g shared lefts h s = (s.supposing.box, sym h.shared_is ∙ ap boxes_with s.is_shared)

-- and is no other
shared_same : (a b : Builder) (method : Method) (g : Tree) (shared : Option OpenBox) (lefts : List Leave)
    (x : OpenBox) (h : AreLeft a b method g shared lefts) (s : SharedBox a h.running.shared) → box_list shared ≡ x ∷ []
    → s.supposing.box ≡ x
shared_same a b method g shared lefts x h s e =
    only_same s.supposing.box x (sym (ap boxes_with s.is_shared) ∙ (h.shared_is ∙ e))

-- ---- by cases

pub cases_left : (a b : Builder) (f g : Tree) (shared : Option OpenBox) (lefts : List Leave)
    (h : AreLeft a b (Cases f) g shared lefts) → EndsByCases a b f g h.running.shared (map left_of lefts)
cases_left a b f g shared lefts h = cases_end a b f g h.running (map left_of lefts) h.method_is h.left

pub cases_both : (a b : Builder) (f g : Tree) (shared : Option OpenBox) (lefts : List Leave)
    → AreLeft a b (Cases f) g shared lefts → length lefts ≡ 2
cases_both a b f g shared lefts h =
    let d = cases_left a b f g shared lefts h in lefts_count lefts (InBox d.first ∷ InBox d.second ∷ []) d.lefts_are

pub cases_as : (a b : Builder) (f g : Tree) (shared : Option OpenBox) (lefts : List Leave) (x : OpenBox) (p q : ℕ)
    → AreLeft a b (Cases f) g shared lefts → box_list shared ≡ x ∷ []
    → map number_of lefts ≡ p ∷ q ∷ []
    → (o : Builder) × (Grows a o × ByCases o b f g x.number p q)
cases_as a b f g shared lefts x p q h e n =
    let d = cases_left a b f g shared lefts h in
    let o = d.around.outside in
    let y = shared_same a b (Cases f) g shared lefts x h d.around e in
    let two : d.first.number ∷ d.second.number ∷ [] ≡ p ∷ q ∷ [] = sym (numbers_left lefts _ d.lefts_are) ∙ n in (
      o,
      (
        d.around.grows,
        subst (λ m. ByCases o b f g x.number m q) (first_same d.first.number d.second.number p q two)
            (subst (λ m. ByCases o b f g x.number d.first.number m) (second_same d.first.number d.second.number p q two)
            (subst (λ (z : OpenBox). ByCases o b f g z.number d.first.number d.second.number) y d.shown)),
      ),
    )

-- ---- by contradiction

pub contradiction_left : (a b : Builder) (g : Tree) (shared : Option OpenBox) (lefts : List Leave)
    (h : AreLeft a b Contradiction g shared lefts) → EndsByContradiction a b g h.running.shared (map left_of lefts)
contradiction_left a b g shared lefts h = contradiction_end a b g h.running (map left_of lefts) h.method_is h.left

pub contradiction_only : (a b : Builder) (g : Tree) (shared : Option OpenBox) (lefts : List Leave)
    → AreLeft a b Contradiction g shared lefts → length lefts ≡ 1
contradiction_only a b g shared lefts h =
    let d = contradiction_left a b g shared lefts h in lefts_count lefts (InBox d.only ∷ []) d.lefts_are

pub contradiction_as : (a b : Builder) (g : Tree) (shared : Option OpenBox) (lefts : List Leave) (x : OpenBox) (p : ℕ)
    (closed : Tree) → AreLeft a b Contradiction g shared lefts → box_list shared ≡ x ∷ []
    → map number_of lefts ≡ p ∷ [] → closed ≡ closed_by g x.constants g
    → (o : Builder) × (Grows a o × ByContradiction o b g closed x.number p)
contradiction_as a b g shared lefts x p closed h e n c =
    let d = contradiction_left a b g shared lefts h in
    let o = d.around.outside in
    let y = shared_same a b Contradiction g shared lefts x h d.around e in
    let one : d.only.number ∷ [] ≡ p ∷ [] = sym (numbers_left lefts _ d.lefts_are) ∙ n in (
      o,
      (
        d.around.grows,
        subst (λ t. ByContradiction o b g t x.number p) (sym c)
            (subst (ByContradiction o b g (closed_by g x.constants g) x.number) (only_same d.only.number p one)
            (subst (λ (z : OpenBox). ByContradiction o b g (closed_by g z.constants g) z.number d.only.number) y
            d.shown)),
      ),
    )

-- ---- of an implication

pub implication_left : (a b : Builder) (g : Tree) (shared : Option OpenBox) (lefts : List Leave)
    (h : AreLeft a b Implication g shared lefts) → EndsByImplication a b g h.running.shared (map left_of lefts)
implication_left a b g shared lefts h = implication_end a b g h.running (map left_of lefts) h.method_is h.left

pub implication_only : (a b : Builder) (g : Tree) (shared : Option OpenBox) (lefts : List Leave)
    → AreLeft a b Implication g shared lefts → length lefts ≡ 1
implication_only a b g shared lefts h =
    let d = implication_left a b g shared lefts h in lefts_count lefts (InBox d.only ∷ []) d.lefts_are

pub is_implication : (a b : Builder) (g : Tree) (shared : Option OpenBox) (lefts : List Leave)
    → AreLeft a b Implication g shared lefts → (p : Tree) × ((q : Tree) × (g ≡ implication p q))
is_implication a b g shared lefts h =
    let d = implication_left a b g shared lefts h in (d.premise, (d.conclusion, d.goal_is))

-- what the end of an implication takes
pub record ImplicationEnd (a b : Builder) (g closed : Tree) (shared number : ℕ) : Type 0 where
  pub outside : Builder
  pub grows : Grows a outside
  pub premise : Tree
  pub conclusion : Tree
  pub goal_is : g ≡ implication premise conclusion
  pub shown : ByImplication outside b premise conclusion closed shared number

pub implication_as : (a b : Builder) (g : Tree) (shared : Option OpenBox) (lefts : List Leave) (x : OpenBox) (p : ℕ)
    (closed : Tree) → AreLeft a b Implication g shared lefts → box_list shared ≡ x ∷ []
    → map number_of lefts ≡ p ∷ []
    → ((u v : Tree) → g ≡ implication u v → closed ≡ closed_by u x.constants g)
    → ImplicationEnd a b g closed x.number p
implication_as a b g shared lefts x p closed h e n c =
    let d = implication_left a b g shared lefts h in
    let o = d.around.outside in
    let u = d.premise in
    let v = d.conclusion in
    let y = shared_same a b Implication g shared lefts x h d.around e in
    let one : d.only.number ∷ [] ≡ p ∷ [] = sym (numbers_left lefts _ d.lefts_are) ∙ n in
    record {
      outside = o;
      grows = d.around.grows;
      premise = u;
      conclusion = v;
      goal_is = d.goal_is;
      shown = subst (λ t. ByImplication o b u v t x.number p) (sym (c u v d.goal_is))
          (subst (ByImplication o b u v (closed_by u x.constants g) x.number) (only_same d.only.number p one)
          (subst (λ (z : OpenBox). ByImplication o b u v (closed_by u z.constants g) z.number d.only.number) y
          d.shown));
    }

-- the implication with constants in it

arguments_of : (g p q : Tree) → g ≡ implication p q
    → two_arguments (same_operator (built_in Implies bool_sort)) g ≡ Some (p, q)
arguments_of g p q e =
    let f = built_in Implies bool_sort in
    ap (two_arguments (same_operator f)) e ∙ ap (λ c. cond c (Some (p, q)) None) ((operator_Decides f f).1 refl)

pub closed_there : (g p q : Tree) (cs : List PlainOperator) (o : Option Tree) → g ≡ implication p q
    → o ≡ option_map (λ u. closed_by u.0 cs g) (two_arguments (same_operator (built_in Implies bool_sort)) g)
    → o ≡ None → ⊥
closed_there g p q cs o i e n =
    found_none o (closed_by p cs g) (e ∙ ap (option_map (λ u. closed_by u.0 cs g)) (arguments_of g p q i)) n

pub closed_is : (g p q closed : Tree) (cs : List PlainOperator) (o : Option Tree) → g ≡ implication p q
    → o ≡ option_map (λ u. closed_by u.0 cs g) (two_arguments (same_operator (built_in Implies bool_sort)) g)
    → o ≡ Some closed → closed ≡ closed_by p cs g
closed_is g p q closed cs o i e n =
    some_inj (sym n ∙ (e ∙ ap (option_map (λ u. closed_by u.0 cs g)) (arguments_of g p q i)))

-- ---- of a conjunction

pub conjunction_as : (a b : Builder) (g : Tree) (shared : Option OpenBox) (lefts : List Leave) (ns : List ℕ)
    → AreLeft a b Conjunction g shared lefts → ns ≡ map number_of lefts
    → Grows a b × (IsKnownFormula b g × AreTrue b (conjuncts g) ns)
conjunction_as a b g shared lefts ns h e =
    let ls = map left_of lefts in
    let d = conjunction_end a b g h.running ls h.method_is h.left in (
      shares_none a b g h.running ls Conjunction h.method_is refl h.left,
      (
        d.known,
        subst (AreTrue b (conjuncts g)) (sym (e ∙ (numbers_left lefts _ d.lefts_are ∙ numbers_of_lines d.lines)))
            d.shown,
      ),
    )

-- ---- clauses that are found

-- the clauses at which a method looked are those of the theory
looked_at : (a b : Builder) (method : Method) (g : Tree) (shared : Option OpenBox) (lefts : List Leave) (t : Theory)
    (h : AreLeft a b method g shared lefts) → t ≡ theory_in b
    → h.running.setting.clauses ≡ statement_zero ∷ t.statements
looked_at a b method g shared lefts t h e =
    h.left.planned.clauses
    ∙ ap (λ (u : Theory). statement_zero ∷ u.statements)
    (sym (through_boxes a b h.running.shared h.left.shared).0 ∙ sym e)

-- ---- by induction

pub induction_left : (a b : Builder) (n : List ℕ) (g : Tree) (shared : Option OpenBox) (lefts : List Leave)
    (h : AreLeft a b (Induction n) g shared lefts) → EndsByInduction b h.running.setting g n (map left_of lefts)
induction_left a b n g shared lefts h = induction_end a b g n h.running (map left_of lefts) h.method_is h.left

pub variable_there : (a b : Builder) (n : List ℕ) (g : Tree) (shared : Option OpenBox) (lefts : List Leave)
    → AreLeft a b (Induction n) g shared lefts → find (λ v. bytes_eq v.name n) (variables_of g) ≡ None → ⊥
variable_there a b n g shared lefts h e =
    let d = induction_left a b n g shared lefts h in found_none _ d.variable d.found e

generated_by : (a b : Builder) (n : List ℕ) (g : Tree) (shared : Option OpenBox) (lefts : List Leave) (t : Theory)
    (v : Variable) → t ≡ theory_in b → find (λ v. bytes_eq v.name n) (variables_of g) ≡ Some v
    → (h : AreLeft a b (Induction n) g shared lefts)
    → ((induction_left a b n g shared lefts h).variable ≡ v)
    × (generators v.sort (statement_zero ∷ t.statements)
    ≡ Some (induction_left a b n g shared lefts h).operators)
generated_by a b n g shared lefts t v e f h =
    let d = induction_left a b n g shared lefts h in
    let same : d.variable ≡ v = some_inj (sym d.found ∙ f) in (
      same,
      subst (λ (w : Variable). generators w.sort (statement_zero ∷ t.statements) ≡ Some d.operators) same
          (subst (λ cs. generators d.variable.sort cs ≡ Some d.operators)
          (looked_at a b (Induction n) g shared lefts t h e) d.generating),
    )

pub generating_there : (a b : Builder) (n : List ℕ) (g : Tree) (shared : Option OpenBox) (lefts : List Leave)
    (t : Theory) (v : Variable) → t ≡ theory_in b → find (λ v. bytes_eq v.name n) (variables_of g) ≡ Some v
    → AreLeft a b (Induction n) g shared lefts → generators v.sort (statement_zero ∷ t.statements) ≡ None → ⊥
generating_there a b n g shared lefts t v e f h q =
    found_none _ _ (generated_by a b n g shared lefts t v e f h).1 q

pub induction_as : (a b : Builder) (n : List ℕ) (g : Tree) (shared : Option OpenBox) (lefts : List Leave) (t : Theory)
    (v : Variable) (clause : ℕ) (ns : List ℕ) → t ≡ theory_in b → IsWellSortedTheory t
    → find (λ v. bytes_eq v.name n) (variables_of g) ≡ Some v
    → slice_get (statement_zero ∷ t.statements) clause
    ≡ option_map (Generated v.sort) (generators v.sort (statement_zero ∷ t.statements))
    → ns ≡ map number_of lefts → AreLeft a b (Induction n) g shared lefts
    → Grows a b × ByInduction b clause v g ns
induction_as a b n g shared lefts t v clause ns e w f k m h =
    let ls = map left_of lefts in
    let d = induction_left a b n g shared lefts h in
    let i = generated_by a b n g shared lefts t v e f h in
    let st = stated_found b t clause (Generated v.sort) (generators v.sort (statement_zero ∷ t.statements)) d.operators
    e w k i.1 in
    let numbers : map (λ (x : OpenBox). x.number) d.boxes ≡ ns =
    sym (m ∙ (numbers_left lefts _ d.lefts_are ∙ numbers_of_boxes d.boxes)) in (
      shares_none a b g h.running ls (Induction n) h.method_is refl h.left,
      subst (ByInduction b clause v g) numbers
          (subst (λ (u : Variable). ByInduction b clause u g (map (λ (x : OpenBox). x.number) d.boxes)) i.0
          (d.shown clause
          (subst (λ (u : Variable). IsStated b clause (Generated u.sort d.operators)) (sym i.0) st))),
    )

-- ---- by partition

pub partition_left : (a b : Builder) (g : Tree) (shared : Option OpenBox) (lefts : List Leave)
    (h : AreLeft a b Partition g shared lefts) → EndsByPartition b h.running.setting g (map left_of lefts)
partition_left a b g shared lefts h = partition_end a b g h.running (map left_of lefts) h.method_is h.left

pub sides_there : (a b : Builder) (g : Tree) (shared : Option OpenBox) (lefts : List Leave)
    → AreLeft a b Partition g shared lefts → two_arguments (λ f. is_built_in_as f Equal) g ≡ None → ⊥
sides_there a b g shared lefts h e =
    let d = partition_left a b g shared lefts h in found_none _ (d.left, d.right) d.goal_is e

-- what the end of a partition takes
pub record PartitionEnd (b : Builder) (t : Theory) (l r : Tree) (lefts : List Leave) : Type 0 where
  pub operators : List PlainOperator
  pub observing : observers (sort_of l) (statement_zero ∷ t.statements) ≡ Some operators
  pub boxes : List OpenBox
  pub lefts_are : map left_of lefts ≡ map InBox boxes
  pub shown : (clause : ℕ) → IsStated b clause (Partitioned (sort_of l) operators) → ByObservers b clause l r boxes

pub partition_for : (a b : Builder) (g l r : Tree) (shared : Option OpenBox) (lefts : List Leave) (t : Theory)
    → t ≡ theory_in b → two_arguments (λ f. is_built_in_as f Equal) g ≡ Some (l, r)
    → AreLeft a b Partition g shared lefts → PartitionEnd b t l r lefts
partition_for a b g l r shared lefts t e f h =
    let d = partition_left a b g shared lefts h in
    let q : Some (d.left, d.right) ≡ Some (l, r) = sym d.goal_is ∙ f in
    let i = ap (λ (p : Tree × Tree). p.0) (some_inj q) in
    let j = ap (λ (p : Tree × Tree). p.1) (some_inj q) in
    record {
      operators = d.operators;
      observing = subst (λ u. observers (sort_of u) (statement_zero ∷ t.statements) ≡ Some d.operators) i
          (subst (λ cs. observers (sort_of d.left) cs ≡ Some d.operators)
          (looked_at a b Partition g shared lefts t h e) d.observing);
      boxes = d.boxes;
      lefts_are = d.lefts_are;
      shown = λ clause st.
          subst (λ u. ByObservers b clause u r d.boxes) i
          (subst (λ u. ByObservers b clause d.left u d.boxes) j
          (d.shown clause (subst (λ u. IsStated b clause (Partitioned (sort_of u) d.operators)) (sym i) st)));
    }

pub partitioning_there : (a b : Builder) (g l r : Tree) (shared : Option OpenBox) (lefts : List Leave) (t : Theory)
    → t ≡ theory_in b → two_arguments (λ f. is_built_in_as f Equal) g ≡ Some (l, r)
    → AreLeft a b Partition g shared lefts → observers (sort_of l) (statement_zero ∷ t.statements) ≡ None → ⊥
partitioning_there a b g l r shared lefts t e f h q =
    let d = partition_for a b g l r shared lefts t e f h in found_none _ d.operators d.observing q

pub partition_boxed : (a b : Builder) (g : Tree) (shared : Option OpenBox) (lefts : List Leave)
    → AreLeft a b Partition g shared lefts → All IsBoxed lefts
partition_boxed a b g shared lefts h =
    let d = partition_left a b g shared lefts h in all_boxed lefts d.boxes d.lefts_are

pub partition_as : (a b : Builder) (g l r : Tree) (shared : Option OpenBox) (lefts : List Leave) (t : Theory)
    (clause : ℕ) (xs : List OpenBox) → t ≡ theory_in b → IsWellSortedTheory t
    → two_arguments (λ f. is_built_in_as f Equal) g ≡ Some (l, r)
    → slice_get (statement_zero ∷ t.statements) clause
    ≡ option_map (Partitioned (sort_of l)) (observers (sort_of l) (statement_zero ∷ t.statements))
    → map left_of lefts ≡ map InBox xs → AreLeft a b Partition g shared lefts
    → Grows a b × ByObservers b clause l r xs
partition_as a b g l r shared lefts t clause xs e w f k m h =
    let d = partition_for a b g l r shared lefts t e f h in
    let st = stated_found b t clause (Partitioned (sort_of l))
    (observers (sort_of l) (statement_zero ∷ t.statements)) d.operators e w k d.observing in (
      shares_none a b g h.running (map left_of lefts) Partition h.method_is refl h.left,
      subst (ByObservers b clause l r) (same_boxes d.boxes xs (sym d.lefts_are ∙ m)) (d.shown clause st),
    )

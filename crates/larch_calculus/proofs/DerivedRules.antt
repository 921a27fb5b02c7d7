-- Rules that follow.
use Rattle.std.proofs.Common.{◌≡◌, ℕ, Bool, true, false, not, ◌&&◌, ◌||◌, cond, List, [], ◌∷◌, ◌++◌, codes, Some, All}
use Rattle.std.proofs.Common.{Contains, refl, sym, ap, subst, inl, inr}
use Rattle.std.proofs.lemmas.List.Elements.{All-nil, All-cons, All-weaker, All-contains}
use Rattle.std.proofs.lemmas.Slice.Eq.{bytes_eq-Decides}
use Rattle.larch_term.proofs.BaseMembers.{contains_here, contains_later, contains_left, contains_right, contains_either}
use Rattle.larch_term.specs.Operator.{PlainOperator}
use Rattle.larch_term.specs.BuiltIn.{built_in, bool_sort}
use Rattle.larch_term.specs.Tree.{Tree, var}
use Rattle.larch_term.specs.Sorts.{sort_of, WellSorted, IsOver, IsTermOver}
use Rattle.larch_term.specs.Place.{at, put}
use Rattle.larch_term.specs.Variable.{occurrences}
use Rattle.larch_term.specs.Statement.{IsStatementOver, statement_zero, IsWellSortedTheory}
use Rattle.larch_term.specs.Substitution.{image, instance_of, Fits}
use Rattle.larch_term.specs.declared.built_in.BuiltIn.TheVariants.{Implies}
use Rattle.larch_term.specs.declared.substitution.Entry.{Entry}
use Rattle.larch_term.specs.declared.statement.Statement.{Statement}
use Rattle.larch_term.specs.declared.statement.Statement.TheVariants.{Equation}
use Rattle.larch_term.specs.declared.statement.Theory.{Theory}
use Rattle.larch_renaming.specs.Renaming.{no_renaming}
use Rattle.larch_calculus.specs.Formula.{falsity, conjunction, implication, choice}
use Rattle.larch_term.specs.Truth.{truth}
use Rattle.larch_calculus.specs.Identity.{IsIdentity, always, both, implied, propositional, chosen_first, chosen_second}
use Rattle.larch_calculus.specs.Theories.{IsTermOf, IsIncluded, IsPrefix, with_statements}
use Rattle.larch_calculus.specs.Letters.{two, x_letter, y_letter}
use Rattle.larch_calculus.specs.Derivable.{Derivable, axiom_, identity, reflexive, symmetric, replace, instance, weaken}
use Rattle.larch_calculus.specs.Derivable.{cases}
use Rattle.larch_renaming.proofs.RenamedStatements.{by_name_fits, statement_unchanged}
use Rattle.larch_calculus.proofs.Sorted.{truth_over, falsity_over, sides_over, included_with}
use Rattle.larch_calculus.proofs.Sorted.{with_statements_well_sorted}
use Rattle.larch_calculus.proofs.Translation.{translated}
use Rattle.larch_calculus.proofs.WellSorted.{well_sorted}

pub transitive : {t : Theory} {a b c : Tree} → Derivable t (Equation a b) → Derivable t (Equation b c)
    → Derivable t (Equation a c)
transitive d e = replace [] d e refl refl

pub replaced_right : {t : Theory} {a b u v : Tree} (p : List ℕ) → at b p ≡ Some u → Derivable t (Equation a b)
    → Derivable t (Equation u v) → Derivable t (Equation a (put b p v))
replaced_right p h d e = replace p d e h refl

pub replaced_left : {t : Theory} {a b u v : Tree} (p : List ℕ) → at a p ≡ Some u → Derivable t (Equation a b)
    → Derivable t (Equation u v) → Derivable t (Equation (put a p v) b)
replaced_left p h d e = symmetric (replace p (symmetric d) e h refl)

pub replaced_inside : {t : Theory} {a u v : Tree} (p : List ℕ) → IsTermOver t.operators a → at a p ≡ Some u
    → Derivable t (Equation u v) → Derivable t (Equation a (put a p v))
replaced_inside p w h e = replace p (reflexive w) e h refl

pub image_x : (s : List ℕ) (a b : Tree) → image (two s a b) (codes "x") s ≡ a
image_x s a b = ap (λ c. cond c a (cond false b (var (codes "x") s))) ((bytes_eq-Decides s s).1 refl)

pub image_y : (s : List ℕ) (a b : Tree) → image (two s a b) (codes "y") s ≡ b
image_y s a b = ap (λ c. cond c b (var (codes "y") s)) ((bytes_eq-Decides s s).1 refl)

pub two_fit : (s : List ℕ) (a b : Tree) → WellSorted a → sort_of a ≡ s → WellSorted b → sort_of b ≡ s → Fits (two s a b)
two_fit s a b wa ea wb eb =
    let P : Entry → Type 0 = λ e. WellSorted e.term × (sort_of e.term ≡ e.sort) in
    All-cons P (record { name = codes "x"; sort = s; term = a })
    (record { name = codes "y"; sort = s; term = b } ∷ []) (wa, ea)
    (All-cons P (record { name = codes "y"; sort = s; term = b }) [] (wb, eb) (All-nil P))

pub two_over : (fs : List PlainOperator) (s : List ℕ) (a b : Tree) → IsOver fs a → IsOver fs b
    → All (λ e. IsOver fs e.term) (two s a b)
two_over fs s a b oa ob =
    let P : Entry → Type 0 = λ e. IsOver fs e.term in
    All-cons P (record { name = codes "x"; sort = s; term = a })
    (record { name = codes "y"; sort = s; term = b } ∷ []) oa
    (All-cons P (record { name = codes "y"; sort = s; term = b }) [] ob (All-nil P))

-- an identity with terms for x and y
pub identity_instance : {t : Theory} (s : List ℕ) (a b : Tree) {c d : Tree} → IsTermOf t.operators s a
    → IsTermOf t.operators s b → IsIdentity c d
    → Derivable t (Equation (instance_of (two s a b) c) (instance_of (two s a b) d))
identity_instance {t} s a b p q i =
    instance (two s a b) (two_fit s a b p.0.0 p.1 q.0.0 q.1) (two_over t.operators s a b p.0.1 q.0.1)
    (identity i) refl refl

pub chosen_true : {t : Theory} (s : List ℕ) (a b : Tree) → IsTermOver t.operators a → sort_of a ≡ s
    → IsTermOver t.operators b → sort_of b ≡ s
    → Derivable t (Equation (choice s truth a b) a)
chosen_true {t} s a b wa ea wb eb =
    instance (two s a b) (two_fit s a b wa.0 ea wb.0 eb) (two_over t.operators s a b wa.1 wb.1)
    (identity (chosen_first s (codes "x") (codes "y") refl refl))
    (λ i. choice s truth (sym (image_x s a b) i) (sym (image_y s a b) i)) (sym (image_x s a b))

pub chosen_false : {t : Theory} (s : List ℕ) (a b : Tree) → IsTermOver t.operators a → sort_of a ≡ s
    → IsTermOver t.operators b → sort_of b ≡ s
    → Derivable t (Equation (choice s falsity a b) b)
chosen_false {t} s a b wa ea wb eb =
    instance (two s a b) (two_fit s a b wa.0 ea wb.0 eb) (two_over t.operators s a b wa.1 wb.1)
    (identity (chosen_second s (codes "x") (codes "y") refl refl))
    (λ i. choice s falsity (sym (image_x s a b) i) (sym (image_y s a b) i)) (sym (image_y s a b))

-- from true == false each equation: both sides are choices, with true and with false for the condition
pub all_equal : {t : Theory} {a b : Tree} → Derivable t (Equation truth falsity)
    → IsStatementOver t.operators (Equation a b) → Derivable t (Equation a b)
all_equal {t} {a} {b} d w =
    let s = sort_of a in
    transitive (replace (1 ∷ []) (symmetric (chosen_true s a b w.0 refl w.1 (sym w.2))) d refl refl)
    (chosen_false s a b w.0 refl w.1 (sym w.2))

and_true : (p : Bool) → p && true ≡ p
and_true true = refl
and_true false = refl

both_ways : (p q : Bool) → p && (not p || q) ≡ q && (not q || p)
both_ways true true = refl
both_ways true false = refl
both_ways false true = refl
both_ways false false = refl

-- a /\ true == a
pub with_truth : {t : Theory} (a : Tree) → IsTermOver t.operators a → sort_of a ≡ bool_sort
    → Derivable t (Equation (conjunction a truth) a)
with_truth {t} a wa ea =
    identity_instance bool_sort a a (wa, ea) (wa, ea)
    (propositional (both x_letter always) x_letter refl refl (λ given. and_true (given (codes "x"))))

-- (a /\ (a => b)) == (b /\ (b => a))
pub exchanged : {t : Theory} (a b : Tree) → IsTermOver t.operators a → sort_of a ≡ bool_sort
    → IsTermOver t.operators b → sort_of b ≡ bool_sort
    → Derivable t (Equation (conjunction a (implication a b)) (conjunction b (implication b a)))
exchanged {t} a b wa ea wb eb =
    identity_instance bool_sort a b (wa, ea) (wb, eb)
    (propositional (both x_letter (implied x_letter y_letter)) (both y_letter (implied y_letter x_letter)) refl refl
    (λ given. both_ways (given (codes "x")) (given (codes "y"))))

-- formulas that imply each other are equal
pub equal_by_implications : {t : Theory} {a b : Tree} → Derivable t (Equation (implication a b) truth)
    → Derivable t (Equation (implication b a) truth) → Derivable t (Equation a b)
equal_by_implications {t} {a} {b} d e =
    let sides = sides_over t.operators (built_in Implies bool_sort) bool_sort bool_sort a b refl (well_sorted d).0 in
    let wa = sides.0.0 in
    let wb = sides.1.0 in
    let middle : Derivable t (Equation (conjunction a truth) (conjunction b (implication b a))) =
    symmetric (replace (2 ∷ []) (symmetric (exchanged a b wa sides.0.1 wb sides.1.1)) d refl refl) in
    transitive (symmetric (with_truth a wa sides.0.1))
    (transitive (replace (2 ∷ []) middle e refl refl) (with_truth b wb sides.1.1))

-- what a theory states is derivable from it
pub stated : (t : Theory) (s : Statement) → IsWellSortedTheory t → Contains t.statements s → Derivable t s
stated t s w c =
    axiom_ (contains_later statement_zero s t.statements c)
    (All-contains (IsStatementOver t.operators) t.statements s w c)

-- what is supposed is derivable
pub supposed : (t : Theory) (h : Statement) → IsStatementOver t.operators h → Derivable (with_statements t (h ∷ [])) h
supposed t h w =
    axiom_ (contains_later statement_zero h (t.statements ++ h ∷ [])
    (contains_right t.statements (h ∷ []) h (contains_here h []))) w

supposing_first : (t : Theory) (h k : Statement)
    → IsIncluded (with_statements t (k ∷ [])) (with_statements (with_statements t (h ∷ [])) (k ∷ []))
supposing_first t h k =
    record {
      operators = λ f c. c;
      statements = λ s c. elim (contains_either t.statements (k ∷ []) s c) [
        | inl a ↦ contains_left (t.statements ++ h ∷ []) (k ∷ []) s (contains_left t.statements (h ∷ []) s a)
        | inr b ↦ contains_right (t.statements ++ h ∷ []) (k ∷ []) s b
      ];
    }

supposing_well_sorted : (t : Theory) (h : Statement) → IsWellSortedTheory t → IsStatementOver t.operators h
    → IsWellSortedTheory (with_statements t (h ∷ []))
supposing_well_sorted t h w v =
    with_statements_well_sorted t (h ∷ []) w
    (All-cons (IsStatementOver t.operators) h [] v (All-nil (IsStatementOver t.operators)))

-- formulas without variables that follow from each other are equal
pub equal_by_suppositions : {t : Theory} {a b : Tree} → IsWellSortedTheory t
    → IsTermOver t.operators a → sort_of a ≡ bool_sort → occurrences a ≡ [] → IsTermOver t.operators b
    → sort_of b ≡ bool_sort → occurrences b ≡ []
    → Derivable (with_statements t (Equation a truth ∷ [])) (Equation b truth)
    → Derivable (with_statements t (Equation b truth ∷ [])) (Equation a truth) → Derivable t (Equation a b)
equal_by_suppositions {t} {a} {b} w wa sa oa wb sb ob d e =
    let fs = t.operators in
    let a_true : IsStatementOver fs (Equation a truth) = (wa, (truth_over fs).0, sa) in
    let a_false : IsStatementOver fs (Equation a falsity) = (wa, (falsity_over fs).0, sa) in
    let b_true : IsStatementOver fs (Equation b truth) = (wb, (truth_over fs).0, sb) in
    let b_false : IsStatementOver fs (Equation b falsity) = (wb, (falsity_over fs).0, sb) in
    let t_false = with_statements t (Equation a falsity ∷ []) in
    let wt = supposing_well_sorted t (Equation a falsity) w a_false in
    cases a wa sa oa
    (transitive (supposed t (Equation a truth) a_true) (symmetric d))
    (cases b wb sb ob
    (transitive (weaken (supposing_well_sorted t (Equation b truth) w b_true)
    (supposing_first t (Equation a falsity) (Equation b truth)) e)
    (symmetric (supposed t_false (Equation b truth) b_true)))
    (transitive (weaken wt (included_with t_false (Equation b falsity ∷ [])) (supposed t (Equation a falsity) a_false))
    (symmetric (supposed t_false (Equation b falsity) b_false))))

pub prefix_included : (t u : Theory) → IsPrefix t u → IsIncluded t u
prefix_included t u p =
    record {
      operators = λ f c. subst (λ fs. Contains fs f) (sym p.0.1) (contains_left t.operators p.0.0 f c);
      statements = λ s c. subst (λ ss. Contains ss s) (sym p.1.1) (contains_left t.statements p.1.0 s c);
    }

-- what a theory states may be derived from another one with its operators
pub cut_theory : {t u : Theory} {s : Statement} → IsWellSortedTheory t → IsWellSortedTheory u
    → ((f : PlainOperator) → Contains t.operators f → Contains u.operators f)
    → ((r : Statement) → Contains t.statements r → Derivable u r) → Derivable t s → Derivable u s
cut_theory {t} {u} {s} wt wu fs rs d =
    subst (Derivable u) (statement_unchanged s)
    (translated d no_renaming u (record {
      source = wt;
      target = wu;
      faithful = record {
        signatures = record { domain = (by_name_fits (λ n. n)).domain; range = λ f. refl };
        built_in = record { truth_values = refl; operators = λ b s. refl };
        apart = λ s q e. e;
      };
      operators = λ f k. elim k [ inl c ↦ inl (fs f c) | inr b ↦ inr b ];
      statements = λ r c. subst (Derivable u) (sym (statement_unchanged r)) (rs r c);
    }))

pub cut_statements : {t : Theory} (ss : List Statement) {s : Statement} → IsWellSortedTheory t → All (Derivable t) ss
    → Derivable (with_statements t ss) s → Derivable t s
cut_statements {t} ss w h d =
    cut_theory
    (with_statements_well_sorted t ss w
    (All-weaker (Derivable t) (IsStatementOver t.operators) (λ r e. well_sorted e) ss h)) w (λ f c. c)
    (λ r c. elim (contains_either t.statements ss r c) [
      | inl a ↦ stated t r w a
      | inr b ↦ All-contains (Derivable t) ss r h b
    ]) d

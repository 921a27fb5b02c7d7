-- The example derivation.
use Rattle.std.proofs.Common.{◌≡◌, ℕ, zero, suc, inl, List, [], ◌∷◌, codes, Some, refl, subst, arith}
use Rattle.std.specs.List.{slice_get}
use Rattle.std.proofs.lemmas.List.Elements.{All-nil, All-cons}
use Rattle.larch_term.proofs.BaseMembers.{contains_here, contains_later}
use Rattle.larch_term.specs.Operator.{PlainOperator, boxed}
use Rattle.larch_term.specs.Tree.{app, none}
use Rattle.larch_term.specs.Sorts.{IsKnown}
use Rattle.larch_term.specs.Statement.{IsStatementOver}
use Rattle.larch_term.specs.declared.statement.Statement.TheVariants.{Equation}
use Rattle.larch_calculus.specs.Formula.{constant, apply_one, apply_two}
use Rattle.larch_calculus.specs.Theories.{IsNewName, extend}
use Rattle.larch_calculus.specs.Generation.{constant_terms, equation_at, induction_hypotheses}
use Rattle.larch_calculus.specs.Derivable.{Derivable, AreArguments, axiom_, replace, instance, induct}
use Rattle.larch_calculus.specs.Example.{number_sort, nought, successor, plus, x_number, numbers_generated}
use Rattle.larch_calculus.specs.Example.{sum_with_nought, sum_with_successor, numbers, sum_from_nought}
use Rattle.larch_calculus.proofs.Names.{box_is_new}
use Rattle.larch_calculus.proofs.Sorted.{knows_more, statement_over_more}
use Rattle.larch_calculus.proofs.DerivedRules.{two_fit, two_over}
use Rattle.larch_calculus.specs.Letters.{two}

has_nought : IsKnown numbers.operators nought
has_nought = inl (contains_here nought (successor ∷ plus ∷ []))

has_successor : IsKnown numbers.operators successor
has_successor = inl (contains_later nought successor (successor ∷ plus ∷ []) (contains_here successor (plus ∷ [])))

has_plus : IsKnown numbers.operators plus
has_plus =
    inl (contains_later nought plus (successor ∷ plus ∷ [])
    (contains_later successor plus (plus ∷ []) (contains_here plus [])))

-- the constant of the box for the successor
abbrev fresh_number : PlainOperator
fresh_number = record { name = boxed 0 1; domain = []; range = number_sort }

abbrev box_constants : ℕ → List PlainOperator
box_constants zero = []
box_constants (suc i) = fresh_number ∷ []

generated_over : IsStatementOver numbers.operators numbers_generated
generated_over =
    let P : PlainOperator → Type 0 = λ g. IsKnown numbers.operators g × (g.range ≡ number_sort) in
    All-cons P nought (successor ∷ []) (has_nought, refl) (All-cons P successor [] (has_successor, refl) (All-nil P))

goal_over : IsStatementOver numbers.operators sum_from_nought
goal_over = (((refl, ((refl, tt), (tt, tt))), (has_plus, ((has_nought, tt), (tt, tt)))), (tt, tt), refl)

nought_over : IsStatementOver numbers.operators sum_with_nought
nought_over = (((refl, (tt, ((refl, tt), tt))), (has_plus, (tt, ((has_nought, tt), tt)))), (tt, tt), refl)

successor_over : IsStatementOver numbers.operators sum_with_successor
successor_over = (
  ((refl, (tt, ((refl, (tt, tt)), tt))), (has_plus, (tt, ((has_successor, (tt, tt)), tt)))),
  ((refl, ((refl, (tt, (tt, tt))), tt)), (has_successor, ((has_plus, (tt, (tt, tt))), tt))),
  refl,
)

-- a box may be opened for each generator
boxes : (i : ℕ) (f : PlainOperator) → slice_get (nought ∷ successor ∷ []) i ≡ Some f
    → AreArguments numbers f (box_constants i)
boxes zero f e =
    let p : nought ≡ f = cc in
    subst (λ g. AreArguments numbers g []) p
    (record {
      new =
          record {
            names = All-nil (λ f. IsNewName numbers f.name);
            different = λ i j d lt within. absurd (omega arith);
          };
      constants = All-nil (λ f. f.domain ≡ []);
      sorts = refl;
    })
boxes (suc zero) f e =
    let p : successor ≡ f = cc in
    subst (λ g. AreArguments numbers g (fresh_number ∷ [])) p
    (record {
      new = record {
        names =
            All-cons (λ f. IsNewName numbers f.name) fresh_number [] (λ f k. box_is_new numbers.operators 1 f k)
            (All-nil (λ f. IsNewName numbers f.name));
        different = λ i j d lt within. absurd (omega arith);
      };
      constants = All-cons (λ f. f.domain ≡ []) fresh_number [] refl (All-nil (λ f. f.domain ≡ []));
      sorts = refl;
    })
boxes (suc (suc i)) f e = cc

-- 0 + 0 == 0, from x + 0 == x
first : Derivable (extend numbers [] [])
    (Equation (apply_two plus (constant nought) (constant nought)) (constant nought))
first =
    let t = extend numbers [] [] in
    let known = knows_more numbers.operators [] in
    instance (two number_sort (constant nought) (constant nought))
    (two_fit number_sort (constant nought) (constant nought) (refl, tt) refl (refl, tt) refl)
    (two_over t.operators number_sort (constant nought) (constant nought) (known nought has_nought, tt)
    (known nought has_nought, tt))
    (axiom_ {s = sum_with_nought} (2, omega arith, refl)
    (statement_over_more numbers.operators t.operators known sum_with_nought nought_over)) refl refl

-- 0 + s(c) == s(0 + c), and with 0 + c == c at place 1 of the right side 0 + s(c) == s(c)
second : Derivable
    (extend numbers (fresh_number ∷ [])
    (Equation (apply_two plus (constant nought) (constant fresh_number)) (constant fresh_number) ∷ []))
    (Equation (apply_two plus (constant nought) (apply_one successor (constant fresh_number)))
    (apply_one successor (constant fresh_number)))
second =
    let supposition = Equation (apply_two plus (constant nought) (constant fresh_number)) (constant fresh_number) in
    let t = extend numbers (fresh_number ∷ []) (supposition ∷ []) in
    let known = knows_more numbers.operators (fresh_number ∷ []) in
    let own : IsKnown t.operators fresh_number = inl (3, omega arith, refl) in
    let summed : Derivable t (Equation (apply_two plus (constant nought) (apply_one successor (constant fresh_number)))
    (apply_one successor (apply_two plus (constant nought) (constant fresh_number)))) =
    instance (two number_sort (constant nought) (constant fresh_number))
    (two_fit number_sort (constant nought) (constant fresh_number) (refl, tt) refl (refl, tt) refl)
    (two_over t.operators number_sort (constant nought) (constant fresh_number) (known nought has_nought, tt) (own, tt))
    (axiom_ {s = sum_with_successor} (3, omega arith, refl)
    (statement_over_more numbers.operators t.operators known sum_with_successor successor_over)) refl refl in
    let given : Derivable t supposition =
    axiom_ {s = supposition} (4, omega arith, refl) (
      ((refl, ((refl, tt), ((refl, tt), tt))), (known plus has_plus, ((known nought has_nought, tt), ((own, tt), tt)))),
      ((refl, tt), (own, tt)),
      refl,
    ) in
    replace (1 ∷ []) summed given refl refl

steps : (i : ℕ) (f : PlainOperator) → slice_get (nought ∷ successor ∷ []) i ≡ Some f
    → Derivable
    (extend numbers (box_constants i)
    (induction_hypotheses (codes "x") number_sort (apply_two plus (constant nought) x_number) x_number
    (box_constants i)))
    (equation_at (codes "x") number_sort (apply_two plus (constant nought) x_number) x_number
    (app f (constant_terms (box_constants i))))
steps zero f e =
    let p : nought ≡ f = cc in
    subst (λ g. Derivable (extend numbers [] [])
    (equation_at (codes "x") number_sort (apply_two plus (constant nought) x_number) x_number (app g none))) p first
steps (suc zero) f e =
    let p : successor ≡ f = cc in
    subst
    (λ g. Derivable (extend numbers (fresh_number ∷ [])
    (induction_hypotheses (codes "x") number_sort (apply_two plus (constant nought) x_number) x_number
    (fresh_number ∷ [])))
    (equation_at (codes "x") number_sort (apply_two plus (constant nought) x_number) x_number
    (app g (constant_terms (fresh_number ∷ []))))) p second
steps (suc (suc i)) f e = cc

pub by_induction : Derivable numbers sum_from_nought
by_induction =
    induct (codes "x") number_sort (nought ∷ successor ∷ []) box_constants
    (axiom_ (1, omega arith, refl) generated_over) goal_over boxes steps

-- What is shown in the box of a clause, and the rule that takes it.
use Rattle.std.specs.Prelude.{◌≡◌, ℕ, All, Contains, List, map, Some}
use Rattle.std.proofs.Common.{ap, sym, subst, ◌∙◌}
use Rattle.larch_base.specs.ByNumber.{numbered}
use Rattle.larch_term.specs.Operator.{PlainOperator}
use Rattle.larch_term.specs.Tree.{var}
use Rattle.larch_term.specs.Truth.{truth}
use Rattle.larch_term.specs.declared.statement.Statement.TheVariants.{Equation, Generated, Partitioned}
use Rattle.larch_term.specs.declared.statement.Theory.{Theory}
use Rattle.larch_calculus.specs.Formula.{apply_one, constant}
use Rattle.larch_calculus.specs.Generation.{generation_hypotheses, place_name}
use Rattle.larch_calculus.specs.Observation.{observations}
use Rattle.larch_derive.specs.VerifyMeaningClauseRules.{own_operators}
use Rattle.larch_derive.specs.Builder.{theory_in}
use Rattle.larch_derive.specs.OpenBox.{constant_of}
use Rattle.larch_derive.specs.Predicates.{Grows, HasStatement}
use Rattle.larch_derive.specs.declared.builder.Builder.{Builder}
use Rattle.larch_derive.proofs.Growth.{grows_alike}
use Rattle.larch_derive_clauses.specs.DeriveBoxesBoxes.{HasResult}
use Rattle.larch_derive_clauses.specs.Showing.{ShowsGenerated, ShowsPartitioned}
use Rattle.larch_methods.specs.Clauses.{ByConstants, ByPredicate}
use Rattle.larch_methods.proofs.Numbered.{each_found}
use Rattle.larch_methods.proofs.Sharing.{own_still}

-- the operators have these numbers in the builder's theory
pub numbers_own : (a : Builder) (t : Theory) (own : List PlainOperator) (ks : List ℕ) (fs : List PlainOperator)
    → theory_in a ≡ t → own ≡ t.operators → map (numbered own) ks ≡ map Some fs
    → own_operators (theory_in a) ks ≡ Some fs
numbers_own a t own ks fs e o h =
    ap (λ u. own_operators u ks) e
    ∙ each_found (numbered t.operators) ks fs (subst (λ gs. map (numbered gs) ks ≡ map Some fs) o h)

-- and still where it has grown
pub numbers_still : (a b : Builder) (ks : List ℕ) (fs : List PlainOperator) → Grows a b
    → own_operators (theory_in a) ks ≡ Some fs → own_operators (theory_in b) ks ≡ Some fs
numbers_still a b ks fs g e = ap (λ u. own_operators u ks) (grows_alike a b g).0 ∙ e

-- not all operators are the theory's where they aren't all among its operators
pub others_among : (own own_in : List PlainOperator) (fs : List PlainOperator) → own ≡ own_in
    → (All (Contains own) fs → ⊥) → All (Contains own_in) fs → ⊥
others_among own own_in fs e h k = h (subst (λ gs. All (Contains gs) fs) (sym e) k)

-- the sort is written once more
pub predicate_for : (a b : Builder) (z s : List ℕ) (fs : List PlainOperator) (number line : ℕ) → z ≡ s
    → ByPredicate a b s fs number line → ByPredicate a b z fs number line
predicate_for a b z s fs number line e h = subst (λ y. ByPredicate a b y fs number line) (sym e) h

pub constants_for_sort : (a b : Builder) (z s : List ℕ) (os : List PlainOperator) (number line : ℕ) → z ≡ s
    → ByConstants a b s os number line → ByConstants a b z os number line
constants_for_sort a b z s os number line e h = subst (λ y. ByConstants a b y os number line) (sym e) h

pub generated_for : (b : Builder) (n : ℕ) (z s : List ℕ) (fs : List PlainOperator) → z ≡ s
    → HasStatement b n (Generated z fs) → HasStatement b n (Generated s fs)
generated_for b n z s fs e h = subst (λ y. HasStatement b n (Generated y fs)) e h

pub partitioned_for : (b : Builder) (n : ℕ) (z s : List ℕ) (os : List PlainOperator) → z ≡ s
    → HasStatement b n (Partitioned z os) → HasStatement b n (Partitioned s os)
partitioned_for b n z s os e h = subst (λ y. HasStatement b n (Partitioned y os)) e h

pub shows_generated : (a b c : Builder) (s : List ℕ) (fs : List PlainOperator) (number line : ℕ)
    (h : ByPredicate a b s fs number line) → Grows a c
    → HasResult c h.box (generation_hypotheses h.predicate s fs)
    (Equation (apply_one h.predicate (var h.variable s)) truth)
    → ShowsGenerated c s fs number
shows_generated a b c s fs number line h g r =
    record {
      box = h.box;
      predicate = h.predicate;
      variable = h.variable;
      number = h.number_is;
      alone = h.alone;
      domain = h.domain;
      range = h.range;
      outer = ap (λ bs. constant_of bs h.predicate) (grows_alike a c g).1 ∙ h.outer;
      shown = r;
    }

pub shows_partitioned : (a b c : Builder) (s : List ℕ) (os : List PlainOperator) (number line : ℕ)
    (h : ByConstants a b s os number line) → Grows a c
    → HasResult c h.box (observations place_name s os (constant h.first) (constant h.second))
    (Equation (constant h.first) (constant h.second))
    → ShowsPartitioned c s os number
shows_partitioned a b c s os number line h g r =
    record {
      box = h.box;
      first = h.first;
      second = h.second;
      number = h.number_is;
      two = h.two;
      own = own_still a c h.box g h.own;
      first_sort = h.first_sort;
      second_sort = h.second_sort;
      shown = r;
    }

-- What was shown is shown still where the builder has grown.
use Rattle.std.proofs.Common.{ℕ, List, [], ◌∷◌, sym, ◌∙◌, ap, subst}
use Rattle.larch_term.specs.Operator.{PlainOperator}
use Rattle.larch_term.specs.Tree.{Tree, var, app}
use Rattle.larch_term.specs.Truth.{truth}
use Rattle.larch_term.specs.declared.statement.Statement.TheVariants.{Equation}
use Rattle.larch_derive_boxes.specs.CalculusFormula.{constant, apply_one}
use Rattle.larch_derive_boxes.specs.CalculusGeneration.{place_name, constant_terms, equation_at, induction_hypotheses}
use Rattle.larch_derive_boxes.specs.CalculusGeneration.{generation_hypotheses}
use Rattle.larch_derive_boxes.specs.CalculusObservation.{Observation, observer_term, observations}
use Rattle.larch_certificate.specs.declared.line.CodedVar.{CodedVar}
use Rattle.larch_derive_boxes.specs.DeriveBuilderBuilder.{Builder}
use Rattle.larch_derive_boxes.specs.DeriveOpenBox.{constant_of}
use Rattle.larch_derive_boxes.specs.DerivePredicates.{Grows}
use Rattle.larch_derive_boxes.proofs.DeriveGrowth.{grown_said, grows_alike}
use Rattle.larch_derive_boxes.specs.Boxes.{AreOwnConstants}
use Rattle.larch_derive_boxes.proofs.Closing.{grown_result}
use Rattle.larch_derive_clauses.specs.Showing.{ShowsCase, ShowCases, ShowsSame, ShowSame, ShowsGenerated}
use Rattle.larch_derive_clauses.specs.Showing.{ShowsPartitioned}

case_stays : (a b : Builder) (v : CodedVar) (l r : Tree) (f : PlainOperator) (n : ℕ) → Grows a b
    → ShowsCase a v l r f n → ShowsCase b v l r f n
case_stays a b v l r f n g c =
    record {
      box = c.box;
      number = c.number;
      own = subst (λ bs. AreOwnConstants bs c.box) (sym (grows_alike a b g).1) c.own;
      sorts = c.sorts;
      shown = grown_result a b c.box (induction_hypotheses v.name v.sort l r c.box.constants)
          (equation_at v.name v.sort l r (app f (constant_terms c.box.constants))) g c.shown;
    }

pub cases_stay : (a b : Builder) (v : CodedVar) (l r : Tree) (fs : List PlainOperator) (ns : List ℕ) → Grows a b
    → ShowCases a v l r fs ns → ShowCases b v l r fs ns
cases_stay a b v l r [] [] g c = c
cases_stay a b v l r [] (n ∷ ns) g c = c
cases_stay a b v l r (f ∷ fs) [] g c = c
cases_stay a b v l r (f ∷ fs) (n ∷ ns) g c = (case_stays a b v l r f n g c.0, cases_stay a b v l r fs ns g c.1)

same_stays : (a b : Builder) (l r : Tree) (w : Observation) (n : ℕ) → Grows a b → ShowsSame a l r w n
    → ShowsSame b l r w n
same_stays a b l r w n g c =
    record {
      names = c.names;
      apart = c.apart;
      says = grown_said a b n (Equation (observer_term c.names w l) (observer_term c.names w r)) g c.says;
    }

pub all_same_stay : (a b : Builder) (l r : Tree) (ws : List Observation) (ns : List ℕ) → Grows a b
    → ShowSame a l r ws ns → ShowSame b l r ws ns
all_same_stay a b l r [] [] g c = c
all_same_stay a b l r [] (n ∷ ns) g c = c
all_same_stay a b l r (w ∷ ws) [] g c = c
all_same_stay a b l r (w ∷ ws) (n ∷ ns) g c = (same_stays a b l r w n g c.0, all_same_stay a b l r ws ns g c.1)

pub generated_stays : (a b : Builder) (s : List ℕ) (fs : List PlainOperator) (n : ℕ) → Grows a b
    → ShowsGenerated a s fs n → ShowsGenerated b s fs n
generated_stays a b s fs n g c =
    record {
      box = c.box;
      predicate = c.predicate;
      variable = c.variable;
      number = c.number;
      alone = c.alone;
      domain = c.domain;
      range = c.range;
      outer = ap (λ bs. constant_of bs c.predicate) (grows_alike a b g).1 ∙ c.outer;
      shown = grown_result a b c.box (generation_hypotheses c.predicate s fs)
          (Equation (apply_one c.predicate (var c.variable s)) truth) g c.shown;
    }

pub partitioned_stays : (a b : Builder) (s : List ℕ) (os : List PlainOperator) (n : ℕ) → Grows a b
    → ShowsPartitioned a s os n → ShowsPartitioned b s os n
partitioned_stays a b s os n g c =
    record {
      box = c.box;
      first = c.first;
      second = c.second;
      number = c.number;
      two = c.two;
      own = subst (λ bs. AreOwnConstants bs c.box) (sym (grows_alike a b g).1) c.own;
      first_sort = c.first_sort;
      second_sort = c.second_sort;
      shown = grown_result a b c.box (observations place_name s os (constant c.first) (constant c.second))
          (Equation (constant c.first) (constant c.second)) g c.shown;
    }

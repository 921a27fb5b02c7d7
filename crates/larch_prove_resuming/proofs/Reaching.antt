-- What a command works on stands before the method that it begins.
use Rattle.std.specs.Prelude.{◌≡◌, ℕ, List, ◌∷◌, ◌++◌, fold, map}
use Rattle.std.proofs.Common.{ap, ap₂, subst, sym, ◌∙◌}
use Rattle.std.proofs.lemmas.List.{append_assoc, map-append}
use Rattle.larch_order.specs.Precedence.{with_constant}
use Rattle.larch_prove_work.specs.ProveDraftProving.{IsOver}
use Rattle.larch_prove_work.specs.ProveInvariantHolding.{theory_for}
use Rattle.larch_prove_work.specs.ProveInvariantSetting.{names_beside}
use Rattle.larch_prove_work.specs.ProveLevelsLevelPlanned.{Planned}
use Rattle.larch_prove_meaning.specs.Levels as defined
use Rattle.larch_prove_meaning.specs.Levels.{Proof, all_constants, begun, with_constants}
use Rattle.larch_prove_meaning.specs.Plans.{Plan, plan}
use Rattle.larch_prove_meaning.specs.Steps.{resume, setting_of}
use Rattle.larch_prove_plans.specs.Planning.{method_of, names_of_operators, plan_answer, planned_by, setting_over}
use Rattle.larch_prove_plans.specs.declared.subgoals.Method.{Method}
use Rattle.larch_prove_resuming.specs.Resuming.{IsPlannedFor, MayResume, StandsBefore}
use Rattle.larch_prove_work.specs.ProveSettingsSettingsSettings.{Settings}
use Rattle.larch_prove_work.proofs.Carried.{work_stands}
use Rattle.larch_prove_work.specs.Work.{MayWork}
use Rattle.larch_prove_work.specs.declared.work.Work.{Work}
use Rattle.larch_sorts_meaning.specs.Scope.{Variables}
use Rattle.larch_store.specs.Numbered.{term_of}
use Rattle.larch_term.specs.Operator.{PlainOperator, name_bytes}
use Rattle.larch_term.specs.Statement.{statement_zero}
use Rattle.larch_term.specs.Tree.{Tree}
use Rattle.larch_term.specs.declared.statement.Statement.{Statement}
use Rattle.larch_term.specs.declared.statement.Theory.{Theory}
use Rattle.larch_base_meaning.specs.Steps.{after}

-- what the call that plans looks at is what a method looks at
setting_is : (p : Proof) → setting_over (theory_for p) (names_beside p) ≡ setting_of p
setting_is p =
    let scope : List (List ℕ) = map (λ v. v.0) p.scope in
    let own = names_of_operators p.theory.operators in
    ap (λ taken. record { clauses = statement_zero ∷ (theory_for p).statements; taken = taken })
    (sym (append_assoc own (names_of_operators p.constants) scope)
    ∙ ap (λ ns. ns ++ scope) (sym (map-append (λ (f : PlainOperator). name_bytes f.name) p.theory.operators
    p.constants)))

module _ (t : Theory) (s : Statement) (w : Work) (p : Proof) (may : MayWork t s w p) where
  -- the goal, and the names that are taken
  pub goal_is : p.current.goal ≡ term_of w.draft.current.goal.term
  goal_is =
      let z = (work_stands t s w p may).1.1 in ap (λ (l : defined.Level). l.goal) (sym z.level_is) ∙ z.current.0.goal

  pub names_are : names_of_operators w.settings.constants.value ++ map (λ v. v.0) w.settings.scope.value
      ≡ names_beside p
  names_are =
      ap₂ (λ (fs : List PlainOperator) (vs : Variables). names_of_operators fs ++ map (λ v. v.0) vs)
      may.work.settings.constants may.work.settings.scope

  -- and so what the code plans is what the definition plans
  pub plans_are : (taken : List (List ℕ)) (goal : Tree) (method : Method)
      → taken ≡ names_of_operators w.settings.constants.value ++ map (λ v. v.0) w.settings.scope.value
      → goal ≡ term_of w.draft.current.goal.term
      → plan_answer t taken goal method ≡ planned_by (plan (setting_of p) p.current.goal (method_of method))
  plans_are taken goal method names e =
      ap (λ u. plan_answer u taken goal method) (sym may.work.whole)
      ∙ ap₂ (λ ns g. plan_answer (theory_for p) ns g method) (names ∙ names_are) (e ∙ sym goal_is)
      ∙ ap (λ x. planned_by (plan x p.current.goal (method_of method))) (setting_is p)

  pub over_with : (made : Plan) (settings : Settings) (constants : List PlainOperator)
      → constants ≡ all_constants made
      → settings.precedence.value ≡ fold with_constant w.settings.precedence.value constants
      → settings.limit ≡ w.settings.limit
      → IsOver t settings.precedence.value settings.limit (with_constants (all_constants made) p)
  over_with made settings constants e ranks limit = record {
    theory = may.work.whole;
    ranks_are =
        sym (ranks ∙ ap₂ (λ rs fs. fold with_constant rs fs) may.work.settings.ranks e);
    limit_is = sym (limit ∙ may.work.settings.limit);
  }

module _ (t : Theory) (s : Statement) (w : Work) (p : Proof) (planned : Planned) (made : Plan)
    (may : MayResume t s w planned.method p) (is_planned : IsPlannedFor p planned made) where
  pub before : StandsBefore t s w.store w.draft p (work_stands t s w p may.may_work).0
      (work_stands t s w p may.may_work).1.0 planned made
  before = record {
    whole = may.may_work.work.whole;
    stands = (work_stands t s w p may.may_work).1.1;
    sorted = may.may_work.reached.sorted;
    known = may.known;
    planned_for = is_planned;
  }

-- ---- a method is planned, and then it begins

pub same_method : (t : Theory) (s : Statement) (w : Work) (method : Method) (planned : Planned) (p : Proof)
    → planned.method ≡ method → MayResume t s w method p → MayResume t s w planned.method p
same_method t s w method planned p e may = subst (λ m. MayResume t s w m p) (sym e) may

pub resumed_as : (p : Proof) (method : Method) (planned : Planned) (made : Plan) → planned.method ≡ method
    → IsPlannedFor p planned made → resume (method_of method) p ≡ begun made p
resumed_as p method planned made e w =
    ap (λ m. after (plan (setting_of p) p.current.goal (method_of m)) (λ (x : Plan). begun x p)) (sym e)
    ∙ ap (λ r. after r (λ (x : Plan). begun x p)) w.plans

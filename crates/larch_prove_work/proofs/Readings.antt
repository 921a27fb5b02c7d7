-- What a command reads as can be proved: it is a formula in words over the theory and the constants of the block.
use Rattle.std.specs.Prelude.{◌≡◌, List, ◌∷◌, ◌++◌, Result, Ok}
use Rattle.std.proofs.Common.{ap, ap₂, subst, sym, ◌∙◌}
use Rattle.larch_base.specs.declared.code.Code.{Code}
use Rattle.larch_derive.specs.CalculusFormula.{formula}
use Rattle.larch_derive.specs.Words.{IsWordedTerm}
use Rattle.larch_prove_settling.proofs.ProveInvariantPlanWords.{formula_worded}
use Rattle.larch_prove_settling.proofs.ProveInvariantReadWords.{equation_read}
use Rattle.larch_prove_settling.specs.ProveInvariantHolding.{HoldsLevels, HoldsProof}
use Rattle.larch_prove_settings.proofs.ProveMeaningLevelSorts.{between, ok_inj}
use Rattle.larch_prove_settings.proofs.ProveMeaningPartitionPlans.{formula_over}
use Rattle.larch_prove_settings.proofs.ProveMeaningStepSorts.{read_done}
use Rattle.larch_prove_settings.specs.ProveMeaningLevels.{Proof}
use Rattle.larch_prove_settings.specs.ProveMeaningPlans.{IsFormulaOver}
use Rattle.larch_prove_settings.specs.ProveMeaningSteps.{as_sides, carried_out, level_opened}
use Rattle.larch_prove_settings.specs.ProveMeaningSteps.{own_operators, read_or, read_sides}
use Rattle.larch_prove_settings.specs.Telling.{Tells}
use Rattle.larch_prove_settings.specs.declared.refusal.CommandRefusal.{CommandRefusal}
use Rattle.larch_prove_settings.specs.declared.refusal.CommandRefusal.TheVariants.{Wrong, Memory}
use Rattle.larch_prove_work.proofs.Carried.{work_stands}
use Rattle.larch_prove_work.specs.Formula.{IsWorkForFormula}
use Rattle.larch_prove_work.specs.Work.{MayWork}
use Rattle.larch_prove_work.specs.declared.work.Work.{Work}
use Rattle.larch_raw.specs.declared.equation.RawEquation.{RawEquation}
use Rattle.larch_prove_settings.specs.RewriteMeaningSides.{AreSidesOver, Sides}
use Rattle.larch_script_commands.specs.declared.command.CommandKind.TheVariants.{Prove}
use Rattle.larch_prove_settings.proofs.SortsMeaningReadAnswers.{equation_ok}
use Rattle.larch_prove_settings.proofs.SortsMeaningSorted.{statement_over}
use Rattle.larch_prove_settings.specs.SortsMeaningRead.{read_equation}
use Rattle.larch_term.specs.Operator.{PlainOperator}
use Rattle.larch_term.specs.Statement.{IsStatementOver}
use Rattle.larch_term.specs.Tree.{Tree}
use Rattle.larch_term.specs.declared.statement.Statement.{Statement}
use Rattle.larch_term.specs.declared.statement.Statement.TheVariants.{Equation, Generated, Partitioned}
use Rattle.larch_term.specs.declared.statement.Theory.{Theory}
use Rattle.larch_base_meaning.specs.Steps.{after}

-- ---- what is read is well sorted

sides_read : (fs : List PlainOperator) (s : Statement) (e : Sides) → IsStatementOver fs s → as_sides s ≡ Ok e
    → AreSidesOver fs e
sides_read fs (Equation l r) e h k = subst (AreSidesOver fs) (ok_inj k) h
sides_read fs (Generated s gs) e h k = absurd (cc)
sides_read fs (Partitioned s gs) e h k = absurd (cc)

read_over : (p : Proof) (raw : RawEquation) (e : Sides) → read_sides p raw ≡ Ok e
    → AreSidesOver (own_operators p) e
read_over p raw e k =
    let fs = own_operators p in
    let m = between (read_or (read_equation fs p.scope raw)) as_sides e k in
    let found = equation_ok fs p.scope raw m.made (read_done (read_equation fs p.scope raw) m.made m.first) in
    sides_read fs m.made e (statement_over fs p.scope raw m.made found.1.0) m.second

formula_read : (p : Proof) (raw : RawEquation) (e : Sides) → read_sides p raw ≡ Ok e
    → IsFormulaOver (own_operators p) (formula e.left e.right)
formula_read p raw e k =
    let s = read_over p raw e k in formula_over (own_operators p) e.left e.right s.0 s.1 s.2

-- ---- so it may be proved

-- the builder holds the proof
pub work_held : (t : Theory) (s : Statement) (w : Work) (p : Proof) → (m : MayWork t s w p)
    → HoldsProof s w.draft.builder p
    ((work_stands t s w p m).0 ∷ (work_stands t s w p m).1.0)
work_held t s w p m =
    let z = work_stands t s w p m in
    record {
      levels = subst (λ u. HoldsLevels u s w.draft.builder p.constants (p.current ∷ p.below) (z.0 ∷ z.1.0))
          (sym m.work.whole) z.1.1.holds;
      idle = z.1.1.idle;
    }

-- what is read as a formula can be proved
pub formula_may : (t : Theory) (s : Statement) (w : Work) (p : Proof) (raw : RawEquation) (e : Sides) (f : Tree)
    → f ≡ formula e.left e.right → read_sides p raw ≡ Ok e → MayWork t s w p → IsWorkForFormula t s w f p
formula_may t s w p raw e f is k m =
    let z = work_stands t s w p m in
    let words = equation_read s w.draft.builder p (z.0 ∷ z.1.0) raw e (work_held t s w p m) m.reached.scope k in
    record {
      may_work = m;
      may_prove = record {
        constants = sym m.work.settings.constants;
        over = subst (λ u. IsFormulaOver (t.operators ++ w.settings.constants.value) u) (sym is)
            (subst (λ fs. IsFormulaOver fs (formula e.left e.right))
            (ap₂ (λ (u : Theory) (cs : List PlainOperator). u.operators ++ cs) m.work.whole
            (sym m.work.settings.constants))
            (formula_read p raw e k));
        words = subst IsWordedTerm (sym is) (formula_worded e.left e.right words.0 words.1);
      };
    }

-- ---- what the command comes to

pub carried_as : (p : Proof) (raw : RawEquation) (e : Sides) (f : Tree) → f ≡ formula e.left e.right
    → read_sides p raw ≡ Ok e → carried_out (Prove raw) p ≡ level_opened f p
carried_as p raw e f is k =
    ap (λ r. after r (λ (sides : Sides). level_opened (formula sides.left sides.right) p)) k
    ∙ ap (λ u. level_opened u p) (sym is)

-- a refusal of what comes first is that of the whole
pub tells_before : {A B : Type 0} (a : Result A Code) (f : A → Result B Code) (r : CommandRefusal) → Tells a r
    → Tells (after a f) r
tells_before a f (Wrong code) h = ap (λ x. after x f) h
tells_before a f Memory h = tt

pub tells_as : {A : Type 0} (a b : Result A Code) (r : CommandRefusal) → a ≡ b → Tells b r → Tells a r
tells_as a b r e h = subst (λ x. Tells x r) (sym e) h

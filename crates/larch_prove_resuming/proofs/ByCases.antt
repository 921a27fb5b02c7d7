-- What a formula of a command reads as can be written once boxes are open for its constants.
use Rattle.std.specs.Prelude.{◌≡◌, ℕ, List, ◌∷◌, ◌++◌, Ok, Result, Some}
use Rattle.std.proofs.Common.{ap, ap₂, subst, sym}
use Rattle.larch_base.specs.declared.code.Code.{Code}
use Rattle.larch_prove_work.proofs.ProveDraftStanding.{proof_standing}
use Rattle.larch_prove_work.specs.ProveDraftDraft.{Stands}
use Rattle.larch_prove_work.specs.ProveDraftDraftDraft.{Draft}
use Rattle.larch_prove_work.proofs.ProveInvariantReadWords.{term_read}
use Rattle.larch_prove_work.specs.ProveInvariantBook.{Kept}
use Rattle.larch_prove_meaning.proofs.StepSorts.{read_done}
use Rattle.larch_prove_meaning.specs.Levels.{Proof}
use Rattle.larch_prove_meaning.specs.Plans.{Cases, IsFormulaOver}
use Rattle.larch_prove_meaning.specs.Steps.{carried_out, own_operators, read_lone, resume}
use Rattle.larch_prove_plans.specs.declared.subgoals.Method.TheVariants as method
use Rattle.larch_prove_resuming.specs.Resuming.{MayResume}
use Rattle.larch_prove_work.specs.ProveSettingsTelling.{Tells}
use Rattle.larch_prove_work.specs.ProveSettingsRefusalCommandRefusal.{CommandRefusal}
use Rattle.larch_prove_work.proofs.Carried.{work_stands}
use Rattle.larch_prove_work.proofs.Readings.{work_held}
use Rattle.larch_prove_work.proofs.Writing.{may_write}
use Rattle.larch_prove_work.specs.Formula.{IsWorkForFormula}
use Rattle.larch_prove_work.specs.Work.{MayWork}
use Rattle.larch_prove_work.specs.Written.{IsOpenedFor, MayWrite}
use Rattle.larch_prove_work.specs.declared.work.Work.{Work}
use Rattle.larch_raw.specs.declared.equation.RawEquation.{RawEquation}
use Rattle.larch_script_commands.specs.declared.command.CommandKind.TheVariants as command
use Rattle.larch_sorts_meaning.proofs.ReadAnswers.{term_ok}
use Rattle.larch_sorts_meaning.proofs.Sorted.{well_sorted}
use Rattle.larch_sorts_meaning.specs.Read.{read_term}
use Rattle.larch_store.specs.Numbered.{Numbered}
use Rattle.larch_term.specs.BuiltIn.{bool_sort}
use Rattle.larch_term.specs.Operator.{PlainOperator}
use Rattle.larch_term.specs.Tree.{Tree}
use Rattle.larch_term.specs.declared.statement.Statement.{Statement}
use Rattle.larch_term.specs.declared.statement.Theory.{Theory}
use Rattle.larch_base_meaning.specs.Steps.{after}

-- ---- what is read

formula_over : (p : Proof) (raw : RawEquation) (f : Tree) → read_lone p bool_sort raw ≡ Ok f
    → IsFormulaOver (own_operators p) f
formula_over p raw f k =
    let fs = own_operators p in
    let found = term_ok fs p.scope (Some bool_sort) raw f
    (read_done (read_term fs p.scope (Some bool_sort) raw) f k) in
    (well_sorted fs p.scope raw.left f found.1.0.0, found.1.0.1)

pub formula_may : (t : Theory) (s : Statement) (w : Work) (p : Proof) (raw : RawEquation) (f : Tree)
    → read_lone p bool_sort raw ≡ Ok f → MayWork t s w p → IsWorkForFormula t s w f p
formula_may t s w p raw f k m =
    let z = work_stands t s w p m in
    record {
      may_work = m;
      may_prove = record {
        constants = sym m.work.settings.constants;
        over = subst (λ fs. IsFormulaOver fs f)
            (ap₂ (λ (u : Theory) (cs : List PlainOperator). u.operators ++ cs) m.work.whole
            (sym m.work.settings.constants))
            (formula_over p raw f k);
        words = term_read s w.draft.builder p (z.0 ∷ z.1.0) bool_sort raw f (work_held t s w p m) m.reached.scope k;
      };
    }

-- by the sort of truth values
pub read_as : (p : Proof) (sort : List ℕ) (raw : RawEquation) (answer : Result Tree Code) → sort ≡ bool_sort
    → read_lone p sort raw ≡ answer → read_lone p bool_sort raw ≡ answer
read_as p sort raw answer e k = subst (λ z. read_lone p z raw ≡ answer) e k

pub unread_as : (p : Proof) (sort : List ℕ) (raw : RawEquation) (r : CommandRefusal) → sort ≡ bool_sort
    → Tells (read_lone p sort raw) r → Tells (read_lone p bool_sort raw) r
unread_as p sort raw r e h = subst (λ z. Tells (read_lone p z raw) r) e h

pub cases_as : (p : Proof) (raw : RawEquation) (f : Tree) → read_lone p bool_sort raw ≡ Ok f
    → carried_out (command.Cases raw) p ≡ resume (Cases f) p
cases_as p raw f k = ap (λ r. after r (λ (u : Tree). resume (Cases u) p)) k

-- ---- boxes are open

-- what opening boxes for a formula promises
abbrev pub OpensWork : Work → Draft → Tree → Type 0
OpensWork w d f = (u : Theory) (v : Statement) (store : List Numbered) (p : Proof) (k : Kept) (ks : List Kept)
    → Stands u v store w.draft p k ks → MayWrite u w.settings.constants.value f p
    → IsOpenedFor u v store w.draft d p ks f

-- the block being these constants
pub opens_work : (w : Work) (d : Draft) (f : Tree) (block : List PlainOperator) → block ≡ w.settings.constants.value
    → ((u : Theory) (v : Statement) (store : List Numbered) (p : Proof) (k : Kept) (ks : List Kept)
    → Stands u v store w.draft p k ks → MayWrite u block f p → IsOpenedFor u v store w.draft d p ks f)
    → OpensWork w d f
opens_work w d f block e h u v store p k ks stands m =
    h u v store p k ks stands (subst (λ cs. MayWrite u cs f p) (sym e) m)

pub may_resume : (t : Theory) (s : Statement) (w : Work) (f : Tree) (p : Proof) (d : Draft) → OpensWork w d f
    → IsWorkForFormula t s w f p → MayResume t s (record w { draft = d }) (method.Cases f) p
may_resume t s w f p d opens m =
    let z = work_stands t s w p m.may_work in
    let o = opens t s w.store p z.0 z.1.0 z.1.1 (may_write t w.settings.constants.value f p m.may_prove) in
    record {
      may_work = record {
        work = record {
          whole = m.may_work.work.whole;
          settings = m.may_work.work.settings;
          draft = proof_standing t s w.store d p o.top z.1.0 o.stands;
        };
        reached = m.may_work.reached;
        undone = m.may_work.undone;
      };
      known = record { known = o.known; sort = m.may_prove.over.1 };
    }

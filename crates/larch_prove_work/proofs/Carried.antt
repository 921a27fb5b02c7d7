-- What opening a level for a formula leads to, as a command tells it.
use Rattle.std.specs.Prelude.{◌≡◌, List, None, Result}
use Rattle.std.proofs.Common.{subst, sym}
use Rattle.larch_base.specs.declared.code.Code.{Code}
use Rattle.larch_prove_settling.specs.ProveDraftDraft.{IsProofBy, Leads, Stands}
use Rattle.larch_prove_settling.specs.ProveDraftProving.{IsOver}
use Rattle.larch_prove_settling.specs.ProveInvariantBook.{Kept}
use Rattle.larch_prove_settling.specs.ProveLevelsSupposing.{TellsCode}
use Rattle.larch_prove_settings.specs.ProveMeaningLevels.{Proof}
use Rattle.larch_prove_settings.specs.Settings.{AreSettingsOf}
use Rattle.larch_prove_settings.specs.Telling.{Tells}
use Rattle.larch_prove_work.proofs.Still.{settings_alike, whole_alike}
use Rattle.larch_prove_work.specs.Formula.{IsSomeProvable, IsWorkForFormula}
use Rattle.larch_prove_work.specs.Work.{Makes, MayWork, command_refusal}
use Rattle.larch_prove_work.specs.declared.work.Work.{Work}
use Rattle.larch_prove_settling.specs.RewriteRefusalRewriteRefusal.{RewriteRefusal}
use Rattle.larch_prove_settling.specs.RewriteRefusalRewriteRefusal.TheVariants.{Limit, TooLarge, Memory}
use Rattle.larch_term.specs.Tree.{Tree}
use Rattle.larch_term.specs.declared.statement.Statement.{Statement}
use Rattle.larch_term.specs.declared.statement.Theory.{Theory}

-- the code of a refusal is told by the command's
pub told_so : {A : Type 0} (answer : Result A Code) (r : RewriteRefusal) → TellsCode answer r
    → Tells answer (command_refusal r)
told_so answer Limit h = h
told_so answer TooLarge h = h
told_so answer Memory h = tt

-- ---- what commands can work on

-- it stands
pub work_stands : (t : Theory) (s : Statement) (w : Work) (p : Proof) → MayWork t s w p
    → (k : Kept) × ((ks : List Kept) × Stands t s w.store w.draft p k ks)
work_stands t s w p m = subst (λ b. IsProofBy b t s w.store w.draft p) m.undone m.work.draft

-- it is over the theory, by its settings
pub work_over : (t : Theory) (s : Statement) (w : Work) (p : Proof) → MayWork t s w p
    → IsOver t w.settings.precedence.value w.settings.limit p
work_over t s w p m = record {
  theory = m.work.whole;
  ranks_are = sym m.work.settings.ranks;
  limit_is = sym m.work.settings.limit;
}

pub some_provable : (t : Theory) (s : Statement) (w : Work) (f : Tree) (p : Proof) → IsWorkForFormula t s w f p
    → IsSomeProvable t s w.settings.precedence.value w.settings.limit w.store w.draft w.settings.constants.value f
some_provable t s w f p m =
    let z = work_stands t s w p m.may_work in
    (p, (z.0, (z.1.0, (work_over t s w p m.may_work, (z.1.1, m.may_prove)))))

-- what is led to is worked on with the same settings
pub made_so : (t : Theory) (s : Statement) (w v : Work) (p : Proof) (answer : Result Proof Code)
    → v.settings ≡ w.settings → MayWork t s w p → Leads t s v.store v.draft p None answer → Makes t s v p answer
made_so t s w v p answer same m (q, (e, (alike, l))) = (
  q,
  (
    e,
    (
      record {
        whole = whole_alike t p q alike m.work.whole;
        settings = subst (λ a. AreSettingsOf a q) (sym same)
            (settings_alike w.settings p q alike m.work.settings);
        draft = l;
      },
      alike.commands,
    ),
  ),
)

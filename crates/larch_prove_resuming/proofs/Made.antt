-- What a command has made.
use Rattle.std.specs.Prelude.{◌≡◌, List, ◌++◌, fold, None, Result}
use Rattle.std.proofs.Common.{ap, ap₂, ◌∙◌}
use Rattle.std.proofs.lemmas.List.{append_assoc}
use Rattle.larch_base.specs.declared.code.Code.{Code}
use Rattle.larch_order.specs.Precedence.{with_constant}
use Rattle.larch_prove_work.specs.ProveDraftDraft.{Leads}
use Rattle.larch_prove_meaning.specs.Levels.{Proof, all_constants, with_constants}
use Rattle.larch_prove_meaning.specs.Plans.{Plan}
use Rattle.larch_prove_work.specs.ProveSettingsSettings.{AreSettingsOf}
use Rattle.larch_prove_work.specs.ProveSettingsSettingsSettings.{Settings}
use Rattle.larch_prove_work.proofs.Still.{settings_alike, whole_alike}
use Rattle.larch_prove_work.specs.Work.{Makes, MayWork}
use Rattle.larch_prove_work.specs.declared.work.Work.{Work}
use Rattle.larch_term.specs.Operator.{PlainOperator}
use Rattle.larch_term.specs.declared.statement.Statement.{Statement}
use Rattle.larch_term.specs.declared.statement.Theory.{Theory}

-- the settings behind the constants of a plan are those of the proof with these constants
pub record AreMade (a b : Settings) (constants : List PlainOperator) : Type 0 where
  pub operators : b.signature.value ≡ a.signature.value ++ constants
  pub constants_are : b.constants.value ≡ a.constants.value ++ constants
  pub ranks : b.precedence.value ≡ fold with_constant a.precedence.value constants
  pub sorts : b.sorts ≡ a.sorts
  pub scope : b.scope ≡ a.scope
  pub limit : b.limit ≡ a.limit

module _ (a b : Settings) (constants : List PlainOperator) (made : Plan) (p : Proof) (m : AreMade a b constants)
    (e : constants ≡ all_constants made) (w : AreSettingsOf a p) where
  pub settings_with : AreSettingsOf b (with_constants (all_constants made) p)
  settings_with = record {
    operators = m.operators
        ∙ ap₂ (λ (fs gs : List PlainOperator). fs ++ gs) w.operators e
        ∙ append_assoc p.theory.operators p.constants (all_constants made);
    sorts = ap (λ x. x.value) m.sorts ∙ w.sorts;
    constants = m.constants_are ∙ ap₂ (λ (fs gs : List PlainOperator). fs ++ gs) w.constants e;
    scope = ap (λ x. x.value) m.scope ∙ w.scope;
    ranks = m.ranks ∙ ap₂ (λ rs fs. fold with_constant rs fs) w.ranks e;
    limit = m.limit ∙ w.limit;
  }

-- so what a method leads to is what the command makes
pub made_by : (t : Theory) (s : Statement) (v w : Work) (p : Proof) (made : Plan) (constants : List PlainOperator)
    (answer : Result Proof Code) → AreMade v.settings w.settings constants → constants ≡ all_constants made
    → MayWork t s v p → Leads t s w.store w.draft (with_constants (all_constants made) p) None answer
    → Makes t s w p answer
made_by t s v w p made constants answer m e may l = (
  l.0,
  (
    l.1.0,
    (
      record {
        whole = whole_alike t (with_constants (all_constants made) p) l.0 l.1.1.0 may.work.whole;
        settings = settings_alike w.settings (with_constants (all_constants made) p) l.0 l.1.1.0
            (settings_with v.settings w.settings constants made p m e may.work.settings);
        draft = l.1.1.1;
      },
      l.1.1.0.commands,
    ),
  ),
)

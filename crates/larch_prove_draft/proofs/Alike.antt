-- Proofs that are alike, and what leads on from them.
use Rattle.std.specs.Prelude.{◌≡◌, ℕ, Bool, true, false, List, [], ◌∷◌, ◌++◌, map, if◌then◌else◌, Option, None, Some}
use Rattle.std.specs.Prelude.{Result, Ok, refl}
use Rattle.std.proofs.Common.{ap, ap₂, subst, sym, ◌∙◌}
use Rattle.larch_base.specs.declared.code.Code.{Code}
use Rattle.larch_prove_levels.specs.CalculusTheories.{with_statements}
use Rattle.larch_prove_levels.specs.OrderPrecedenceRanked.{Ranked}
use Rattle.larch_prove_draft.specs.Draft.{IsAlike, Leads}
use Rattle.larch_prove_draft.specs.Proving.{IsOver}
use Rattle.larch_prove_draft.specs.declared.draft.Draft.{Draft}
use Rattle.larch_prove_levels.specs.ProveMeaningLevels.{EarlierDuty, Proof}
use Rattle.larch_store.specs.Numbered.{Numbered}
use Rattle.larch_term.specs.declared.statement.Statement.{Statement}
use Rattle.larch_term.specs.declared.statement.Theory.{Theory}

pub alike_same : (p : Proof) → IsAlike p p
alike_same p = record {
  theory = refl;
  lemmas = refl;
  scope = refl;
  constants = refl;
  ranks = refl;
  limit = refl;
  commands = refl;
}

pub alike_trans : (p q r : Proof) → IsAlike p q → IsAlike q r → IsAlike p r
alike_trans p q r a b = record {
  theory = b.theory ∙ a.theory;
  lemmas = b.lemmas ∙ a.lemmas;
  scope = b.scope ∙ a.scope;
  constants = b.constants ∙ a.constants;
  ranks = b.ranks ∙ a.ranks;
  limit = b.limit ∙ a.limit;
  commands = b.commands ∙ a.commands;
}

pub over_alike : (t : Theory) (ranks : List Ranked) (limit : ℕ) (p q : Proof) → IsAlike p q → IsOver t ranks limit p
    → IsOver t ranks limit q
over_alike t ranks limit p q a o = record {
  theory = ap₂ (λ u ls. with_statements u (map (λ (l : EarlierDuty). l.statement) ls)) a.theory a.lemmas ∙ o.theory;
  ranks_are = a.ranks ∙ o.ranks_are;
  limit_is = a.limit ∙ o.limit_is;
}

-- what follows from a proof follows from one that is alike and leads to it
pub leads_on : (t : Theory) (s : Statement) (store : List Numbered) (d : Draft) (p q : Proof) (shown : Option ℕ)
    (a b : Result Proof Code) → IsAlike p q → b ≡ a → Leads t s store d q shown a → Leads t s store d p shown b
leads_on t s store d p q None a b l e (r, (h, (m, w))) = (r, (e ∙ h, (alike_trans p q r l m, w)))
leads_on t s store d p q (Some line) a b l e (r, (below, (level, (h, (m, w))))) =
    (r, (below, (level, (e ∙ h, (alike_trans p q r l m, w)))))

-- one mark more waits in both
pub marks_wait : (c d : Bool) (ws vs : List Bool) (b : Bool) → c ≡ d → ws ≡ vs
    → ◌≡◌ {A = List Bool} (if c then ws ++ b ∷ [] else ws) (if d then vs ++ b ∷ [] else vs)
marks_wait c d ws vs b e h = ap₂ (λ x ys. if x then ys ++ b ∷ [] else ys) e h

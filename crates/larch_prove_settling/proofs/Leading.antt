-- Where a line says that the current goal is proved, or none does: what that leads to.
use Rattle.std.specs.Prelude.{◌≡◌, ℕ, Bool, true, false, IfNone, IfSome, Option, None, Some, Result, Ok}
use Rattle.std.proofs.Common.{◌∙◌}
use Rattle.larch_base.specs.declared.code.Code.{Code}
use Rattle.larch_derive.specs.Predicates.{Extends, HasEquation}
use Rattle.larch_derive.specs.declared.builder.Builder.{Builder}
use Rattle.larch_prove_draft.specs.ProveAddingKeptFacts.{facts_of}
use Rattle.larch_prove_draft.proofs.Alike.{alike_same}
use Rattle.larch_prove_draft.proofs.Standing.{proof_standing, settled_so, shown_standing, stands_on}
use Rattle.larch_prove_draft.specs.Draft.{IsAlike, Leads, Stands}
use Rattle.larch_prove_draft.specs.declared.draft.Draft.{Draft}
use Rattle.larch_prove_draft.specs.ProveInvariantBook.{Kept}
use Rattle.larch_prove_draft.proofs.ProveLevelsRises.{settle_open, settle_proved}
use Rattle.larch_prove_draft.specs.ProveLevelsSettled.{is_settled_by}
use Rattle.larch_prove_draft.specs.ProveMeaningLevels.{Proof, is_settled, rise, settle_goal}
use Rattle.larch_store.proofs.Growth.{grows_refl}
use Rattle.larch_store.specs.Numbered.{Numbered, term_of}
use Rattle.larch_term.specs.Truth.{truth}
use Rattle.larch_term.specs.declared.statement.Statement.{Statement}
use Rattle.larch_term.specs.declared.statement.Theory.{Theory}
use Rattle.std.specs.Prelude.{List}

-- whether the draft's current level is proved
abbrev pub settled_in : Draft → Bool
settled_in d = is_settled_by (facts_of d.current.facts) (term_of d.current.goal.term)

module _ (t : Theory) (s : Statement) (store : List Numbered) (d : Draft) (b : Builder) (k : Kept)
    (ks : List Kept) where
  -- by what the answer is where the goal is proved, and where it isn't
  pub lead_by : (p q : Proof) (shown : Option ℕ) (answer : Result Proof Code) → IsAlike p q
      → (is_settled q.current ≡ false → answer ≡ Ok q)
      → (is_settled q.current ≡ true → answer ≡ rise q.below q.current q)
      → Stands t s store d q k ks → Extends d.builder b
      → IfSome shown (λ _. settled_in d ≡ true)
      → IfSome shown (λ n. HasEquation b n (term_of d.current.first) truth)
      → IfNone shown (settled_in d ≡ false)
      → Leads t s store (record d { builder = b }) p shown answer
  lead_by p q None answer l e f w x a h n = (
    q,
    (
      e (settled_so d.current k q.current w.current.0 w.level_is ∙ n),
      (
        l,
        proof_standing t s store (record d { builder = b }) q k ks
            (stands_on t s store store d b q k ks (grows_refl store) x w),
      ),
    ),
  )
  lead_by p q (Some line) answer l e f w x a h n = (
    q,
    (
      q.below,
      (
        q.current,
        (
          f (settled_so d.current k q.current w.current.0 w.level_is ∙ a),
          (l, shown_standing t s store d b q k ks line x h w),
        ),
      ),
    ),
  )

  -- a goal that a command left
  pub lead_now : (p : Proof) (shown : Option ℕ) → Stands t s store d p k ks → Extends d.builder b
      → IfSome shown (λ _. settled_in d ≡ true)
      → IfSome shown (λ n. HasEquation b n (term_of d.current.first) truth)
      → IfNone shown (settled_in d ≡ false)
      → Leads t s store (record d { builder = b }) p shown (settle_goal p)
  lead_now p shown w x a h n =
      lead_by p p shown (settle_goal p) (alike_same p) (settle_open p) (settle_proved p) w x a h n

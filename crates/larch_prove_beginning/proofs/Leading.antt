-- What a duty is opened to.
use Rattle.std.specs.Prelude.{◌≡◌, List, [], None, Ok, refl}
use Rattle.std.proofs.Common.{ap, sym, ◌∙◌}
use Rattle.larch_order.specs.declared.precedence.Ranked.{Ranked}
use Rattle.larch_prove_beginning.proofs.OpenedBy.{opened_so}
use Rattle.larch_prove_beginning.specs.Beginning.{CanBegin, IsFirst, IsUnopened, duty_in}
use Rattle.larch_prove_beginning.specs.Opening.{IsStarted, first_opened, first_proof}
use Rattle.larch_prove_beginning.specs.declared.duty.FirstDraft.{FirstDraft}
use Rattle.larch_prove_beginning.specs.declared.duty.Preamble.{Preamble}
use Rattle.larch_prove_beginning.specs.declared.duty.WholeDuty.{WholeDuty}
use Rattle.larch_prove_settling.specs.ProveDraftDraft.{Leads, Stands}
use Rattle.larch_prove_settling.specs.ProveDraftProving.{IsOver}
use Rattle.larch_prove_settling.specs.ProveDraftDraftDraft.{Draft}
use Rattle.larch_prove_opening.specs.ProveInvariantBook.{Kept}
use Rattle.larch_prove_settling.proofs.ProveLevelsTelling.{tells_first, tells_same}
use Rattle.larch_prove_settling.specs.ProveLevelsSupposing.{TellsCode}
use Rattle.larch_prove_meaning.specs.Levels.{Proof, settle_goal}
use Rattle.larch_prove_meaning.specs.Replays.{duty_opened}
use Rattle.larch_prove_settling.specs.Rising.{IsSomeStanding}
use Rattle.larch_prove_opening.specs.RewriteRefusalRewriteRefusal.{RewriteRefusal}
use Rattle.larch_store.specs.Numbered.{Numbered}
use Rattle.larch_base_meaning.specs.Steps.{after}

module _ (d : WholeDuty) (m : Preamble) (before : List Ranked) (p : Proof) (u : IsUnopened d m before p) where
  opening_is : duty_opened d.statement.now p
      ≡ after (first_opened (duty_in d) m.scope.now before m.limit)
      (λ o. settle_goal (first_proof (duty_in d) m.scope.now before m.limit m.checking o))
  opening_is =
      ap (duty_opened d.statement.now) u.is ∙ opened_so (duty_in d) m.scope.now before m.limit m.checking

  -- what refuses the lowest level refuses the duty
  pub opening_refused : (x : RewriteRefusal)
      → TellsCode (first_opened (duty_in d) m.scope.now before m.limit) x
      → TellsCode (duty_opened d.statement.now p) x
  opening_refused x h =
      tells_same _ _ x opening_is
      (tells_first (first_opened (duty_in d) m.scope.now before m.limit)
      (λ o. settle_goal (first_proof (duty_in d) m.scope.now before m.limit m.checking o)) x h)

module _ (d : WholeDuty) (m : Preamble) (before ranks : List Ranked) (store : List Numbered) (f : FirstDraft)
    (can : CanBegin d) (w : IsStarted d m before ranks store f) where
  over_there : IsOver d.whole.now ranks m.limit
      (first_proof (duty_in d) m.scope.now before m.limit m.checking w.opened)
  over_there = record { theory = sym can.whole; ranks_are = sym w.ranks_are; limit_is = refl }

  pub stands_so : IsSomeStanding d.whole.now d.statement.now ranks m.limit store f.draft
  stands_so =
      (first_proof (duty_in d) m.scope.now before m.limit m.checking w.opened, (w.kept, ([], (over_there, w.stands))))

  -- the answer goes by the proof with which the draft began
  opening_settles : (p : Proof) → IsUnopened d m before p
      → duty_opened d.statement.now p
      ≡ settle_goal (first_proof (duty_in d) m.scope.now before m.limit m.checking w.opened)
  opening_settles p u =
      opening_is d m before p u
      ∙ ap (λ r. after r (λ o. settle_goal (first_proof (duty_in d) m.scope.now before m.limit m.checking o))) w.opens

  pub settling_refused : (p : Proof) (x : RewriteRefusal) → IsUnopened d m before p
      → ((q : Proof) (k : Kept) (ks : List Kept) → IsOver d.whole.now ranks m.limit q
      → Stands d.whole.now d.statement.now store f.draft q k ks → TellsCode (settle_goal q) x)
      → TellsCode (duty_opened d.statement.now p) x
  settling_refused p x u h =
      tells_same _ _ x (opening_settles p u)
      (h (first_proof (duty_in d) m.scope.now before m.limit m.checking w.opened) w.kept [] over_there w.stands)

  pub first_led : (more : List Numbered) (x : Draft)
      → ((q : Proof) (k : Kept) (ks : List Kept) → IsOver d.whole.now ranks m.limit q
      → Stands d.whole.now d.statement.now store f.draft q k ks
      → Leads d.whole.now d.statement.now more x q None (settle_goal q))
      → (p : Proof) → IsUnopened d m before p
      → (q : Proof) × ((duty_opened d.statement.now p ≡ Ok q)
      × IsFirst d more (record f { draft = x }) ranks p q)
  first_led more x h p u =
      let z = h (first_proof (duty_in d) m.scope.now before m.limit m.checking w.opened) w.kept [] over_there
      w.stands in
      let a = z.1.1.0 in (
        z.0,
        (
          opening_settles p u ∙ z.1.0,
          record {
            draft = z.1.1.1;
            constants = a.constants ∙ sym w.constants;
            scope = a.scope ∙ sym w.scope;
            ranks_are = a.ranks ∙ sym w.ranks_are;
            theory = a.theory ∙ ap (λ (q : Proof). q.theory) (sym u.is);
            lemmas = a.lemmas ∙ ap (λ (q : Proof). q.lemmas) (sym u.is);
            limit = a.limit ∙ ap (λ (q : Proof). q.limit) (sym u.is);
            commands = a.commands ∙ ap (λ (q : Proof). q.commands) (sym u.is);
          },
        ),
      )

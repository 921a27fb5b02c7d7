-- What the command comes to that adds an instance of a fact.
use Rattle.std.specs.Prelude.{◌≡◌, List, All, Result, Ok, Err, find, refl}
use Rattle.std.proofs.Common.{ap, subst, sym, ◌∙◌}
use Rattle.larch_base.specs.declared.code.Code.{Code}
use Rattle.larch_base.specs.declared.fact_name.FactName.{FactName}
use Rattle.larch_derive.specs.Predicates.{HasEquation, Known}
use Rattle.larch_derive.specs.declared.builder.Builder.{Builder}
use Rattle.larch_prove_work.specs.ProveAddingEquation.{IsSaid, sides_in}
use Rattle.larch_prove_work.specs.ProveAddingKeptFacts.{AreSaid, facts_of}
use Rattle.larch_prove_work.proofs.ProveDraftStanding.{proof_standing}
use Rattle.larch_prove_work.specs.ProveDraftDraft.{Stands}
use Rattle.larch_prove_work.specs.ProveDraftDraftDraft.{Draft}
use Rattle.larch_prove_facts.proofs.Asked.{entries_stand, may_instantiate}
use Rattle.larch_prove_facts.proofs.Reading.{named_entries}
use Rattle.larch_prove_facts.proofs.Undone.{facts_of_work, may_go_on, undone_stands}
use Rattle.larch_prove_facts.proofs.Worked.{facts_are}
use Rattle.larch_prove_facts.specs.Derivation.{IsUndone, StandsFor}
use Rattle.larch_prove_facts.specs.Entries.{MayStand, entries_for, names_in}
use Rattle.larch_prove_facts.specs.Instance.{MayInstantiate, instance_settled}
use Rattle.larch_prove_facts.specs.declared.instance.Asked.{Asked}
use Rattle.larch_prove_work.specs.ProveInvariantBook.{Kept}
use Rattle.larch_prove_meaning.proofs.LevelSorts.{between}
use Rattle.larch_prove_meaning.specs.Facts.{Facts}
use Rattle.larch_prove_meaning.specs.Levels.{Proof, derived_by, settle_goal}
use Rattle.larch_prove_meaning.specs.Steps.{fact_named, has_name, instantiate, instantiation, serves_beside, sides_or}
use Rattle.larch_prove_work.specs.ProveSettingsTelling.{Tells}
use Rattle.larch_prove_work.specs.ProveSettingsRefusalCommandRefusal.{CommandRefusal}
use Rattle.larch_prove_work.specs.ProveSettingsRefusalCommandRefusal.TheVariants.{Memory, Wrong}
use Rattle.larch_prove_work.proofs.Readings.{tells_as, tells_before}
use Rattle.larch_prove_work.specs.Work.{MayWork}
use Rattle.larch_prove_work.specs.declared.work.Work.{Work}
use Rattle.larch_rewrite_meaning.specs.Sides.{Sides, sides_under}
use Rattle.larch_script_commands.specs.declared.command.RawInstance.{RawInstance}
use Rattle.larch_store.specs.Numbered.{Numbered}
use Rattle.larch_term.specs.Operator.{PlainOperator}
use Rattle.larch_term.specs.declared.statement.Statement.{Statement}
use Rattle.larch_term.specs.declared.statement.Theory.{Theory}
use Rattle.larch_term.specs.declared.substitution.Entry.{Entry}
use Rattle.larch_base_meaning.specs.Steps.{after}

-- ---- by what is written

err_inj : {x y : Code} → ◌≡◌ {A = Result (List Entry) Code} (Err x) (Err y) → x ≡ y
err_inj e = cc

entries_then : (x : Result Sides Code) (f : Sides → Result (List Entry) Code)
    (next : Sides → List Entry → Result Proof Code) (r : CommandRefusal) → Tells (after x f) r
    → Tells (after x (λ e. after (f e) (next e))) r
entries_then (Ok e) f next r h = tells_before (f e) (next e) r h
entries_then (Err code) f next (Wrong wrong) h = ap (λ c. Err c) (err_inj h)
entries_then (Err code) f next Memory h = tt

pub entries_refuse : (n : FactName) (is : List RawInstance) (p : Proof) (facts : Facts) (r : CommandRefusal)
    → facts ≡ p.current.facts → Tells (entries_for n is facts p) r → Tells (instantiate is n p) r
entries_refuse n is p facts r same h =
    entries_then (fact_named n p) (λ e. instantiation p e (names_in is) is)
    (λ e es. after (derived_by (serves_beside n) (sides_under es e) p) settle_goal) r
    (subst (λ (fs : Facts). Tells (entries_for n is fs p) r) same h)

pub entries_added : (n : FactName) (is : List RawInstance) (p : Proof) (e : Sides) (es : List Entry)
    → fact_named n p ≡ Ok e → instantiation p e (names_in is) is ≡ Ok es
    → instantiate is n p ≡ after (derived_by (serves_beside n) (sides_under es e) p) settle_goal
entries_added n is p e es h k =
    ap (λ r. after r (λ d. after (instantiation p d (names_in is) is) (λ ds.
    after (derived_by (serves_beside n) (sides_under ds d) p) settle_goal))) h
    ∙ ap (λ r. after r (λ ds. after (derived_by (serves_beside n) (sides_under ds e) p) settle_goal)) k

-- the fact isn't there
pub asked_refused : (n : FactName) (is : List RawInstance) (p : Proof) (facts : Facts) (r : CommandRefusal)
    → facts ≡ p.current.facts → Tells (sides_or (find (has_name n) facts.rules)) r → Tells (instantiate is n p) r
asked_refused n is p facts r same h =
    tells_before (fact_named n p) _ r
    (subst (λ (fs : Facts). Tells (sides_or (find (has_name n) fs.rules)) r) same h)

-- ---- when boxes were opened

module _ (t : Theory) (s : Statement) (w : Work) (p : Proof) (m : MayWork t s w p) (is : List RawInstance)
    (n : FactName) (es : List Entry) (read : entries_for n is (facts_of w.draft.current.facts) p ≡ Ok es) where
  -- the terms that were read stand for variables of a fact
  pub read_stand : All (MayStand t w.settings.constants.value) es
  read_stand =
      let b = between (sides_or (find (has_name n) (facts_of w.draft.current.facts).rules))
      (λ e. instantiation p e (names_in is) is) es read in
      entries_stand t s w p b.made is es m b.second

  module _ (d : Draft) (ks : List Kept) (h : StandsFor t s w.store d p ks) (asked : Asked) (fact_is : asked.fact ≡ n)
      (entries_is : asked.entries ≡ es)
      (named : sides_or (find (has_name n) (facts_of d.current.facts).rules) ≡ Ok (sides_in asked.equation)) where
    facts_there : facts_of d.current.facts ≡ p.current.facts
    facts_there = facts_are t s w.store d p h.0 ks h.1

    named_there : fact_named n p ≡ Ok (sides_in asked.equation)
    named_there = ap (λ (fs : Facts). sides_or (find (has_name n) fs.rules)) (sym facts_there) ∙ named

    written_there : instantiation p (sides_in asked.equation) (names_in is) is ≡ Ok asked.entries
    written_there =
        let facts = facts_of w.draft.current.facts in
        sym (named_entries n is facts p (sides_in asked.equation) _
        (ap (λ (fs : Facts). sides_or (find (has_name n) fs.rules)) (facts_of_work t s w p (may_go_on t s w p m))
        ∙ named_there) refl)
        ∙ (read ∙ ap (λ ds. Ok ds) (sym entries_is))

    pub instantiates : instantiate is n p ≡ instance_settled asked p
    instantiates =
        entries_added n is p (sides_in asked.equation) asked.entries named_there written_there
        ∙ ap (λ f. after (derived_by (serves_beside f) (sides_under asked.entries (sides_in asked.equation)) p)
        settle_goal) (sym fact_is)

    pub undone_boxed : IsUndone t s (record w { draft = d }) p
    undone_boxed = record {
      work = record {
        whole = m.work.whole;
        settings = m.work.settings;
        draft = proof_standing t s w.store d p h.0 ks h.1;
      };
      undone = m.undone;
    }

    pub may_ask : ((b : Builder) → AreSaid b d.current.facts → IsSaid b asked.equation)
        → All (λ x. Known d.builder x.term) es → MayInstantiate d.builder d.next_derived asked
    may_ask said known =
        may_instantiate p is d.builder asked (sides_in asked.equation) d.next_derived refl
        (said d.builder h.1.ready.said) (subst (All (λ (x : Entry). Known d.builder x.term)) (sym entries_is) known)
        written_there m.reached.named
        (subst (λ f. sides_or (find (has_name f) p.current.facts.rules) ≡ Ok (sides_in asked.equation)) (sym fact_is)
        named_there) (sym h.1.counts.1.1.1)

-- what opening boxes promises, of a proof that is worked on
pub boxes_opened : (t : Theory) (s : Statement) (w : Work) (p : Proof) (m : MayWork t s w p) (is : List RawInstance)
    (n : FactName) (es : List Entry) → entries_for n is (facts_of w.draft.current.facts) p ≡ Ok es → (d : Draft)
    (block : List PlainOperator) (entries : List Entry) → block ≡ w.settings.constants.value → entries ≡ es
    → ((u : Theory) (v : Statement) (store : List Numbered) (q : Proof) (k : Kept) (ks : List Kept)
    → Stands u v store w.draft q k ks → q.constants ≡ block → All (MayStand u block) entries
    → StandsFor u v store d q ks × All (λ x. Known d.builder x.term) entries)
    → (ks : List Kept) × (StandsFor t s w.store d p ks × All (λ x. Known d.builder x.term) es)
boxes_opened t s w p m is n es read d block entries b e opens =
    let z = undone_stands t s w p (may_go_on t s w p m) in
    let o = opens t s w.store p z.0 z.1.0 z.1.1 (sym m.work.settings.constants ∙ sym b)
    (subst (All (MayStand t block)) (sym e)
    (subst (λ cs. All (MayStand t cs) es) (sym b) (read_stand t s w p m is n es read))) in
    (z.1.0, (o.0, subst (All (λ (x : Entry). Known d.builder x.term)) e o.1))

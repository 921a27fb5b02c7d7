-- Boxes are opened on the current level for the constants of a term; and a line says that a formula equals itself.
use Rattle.std.specs.Prelude.{◌≡◌, ℕ, IsTrue, List, [], ◌∷◌, ◌++◌, map, Option, None, Some}
use Rattle.std.proofs.Common.{ap, subst, sym, ◌∙◌}
use Rattle.std.proofs.lemmas.List.{map-append}
use Rattle.std.proofs.lemmas.List.Elements.{All-append, All-weaker}
use Rattle.larch_derive.specs.CalculusFormula.{falsity}
use Rattle.larch_derive.specs.Predicates.{Extends, HasEquation, Known}
use Rattle.larch_derive.specs.Words.{IsWordedTerm}
use Rattle.larch_derive.specs.declared.builder.Builder.{Builder}
use Rattle.larch_derive.specs.declared.open_box.OpenBox.{OpenBox}
use Rattle.larch_prove_settling.specs.DeriveLinesWay.{Leads}
use Rattle.larch_prove_settling.specs.ProveAddingKeptFacts.{AreSaid, KeptFacts, SaysAbsurd, lines_of}
use Rattle.larch_prove_settling.proofs.ProveBoxesExtras.{bare_same, bare_suppose_nothing, known_through}
use Rattle.larch_prove_settling.specs.ProveBoxesExtras.{bare_boxes, with_extras}
use Rattle.larch_prove_settling.proofs.ProveDraftStanding.{stands_on}
use Rattle.larch_prove_settling.specs.ProveDraftDraft.{Stands, below_in}
use Rattle.larch_prove_settling.specs.ProveDraftDraftDraft.{Draft}
use Rattle.larch_prove_settling.proofs.ProveInvariantBoxes.{said_through}
use Rattle.larch_prove_settling.proofs.ProveInvariantHeld.{current_said}
use Rattle.larch_prove_settling.specs.ProveInvariantBook.{Kept, SupposingBox}
use Rattle.larch_prove_settling.specs.ProveInvariantHolding.{HasAbsurd, HasFacts, HoldsLevels}
use Rattle.larch_prove_settling.specs.ProveInvariantHolding.{Says, Through, open_constants}
use Rattle.larch_prove_settling.specs.ProveLevelsLevel.{IsLevel, IsReady, IsStored}
use Rattle.larch_prove_settling.specs.ProveLevelsLevelLevel.{Level}
use Rattle.larch_prove_settings.specs.ProveMeaningFacts.{Facts}
use Rattle.larch_prove_settings.specs.ProveMeaningLevels as defined
use Rattle.larch_prove_settings.specs.ProveMeaningLevels.{Proof}
use Rattle.larch_prove_work.proofs.Constants.{open_in_draft}
use Rattle.larch_prove_work.specs.Formula.{IsWritten, MayProve, SaysFacts}
use Rattle.larch_prove_work.specs.Opened.{constants_in_levels}
use Rattle.larch_prove_work.specs.Written.{IsOpenedFor, MayWrite}
use Rattle.larch_prove_settling.specs.RewriteKept.{IsLed}
use Rattle.larch_prove_settling.specs.RewriteRuleSet.{IsSaid, PlainRule}
use Rattle.larch_prove_settling.specs.RewriteKeptKeptForm.{KeptForm}
use Rattle.larch_store.proofs.Growth.{grows_refl}
use Rattle.larch_store.specs.Numbered.{Numbered, term_of}
use Rattle.larch_term.specs.Operator.{PlainOperator}
use Rattle.larch_term.specs.Sorts.{IsTermOver}
use Rattle.larch_term.specs.Tree.{Tree}
use Rattle.larch_term.specs.Truth.{truth}
use Rattle.larch_term.specs.declared.statement.Statement.{Statement}
use Rattle.larch_term.specs.declared.statement.Statement.TheVariants.{Equation}
use Rattle.larch_term.specs.declared.statement.Theory.{Theory}

-- the level of the code with further boxes for constants
abbrev pub boxed : List OpenBox → Level → Level
boxed es l = record l { extras = es }

level_boxed : (l : Level) (k : Kept) (xs es : List OpenBox) → es ≡ l.extras ++ xs → IsLevel l k
    → IsLevel (boxed es l) (with_extras (bare_boxes xs) k)
level_boxed l k xs es e w = record {
  purpose = w.purpose;
  facts = w.facts;
  lines = w.lines;
  absurd = w.absurd;
  goal = w.goal;
  way = w.way;
  first = w.first;
  entrance = w.entrance;
  extras = map-append (λ (x : SupposingBox). x.box) k.book.extras (bare_boxes xs)
      ∙ (ap (λ ys. map (λ (x : SupposingBox). x.box) k.book.extras ++ ys) (bare_same xs)
      ∙ (ap (λ ys. ys ++ xs) w.extras ∙ sym e));
  making = All-append (λ (x : SupposingBox). x.hypotheses ≡ []) k.book.extras (bare_boxes xs) w.making
      (bare_suppose_nothing xs);
}

stored_boxed : (store : List Numbered) (l : Level) (es : List OpenBox) → IsStored store l
    → IsStored store (boxed es l)
stored_boxed store l es w = record { goal = w.goal; first = w.first; formula = w.formula }

-- what is said of a level says the facts of the code's level
pub facts_said : (b : Builder) (l : Level) (k : Kept) → IsLevel l k → Says b k → SaysFacts b l
facts_said b l k w says = record {
  facts = subst (λ (facts : Facts). HasFacts b facts.rules (lines_of l.facts)) w.facts
      (subst (HasFacts b k.level.facts.rules) w.lines says.facts);
  absurd = λ c. subst (HasAbsurd b) w.absurd
      (says.absurd (subst (λ (facts : Facts). IsTrue facts.contradictory) (sym w.facts) c));
}

-- ---- what is said is said in further boxes

led_through : (a b : Builder) (xs : List SupposingBox) (way : Option ℕ) (l r : Tree) → Through a xs b
    → Leads a way l r
    → Leads b way l r
led_through a b xs None l r m h = h
led_through a b xs (Some n) l r m h = said_through a b xs n (Equation l r) m h

absurd_through : (a b : Builder) (xs : List SupposingBox) (o : Option ℕ) → Through a xs b → SaysAbsurd a o
    → SaysAbsurd b o
absurd_through a b xs None m h = tt
absurd_through a b xs (Some n) m h = said_through a b xs n (Equation truth falsity) m h

facts_through : (a b : Builder) (xs : List SupposingBox) (k : KeptFacts) → Through a xs b → AreSaid a k → AreSaid b k
facts_through a b xs k m h = (
  (
    All-weaker (IsSaid a) (IsSaid b)
        (λ (r : PlainRule) q. said_through a b xs r.line (Equation r.left r.right) m q) k.rules.rules h.0.0,
    All-weaker (IsLed a) (IsLed b)
        (λ (f : KeptForm) q. led_through a b xs f.way (term_of f.start) (term_of f.form) m q) k.rules.kept h.0.1,
  ),
  absurd_through a b xs k.absurd m h.1,
)

ready_boxed : (store : List Numbered) (a b : Builder) (l : Level) (xs : List SupposingBox) (es : List OpenBox)
    → Through a xs b → IsReady store a l → IsReady store b (boxed es l)
ready_boxed store a b l xs es m r = record {
  goal = r.goal;
  kept = r.kept;
  said = facts_through a b xs l.facts m r.said;
  way = said_through a b xs l.goal.way (Equation (term_of l.first) (term_of l.goal.term)) m r.way;
}

-- ---- boxes for a term's constants

-- what opening them promises, where these are open
abbrev pub OpensFor : Builder → Builder → List PlainOperator → List PlainOperator → List OpenBox → Type 0
OpensFor a b block opened xs = (t : Theory) (s : Statement) (levels : List defined.Level) (k : Kept) (ks : List Kept)
    → k.book.running ≡ None → open_constants a ≡ opened → HoldsLevels t s a block levels (k ∷ ks)
    → Through a (bare_boxes xs) b × HoldsLevels t s b block levels (with_extras (bare_boxes xs) k ∷ ks)

abbrev pub KnowsFor : Builder → Builder → List PlainOperator → List PlainOperator → Tree → Type 0
KnowsFor a b block opened u = (t : Theory) (s : Statement) (levels : List defined.Level) (k : Kept) (ks : List Kept)
    → k.book.running ≡ None → open_constants a ≡ opened → HoldsLevels t s a block levels (k ∷ ks)
    → IsTermOver (t.operators ++ block) u → IsWordedTerm u → Known b u

module _ (t : Theory) (s : Statement) (store : List Numbered) (d : Draft) (block opened : List PlainOperator) (u : Tree)
    (p : Proof) (k : Kept) (ks : List Kept) (w : Stands t s store d p k ks) (m : MayWrite t block u p)
    (opened_is : opened ≡ constants_in_levels (d.current ∷ below_in d)) (b : Builder) (xs es : List OpenBox)
    (opens : OpensFor d.builder b block opened xs) (knows : KnowsFor d.builder b block opened u)
    (extras : es ≡ d.current.extras ++ xs) where
  open_now : open_constants d.builder ≡ opened
  open_now = open_in_draft t s store d p k ks w ∙ sym opened_is

  held_now : HoldsLevels t s d.builder block (p.current ∷ p.below) (k ∷ ks)
  held_now = subst (λ cs. HoldsLevels t s d.builder cs (p.current ∷ p.below) (k ∷ ks)) m.constants w.holds

  -- the current level as it is then
  abbrev pub boxed_kept : Kept
  boxed_kept = with_extras (bare_boxes xs) k

  both_there : Through d.builder (bare_boxes xs) b
      × HoldsLevels t s b block (p.current ∷ p.below) (boxed_kept ∷ ks)
  both_there = opens t s (p.current ∷ p.below) k ks w.idle open_now held_now

  stands_there : Stands t s store (record d { builder = b; current = boxed es d.current }) p boxed_kept ks
  stands_there = record {
    counts = w.counts;
    undone = w.undone;
    current = (level_boxed d.current k xs es extras w.current.0, w.current.1);
    level_is = w.level_is;
    idle = w.idle;
    ready = ready_boxed store d.builder b d.current (bare_boxes xs) es both_there.0 w.ready;
    stored = stored_boxed store d.current es w.stored;
    below = w.below;
    holds = subst (λ cs. HoldsLevels t s b cs (p.current ∷ p.below) (boxed_kept ∷ ks)) (sym m.constants)
        both_there.1;
  }

  pub opened_so : IsOpenedFor t s store d (record d { builder = b; current = boxed es d.current }) p ks u
  opened_so = record {
    top = boxed_kept;
    stands = stands_there;
    known = knows t s (p.current ∷ p.below) k ks w.idle open_now held_now m.over m.words;
    stays = λ v h. known_through d.builder b (bare_boxes xs) v both_there.0 h;
  }

-- ---- the line of a formula

pub may_write : (t : Theory) (block : List PlainOperator) (f : Tree) (p : Proof) → MayProve t block f p
    → MayWrite t block f p
may_write t block f p m = record { constants = m.constants; over = m.over.0; words = m.words }

pub written_so : (t : Theory) (s : Statement) (store : List Numbered) (d : Draft) (p : Proof) (k : Kept)
    (ks : List Kept) (f : Tree) (b : Builder) (way : ℕ) → Stands t s store d p k ks → Extends d.builder b
    → HasEquation b way f f → IsWritten t s store (record d { builder = b }) p ks f way
written_so t s store d p k ks f b way w x says =
    let on = stands_on t s store store d b p k ks (grows_refl store) x w in
    record {
      top = k;
      counts = on.counts;
      undone = on.undone;
      current = on.current;
      level_is = on.level_is;
      idle = on.idle;
      stored = on.stored;
      below = on.below;
      holds = on.holds;
      facts = facts_said b d.current k on.current.0 (current_said t s b k ks on.holds.held);
      says = says;
    }

-- Drafts whose store and builder have grown; and what is shown where the current goal is proved.
use Rattle.std.specs.Prelude.{◌≡◌, ℕ, Bool, true, false, List, [], ◌∷◌, All, refl}
use Rattle.std.proofs.Common.{ap, ap₂, subst, sym, ◌∙◌}
use Rattle.std.proofs.lemmas.List.Elements.{All-weaker}
use Rattle.larch_prove_levels.proofs.DeriveGrowth.{extends_grows, stays_said}
use Rattle.larch_prove_levels.specs.DerivePredicates.{Extends, HasEquation}
use Rattle.larch_prove_levels.specs.DeriveBuilderBuilder.{Builder}
use Rattle.larch_prove_levels.proofs.ProveAddingStaying.{belongs_further, said_stays}
use Rattle.larch_prove_levels.specs.ProveAddingKeptFacts.{facts_of}
use Rattle.larch_prove_draft.specs.Draft.{AreBelow, IsProofBy, IsProofOf, IsShown, Stands}
use Rattle.larch_prove_draft.specs.declared.draft.Draft.{Draft}
use Rattle.larch_prove_levels.proofs.ProveInvariantLeft.{idle_stands, leaving_grows}
use Rattle.larch_prove_levels.proofs.ProveInvariantLevelConstants.{levels_grow}
use Rattle.larch_prove_levels.specs.ProveInvariantBook.{Kept, own_boxes}
use Rattle.larch_prove_levels.specs.Level.{IsLevel, IsReady, IsStored}
use Rattle.larch_prove_levels.specs.Settled.{is_settled_by}
use Rattle.larch_prove_levels.specs.declared.level.Level.{Level}
use Rattle.larch_prove_levels.specs.ProveMeaningLevels as defined
use Rattle.larch_prove_levels.specs.ProveMeaningLevels.{Proof, is_settled}
use Rattle.larch_store.proofs.Growth.{belongs_stays}
use Rattle.larch_store.specs.Numbered.{Numbered, term_of}
use Rattle.larch_store.specs.Stored.{Grows}
use Rattle.larch_term.specs.Operator.{PlainOperator}
use Rattle.larch_term.specs.Truth.{truth}
use Rattle.larch_term.specs.declared.statement.Statement.{Statement}
use Rattle.larch_term.specs.declared.statement.Theory.{Theory}

pub ready_on : (s u : List Numbered) (a b : Builder) (l : Level) → Grows s u → Extends a b → IsReady s a l
    → IsReady u b l
ready_on s u a b l g x r = record {
  goal = belongs_stays s u l.goal.term g r.goal;
  kept = belongs_further s u l.facts.rules g r.kept;
  said = said_stays a b l.facts x r.said;
  way = stays_said a b _ _ x r.way;
}

pub stored_on : (s u : List Numbered) (l : Level) → Grows s u → IsStored s l → IsStored u l
stored_on s u l g r = record {
  goal = belongs_stays s u l.goal.term g r.goal;
  first = belongs_stays s u l.first g r.first;
  formula = r.formula;
}

pub below_on : (s u : List Numbered) (ls : List Level) (cs : List PlainOperator) (below : List defined.Level)
    (ks : List Kept) → Grows s u → AreBelow s ls cs below ks → AreBelow u ls cs below ks
below_on s u ls cs below ks g w = record {
  kept = w.kept;
  stored = All-weaker (IsStored s) (IsStored u) (λ l h. stored_on s u l g h) ls w.stored;
  levels_are = w.levels_are;
  planned = w.planned;
}

pub stands_on : (t : Theory) (s : Statement) (store more : List Numbered) (d : Draft) (b : Builder) (p : Proof)
    (k : Kept) (ks : List Kept) → Grows store more → Extends d.builder b → Stands t s store d p k ks
    → Stands t s more (record d { builder = b }) p k ks
stands_on t s store more d b p k ks g x w = record {
  counts = w.counts;
  undone = w.undone;
  current = w.current;
  level_is = w.level_is;
  idle = w.idle;
  ready = ready_on store more d.builder b d.current g x w.ready;
  stored = stored_on store more d.current g w.stored;
  below = below_on store more _ p.constants p.below ks g w.below;
  holds = levels_grow t s d.builder b p.constants (p.current ∷ p.below) (k ∷ ks) (extends_grows d.builder b x) w.holds;
}

-- a draft of a proof that isn't done
pub proof_standing : (t : Theory) (s : Statement) (store : List Numbered) (d : Draft) (p : Proof) (k : Kept)
    (ks : List Kept) → Stands t s store d p k ks → IsProofOf t s store d p
proof_standing t s store d p k ks w =
    subst (λ b. IsProofBy b t s store d p) (sym w.undone.1) (k, (ks, w))

-- whether the current level is proved goes by the facts and the goal of the draft
pub settled_so : (l : Level) (k : Kept) (level : defined.Level) → IsLevel l k → k.level ≡ level
    → is_settled level ≡ is_settled_by (facts_of l.facts) (term_of l.goal.term)
settled_so l k level w e = ap is_settled (sym e) ∙ ap₂ is_settled_by w.facts w.goal

-- where it is proved, as a line says, it is shown
pub shown_standing : (t : Theory) (s : Statement) (store : List Numbered) (d : Draft) (b : Builder) (p : Proof)
    (k : Kept) (ks : List Kept) (n : ℕ) → Extends d.builder b → HasEquation b n (term_of d.current.first) truth
    → Stands t s store d p k ks → IsShown t s store (record d { builder = b }) p p.below p.current n
shown_standing t s store d b p k ks n x h w = record {
  top = k;
  others = ks;
  counts = w.counts;
  undone = w.undone;
  current = w.current.0;
  level_is = w.level_is;
  stored = w.stored;
  under = w.below;
  earlier = d.builder;
  before = w.holds;
  leaving = leaving_grows t s d.builder b (own_boxes k.book) ks (extends_grows d.builder b x)
      (idle_stands t s d.builder k ks w.idle w.holds.held).leaving;
  says = subst (λ u. HasEquation b n u truth) (sym w.current.0.first) h;
}

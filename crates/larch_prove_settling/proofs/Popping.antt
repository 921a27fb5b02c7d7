-- The level below one that is proved is the current one again.
use Rattle.std.specs.Prelude.{◌≡◌, ℕ, List, [], ◌∷◌, ◌++◌, map, reverse, All, Vec, Bool, true, if◌then◌else◌}
use Rattle.std.specs.Prelude.{IfNone, IfSome, None, Option, Some}
use Rattle.std.specs.List.{AllZip}
use Rattle.std.specs.declared.rc.Rc.{Rc}
use Rattle.std.specs.declared.alloc.Global.{Global}
use Rattle.std.proofs.Common.{ap, subst, sym, ◌∙◌, refl}
use Rattle.std.proofs.lemmas.List.{reverse-append}
use Rattle.std.proofs.lemmas.List.Elements.{All-cons, All-head, All-tail}
use Rattle.larch_derive.specs.declared.builder.Builder.{Builder}
use Rattle.larch_prove_draft.proofs.Copies.{copy_ready, kept_copied, stored_copied}
use Rattle.larch_prove_draft.specs.Draft.{AreBelow, ArePlannedAmong, IsAlike, IsShown, IsShownIn, below_in}
use Rattle.larch_prove_draft.specs.declared.draft.Draft.{Draft}
use Rattle.larch_prove_draft.specs.ProveInvariantBook.{Kept, levels_of, own_boxes}
use Rattle.larch_prove_draft.specs.ProveInvariantHolding.{Enters, HoldsLevels}
use Rattle.larch_prove_draft.specs.ProveInvariantLeaving.{Leaving}
use Rattle.larch_prove_draft.specs.ProveLevelsLevel.{IsKept, IsLevel, IsStored, purpose_of}
use Rattle.larch_prove_draft.specs.ProveLevelsLevelPurpose.TheVariants as purpose
use Rattle.larch_prove_draft.specs.ProveLevelsLevelLevel.{Level}
use Rattle.larch_prove_draft.specs.ProveMeaningLevels as defined
use Rattle.larch_prove_draft.specs.ProveMeaningLevels.{Proof, opened_from, rise, with_mark}
use Rattle.larch_prove_draft.proofs.ProveLevelsRises.{rise_proof, rise_subgoal}
use Rattle.larch_prove_settling.proofs.Leaving.{extras_left, nothing_below}
use Rattle.larch_prove_settling.specs.Parts.{IsPopped}
use Rattle.larch_prove_settling.specs.Rising.{Rises, RisesForFormula, RisesForSubgoal, derived_below, entrance_of}
use Rattle.larch_store.specs.Numbered.{Numbered, term_of}
use Rattle.larch_term.specs.Truth.{truth}
use Rattle.larch_derive.specs.Predicates.{HasEquation}
use Rattle.larch_term.specs.Operator.{PlainOperator}
use Rattle.larch_term.specs.declared.statement.Statement.{Statement}
use Rattle.larch_term.specs.declared.statement.Theory.{Theory}

-- where the level below is taken, the levels rise
pub record PopsTo (t : Theory) (s : Statement) (store : List Numbered) (d : Draft) (e : Draft) (p : Proof)
    (below : List defined.Level) (level : defined.Level) (n : ℕ) : Type 0 where
  pub parent : defined.Level
  pub rest : List defined.Level
  pub split : below ≡ parent ∷ rest
  pub rises : Rises t s store e p rest parent level n
  pub entered : IsLevel d.current rises.top

module _ (t : Theory) (s : Statement) (store : List Numbered) (d : Draft) (v : Vec (Rc Level Global) Global)
    (popped : Level) (p : Proof) (level : defined.Level) (n : ℕ)
    (i : IsPopped (map (λ level. level.value) d.below.items) (map (λ level. level.value) v.items) popped) where
  under_last : below_in d ≡ i.last ∷ reverse (map (λ level. level.value) v.items)
  under_last = ap reverse i.levels_are ∙ reverse-append (map (λ level. level.value) v.items) (i.last ∷ [])

  pops_so : (below : List defined.Level) (ks : List Kept) (w : IsShownIn entrance_of t s store d p below level n)
      → w.others ≡ ks → AllZip IsKept (i.last ∷ reverse (map (λ level. level.value) v.items)) ks
      → PopsTo t s store d (record d { below = v; current = popped }) p below level n
  pops_so below [] w e z = absurd z
  pops_so below (on ∷ others) w e z =
      let rest : List Level = reverse (map (λ level. level.value) v.items) in
      let stored : All (IsStored store) (i.last ∷ rest) = subst (All (IsStored store)) under_last w.under.stored in
      let split : below ≡ on.level ∷ levels_of others = sym w.under.levels_are ∙ ap levels_of e in
      record {
        parent = on.level;
        rest = levels_of others;
        split = split;
        rises = record {
          top = w.top;
          on = on;
          others = others;
          counts = w.counts;
          undone = w.undone;
          level_is = w.level_is;
          current = kept_copied i.last popped on i.same z.0;
          parent_is = refl;
          stored = stored_copied store i.last popped i.same (All-head (IsStored store) i.last rest stored);
          ready = λ b says.
              copy_ready store b i.last popped on i.same i.kept i.said z.0 (All-head
              (IsStored store) i.last rest stored) says;
          under = record {
            kept = (kept_copied i.last popped on i.same z.0, z.1);
            stored = All-cons (IsStored store) popped rest
                (stored_copied store i.last popped i.same (All-head (IsStored store) i.last rest stored))
                (All-tail (IsStored store) i.last rest stored);
            levels_are = refl;
            planned = subst (ArePlannedAmong p.constants) e w.under.planned;
          };
          earlier = w.earlier;
          before = subst (λ js. HoldsLevels t s w.earlier p.constants (level ∷ on.level ∷ levels_of others)
              (w.top ∷ js)) e
              (subst (λ ls. HoldsLevels t s w.earlier p.constants (level ∷ ls) (w.top ∷ w.others)) split w.before);
          leaving = subst (Leaving t s d.builder w.top.book.entrance) e w.leaving;
          says = w.says;
        };
        entered = w.current;
      }

  pub pops_to : (below : List defined.Level) → IsShownIn entrance_of t s store d p below level n
      → PopsTo t s store d (record d { below = v; current = popped }) p below level n
  pops_to below w =
      pops_so below w.others w refl (subst (λ ls. AllZip IsKept ls w.others) under_last w.under.kept)

-- ---- a level that is proved is left, in all

-- what was taken away, if anything was
pub was_popped : (old new : List Level) (o : Option Level) (x y : Level) → o ≡ Some x → y ≡ x
    → IfSome o (IsPopped old new) → IsPopped old new y
was_popped old new o x y e d h = subst (IsPopped old new) (sym d) (subst (λ q. IfSome q (IsPopped old new)) e h)

pub none_there : (o : Option Level) (P : Type 0) → o ≡ None → IfNone o P → P
none_there o P e h = subst (λ q. IfNone q P) e h

-- what is there behind the boxes for constants, and a mark more
abbrev pub ClosesSo : Theory → Statement → Draft → Builder → ℕ → ℕ → Type 0
ClosesSo t s d b line n = (u : Theory) (v : Statement) (a : Builder) (cs : List PlainOperator)
    (levels : List defined.Level) (k : Kept) (ks : List Kept) → HoldsLevels u v a cs levels (k ∷ ks)
    → IsLevel d.current k → Leaving u v d.builder (own_boxes k.book) ks
    → HasEquation d.builder line k.book.first truth
    → Leaving u v b k.book.entrance ks × HasEquation b n k.book.first truth

pub marked_alike : (p : Proof) → IsAlike p (with_mark true p)
marked_alike p = record {
  theory = refl;
  lemmas = refl;
  scope = refl;
  constants = refl;
  ranks = refl;
  limit = refl;
  commands = refl;
}

module _ (t : Theory) (s : Statement) (store : List Numbered) (d : Draft) (b : Builder) (marks : Vec Bool Global)
    (line n : ℕ) (closes : ClosesSo t s d b line n)
    (waits : marks.items ≡ (if d.checking then d.waiting.items ++ true ∷ [] else d.waiting.items)) where
  pub left_so : (p : Proof) (below : List defined.Level) (level : defined.Level)
      → IsShown t s store d p below level line
      → IsShownIn entrance_of t s store (record d { builder = b; waiting = marks }) (with_mark true p) below level n
  left_so p below level w =
      let z = closes t s w.earlier p.constants (level ∷ below) w.top w.others w.before w.current w.leaving w.says in
      extras_left t s store d b marks p below level line n waits w z.0 z.1

  -- none is below it
  pub lowest_so : (v : Vec (Rc Level Global) Global) (p : Proof) (below : List defined.Level) (level : defined.Level)
      → d.below.items ≡ [] → v.items ≡ [] → IsShown t s store d p below level line
      → (below ≡ []) × IsShownIn entrance_of t s store (record d { builder = b; waiting = marks; below = v })
      (with_mark true p) [] level n
  lowest_so v p below level e h w =
      let z = left_so p below level w in
      let none = nothing_below entrance_of t s store (record d { builder = b; waiting = marks })
      (with_mark true p) below
      level n e z in
      let y = subst (λ ls. IsShownIn entrance_of t s store (record d { builder = b; waiting = marks })
      (with_mark true p) ls level n) none z in (
        none,
        record {
          top = y.top;
          others = y.others;
          counts = y.counts;
          undone = y.undone;
          current = y.current;
          level_is = y.level_is;
          stored = y.stored;
          under = subst (λ ls. AreBelow store ls p.constants [] y.others)
              (ap (λ ls. reverse (map (λ level. level.value) ls)) (e ∙ sym h)) y.under;
          earlier = y.earlier;
          before = y.before;
          leaving = y.leaving;
          says = y.says;
        },
      )

  -- or one is
  module _ (v : Vec (Rc Level Global) Global) (popped upper : Level)
      (i : IsPopped (map (λ level. level.value) d.below.items) (map (λ level. level.value) v.items) popped)
      (old : upper ≡ d.current) (p : Proof) (below : List defined.Level) (level : defined.Level)
      (w : IsShown t s store d p below level line) where
    pub popped_so : PopsTo t s store (record d { builder = b; waiting = marks })
        (record d { builder = b; waiting = marks; below = v; current = popped }) (with_mark true p) below level n
    popped_so =
        pops_to t s store (record d { builder = b; waiting = marks }) v popped (with_mark true p) level n i below
        (left_so p below level w)

    upper_is : IsLevel upper popped_so.rises.top
    upper_is = subst (λ l. IsLevel l popped_so.rises.top) (sym old) popped_so.entered

    pub subgoal_so : upper.purpose ≡ purpose.OfSubgoal → RisesForSubgoal t s store
        (record d { builder = b; waiting = marks; below = v; current = popped }) (with_mark true p) popped_so.rest
        popped_so.parent level upper.entrance n
    subgoal_so e = record {
      rises = popped_so.rises;
      purpose = upper_is.purpose ∙ ap (λ u. purpose_of u (term_of upper.first)) e;
      entrance_is = upper_is.entrance;
    }

    pub formula_so : upper.purpose ≡ purpose.OfProof → RisesForFormula t s store
        (record d { builder = b; waiting = marks; below = v; current = popped }) (with_mark true p) popped_so.rest
        popped_so.parent level (term_of upper.first) n
    formula_so e = record {
      rises = popped_so.rises;
      purpose = upper_is.purpose ∙ ap (λ u. purpose_of u (term_of upper.first)) e;
    }

    -- it isn't the duty's
    pub not_duty : upper.purpose ≡ purpose.OfDuty → ⊥
    not_duty e =
        let same : popped_so.rises.top.level.purpose ≡ defined.OfDuty =
        upper_is.purpose ∙ ap (λ u. purpose_of u (term_of upper.first)) e in
        subst (λ u. Enters u popped_so.rises.on.book.running popped_so.rises.top.book) same
        popped_so.rises.before.held.1.1.0

    pub subgoal_rises : upper.purpose ≡ purpose.OfSubgoal
        → rise below level p
        ≡ opened_from (λ q. rise popped_so.rest popped_so.parent q) popped_so.parent popped_so.rest
        popped_so.parent.remaining (with_mark true p)
    subgoal_rises e =
        ap (λ ls. rise ls level p) popped_so.split
        ∙ rise_subgoal popped_so.parent popped_so.rest level p
        (ap (λ (l : defined.Level). l.purpose) (sym popped_so.rises.level_is) ∙ upper_is.purpose
        ∙ ap (λ u. purpose_of u (term_of upper.first)) e)

    pub formula_rises : upper.purpose ≡ purpose.OfProof
        → rise below level p
        ≡ derived_below (term_of upper.first) popped_so.parent popped_so.rest (with_mark true p)
    formula_rises e =
        ap (λ ls. rise ls level p) popped_so.split
        ∙ rise_proof popped_so.parent popped_so.rest level (term_of upper.first) p
        (ap (λ (l : defined.Level). l.purpose) (sym popped_so.rises.level_is) ∙ upper_is.purpose
        ∙ ap (λ u. purpose_of u (term_of upper.first)) e)

-- A level that is proved: its boxes for constants are closed, and the level below is taken.
use Rattle.std.specs.Prelude.{◌≡◌, ◌<◌, ℕ, Bool, true, List, [], ◌∷◌, ◌++◌, map, reverse, None, Some}
use Rattle.std.specs.Prelude.{Option}
use Rattle.std.specs.Prelude.{if◌then◌else◌, Err, IfErr, IfOk, IfSome, Ok, Result, Vec, length, refl}
use Rattle.std.specs.declared.alloc.Global.{Global}
use Rattle.std.specs.List.{AllZip}
use Rattle.std.proofs.Common.{ap, subst, sym, ◌∙◌, slice_get, option_map, MatchOption, HoldsAt, Bor, ◌≤◌}
use Rattle.std.proofs.lemmas.Option.{slice_get_past, slice_get-get_or}
use Rattle.larch_derive.specs.Builder.{lines_in}
use Rattle.larch_derive.specs.Finished.{IsFinished}
use Rattle.larch_derive.specs.Predicates.{HasEquation}
use Rattle.larch_derive.specs.declared.builder.Builder.{Builder}
use Rattle.larch_prove_draft.proofs.Alike.{marks_wait}
use Rattle.larch_prove_draft.specs.Draft.{IsShown, IsShownIn, Leads, below_in}
use Rattle.larch_prove_draft.specs.declared.draft.Draft.{Draft}
use Rattle.larch_prove_draft.specs.ProveInvariantBook.{Book, Kept, SupposingBox, levels_of}
use Rattle.larch_prove_draft.specs.ProveInvariantHolding.{IsEntered}
use Rattle.larch_prove_draft.specs.ProveInvariantLeaving.{Leaving}
use Rattle.larch_prove_draft.specs.ProveLevelsLevel.{IsKept}
use Rattle.larch_prove_draft.specs.ProveLevelsLevelLevel.{Level}
use Rattle.larch_prove_draft.specs.ProveMeaningLevels as defined
use Rattle.larch_prove_draft.specs.ProveMeaningLevels.{Proof, with_mark}
use Rattle.larch_prove_settling.specs.Rising.{entrance_of, proved_by}
use Rattle.larch_store.specs.Numbered.{Numbered}
use Rattle.larch_term.specs.Tree.{Tree}
use Rattle.larch_term.specs.Truth.{truth}
use Rattle.larch_term.specs.declared.statement.Statement.{Statement}
use Rattle.larch_term.specs.declared.statement.Theory.{Theory}

-- the boxes for constants are closed, and a mark waits
pub extras_left : (t : Theory) (s : Statement) (store : List Numbered) (d : Draft) (b : Builder) (v : Vec Bool Global)
    (p : Proof) (below : List defined.Level) (level : defined.Level) (line n : ℕ)
    → v.items ≡ (if d.checking then d.waiting.items ++ true ∷ [] else d.waiting.items)
    → (w : IsShown t s store d p below level line) → Leaving t s b w.top.book.entrance w.others
    → HasEquation b n w.top.book.first truth
    → IsShownIn entrance_of t s store (record d { builder = b; waiting = v }) (with_mark true p) below level n
extras_left t s store d b v p below level line n waits w l h = record {
  top = w.top;
  others = w.others;
  counts = (
    w.counts.0,
    (
      waits ∙ marks_wait d.checking p.checking d.waiting.items p.waiting true w.counts.0 w.counts.1.0,
      w.counts.1.1,
    ),
  );
  undone = w.undone;
  current = w.current;
  level_is = w.level_is;
  stored = w.stored;
  under = w.under;
  earlier = w.earlier;
  before = w.before;
  leaving = l;
  says = h;
}

-- ---- the lowest level

none_kept : (ls : List Level) (ks : List Kept) → ls ≡ [] → AllZip IsKept ls ks → ks ≡ []
none_kept [] [] e z = refl
none_kept [] (k ∷ ks) e z = absurd z
none_kept (l ∷ ls) ks e z = absurd (cc)

pub nothing_below : (f : Book → List SupposingBox) (t : Theory) (s : Statement) (store : List Numbered) (d : Draft)
    (p : Proof) (below : List defined.Level) (level : defined.Level) (n : ℕ) → d.below.items ≡ []
    → (w : IsShownIn f t s store d p below level n) → below ≡ []
nothing_below f t s store d p below level n e w =
    sym w.under.levels_are
    ∙ ap levels_of (none_kept (below_in d) w.others (ap (λ ls. reverse (map (λ level. level.value) ls)) e) w.under.kept)

none_over : (ks : List Kept) → levels_of ks ≡ [] → ks ≡ []
none_over [] e = refl
none_over (k ∷ ks) e = absurd (cc)

pub lowest_alone : (t : Theory) (s : Statement) (store : List Numbered) (d : Draft) (p : Proof) (level : defined.Level)
    (n : ℕ) → (w : IsShownIn entrance_of t s store d p [] level n) → w.others ≡ []
lowest_alone t s store d p level n w = none_over w.others w.under.levels_are

pub lowest_entered : (t : Theory) (s : Statement) (store : List Numbered) (d : Draft) (p : Proof)
    (level : defined.Level) (n : ℕ) → (w : IsShownIn entrance_of t s store d p [] level n) → IsEntered s [] w.top
lowest_entered t s store d p level n w =
    subst (λ js. IsEntered s js w.top) (lowest_alone t s store d p level n w) w.before.held.1.1.0

pub lowest_leaving : (t : Theory) (s : Statement) (store : List Numbered) (d : Draft) (p : Proof)
    (level : defined.Level) (n : ℕ) → (w : IsShownIn entrance_of t s store d p [] level n)
    → Leaving t s d.builder w.top.book.entrance []
lowest_leaving t s store d p level n w =
    subst (Leaving t s d.builder w.top.book.entrance) (lowest_alone t s store d p level n w) w.leaving

-- all is proved
pub finish_leads : (t : Theory) (s : Statement) (store : List Numbered) (d : Draft) (b : Builder) (p : Proof)
    (level : defined.Level) (n : ℕ) → IsShownIn entrance_of t s store d p [] level n → IsFinished t s (lines_in b)
    → Leads t s store (record d { builder = b; is_proved = true }) p None (Ok (proved_by level p))
finish_leads t s store d b p level n w f = (
  proved_by level p,
  (
    refl,
    (
      record {
        theory = refl;
        lemmas = refl;
        scope = refl;
        constants = refl;
        ranks = refl;
        limit = refl;
        commands = refl;
      },
      record {
        counts = w.counts;
        proved = (refl, refl);
        finished = f;
      },
    ),
  ),
)

-- ---- answers

pub if_answered : {A E : Type 0} (P Q : A → Type 0) (r : Result A E) → ((x : A) → P x → Q x) → IfOk r P → IfOk r Q
if_answered P Q (Ok x) f h = f x h
if_answered P Q (Err e) f h = tt

pub if_both : {A E : Type 0} (P Q R : A → Type 0) (r : Result A E) → ((x : A) → P x → Q x → R x) → IfOk r P → IfOk r Q
    → IfOk r R
if_both P Q R (Ok x) f h g = f x h g
if_both P Q R (Err e) f h g = tt

pub said_as : (b : Builder) (n : ℕ) (l r k q : Tree) → l ≡ k → r ≡ q → HasEquation b n l r → HasEquation b n k q
said_as b n l r k q e d h = subst (HasEquation b n k) d (subst (λ t. HasEquation b n t r) e h)

-- what a list has at a place
pub got : {X : Type 0} (r : Option (Bor X)) (xs : List X) (i : ℕ)
    → MatchOption r (length xs ≤ i) (λ x. (i < length xs) × HoldsAt (λ y. x.now ≡ y) xs i)
    → option_map (λ x. x.now) r ≡ slice_get xs i
got None xs i h = sym (slice_get_past xs i h)
got (Some x) xs i h = ap Some (h.1 x.now) ∙ sym (slice_get-get_or xs i x.now h.0)

pub if_any : {A : Type 0} (o : Option A) (P : Type 0) → P → IfSome o (λ _. P)
if_any None P h = tt
if_any (Some x) P h = h

pub if_refused : {A E : Type 0} (P Q : E → Type 0) (r : Result A E) → ((x : E) → P x → Q x) → IfErr r P → IfErr r Q
if_refused P Q (Ok x) f h = tt
if_refused P Q (Err e) f h = f e h

pub if_each : {A E : Type 0} (P : A → Type 0) (r : Result A E) → ((x : A) → P x) → IfOk r P
if_each P (Ok x) f = f x
if_each P (Err e) f = tt

pub if_some_then : {A : Type 0} (o : Option A) (P Q : Type 0) → (P → Q) → IfSome o (λ _. P) → IfSome o (λ _. Q)
if_some_then None P Q f h = tt
if_some_then (Some x) P Q f h = f h

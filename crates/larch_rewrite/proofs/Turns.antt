-- The machine's work, turn by turn.
use Rattle.std.specs.Prelude.{◌≡◌, ◌-◌, ◌≤◌, ℕ, List, [], ◌∷◌, ◌++◌, All, map, reverse}
use Rattle.std.proofs.Common.{arith, ap, ap₂, sym, subst, inl, inr, ◌∙◌}
use Rattle.std.proofs.lemmas.List.{reverse-append}
use Rattle.std.proofs.lemmas.List.Elements.{All-push}
use Rattle.larch_term.specs.Tree.{Tree}
use Rattle.larch_rewrite_meaning.specs.NormalForm.{normal}
use Rattle.larch_rewrite_meaning.specs.Sides.{Sides}
use Rattle.larch_rewrite_meaning.specs.Work.{Made}
use Rattle.larch_rewrite_law.specs.Levels.{arguments_work}
use Rattle.larch_rewrite_law.proofs.Charging.{made_costs}
use Rattle.larch_rewrite_law.proofs.Rising.{waiting_limit, waiting_size, waiting_argument, waiting_form}
use Rattle.larch_rewrite_law.specs.Stacked.{Wait}
use Rattle.larch_store.specs.Numbered.{Numbered, term_of}
use Rattle.larch_rewrite.specs.Kept.{IsForm, IsKeptAt, IsKeptBehind, kept_of}
use Rattle.larch_rewrite.specs.Level.{HaveOneStart, IsApplication, IsArgument, IsLast, Works, arguments_left, begun_of}
use Rattle.larch_rewrite.specs.Level.{further_of, level_of, operator_of, start_of, waiting_of, work_at}
use Rattle.larch_rewrite.specs.Refusal.{IsMade, TellsEvent}
use Rattle.larch_rewrite.specs.declared.kept.KeptForm.{KeptForm}
use Rattle.larch_rewrite.specs.declared.level.Level.{Level}
use Rattle.larch_rewrite.specs.declared.level.Frame.{Frame}
use Rattle.larch_rewrite.specs.declared.level.Turn.{Turn}
use Rattle.larch_rewrite.specs.declared.level.Turn.TheVariants.{Begin, Arguments, Root, Finish}
use Rattle.larch_rewrite.specs.declared.refusal.RewriteRefusal.{RewriteRefusal}
use Rattle.larch_rewrite.specs.declared.refusal.RewriteRefusal.TheVariants.{Limit, TooLarge, Memory}
use Rattle.larch_rewrite.proofs.Levels.{arguments_next, arguments_behind}

-- the frames that wait, where a start is the same
waits_same : (rules : List Sides) (whole : Tree) (budget : ℕ) (frames : List Frame) (x y : Tree) (j k : ℕ)
    → x ≡ y → j ≡ k
    → Wait rules whole budget (map waiting_of (reverse frames)) y k
    → Wait rules whole budget (map waiting_of (reverse frames)) x j
waits_same rules whole budget frames x y j k p q h =
    subst (λ u. Wait rules whole budget (map waiting_of (reverse frames)) u j) (sym p)
    (subst (λ n. Wait rules whole budget (map waiting_of (reverse frames)) y n) (sym q) h)

-- the frame that is pushed is the first that waits
pub pushed_first : (frames : List Frame) (f : Frame) → reverse (frames ++ f ∷ []) ≡ f ∷ reverse frames
pushed_first frames f = reverse-append frames (f ∷ [])

-- a turn that goes on with the work on its own start
pub works_on : (rules : List Sides) (whole : Tree) (budget : ℕ) (kept : List KeptForm) (frames : List Frame)
    (turn next : Turn) (b c : ℕ) → HaveOneStart next turn → work_at rules turn b ≡ work_at rules next c
    → Works rules whole budget kept frames turn b → Works rules whole budget kept frames next c
works_on rules whole budget kept frames turn next b c same e h = record {
  forms = h.forms;
  work = ap₂ (λ x n. normal rules (term_of x) n) same.0 same.1 ∙ h.work ∙ e;
  wait = waits_same rules whole budget frames (start_of next) (start_of turn) (begun_of next) (begun_of turn)
      (ap term_of same.0) same.1 h.wait;
}

-- an event of the work on a start is the event of the whole
pub tells_whole : (rules : List Sides) (whole : Tree) (budget : ℕ) (kept : List KeptForm) (frames : List Frame)
    (turn : Turn) (b : ℕ) (e : RewriteRefusal) → Works rules whole budget kept frames turn b
    → TellsEvent (work_at rules turn b) e → TellsEvent (normal rules whole budget) e
tells_whole rules whole budget kept frames turn b Limit h t =
    waiting_limit rules whole (start_of turn) budget (begun_of turn) (map waiting_of (reverse frames)) h.wait
    (h.work ∙ t)
tells_whole rules whole budget kept frames turn b TooLarge h t =
    waiting_size rules whole (start_of turn) budget (begun_of turn) (map waiting_of (reverse frames)) h.wait
    (h.work ∙ t)
tells_whole rules whole budget kept frames turn b Memory h t = tt

kept_forms : (rules : List Sides) (kept new : List KeptForm) (k : KeptForm) → All (IsForm rules) kept → IsForm rules k
    → IsKeptBehind kept k new → All (IsForm rules) new
kept_forms rules kept new k h f (inl e) = subst (All (IsForm rules)) (sym e) h
kept_forms rules kept new k h f (inr e) = subst (All (IsForm rules)) (sym e) (All-push (IsForm rules) kept k h f)

-- what is kept of a normal form is one
all_forms : (rules : List Sides) (whole : Tree) (budget : ℕ) (kept new : List KeptForm) (frames : List Frame)
    (turn : Turn)
    (b : ℕ) → IsKeptAt kept turn b new → Works rules whole budget kept frames turn b → All (IsForm rules) new
all_forms rules whole budget kept new frames (Begin l) b e h = subst (All (IsForm rules)) (sym e) h.forms
all_forms rules whole budget kept new frames (Arguments f) b e h = subst (All (IsForm rules)) (sym e) h.forms
all_forms rules whole budget kept new frames (Root l) b e h = subst (All (IsForm rules)) (sym e) h.forms
all_forms rules whole budget kept new frames (Finish l) b e h =
    kept_forms rules kept new (kept_of l b) h.forms
    (made_costs rules (term_of l.start) (term_of l.term) l.begun b h.work).1 e

pub works_kept : (rules : List Sides) (whole : Tree) (budget : ℕ) (kept new : List KeptForm) (frames : List Frame)
    (turn : Turn) (b : ℕ) → IsKeptAt kept turn b new → Works rules whole budget kept frames turn b
    → Works rules whole budget new frames turn b
works_kept rules whole budget kept new frames turn b e h = record {
  forms = all_forms rules whole budget kept new frames turn b e h;
  work = h.work;
  wait = h.wait;
}

-- an argument begins, and its frame waits
pub works_deeper : (rules : List Sides) (whole : Tree) (budget : ℕ) (kept : List KeptForm) (frames pushed : List Frame)
    (f : Frame) (l : Level) (b : ℕ) → pushed ≡ frames ++ f ∷ [] → IsArgument f b l
    → Works rules whole budget kept frames (Arguments f) b → Works rules whole budget kept pushed (Begin l) b
works_deeper rules whole budget kept frames pushed f l b p (a, g, n, w, t) h = record {
  forms = h.forms;
  work = ap₂ (λ x k. normal rules (term_of x) k) (sym t) n;
  wait = subst (λ fs. Wait rules whole budget (map waiting_of fs) (term_of l.start) l.begun)
      (sym (ap reverse p ∙ pushed_first frames f)) (
        h.work ∙ arguments_next rules f.level.term f.done b l.start a g
            ∙ ap (arguments_work rules (operator_of f.level.term) (map term_of f.done) (term_of l.start ∷ further_of f))
            (sym n),
        h.wait,
      );
}

-- an argument is normal, and its frame goes on
pub works_up : (rules : List Sides) (whole : Tree) (budget : ℕ) (kept : List KeptForm) (frames popped : List Frame)
    (f g : Frame) (l : Level) (b : ℕ) → frames ≡ popped ++ f ∷ [] → IsApplication f.level.term
    → (g.level.start ≡ f.level.start) × (g.level.begun ≡ f.level.begun) × (g.level.term ≡ f.level.term)
    → g.done ≡ f.done ++ l.term ∷ []
    → Works rules whole budget kept frames (Finish l) b → Works rules whole budget kept popped (Arguments g) b
works_up rules whole budget kept frames popped f g l b p a (s, n, t) d h =
    let w : Wait rules whole budget (waiting_of f ∷ map waiting_of (reverse popped)) (term_of l.start) l.begun =
    subst (λ fs. Wait rules whole budget (map waiting_of fs) (term_of l.start) l.begun)
    (ap reverse p ∙ pushed_first popped f) h.wait in
    record {
      forms = h.forms;
      work = ap₂ (λ x k. normal rules (term_of x) k) s n
          ∙ waiting_argument rules whole (term_of l.start) (term_of l.term) budget l.begun b (waiting_of f)
          (map waiting_of (reverse popped)) w h.work
          ∙ arguments_behind rules f.level.term f.done l.term b a
          ∙ ap₂ (λ x ds. arguments_left rules x ds b) (sym t) (sym d);
      wait =
          waits_same rules whole budget popped (term_of g.level.start)
          (term_of f.level.start) g.level.begun f.level.begun
          (ap term_of s) n w.1;
    }

-- the first turn
pub works_first : (rules : List Sides) (x : Numbered) (budget : ℕ) (kept : List KeptForm)
    (frames : List Frame) (l : Level)
    → frames ≡ [] → (l.start ≡ x) × (l.begun ≡ budget) × (l.term ≡ x) → All (IsForm rules) kept
    → Works rules (term_of x) budget kept frames (Begin l) budget
works_first rules x budget kept frames l e (s, n, t) h = record {
  forms = h;
  work = ap₂ (λ y k. normal rules (term_of y) k) (s ∙ sym t) n;
  wait = subst (λ fs. Wait rules (term_of x) budget (map waiting_of (reverse fs)) (term_of l.start) l.begun) (sym e)
      (ap term_of s, n);
}

spends : (budget b : ℕ) → b ≤ budget → b ≡ budget - (budget - b)
spends budget b h = omega (arith, h)

-- the last turn
pub works_last : (rules : List Sides) (whole : Tree) (budget : ℕ) (kept : List KeptForm) (frames : List Frame)
    (turn : Turn)
    (b k : ℕ) → IsLast frames turn → k ≡ budget - b → Works rules whole budget kept frames turn b
    → IsMade budget k (term_of (level_of turn).term) (normal rules whole budget)
works_last rules whole budget kept frames (Begin l) b k e n h = absurd e
works_last rules whole budget kept frames (Arguments f) b k e n h = absurd e
works_last rules whole budget kept frames (Root l) b k e n h = absurd e
works_last rules whole budget kept frames (Finish l) b k e n h =
    let m : normal rules whole budget ≡ Made (term_of l.term) b =
    waiting_form rules whole (term_of l.start) (term_of l.term) budget l.begun b
    (subst (λ fs. Wait rules whole budget (map waiting_of (reverse fs)) (term_of l.start) l.begun) e h.wait) h.work in
    let c : b ≤ budget = (made_costs rules whole (term_of l.term) budget b m).0 in (
      omega (arith, n),
      m ∙ ap (Made (term_of l.term)) (spends budget b c ∙ ap (λ j. budget - j) (sym n)),
    )

-- the last turn's start is the whole
pub last_start : (rules : List Sides) (whole : Tree) (budget : ℕ) (kept : List KeptForm) (frames : List Frame)
    (turn : Turn)
    (b : ℕ) → IsLast frames turn → Works rules whole budget kept frames turn b → start_of turn ≡ whole
last_start rules whole budget kept frames (Begin l) b e h = absurd e
last_start rules whole budget kept frames (Arguments f) b e h = absurd e
last_start rules whole budget kept frames (Root l) b e h = absurd e
last_start rules whole budget kept frames (Finish l) b e h =
    (subst (λ fs. Wait rules whole budget (map waiting_of (reverse fs)) (term_of l.start) l.begun) e h.wait).0

-- the last turn's form, by another name
pub last_made : (rules : List Sides) (whole : Tree) (budget : ℕ) (kept : List KeptForm) (frames : List Frame)
    (turn : Turn)
    (b k : ℕ) (form : Numbered) → IsLast frames turn → k ≡ budget - b → form ≡ (level_of turn).term
    → Works rules whole budget kept frames turn b → IsMade budget k (term_of form) (normal rules whole budget)
last_made rules whole budget kept frames turn b k form e n f h =
    subst (λ y. IsMade budget k (term_of y) (normal rules whole budget)) (sym f)
    (works_last rules whole budget kept frames turn b k e n h)

-- a turn, by another name
pub works_from : (rules : List Sides) (whole : Tree) (budget : ℕ) (kept : List KeptForm) (frames : List Frame)
    (turn other : Turn) (b : ℕ) → turn ≡ other → Works rules whole budget kept frames turn b
    → Works rules whole budget kept frames other b
works_from rules whole budget kept frames turn other b e h =
    subst (λ t. Works rules whole budget kept frames t b) e h

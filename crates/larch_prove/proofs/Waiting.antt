-- How many goals are open, by the levels of the code.
use Rattle.std.specs.Prelude.{◌≡◌, ◌<◌, ◌≤◌, ◌+◌, ◌-◌, ℕ, min, Bool, true, false, if◌then◌else◌, List, [], ◌∷◌, ◌++◌}
use Rattle.std.specs.Prelude.{get_or, map, length, reverse, sum_by, take, None, Option, Some, Err, Ok, OkIff, Result}
use Rattle.std.specs.Prelude.{refl}
use Rattle.std.specs.Result.{result_unwrap_or}
use Rattle.std.specs.declared.alloc.Global.{Global}
use Rattle.std.specs.declared.rc.Rc.{Rc}
use Rattle.std.specs.List.{AllZip}
use Rattle.std.proofs.Common.{ap, ap₂, arith, length-append, ltb, ltb-false, ltb-true, subst, sym, ◌∙◌}
use Rattle.std.proofs.lemmas.List.{length-map, take_all}
use Rattle.std.proofs.lemmas.List.Sorted.{IsPermutation-reverse, sum_by-IsPermutation}
use Rattle.std.proofs.lemmas.List.Sums.{sum_by-cons, sum_by_more}
use Rattle.larch_derive.specs.declared.builder.Builder.{Builder}
use Rattle.larch_prove.proofs.Marked.{end_of}
use Rattle.larch_prove.specs.State.{waiting_for, waiting_in}
use Rattle.larch_prove_resuming.specs.ProveBoxesLeave.{left_of}
use Rattle.larch_prove_resuming.specs.ProveDraftDraft.{IsProofBy, IsProofOf, Stands, below_in}
use Rattle.larch_prove_resuming.specs.ProveDraftDraftDraft.{Draft}
use Rattle.larch_prove_resuming.specs.ProveInvariantBook as kept
use Rattle.larch_prove_resuming.specs.ProveInvariantBook.{Done, Kept, levels_of}
use Rattle.larch_prove_resuming.specs.ProveInvariantHolding.{Holds, RunsIfAny}
use Rattle.larch_prove_resuming.specs.ProveLevelsLevel.{IsKept, RunsLikeAny}
use Rattle.larch_prove_resuming.specs.ProveLevelsLevelLevel.{Level}
use Rattle.larch_prove_resuming.specs.ProveLevelsLevelRunning.{Running}
use Rattle.larch_prove_meaning.specs.Levels as defined
use Rattle.larch_prove_meaning.specs.Levels.{Proof, open_goals}
use Rattle.larch_prove_meaning.specs.Plans as planned
use Rattle.larch_prove_meaning.specs.Replays.{Proved, Suspended, outcome_of, told_number}
use Rattle.larch_prove_resuming.specs.ProvePlansPlanning.{subgoal_of}
use Rattle.larch_prove_resuming.specs.ProvePlansSubgoalsPlan.{Plan}
use Rattle.larch_store.specs.Numbered.{Numbered, term_of}
use Rattle.larch_term.specs.Tree.{Tree}
use Rattle.larch_term.specs.declared.statement.Statement.{Statement}
use Rattle.larch_term.specs.declared.statement.Theory.{Theory}

-- ---- a level

-- how many subgoals there are: those that were proved, the open one, and those that wait
ordered : (subgoals done : List planned.Subgoal) (now : planned.Subgoal) (remaining : List planned.Subgoal)
    → subgoals ≡ done ++ now ∷ remaining → length subgoals ≡ length done + (1 + length remaining)
ordered subgoals done now remaining e =
    ap length e ∙ (length-append done (now ∷ remaining) ∙ ap (λ n. length done + n) (omega arith))

by_running : (a b : Builder) (r : Option Running) (q : Option kept.Running) (level : defined.Level)
    → RunsLikeAny r q level.remaining → RunsIfAny a b level q → waiting_for r ≡ length level.remaining
by_running a b None None level l h = sym (ap length h)
by_running a b None (Some q) level l h = absurd l
by_running a b (Some r) None level l h = absurd l
by_running a b (Some r) (Some q) level l h =
    let planned = ap (λ (x : Plan). length x.subgoals) l.plan in
    let as_many = length-map q.plan.subgoals subgoal_of in
    let done = ordered q.plan.subgoals (map (λ (d : Done). d.subgoal) q.done) q.now level.remaining h.order in
    let each = length-map q.done (λ (d : Done). d.subgoal) in
    let left = ap length l.left in
    let lefts = length-map q.done (λ (d : Done). d.left) in
    let ways = length-map r.left left_of in
    omega (arith, planned, as_many, done, each, left, lefts, ways)

waits_so : (a b : Builder) (l : Level) (k : Kept) → IsKept l k → RunsIfAny a b k.level k.book.running
    → waiting_in l ≡ length k.level.remaining
waits_so a b l k is runs = by_running a b l.running k.book.running k.level is.1 runs

-- ---- all levels

all_wait : (t : Theory) (s : Statement) (b : Builder) (ls : List Level) (ks : List Kept) → Holds t s b ks
    → AllZip IsKept ls ks
    → sum_by waiting_in ls ≡ sum_by (λ (level : defined.Level). length level.remaining) (levels_of ks)
all_wait t s b [] [] h z = refl
all_wait t s b [] (k ∷ ks) h z = absurd z
all_wait t s b (l ∷ ls) [] h z = absurd z
all_wait t s b (l ∷ ls) (k ∷ ks) h z =
    let held = h.1.1.1 in
    sum_by-cons waiting_in l ls
    ∙ (ap₂ (λ (n m : ℕ). n + m) (waits_so held.outside b l k z.0 held.running) (all_wait t s h.0 ls ks h.1.0 z.1)
    ∙ sym (sum_by-cons (λ (level : defined.Level). length level.remaining) k.level (levels_of ks)))

goals_so : (t : Theory) (s : Statement) (store : List Numbered) (d : Draft) (p : Proof) (k : Kept) (ks : List Kept)
    → Stands t s store d p k ks → 1 + sum_by waiting_in (d.current ∷ below_in d) ≡ open_goals p
goals_so t s store d p k ks w =
    ap (λ n. 1 + n)
    (all_wait t s d.builder (d.current ∷ below_in d) (k ∷ ks) w.holds.held (w.current, w.below.kept)
    ∙ ap (sum_by (λ (level : defined.Level). length level.remaining)) w.holds.levels_are)

-- the levels below are counted the nearest last
pub counted_so : (d : Draft)
    → sum_by waiting_in (d.current ∷ below_in d)
    ≡ waiting_in d.current + sum_by waiting_in (map (λ l. l.value) d.below.items)
counted_so d =
    let ls : List Level = map (λ l. l.value) d.below.items in
    sum_by-cons waiting_in d.current (reverse ls)
    ∙ ap (λ n. waiting_in d.current + n) (sum_by-IsPermutation waiting_in ls (reverse ls) (IsPermutation-reverse ls))

-- ---- numbers as they are told

-- nothing waits where no method runs
pub none_waits : (r : Option Running) → ((x : Running) → r ≡ Some x → ⊥) → 0 ≡ told_number (waiting_for r)
none_waits None n = refl
none_waits (Some x) n = absurd (n x refl)

at_least : (n : ℕ) (b : Bool) → ltb n 4_294_967_296 ≡ b → (n < 4_294_967_296 → ⊥) → 4_294_967_296 ≤ n
at_least n true e h = absurd (h (ltb-true n 4_294_967_296 e))
at_least n false e h = ltb-false n 4_294_967_296 e

told_by : {E : Type 0} (t : Result ℕ E) (n m : ℕ) → OkIff t (n < 4_294_967_296) n
    → m ≡ result_unwrap_or t 4_294_967_295 → m ≡ told_number n
told_by (Ok x) n m h e =
    let within : n < 4_294_967_296 = h.0 in
    let same : x ≡ n = h.1 in
    let is : m ≡ x = e in
    omega (arith, within, same, is)
told_by (Err x) n m h e =
    let above : 4_294_967_296 ≤ n = at_least n (ltb n 4_294_967_296) refl h in
    let is : m ≡ 4_294_967_295 = e in
    omega (arith, above, is)

-- those of the plan that weren't left, but for the open one
pub running_waits : {E : Type 0} (r : Option Running) (q : Running) (all left begun sub m : ℕ) (t : Result ℕ E)
    → r ≡ Some q → all ≡ length q.planned.value.plan.subgoals → left ≡ length q.left
    → all < 18_446_744_073_709_551_616 → begun ≡ min (left + 1) 18_446_744_073_709_551_615 → sub ≡ all - begun
    → OkIff t (sub < 4_294_967_296) sub → m ≡ result_unwrap_or t 4_294_967_295 → m ≡ told_number (waiting_for r)
running_waits r q all left begun sub m t is planned ways room begins subtracts tried e =
    let n : sub ≡ length q.planned.value.plan.subgoals - (length q.left + 1) =
    omega (arith, planned, ways, room, begins, subtracts) in
    told_by t sub m tried e ∙ ap told_number (n ∙ sym (ap waiting_for is))

-- the goals of the current level
pub first_told : (a w g : ℕ) → w ≡ told_number a → g ≡ min (w + 1) 4_294_967_295 → g ≡ told_number (1 + (a + 0))
first_told a w g e h = omega (arith, e, h)

-- those of one level more
pub more_told : {X : Type 0} (xs ys : List X) (f : X → ℕ) (a i : ℕ) (x : X) (g w r : ℕ) → ys ≡ xs
    → x ≡ get_or ys i x → i < length ys → g ≡ told_number (1 + (a + sum_by f (take i xs))) → w ≡ told_number (f x)
    → r ≡ min (g + w) 4_294_967_295 → r ≡ told_number (1 + (a + sum_by f (take (i + 1) xs)))
more_told xs ys f a i x g w r same is within e h k =
    let here : i < length xs = subst (λ zs. i < length zs) same within in
    let there : x ≡ get_or xs i x = is ∙ ap (λ zs. get_or zs i x) same in
    let more : sum_by f (take (i + 1) xs) ≡ sum_by f (take i xs) + f x =
    sum_by_more f xs i x here ∙ ap (λ y. sum_by f (take i xs) + f y) (sym there) in
    omega (arith, e, h, k, more)

sum_mapped : {X : Type 0} (xs : List X) (g : X → Level)
    → sum_by waiting_in (map g xs) ≡ sum_by (λ x. waiting_in (g x)) xs
sum_mapped [] g = refl
sum_mapped (x ∷ xs) g =
    sum_by-cons waiting_in (g x) (map g xs)
    ∙ (ap (λ n. waiting_in (g x) + n) (sum_mapped xs g) ∙ sym (sum_by-cons (λ y. waiting_in (g y)) x xs))

-- those of all levels
pub all_told : (d : Draft) (ys : List (Rc Level Global)) (i g : ℕ) → ys ≡ d.below.items → length ys ≤ i
    → g ≡ told_number (1 + (waiting_in d.current + sum_by (λ l. waiting_in l.value) (take i d.below.items)))
    → g ≡ told_number (1 + sum_by waiting_in (d.current ∷ below_in d))
all_told d ys i g same past e =
    let whole = take_all i d.below.items (subst (λ zs. length zs ≤ i) same past) in
    e
    ∙ ap (λ n. told_number (1 + n))
    (ap (λ zs. waiting_in d.current + sum_by (λ l. waiting_in l.value) zs) whole
    ∙ (ap (λ n. waiting_in d.current + n) (sym (sum_mapped d.below.items (λ l. l.value))) ∙ sym (counted_so d)))

-- ---- outcomes

pub proved_outcome : (t : Theory) (s : Statement) (store : List Numbered) (d : Draft) (p : Proof)
    → d.is_proved ≡ true → IsProofOf t s store d p → Proved ≡ outcome_of (Ok p)
proved_outcome t s store d p e w =
    sym (ap (λ b. if b then Proved else Suspended (told_number (open_goals p)) p.current.goal)
    (end_of t s store d p w ∙ e))

suspended_by : (t : Theory) (s : Statement) (store : List Numbered) (d : Draft) (p : Proof) (n : ℕ) (goal : Tree)
    (b : Bool) → b ≡ false → n ≡ told_number (1 + sum_by waiting_in (d.current ∷ below_in d))
    → goal ≡ term_of d.current.goal.term → IsProofBy b t s store d p
    → Suspended n goal ≡ (if b then Proved else Suspended (told_number (open_goals p)) p.current.goal)
suspended_by t s store d p n goal true e h g w = absurd (cc)
suspended_by t s store d p n goal false e h g w =
    let z = w.1.1 in
    ap₂ (λ (m : ℕ) (u : Tree). Suspended m u) (h ∙ ap told_number (goals_so t s store d p w.0 w.1.0 z))
    (g ∙ (sym z.current.0.goal ∙ ap (λ (level : defined.Level). level.goal) z.level_is))

pub suspended_outcome : (t : Theory) (s : Statement) (store : List Numbered) (d : Draft) (p : Proof) (n : ℕ)
    (goal : Tree) → d.is_proved ≡ false → n ≡ told_number (1 + sum_by waiting_in (d.current ∷ below_in d))
    → goal ≡ term_of d.current.goal.term → IsProofOf t s store d p → Suspended n goal ≡ outcome_of (Ok p)
suspended_outcome t s store d p n goal e h g w =
    suspended_by t s store d p n goal p.is_proved (end_of t s store d p w ∙ e) h g w

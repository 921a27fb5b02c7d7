-- That a completion is complete only behind the last test.
use Rattle.std.specs.Prelude.{◌≡◌, ℕ, zero, suc, Bool, true, false, if◌then◌else◌, List, [], ◌∷◌, ◌++◌, drop, Option}
use Rattle.std.specs.Prelude.{Some, None, Result, Ok, Err, refl}
use Rattle.std.proofs.Common.{ap, sym, subst, ◌∙◌}
use Rattle.larch_order.specs.Greater.{greater}
use Rattle.larch_order.specs.declared.precedence.Ranked.{Ranked}
use Rattle.larch_pairs.specs.Unify.{Oversize}
use Rattle.larch_pairs_critical.specs.Pairs.{critical_pairs}
use Rattle.larch_pairs_critical.specs.declared.pair.Pair.{Pair}
use Rattle.larch_term.specs.Equality.{same_tree}
use Rattle.larch_term.specs.declared.statement.Statement.{Statement}
use Rattle.larch_term.specs.declared.statement.Statement.TheVariants.{Equation}
use Rattle.larch_term.specs.declared.statement.Theory.{Theory}
use Rattle.larch_rewrite_meaning.specs.Sides.{Sides, flip}
use Rattle.larch_rewrite_meaning.specs.Work.{Work, Made, OverLimit, OverSize}
use Rattle.larch_complete_meaning.specs.Steps.{Step, after, unless_event}
use Rattle.larch_complete_meaning.specs.Completion.{Completion, add_rule, complete, complete_from, ends, equations_of}
use Rattle.larch_complete_meaning.specs.Completion.{go_on, most_equations, next_equation, take_found, task_of}
use Rattle.larch_complete_meaning.specs.Completion.{without_next}
use Rattle.larch_complete_meaning.specs.LastTest.{first_apart, first_apart_in, last_test, unless_found}
use Rattle.larch_complete_meaning.specs.Pairs.{as_equations, as_rule, pairs_from, pairs_in, pairs_in_each, pairs_of_all}
use Rattle.larch_complete_meaning.specs.Pairs.{pairs_of_new}
use Rattle.larch_complete_meaning.specs.Rounds.{Stage, Task, normal_sides, orient, reduce, settle, with_rule}
use Rattle.larch_complete_meaning.specs.Rounds.{with_waiting}
use Rattle.larch_complete_meaning.specs.declared.answer.CompletionAnswer.{CompletionAnswer}
use Rattle.larch_complete_meaning.specs.declared.answer.CompletionAnswer.TheVariants.{Complete, Limit, Spent, TooLarge}
use Rattle.larch_complete_meaning.specs.declared.answer.CompletionAnswer.TheVariants.{Unoriented}

-- ---- steps that don't end as complete

abbrev IsOpen : {A : Type 0} → Step A → Type 0
IsOpen (Ok x) = Unit {0}
IsOpen (Err answer) = answer ≡ Complete → ⊥

after_open : {A B : Type 0} (s : Step A) (next : A → Step B) → IsOpen s → ((x : A) → IsOpen (next x))
    → IsOpen (after s next)
after_open (Ok x) next h k = k x
after_open (Err answer) next h k = h

event_open : {A : Type 0} (w : Work A) → IsOpen (unless_event w)
event_open (Made x b) = tt
event_open OverLimit = λ e. cc
event_open OverSize = λ e. cc

equations_open : (r : Result (List Pair) Oversize) → IsOpen (as_equations r)
equations_open (Ok pairs) = tt
equations_open (Err e) = λ h. cc

pairs_open : (r q : Sides) (b : Bool) → IsOpen (pairs_in r q b)
pairs_open r q b = equations_open (critical_pairs (as_rule r) (as_rule q) b)

new_open : (rules : List Sides) (new : Sides) → IsOpen (pairs_of_new rules new)
new_open [] new = pairs_open new new true
new_open (r ∷ rules) new =
    after_open (pairs_in r new false)
    (λ in_rule. after (pairs_in new r false) (λ in_new. after (pairs_of_new rules new)
    (λ others. Ok (in_rule ++ (in_new ++ others))))) (pairs_open r new false)
    (λ in_rule. after_open (pairs_in new r false)
    (λ in_new. after (pairs_of_new rules new) (λ others. Ok (in_rule ++ (in_new ++ others)))) (pairs_open new r false)
    (λ in_new. after_open (pairs_of_new rules new) (λ others. Ok (in_rule ++ (in_new ++ others))) (new_open rules new)
    (λ others. tt)))

orient_by : (b c : Bool) (e : Sides) (s : Statement)
    → IsOpen (if b then Ok e else if c then Ok (flip e) else Err (Unoriented s))
orient_by true c e s = tt
orient_by false true e s = tt
orient_by false false e s = λ h. cc

orient_open : (ranks : List Ranked) (e : Sides) → IsOpen (orient ranks e)
orient_open ranks e =
    orient_by (greater ranks e.left e.right) (greater ranks e.right e.left) e (Equation e.left e.right)

settle_by : (b : Bool) (ranks : List Ranked) (e : Sides)
    → IsOpen (elim b [ true ↦ Ok None | false ↦ after (orient ranks e) (λ rule. Ok (Some rule)) ])
settle_by true ranks e = tt
settle_by false ranks e = after_open (orient ranks e) (λ rule. Ok (Some rule)) (orient_open ranks e) (λ rule. tt)

settle_open : (task : Task) (rules : List Sides) (e : Sides) → IsOpen (settle task rules e)
settle_open task rules e =
    after_open (reduce task rules e)
    (λ found. elim (same_tree found.left found.right)
    [ true ↦ Ok None | false ↦ after (orient task.ranks found) (λ rule. Ok (Some rule)) ])
    (event_open (normal_sides rules e task.budget))
    (λ found. settle_by (same_tree found.left found.right) task.ranks found)

-- ---- nor does a test

apart_by : (b : Bool) (further : Step (Option Sides)) (e : Sides) → IsOpen further
    → IsOpen (elim b [ true ↦ further | false ↦ Ok (Some e) ])
apart_by true further e h = h
apart_by false further e h = tt

apart_open : (task : Task) (rules es : List Sides) → IsOpen (first_apart task rules es)
apart_open task rules [] = tt
apart_open task rules (e ∷ es) =
    after_open (reduce task rules e)
    (λ found. elim (same_tree found.left found.right) [ true ↦ first_apart task rules es | false ↦ Ok (Some e) ])
    (event_open (normal_sides rules e task.budget))
    (λ found. apart_by (same_tree found.left found.right) (first_apart task rules es) e (apart_open task rules es))

found_open : (further : Step (Option Sides)) (found : Option Sides) → IsOpen further
    → IsOpen (unless_found further found)
found_open further None h = h
found_open further (Some e) h = tt

abbrev AreOpen : List (Step (List Sides)) → Type 0
AreOpen [] = Unit {0}
AreOpen (group ∷ groups) = IsOpen group × AreOpen groups

both_open : (gs hs : List (Step (List Sides))) → AreOpen gs → AreOpen hs → AreOpen (gs ++ hs)
both_open [] hs g h = h
both_open (group ∷ gs) hs g h = (g.0, both_open gs hs g.1 h)

groups_open : (task : Task) (rules : List Sides) (groups : List (Step (List Sides))) → AreOpen groups
    → IsOpen (first_apart_in task rules groups)
groups_open task rules [] h = tt
groups_open task rules (group ∷ groups) h =
    after_open group
    (λ es. after (first_apart task rules es) (λ found. unless_found (first_apart_in task rules groups) found)) h.0
    (λ es. after_open (first_apart task rules es) (λ found. unless_found (first_apart_in task rules groups) found)
    (apart_open task rules es)
    (λ found. found_open (first_apart_in task rules groups) found (groups_open task rules groups h.1)))

from_open : (i : ℕ) (r : Sides) (j : ℕ) (qs : List Sides) → AreOpen (pairs_from i r j qs)
from_open i r j [] = tt
from_open i r j (q ∷ qs) = (pairs_open r q _, from_open i r (suc j) qs)

each_open : (rules : List Sides) (i : ℕ) (rs : List Sides) → AreOpen (pairs_in_each rules i rs)
each_open rules i [] = tt
each_open rules i (r ∷ rs) =
    both_open (pairs_from i r 0 rules) (pairs_in_each rules (suc i) rs) (from_open i r 0 rules)
    (each_open rules (suc i) rs)

test_open : (task : Task) (rules : List Sides) → IsOpen (last_test task rules)
test_open task rules =
    groups_open task rules (Ok task.equations ∷ pairs_of_all rules) (tt, each_open rules 0 rules)

-- ---- the end

-- the last test finds nothing
abbrev pub Passes : Task → List Sides → Type 0
Passes task rules = last_test task rules ≡ Ok None

refuted : {A : Type 0} (s : Step A) (P : Type 0) → IsOpen s → s ≡ Err Complete → P
refuted (Ok x) P h e = cc
refuted (Err answer) P h e = let k : answer ≡ Complete = cc in absurd (h k)

-- behind a step it is complete where it goes on so, or where the step is the last test's
step_complete : {A : Type 0} (task : Task) (stage : Stage) (next : A → Completion) (s : Step A)
    → (s ≡ Err Complete → Passes task stage.rules)
    → ((x : A) → (next x).answer ≡ Complete → Passes task (next x).rules)
    → (go_on stage next s).answer ≡ Complete → Passes task (go_on stage next s).rules
step_complete task stage next (Ok x) h k e = k x e
step_complete task stage next (Err answer) h k e = h (ap Err e)

taken_complete : (s : Step (Option Sides)) → IsOpen s → take_found s ≡ Err Complete → s ≡ Ok None
taken_complete (Ok None) h e = refl
taken_complete (Ok (Some d)) h e = cc
taken_complete (Err answer) h e = let k : answer ≡ Complete = cc in absurd (h k)

next_complete : (task : Task) (rules waiting : List Sides)
    → next_equation task (record { rules = rules; waiting = waiting }) ≡ Err Complete → Passes task rules
next_complete task rules [] e = taken_complete (last_test task rules) (test_open task rules) e
next_complete task rules (d ∷ ds) e = cc

added_complete : (task : Task) (next : Stage → Completion) (stage : Stage) (rule : Option Sides)
    → ((later : Stage) → (next later).answer ≡ Complete → Passes task (next later).rules)
    → (add_rule next stage rule).answer ≡ Complete → Passes task (add_rule next stage rule).rules
added_complete task next stage None k e = k stage e
added_complete task next stage (Some rule) k e =
    let more = with_rule stage rule in
    step_complete task more (λ pairs. next (with_waiting more pairs)) (pairs_of_new stage.rules rule)
    (refuted (pairs_of_new stage.rules rule) (Passes task more.rules) (new_open stage.rules rule))
    (λ pairs h. k (with_waiting more pairs) h) e

from_complete : (n : ℕ) (task : Task) (stage : Stage) → (complete_from n task stage).answer ≡ Complete
    → Passes task (complete_from n task stage).rules
from_complete zero task stage e =
    step_complete task stage (λ d. ends stage Spent) (next_equation task stage)
    (next_complete task stage.rules stage.waiting) (λ d h. cc) e
from_complete (suc n) task stage e =
    let next : Stage → Completion = λ later. complete_from n task later in
    step_complete task stage
    (λ d. go_on stage (λ rule. add_rule next (without_next stage) rule) (settle task stage.rules d))
    (next_equation task stage) (next_complete task stage.rules stage.waiting)
    (λ d h. step_complete task stage (λ rule. add_rule next (without_next stage) rule) (settle task stage.rules d)
    (refuted (settle task stage.rules d) (Passes task stage.rules) (settle_open task stage.rules d))
    (λ rule k. added_complete task next (without_next stage) rule (λ later i. from_complete n task later i) k) h) e

pub complete_passes : (theory : Theory) (limit : ℕ) → (complete theory limit).answer ≡ Complete
    → Passes (task_of theory limit) (complete theory limit).rules
unfolding complete
complete_passes theory limit e =
    from_complete most_equations (task_of theory limit) (record { rules = []; waiting = equations_of theory }) e

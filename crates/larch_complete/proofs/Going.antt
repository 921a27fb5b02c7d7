-- Rounds: what an equation leads to.
use Rattle.std.specs.Prelude.{◌≡◌, ◌-◌, ◌+◌, ◌<◌, ◌≤◌, ℕ, suc, List, [], ◌∷◌, ◌++◌, Some, None, Ok, Err}
use Rattle.std.specs.Prelude.{All, drop}
use Rattle.std.proofs.Common.{ap, ap₂, arith, subst, sym, ◌∙◌}
use Rattle.larch_complete.specs.Work.{EndsWith, rounds_from}
use Rattle.larch_complete_meaning.specs.Completion.{Completion, Decides, IsDerivable, add_rule, complete}
use Rattle.larch_complete_meaning.specs.Completion.{complete_from, ends, equations_of, go_on, most_equations}
use Rattle.larch_complete_meaning.specs.Completion.{next_equation, take_found, task_of}
use Rattle.larch_complete_meaning.specs.Completion.{without_next}
use Rattle.larch_complete_meaning.specs.LastTest.{last_test}
use Rattle.larch_complete_meaning.specs.Pairs.{pairs_of_new}
use Rattle.larch_complete_meaning.specs.Rounds.{Stage, Task, settle, with_rule, with_waiting}
use Rattle.larch_complete_meaning.specs.declared.answer.CompletionAnswer.{CompletionAnswer}
use Rattle.larch_complete_meaning.specs.declared.answer.CompletionAnswer.TheVariants.{Complete, Spent}
use Rattle.larch_complete_meaning.proofs.Deriving.{completion_derivable}
use Rattle.larch_complete_meaning.proofs.Joining.{complete_decides}
use Rattle.larch_complete_pairs.specs.Said.{Stops}
use Rattle.larch_complete_rounds.specs.Halt.{Tells, from_pairing}
use Rattle.larch_complete_rounds.specs.declared.halt.Halt.{Halt}
use Rattle.larch_complete_rounds.specs.declared.halt.Halt.TheVariants.{Ends, Memory}
use Rattle.larch_pairs.specs.declared.refusal.PairRefusal.{PairRefusal}
use Rattle.larch_pairs.specs.declared.refusal.PairRefusal.TheVariants.{TooLarge as pair_too_large}
use Rattle.larch_pairs.specs.declared.refusal.PairRefusal.TheVariants.{Memory as pair_memory}
use Rattle.larch_rewrite_meaning.specs.Sides.{Sides}
use Rattle.larch_term.specs.Statement.{IsWellSortedTheory}
use Rattle.larch_term.specs.declared.statement.Theory.{Theory}

-- ---- the next equation

next_by : (task : Task) (stage : Stage) (ws : List Sides) → stage.waiting ≡ ws
    → next_equation task stage
    ≡ elim ws [ [] ↦ take_found (last_test task stage.rules) | e ∷ es ↦ Ok e ]
next_by task stage ws e =
    ap (λ xs. elim xs [ [] ↦ take_found (last_test task stage.rules) | d ∷ ds ↦ Ok d ]) e

pub next_waits : (task : Task) (stage : Stage) (e : Sides) (es : List Sides) → stage.waiting ≡ e ∷ es
    → next_equation task stage ≡ Ok e
next_waits task stage e es w = next_by task stage (e ∷ es) w

pub next_found : (task : Task) (stage : Stage) (rules : List Sides) (e : Sides) → stage.waiting ≡ []
    → rules ≡ stage.rules → last_test task rules ≡ Ok (Some e) → next_equation task stage ≡ Ok e
next_found task stage rules e w r h = next_by task stage [] w ∙ ap take_found (ap (last_test task) (sym r) ∙ h)

pub next_complete : (task : Task) (stage : Stage) (rules : List Sides) → stage.waiting ≡ [] → rules ≡ stage.rules
    → last_test task rules ≡ Ok None → next_equation task stage ≡ Err Complete
next_complete task stage rules w r h = next_by task stage [] w ∙ ap take_found (ap (last_test task) (sym r) ∙ h)

pub next_halts : (task : Task) (stage : Stage) (rules : List Sides) (x : Halt) → stage.waiting ≡ []
    → rules ≡ stage.rules → Tells (last_test task rules) x → Tells (next_equation task stage) x
next_halts task stage rules (Ends answer) w r h =
    next_by task stage [] w ∙ ap take_found (ap (last_test task) (sym r) ∙ h)
next_halts task stage rules Memory w r h = tt

-- nothing is taken from what is empty
pub still_without : (stage : Stage) → stage.waiting ≡ [] → stage ≡ without_next stage
still_without stage w =
    ap (λ (ws : List Sides). record { rules = stage.rules; waiting = ws }) (w ∙ sym (ap (drop 1) w))

-- ---- a round

abbrev ended_with : List Sides → CompletionAnswer → Completion
ended_with rules answer = record { answer = answer; rules = rules }

-- a stage that ends has these rules
ended : (c : Completion) (stage : Stage) (rules : List Sides) (answer : CompletionAnswer) → rules ≡ stage.rules
    → c ≡ ends stage answer → c ≡ record { answer = answer; rules = rules }
ended c stage rules answer r e = e ∙ ap (λ (rs : List Sides). ended_with rs answer) (sym r)

pub next_ends : (n : ℕ) (task : Task) (stage : Stage) (rules : List Sides) (x : Halt) → rules ≡ stage.rules
    → Tells (next_equation task stage) x → EndsWith (rounds_from (suc n) task stage) rules x
unfolding rounds_from
next_ends n task stage rules (Ends answer) r h =
    ended (rounds_from (suc n) task stage) stage rules answer r
    (ap (go_on stage (λ e. go_on stage (λ q. add_rule (λ later. complete_from n task later) (without_next stage) q)
    (settle task stage.rules e))) h)
next_ends n task stage rules Memory r h = tt

round_by : (n : ℕ) (task : Task) (stage : Stage) (e : Sides) → next_equation task stage ≡ Ok e
    → rounds_from (suc n) task stage
    ≡ go_on stage (λ rule. add_rule (rounds_from n task) (without_next stage) rule) (settle task stage.rules e)
unfolding rounds_from
round_by n task stage e h =
    ap (go_on stage (λ d. go_on stage (λ rule. add_rule (λ later. complete_from n task later) (without_next stage) rule)
    (settle task stage.rules d))) h

pub settle_ends : (n : ℕ) (task : Task) (stage : Stage) (rules later : List Sides) (e : Sides) (x : Halt)
    → next_equation task stage ≡ Ok e → later ≡ rules → rules ≡ stage.rules → Tells (settle task later e) x
    → EndsWith (rounds_from (suc n) task stage) rules x
settle_ends n task stage rules later e (Ends answer) h l r k =
    ended (rounds_from (suc n) task stage) stage rules answer r
    (round_by n task stage e h
    ∙ ap (go_on stage (λ rule. add_rule (rounds_from n task) (without_next stage) rule))
    (ap (λ rs. settle task rs e) (sym (l ∙ r)) ∙ k))
settle_ends n task stage rules later e Memory h l r k = tt

pub dropped : (n : ℕ) (task : Task) (stage later : Stage) (rules : List Sides) (e : Sides)
    → next_equation task stage ≡ Ok e → rules ≡ stage.rules → settle task rules e ≡ Ok None
    → later ≡ without_next stage → rounds_from (suc n) task stage ≡ rounds_from n task later
dropped n task stage later rules e h r k l =
    round_by n task stage e h
    ∙ ap (go_on stage (λ rule. add_rule (rounds_from n task) (without_next stage) rule))
    (ap (λ rs. settle task rs e) (sym r) ∙ k)
    ∙ ap (rounds_from n task) (sym l)

pub made : (n : ℕ) (task : Task) (stage later : Stage) (rules : List Sides) (e rule : Sides)
    → next_equation task stage ≡ Ok e → rules ≡ stage.rules → settle task rules e ≡ Ok (Some rule)
    → later ≡ without_next stage → rounds_from (suc n) task stage ≡ add_rule (rounds_from n task) later (Some rule)
made n task stage later rules e rule h r k l =
    round_by n task stage e h
    ∙ ap (go_on stage (λ q. add_rule (rounds_from n task) (without_next stage) q))
    (ap (λ rs. settle task rs e) (sym r) ∙ k)
    ∙ ap (λ s. add_rule (rounds_from n task) s (Some rule)) (sym l)

pub ends_same : (c d : Completion) (rules : List Sides) (x : Halt) → c ≡ d → EndsWith d rules x → EndsWith c rules x
ends_same c d rules (Ends answer) e h = e ∙ h
ends_same c d rules Memory e h = tt

-- ---- a new rule

pub added_goes : (next : Stage → Completion) (stage : Stage) (rule : Sides) (pairs : List Sides)
    → pairs_of_new stage.rules rule ≡ Ok pairs
    → add_rule next stage (Some rule) ≡ next (with_waiting (with_rule stage rule) pairs)
added_goes next stage rule pairs h =
    ap (go_on (with_rule stage rule) (λ es. next (with_waiting (with_rule stage rule) es))) h

pub added_ends : (next : Stage → Completion) (stage : Stage) (rule : Sides) (x : PairRefusal)
    → Stops (pairs_of_new stage.rules rule) x
    → EndsWith (add_rule next stage (Some rule)) (stage.rules ++ rule ∷ []) (from_pairing x)
added_ends next stage rule pair_too_large h =
    ap (go_on (with_rule stage rule) (λ es. next (with_waiting (with_rule stage rule) es))) h
added_ends next stage rule pair_memory h = tt

-- ---- all rounds

pub last_ends : (task : Task) (stage : Stage) (rules : List Sides) (x : Halt) → rules ≡ stage.rules
    → Tells (next_equation task stage) x → EndsWith (rounds_from 0 task stage) rules x
unfolding rounds_from
last_ends task stage rules (Ends answer) r h =
    ended (rounds_from 0 task stage) stage rules answer r (ap (go_on stage (λ e. ends stage Spent)) h)
last_ends task stage rules Memory r h = tt

pub last_spent : (task : Task) (stage : Stage) (rules : List Sides) (e : Sides) → rules ≡ stage.rules
    → next_equation task stage ≡ Ok e → EndsWith (rounds_from 0 task stage) rules (Ends Spent)
unfolding rounds_from
last_spent task stage rules e r h =
    ended (rounds_from 0 task stage) stage rules Spent r (ap (go_on stage (λ d. ends stage Spent)) h)

-- of so many rounds some are left
pub left_of : (most i : ℕ) → i < most → most - i ≡ suc (most - (i + 1))
left_of most i l = omega (arith, l)

pub round_left : (most i : ℕ) (task : Task) (start now later : Stage) → i < most
    → rounds_from (most - i) task now ≡ rounds_from most task start
    → ((n : ℕ) → rounds_from (suc n) task now ≡ rounds_from n task later)
    → rounds_from (most - (i + 1)) task later ≡ rounds_from most task start
round_left most i task start now later l h g =
    sym (g (most - (i + 1))) ∙ sym (ap (λ n. rounds_from n task now) (left_of most i l)) ∙ h

pub round_ended : (most i : ℕ) (task : Task) (start now : Stage) (rules : List Sides) (x : Halt) → i < most
    → rounds_from (most - i) task now ≡ rounds_from most task start
    → ((n : ℕ) → EndsWith (rounds_from (suc n) task now) rules x)
    → EndsWith (rounds_from most task start) rules x
round_ended most i task start now rules x l h g =
    ends_same (rounds_from most task start) (rounds_from (suc (most - (i + 1))) task now) rules x
    (sym h ∙ ap (λ n. rounds_from n task now) (left_of most i l)) (g (most - (i + 1)))

none_left : (most i : ℕ) → most ≤ i → most - i ≡ 0
none_left most i l = omega (arith, l)

pub rounds_ended : (most i : ℕ) (task : Task) (start now : Stage) → most ≤ i
    → rounds_from (most - i) task now ≡ rounds_from most task start
    → rounds_from most task start ≡ rounds_from 0 task now
rounds_ended most i task start now l h = sym h ∙ ap (λ n. rounds_from n task now) (none_left most i l)

-- ---- the whole

pub is_completion : (theory : Theory) (limit : ℕ) (task : Task) (stage : Stage) (c : Completion)
    → task ≡ task_of theory limit → stage ≡ record { rules = []; waiting = equations_of theory }
    → rounds_from most_equations task stage ≡ c → c ≡ complete theory limit
unfolding complete rounds_from
is_completion theory limit task stage c t s e = sym e ∙ ap₂ (complete_from most_equations) t s

pub whole_derivable : (theory : Theory) (limit : ℕ) (c : Completion) → c ≡ complete theory limit
    → IsWellSortedTheory theory → All (IsDerivable theory) c.rules
whole_derivable theory limit c e w =
    subst (λ (d : Completion). All (IsDerivable theory) d.rules) (sym e) (completion_derivable theory limit w)

pub whole_decides : (theory : Theory) (limit : ℕ) (c : Completion) → c ≡ complete theory limit → c.answer ≡ Complete
    → Decides c.rules limit (equations_of theory)
whole_decides theory limit c e =
    subst (λ (d : Completion). d.answer ≡ Complete → Decides d.rules limit (equations_of theory)) (sym e)
    (complete_decides theory limit)

-- A block is replayed: its opening, and then command by command.
use Rattle.std.specs.Prelude.{ℕ, suc, ◌+◌, min, nat_lt, Bool, true, false, not, if◌then◌else◌, List, [], ◌∷◌}
use Rattle.std.specs.Prelude.{◌++◌, map, codes, Result, Ok, Err}
use Rattle.std.specs.List.{flat_map}
use Rattle.larch_base.specs.declared.code.Code.{Code}
use Rattle.larch_base.specs.declared.code.Code.TheVariants as refusal
use Rattle.larch_base.specs.declared.fact_name.FactLetter.{FactLetter}
use Rattle.larch_base.specs.declared.fact_name.FactLetter.TheVariants.{Axiom, Lemma}
use Rattle.larch_base.specs.declared.limits.TheConstants.{MAX_COMMANDS}
use Rattle.larch_script_commands.specs.Same.{same_truth}
use Rattle.larch_script_commands.specs.declared.command.CommandKind.{CommandKind}
use Rattle.larch_script_commands.specs.declared.command.CommandKind.TheVariants as command
use Rattle.larch_term.specs.Operator.{PlainOperator, plain}
use Rattle.larch_term.specs.Tree.{Tree, var}
use Rattle.larch_term.specs.BuiltIn.{bool_sort}
use Rattle.larch_term.specs.Truth.{truth}
use Rattle.larch_term.specs.Variable.{variables_of}
use Rattle.larch_term.specs.declared.statement.Statement.{Statement}
use Rattle.larch_term.specs.declared.statement.Statement.TheVariants.{Equation, Generated, Partitioned}
use Rattle.larch_term.specs.declared.statement.Theory.{Theory}
use Rattle.larch_rewrite_meaning.specs.CalculusFormula.{constant, apply_one, equality, formula}
use Rattle.larch_rewrite_meaning.specs.CalculusGeneration.{place_name, generation_formula}
use Rattle.larch_rewrite_meaning.specs.CalculusObservation.{observations}
use Rattle.larch_base_meaning.specs.Steps.{after}
use Rattle.larch_sorts_meaning.specs.Scope.{Variables}
use Rattle.larch_order.specs.Precedence.{precedence_of}
use Rattle.larch_rewrite_meaning.specs.Sides.{Sides, sides_of}
use Rattle.larch_prove_meaning.specs.Facts.{whole_name, no_facts, max_fact_number}
use Rattle.larch_prove_meaning.specs.NewNames.{free_name, constant_named}
use Rattle.larch_prove_meaning.specs.Plans.{holds}
use Rattle.larch_prove_meaning.specs.Levels.{Proof, EarlierDuty, Next, OfDuty, add_equation, all_supposed, normal_goal}
use Rattle.larch_prove_meaning.specs.Levels.{settle_goal}
use Rattle.larch_prove_meaning.specs.Levels.{with_goal, with_constants, open_goals, unless}
use Rattle.larch_prove_meaning.specs.Steps.{carried_out, taken_names, with_all_new}

-- where a block is refused: at a command of the preamble, at its opening, or at a command, these being counted from 1
pub data RefusalPlace : Type 0 where
  InPreamble : ℕ → RefusalPlace
  AtOpening : RefusalPlace
  AtCommand : ℕ → RefusalPlace

-- why and where a block is refused
pub record Refusal : Type 0 where
  pub place : RefusalPlace
  pub code : Code

-- what a block comes to
pub data Outcome : Type 0 where
  Proved : Outcome
  -- so many goals are open, and this is the current one
  Suspended : ℕ → Tree → Outcome
  Refused : Refusal → Outcome

-- a mark must be the next one that waits
abbrev pub mark_taken : Bool → List Bool → Next
mark_taken proved [] p = Err refusal.Mark
mark_taken proved (first ∷ others) p =
    unless refusal.Mark (same_truth first proved) (Ok (record p { waiting = others }))

-- a mark does nothing where boxes aren't checked
abbrev pub mark_command : Bool → Next
mark_command proved p = elim p.checking [
  | true ↦ mark_taken proved p.waiting p
  | false ↦ Ok p
]

-- whether no mark waits
abbrev pub is_quiet : List Bool → Bool
is_quiet [] = true
is_quiet (first ∷ others) = false

-- what is refused while a mark waits
abbrev pub unless_marks_wait : Proof → Result Proof Code → Result Proof Code
unless_marks_wait p answer = unless refusal.Mark (is_quiet p.waiting) answer

-- what is refused once the duty is proved
abbrev pub unless_proved : Proof → Result Proof Code → Result Proof Code
unless_proved p answer = unless refusal.Done (not p.is_proved) answer

-- a command by its kind: `qed` may stand behind the end, and unchecking boxes where marks wait
abbrev pub by_kind : CommandKind → Next
by_kind (command.Mark proved) p = mark_command proved p
by_kind command.Qed p = unless_marks_wait p (carried_out command.Qed p)
by_kind (command.BoxChecking false) p = unless_proved p (carried_out (command.BoxChecking false) p)
by_kind c p = unless_marks_wait p (unless_proved p (carried_out c p))

-- a command counts among those of the block, which are so many at most
abbrev pub count_command : CommandKind → Next
count_command c p =
    unless refusal.Size (nat_lt p.commands MAX_COMMANDS) (by_kind c (record p { commands = p.commands + 1 }))

-- one command of a block; what is wrong with its line comes first
unfoldable pub step : CommandKind → Next
step (command.Bad code) p = Err code
step c p = count_command c p

-- a command of the preamble: only declarations, settings and registrations may stand there
abbrev pub prepare : CommandKind → Next
prepare (command.Declare ns s) p = carried_out (command.Declare ns s) p
prepare (command.Limit n) p = carried_out (command.Limit n) p
prepare (command.BoxChecking on) p = carried_out (command.BoxChecking on) p
prepare (command.Height f g) p = carried_out (command.Height f g) p
prepare (command.Status way f) p = carried_out (command.Status way f) p
prepare (command.Bad code) p = Err code
prepare c p = Err refusal.Command

-- what a step leads to, or where it is refused
abbrev pub locate : RefusalPlace → Result Proof Code → Result Proof Refusal
locate place (Ok p) = Ok p
locate place (Err code) = Err (record { place = place; code = code })

-- a number as an outcome tells it: so much at most
abbrev pub told_number : ℕ → ℕ
told_number n = min n max_fact_number

-- the preamble, its commands being counted from a number
unfoldable pub all_prepared : ℕ → List CommandKind → Proof → Result Proof Refusal
all_prepared k [] p = Ok p
all_prepared k (c ∷ cs) p = after (locate (InPreamble (told_number k)) (prepare c p)) (λ q. all_prepared (suc k) cs q)

-- one command of a block, with the place at which it is refused
abbrev pub step_command : CommandKind → Proof → Result Proof Refusal
step_command c p = locate (AtCommand (told_number (p.commands + 1))) (step c p)

-- the commands of a block, one behind the other
abbrev pub all_stepped : List CommandKind → Proof → Result Proof Refusal
all_stepped [] p = Ok p
all_stepped (c ∷ cs) p = after (step_command c p) (λ q. all_stepped cs q)

-- equations are added in order under the name of what they come from
abbrev pub each_added : FactLetter → ℕ → List Sides → Next
each_added letter k [] p = Ok p
each_added letter k (e ∷ es) p = after (add_equation (whole_name letter k) e p) (λ q. each_added letter k es q)

-- the theory's equations as facts; all its statements are counted, from a number
abbrev pub theory_added : ℕ → List Statement → Next
theory_added k [] p = Ok p
theory_added k (s ∷ ss) p = after (each_added Axiom k (sides_of s) p) (λ q. theory_added (suc k) ss q)

-- the lemmas that are equations, as facts
abbrev pub lemmas_added : List EarlierDuty → Next
lemmas_added [] p = Ok p
lemmas_added (l ∷ ls) p = after (each_added Lemma l.number (sides_of l.statement) p) (λ q. lemmas_added ls q)

-- the variables of a term with their sorts
abbrev pub scope_of : Tree → Variables
scope_of t = map (λ v. (v.name, v.sort)) (variables_of t)

-- the goal of an equation is its formula, whose variables come into scope before those that were there
abbrev pub equation_opened : Sides → Next
equation_opened e p =
    Ok (with_goal (formula e.left e.right)
    (record p { scope = with_all_new [] (scope_of e.left ++ scope_of e.right ++ p.scope) }))

-- the goal of a generation clause: a new predicate, which what the generators make inherits, holds of x
abbrev pub generation_opened : List ℕ → List PlainOperator → Next
generation_opened s fs p =
    let gen : PlainOperator = record {
      name = plain (free_name (taken_names p) (codes "gen"));
      domain = s ∷ [];
      range = bool_sort;
    } in
    all_supposed (map (λ f. holds (generation_formula gen s f)) fs)
    (with_constants (gen ∷ []) (with_goal (apply_one gen (var (codes "x") s)) p))

-- the goal of a partition clause: two new constants of which the observers show the same are equal
abbrev pub partition_opened : List ℕ → List PlainOperator → Next
partition_opened s os p =
    let l = free_name (taken_names p) (codes "lc") in
    let r = free_name (l ∷ taken_names p) (codes "rc") in
    let c = constant_named l s in
    let d = constant_named r s in
    all_supposed (flat_map sides_of (observations place_name s os (constant c) (constant d)))
    (with_constants (c ∷ d ∷ []) (with_goal (equality s (constant c) (constant d)) p))

-- the goal of a duty, and its hypotheses
abbrev pub goal_made : Statement → Next
goal_made (Equation l r) p = equation_opened (record { left = l; right = r }) p
goal_made (Generated s fs) p = generation_opened s fs p
goal_made (Partitioned s fs) p = partition_opened s fs p

-- the facts, then the goal with its hypotheses, and then whether it is proved at once
unfoldable pub duty_opened : Statement → Next
duty_opened s p =
    after (theory_added 1 p.theory.statements p) (λ q.
    after (lemmas_added q.lemmas q) (λ r.
    after (goal_made s r) (λ g.
    after (normal_goal g) settle_goal)))

-- what a replay starts from
pub record Duty : Type 0 where
  pub theory : Theory
  pub statement : Statement
  pub lemmas : List EarlierDuty

-- a proof before its opening
abbrev pub blank : Duty → ℕ → Proof
blank duty limit = record {
  theory = duty.theory;
  lemmas = duty.lemmas;
  current = record { purpose = OfDuty; facts = no_facts; goal = truth; remaining = [] };
  below = [];
  is_proved = false;
  scope = [];
  constants = [];
  ranks = precedence_of duty.theory.operators;
  limit = limit;
  commands = 0;
  checking = false;
  waiting = [];
  next_hypothesis = 1;
  next_derived = 1;
}

-- a proof as it is behind the preamble and its opening
abbrev pub begun_with : Duty → ℕ → List CommandKind → Result Proof Refusal
begun_with duty limit preamble =
    after (all_prepared 1 preamble (blank duty limit)) (λ p. locate AtOpening (duty_opened duty.statement p))

-- a block from its opening to its last command
abbrev pub replay_block : Duty → ℕ → List CommandKind → List CommandKind → Result Proof Refusal
replay_block duty limit preamble block = after (begun_with duty limit preamble) (λ p. all_stepped block p)

-- what a proof has come to
abbrev pub outcome_of : Result Proof Refusal → Outcome
outcome_of (Err refused) = Refused refused
outcome_of (Ok p) = if p.is_proved then Proved else Suspended (told_number (open_goals p)) p.current.goal

-- the outcome of a block behind a preamble
abbrev pub replay : Duty → ℕ → List CommandKind → List CommandKind → Outcome
replay duty limit preamble block = outcome_of (replay_block duty limit preamble block)

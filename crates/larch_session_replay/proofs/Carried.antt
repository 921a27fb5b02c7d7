-- Commands that are carried out until one is refused.
use Rattle.std.proofs.Common.{◌≡◌, refl, sym, ap, subst, ◌∙◌, ℕ, ◌+◌, ◌<◌, Bool, true, false, if◌then◌else◌, List, []}
use Rattle.std.proofs.Common.{◌∷◌, map, length, drop, get_or, Result, Ok, Err}
use Rattle.std.proofs.lemmas.List.{drop_more}
use Rattle.larch_prove.specs.State.{IsGoing, IsStateOf, told_outcome}
use Rattle.larch_prove.specs.declared.outcome.Outcome.{Outcome}
use Rattle.larch_prove.specs.declared.state.ProofState.{ProofState}
use Rattle.larch_prove_meaning.specs.Levels.{Proof}
use Rattle.larch_prove_meaning.specs.Replays as defined
use Rattle.larch_prove_meaning.specs.Replays.{Refusal, all_stepped, outcome_of, step_command}
use Rattle.larch_prove_meaning.specs.Scripts.{commands_of}
use Rattle.larch_script_commands.specs.declared.command.CommandKind.{CommandKind}
use Rattle.larch_script_commands.specs.declared.command.RawCommand.{RawCommand}
use Rattle.larch_session_replay.specs.Carrying.{IsSomeState, is_refusal, is_refused}
use Rattle.larch_term.specs.Tree.{Tree}
use Rattle.larch_term.specs.declared.statement.Statement.{Statement}
use Rattle.larch_base_meaning.specs.Steps.{after}

abbrev Answer : Type 0
Answer = Result Proof Refusal

-- what commands come to, behind what others have come to
abbrev behind : Answer → List RawCommand → Answer
behind answer cs = after answer (all_stepped (commands_of cs))

-- of all commands these are left: the state is one of what the others have come to
pub record Carried (first now : ProofState) (rest all : List RawCommand) : Type 0 where
  pub some : IsSomeState now
  pub reaches : (s : Statement) (answer : Answer) → IsStateOf s first answer
      → (mid : Answer) × (IsStateOf s now mid × (behind mid rest ≡ behind answer all))

pub at_first : (state : ProofState) (all : List RawCommand) → IsSomeState state → Carried state state all all
at_first state all h = record { some = h; reaches = λ s answer k. (answer, (k, refl)) }

-- ---- outcomes

refused_told : (b : Bool) (n : ℕ) (goal : Tree)
    → is_refusal (if b then defined.Proved else defined.Suspended n goal) ≡ false
refused_told true n goal = refl
refused_told false n goal = refl

told_refused : (answer : Answer) → is_refusal (outcome_of answer) ≡ is_refused answer
told_refused (Ok p) = refused_told p.is_proved _ p.current.goal
told_refused (Err r) = refl

-- whether an outcome is a refusal tells whether the state is refused
pub refused_so : (state : ProofState) (outcome : Outcome) (b : Bool) → b ≡ is_refusal (told_outcome outcome)
    → ((s : Statement) (answer : Answer) → IsStateOf s state answer → told_outcome outcome ≡ outcome_of answer)
    → (s : Statement) (answer : Answer) → IsStateOf s state answer → b ≡ is_refused answer
refused_so state outcome b e f s answer h = e ∙ ap is_refusal (f s answer h) ∙ told_refused answer

-- ---- the end

stopped : (mid : Answer) (cs : List RawCommand) → true ≡ is_refused mid → behind mid cs ≡ mid
stopped (Ok p) cs e = absurd (cc)
stopped (Err r) cs e = refl

none_left : (mid : Answer) → behind mid [] ≡ mid
none_left (Ok p) = refl
none_left (Err r) = refl

pub refused_end : (first now : ProofState) (rest all : List RawCommand) → Carried first now rest all
    → ((s : Statement) (answer : Answer) → IsStateOf s now answer → true ≡ is_refused answer)
    → (s : Statement) (answer : Answer) → IsStateOf s first answer → IsStateOf s now (behind answer all)
refused_end first now rest all h f s answer k =
    let m = h.reaches s answer k in
    subst (IsStateOf s now) (sym (stopped m.0 rest (f s m.0 m.1.0)) ∙ m.1.1) m.1.0

pub last_end : (first now : ProofState) (rest all : List RawCommand) → rest ≡ [] → Carried first now rest all
    → (s : Statement) (answer : Answer) → IsStateOf s first answer → IsStateOf s now (behind answer all)
last_end first now rest all e h s answer k =
    let m = h.reaches s answer k in
    subst (IsStateOf s now) (sym (none_left m.0) ∙ ap (behind m.0) (sym e) ∙ m.1.1) m.1.0

-- ---- a command more

going : (s : Statement) (now : ProofState) (answer : Answer) → false ≡ is_refused answer → IsStateOf s now answer
    → IsGoing now
going s now (Ok p) e h = (s, (p, h))
going s now (Err r) e h = absurd (cc)

pub goes_on : (now : ProofState) → IsSomeState now
    → ((s : Statement) (answer : Answer) → IsStateOf s now answer → false ≡ is_refused answer) → IsGoing now
goes_on now h f = going h.0 now h.1.0 (f h.0 h.1.0 h.1.1) h.1.1

module _ (now next : ProofState) (c : RawCommand)
    (step : (s : Statement) (p : Proof) → IsStateOf s now (Ok p) → IsStateOf s next (step_command c.kind p)) where
  stepped : (s : Statement) (mid : Answer) (rest : List RawCommand) → false ≡ is_refused mid → IsStateOf s now mid
      → (new : Answer) × (IsStateOf s next new × (behind new rest ≡ behind mid (c ∷ rest)))
  stepped s (Ok p) rest e h = (step_command c.kind p, (step s p h, refl))
  stepped s (Err r) rest e h = absurd (cc)

  pub one_more : (first : ProofState) (rest all : List RawCommand) → Carried first now (c ∷ rest) all
      → ((s : Statement) (answer : Answer) → IsStateOf s now answer → false ≡ is_refused answer)
      → Carried first next rest all
  one_more first rest all h f =
      record {
        some = let n = stepped h.some.0 h.some.1.0 rest (f h.some.0 h.some.1.0 h.some.1.1) h.some.1.1 in
            (h.some.0, (n.0, n.1.0));
        reaches = λ s answer k.
            let m = h.reaches s answer k in
            let n = stepped s m.0 rest (f s m.0 m.1.0) m.1.0 in
            (n.0, (n.1.0, n.1.1 ∙ m.1.1));
      }

-- what is left begins with the command of the next place
pub drop_item : (cs : List RawCommand) (i : ℕ) (c : RawCommand) → i < length cs → c ≡ get_or cs i c
    → drop i cs ≡ c ∷ drop (i + 1) cs
drop_item cs i c lt e = drop_more cs i c lt ∙ ap (λ x. x ∷ drop (i + 1) cs) (sym e)

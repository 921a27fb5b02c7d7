-- What is kept of the duties of a report, as the count of what is replayed again has it.
use Rattle.std.specs.Prelude.{◌≡◌, ℕ, suc, ◌&&◌, Bool, true, bytes_eq, find, List, [], ◌∷◌, ◌++◌, Option, Some}
use Rattle.larch_base.specs.declared.label.Label.{Label}
use Rattle.larch_prove_meaning.specs.Levels.{EarlierDuty}
use Rattle.larch_prove_meaning.specs.Redo.{Replayed, begin_alike, is_of_one, redone}
use Rattle.larch_prove_meaning.specs.Replays.{begun_with}
use Rattle.larch_prove_meaning.specs.Reports.{Answered, commands_in, lemmas_for, outcome_for, replayed_for}
use Rattle.larch_prove_meaning.specs.Scripts.{ClaimedDuty, block_of, commands_of, same_label}
use Rattle.larch_script_commands.specs.declared.script.Script.{Script}
use Rattle.larch_session_blocks.specs.DutiesMeaningClaims.{Claim}
use Rattle.larch_session_kept.specs.declared.kept.Kept.{Kept}
use Rattle.larch_session_replay.specs.Replayed.{CanFollow}
use Rattle.larch_session_trail.specs.ProveOpeningStating.{duties_of}
use Rattle.larch_session_trail.specs.Trail.{IsTrailOf}
use Rattle.larch_session_trail.specs.declared.trail.Trail.{Trail}

-- what the record of a duty says was replayed
abbrev pub replayed_of : Kept → Replayed
replayed_of k = record {
  trait_name = k.stem;
  label = k.label;
  duty = record { theory = k.theory.value; statement = k.statement; lemmas = duties_of k.lemmas };
  preamble = commands_of k.script.value.preamble;
  block = commands_of (commands_in (block_of k.script.value k.label));
}

-- what is to be replayed for a duty of a trait with these lemmas
abbrev pub task : List ℕ → Script → Claim → List EarlierDuty → Replayed
task stem script claim lemmas = record {
  trait_name = stem;
  label = claim.label;
  duty = record { theory = claim.theory; statement = claim.statement; lemmas = lemmas };
  preamble = commands_of script.preamble;
  block = commands_of (commands_in (block_of script claim.label));
}

-- what is to be replayed for a duty of a trait behind these earlier ones
abbrev pub task_behind : List ℕ → Script → List Answered → ClaimedDuty → Replayed
task_behind stem script earlier d = record {
  trait_name = stem;
  label = d.label;
  duty = replayed_for d earlier;
  preamble = commands_of script.preamble;
  block = commands_of (commands_in (block_of script d.label));
}

-- and for these duties one behind the other, the first of which has a number
abbrev pub tasks_from : ℕ → List ℕ → Script → List Answered → ℕ → List ClaimedDuty → List Replayed
tasks_from limit stem script earlier k [] = []
tasks_from limit stem script earlier k (d ∷ ds) =
    let a : Answered = record { number = k; duty = d; outcome = outcome_for limit script earlier d } in
    task_behind stem script earlier d ∷ tasks_from limit stem script (earlier ++ a ∷ []) (suc k) ds

-- a trail is of what is replayed with a limit
abbrev pub IsTrailFor : ℕ → Replayed → Trail → Type 0
IsTrailFor limit r trail = IsTrailOf r.duty.statement (begun_with r.duty limit r.preamble) r.block trail

-- the states of a record are those of what it says was replayed with a limit
abbrev pub IsKept : ℕ → Kept → Type 0
IsKept limit k = IsTrailFor limit (replayed_of k) k.trail

-- what was replayed is of the duty with a label of a trait
abbrev pub is_for : List ℕ → Label → Replayed → Bool
is_for stem label r = bytes_eq stem r.trait_name && same_label label r.label

-- so it is by a record
abbrev pub is_kept_for : List ℕ → Label → Kept → Bool
is_kept_for stem label k = is_for stem label (replayed_of k)

-- the limit with which the records of a base were replayed
abbrev pub limit_in : ℕ × List Replayed → ℕ
limit_in base = base.0

-- what a base says was replayed
abbrev pub records_in : ℕ × List Replayed → List Replayed
records_in base = base.1

-- what a base says was replayed of a duty
abbrev pub replayed_before : ℕ × List Replayed → Replayed → Option Replayed
replayed_before base r = find (is_of_one r) (records_in base)

-- how many steps a task takes again, by what a base says
abbrev pub redone_behind : ℕ × List Replayed → Replayed → ℕ
redone_behind base r = redone r (replayed_before base r)

-- a duty can be replayed with these lemmas, which are those that it has behind some earlier duties
pub record CanBegin (d : ClaimedDuty) (lemmas : List EarlierDuty) : Type 0 where
  pub earlier : List Answered
  pub follows : CanFollow earlier d
  pub are : lemmas ≡ lemmas_for d earlier

-- a record is that of the duty of a task, with its states, and its replay began alike
pub record IsHelpFor (base : ℕ × List Replayed) (r : Replayed) (k : Kept) : Type 0 where
  pub found : replayed_before base r ≡ Some (replayed_of k)
  pub alike : begin_alike (replayed_of k) r ≡ true
  pub kept : IsKept (limit_in base) k

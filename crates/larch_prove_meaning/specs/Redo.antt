-- How much of a report has to be replayed again behind an edit.
use Rattle.std.specs.Prelude.{ℕ, ◌+◌, ◌==◌, ◌&&◌, Bool, if◌then◌else◌, List, [], ◌∷◌, ◌++◌, length, bytes_eq}
use Rattle.std.specs.Prelude.{Option, Some, None, find, sum_by}
use Rattle.std.specs.Cmp.Lexicographic.{pointwise}
use Rattle.larch_base.specs.declared.label.Label.{Label}
use Rattle.larch_script_commands.specs.Same.{same_kind}
use Rattle.larch_script_commands.specs.declared.command.CommandKind.{CommandKind}
use Rattle.larch_script_commands.specs.declared.script.Script.{Script}
use Rattle.larch_term.specs.Equality.{same_operator, same_statement}
use Rattle.larch_term.specs.declared.statement.Theory.{Theory}
use Rattle.larch_prove_meaning.specs.Levels.{EarlierDuty}
use Rattle.larch_prove_meaning.specs.Replays.{Duty}
use Rattle.larch_prove_meaning.specs.Reports.{Answered, all_answered, commands_in, replayed_for}
use Rattle.larch_prove_meaning.specs.Scripts.{ClaimedDuty, block_of, commands_of, same_label}

-- what a report replayed for a duty: the trait's name, the label, what was replayed, the preamble and the block
pub record Replayed : Type 0 where
  pub trait_name : List ℕ
  pub label : Label
  pub duty : Duty
  pub preamble : List CommandKind
  pub block : List CommandKind

-- what a report replayed for the duties of a trait, behind those that it answered before
abbrev pub replayed_behind : List ℕ → Script → List Answered → List Answered → List Replayed
replayed_behind name script earlier [] = []
replayed_behind name script earlier (a ∷ answers) =
    record {
      trait_name = name;
      label = a.duty.label;
      duty = replayed_for a.duty earlier;
      preamble = commands_of script.preamble;
      block = commands_of (commands_in (block_of script a.duty.label));
    } ∷ replayed_behind name script (earlier ++ a ∷ []) answers

-- what a report replayed for the duties of a trait
abbrev pub trait_replayed : ℕ → List ℕ → Script → List ClaimedDuty → List Replayed
trait_replayed limit name script duties = replayed_behind name script [] (all_answered limit script [] 1 duties)

-- whether two theories are equal
abbrev pub same_theory : Theory → Theory → Bool
same_theory t u = pointwise same_operator t.operators u.operators && pointwise same_statement t.statements u.statements

-- whether two lemmas are equal
abbrev pub same_lemma : EarlierDuty → EarlierDuty → Bool
same_lemma l m = (l.number == m.number) && same_statement l.statement m.statement

-- whether two replays start from the same
abbrev pub same_duty : Duty → Duty → Bool
same_duty d e =
    same_theory d.theory e.theory
    && (same_statement d.statement e.statement && pointwise same_lemma d.lemmas e.lemmas)

-- whether two records are of one trait and one label
abbrev pub is_of_one : Replayed → Replayed → Bool
is_of_one r q = bytes_eq r.trait_name q.trait_name && same_label r.label q.label

-- whether two replays begin alike: only their blocks may differ
abbrev pub begin_alike : Replayed → Replayed → Bool
begin_alike r q = same_duty r.duty q.duty && pointwise same_kind r.preamble q.preamble

-- how many commands of a block stand behind its longest front that begins another block
abbrev pub behind_common : List CommandKind → List CommandKind → ℕ
behind_common [] cs = length cs
behind_common (b ∷ bs) [] = 0
behind_common (b ∷ bs) (c ∷ cs) = if same_kind b c then behind_common bs cs else length (c ∷ cs)

-- how many steps a duty takes again: the commands behind the common front of both blocks where the replays begin alike,
-- else its opening and all its commands
abbrev pub redone : Replayed → Option Replayed → ℕ
redone now None = 1 + length now.block
redone now (Some before) =
    if begin_alike before now then behind_common before.block now.block else 1 + length now.block

-- how many steps a report takes again, by what the report before it replayed
abbrev pub redo : List Replayed → List Replayed → ℕ
redo before now = sum_by (λ r. redone r (find (is_of_one r) before)) now

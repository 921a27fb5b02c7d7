-- Trails of duties, and what is replayed by them.
use Rattle.std.proofs.Common.{◌≡◌, sym, ap, subst, ◌∙◌, ℕ, ◌+◌, if◌then◌else◌, List, [], ◌++◌, length}
use Rattle.std.proofs.Common.{drop, take, Result, Ok, Err, IfOk}
use Rattle.std.specs.List.{take-map}
use Rattle.std.proofs.lemmas.List.{map-append, take-append-drop}
use Rattle.larch_base.specs.declared.label.Label.{Label}
use Rattle.larch_prove_meaning.specs.Levels.{EarlierDuty, Proof}
use Rattle.larch_prove_meaning.specs.Redo.{Replayed, behind_common, redone}
use Rattle.larch_prove_meaning.specs.Replays.{Duty, Refusal, begun_with}
use Rattle.larch_prove_meaning.specs.Reports.{Answered, commands_in, lemmas_for}
use Rattle.larch_prove_meaning.specs.Scripts.{ClaimedDuty, block_of, commands_of}
use Rattle.larch_prove_meaning.proofs.Positions.{begun_alike}
use Rattle.larch_prove_meaning.proofs.Redone.{alike_Decides}
use Rattle.larch_script_commands.specs.declared.command.CommandKind.{CommandKind}
use Rattle.larch_script_commands.specs.declared.command.RawCommand.{RawCommand}
use Rattle.larch_script_commands.specs.declared.script.Script.{Script}
use Rattle.larch_session_blocks.specs.DutiesMeaningClaims.{Claim}
use Rattle.larch_session_blocks.specs.SessionMeaningTraits.{script_duty}
use Rattle.larch_session_kept.specs.Kept.{CanBegin, IsHelpFor, IsKept, IsTrailFor, limit_in, replayed_before}
use Rattle.larch_session_kept.specs.Kept.{replayed_of, task, task_behind}
use Rattle.larch_session_kept.specs.declared.kept.Kept.{Kept}
use Rattle.larch_session_replay.proofs.Following.{can_replay}
use Rattle.larch_session_trail.specs.ProveDutyProofDuty.{ProofDuty}
use Rattle.larch_session_trail.specs.ProveOpeningStating.{duties_of}
use Rattle.larch_session_trail.specs.ProvePrepared.{CanReplay}
use Rattle.larch_session_trail.specs.Trail.{IsSomeTrail, IsTrailOf}
use Rattle.larch_session_trail.specs.declared.trail.Trail.{Trail}
use Rattle.larch_term.specs.declared.statement.Statement.{Statement}
use Rattle.larch_term.specs.declared.statement.Theory.{Theory}

-- what is replayed for a duty with a label of a trait
abbrev replayed_as : List ℕ → Label → Theory → Statement → List EarlierDuty → Script → Replayed
replayed_as stem label theory statement lemmas script = record {
  trait_name = stem;
  label = label;
  duty = record { theory = theory; statement = statement; lemmas = lemmas };
  preamble = commands_of script.preamble;
  block = commands_of (commands_in (block_of script label));
}

-- ---- help

-- the trail of a record is of its block behind what the wanted opening comes to
pub help_trail : (before : ℕ × List Replayed) (k : Kept) (stem : List ℕ) (script : Script) (claim : Claim)
    (lemmas : List EarlierDuty) → IsHelpFor before (task stem script claim lemmas) k
    → IsTrailOf claim.statement (begun_with (task stem script claim lemmas).duty (limit_in before)
    (task stem script claim lemmas).preamble) (replayed_of k).block k.trail
help_trail before k stem script claim lemmas h =
    let same = ((alike_Decides (replayed_of k) (task stem script claim lemmas)).0 h.alike).0 in
    subst (λ s. IsTrailOf s (begun_with (task stem script claim lemmas).duty (limit_in before)
    (task stem script claim lemmas).preamble) (replayed_of k).block k.trail) (ap (λ (d : Duty). d.statement) same)
    (subst (λ (a : Result Proof Refusal). IsTrailOf k.statement a (replayed_of k).block k.trail)
    (begun_alike (replayed_of k) (task stem script claim lemmas) (limit_in before) h.alike) h.kept)

pub some_help : (before : ℕ × List Replayed) (r : Replayed) (k : Kept) → IsHelpFor before r k → IsSomeTrail k.trail
some_help before r k h = (_, (_, (_, h.kept)))

-- what is redone of a duty with help
pub help_redone : (before : ℕ × List Replayed) (r : Replayed) (k : Kept) → IsHelpFor before r k
    → redone r (replayed_before before r) ≡ behind_common (replayed_of k).block r.block
help_redone before r k h =
    ap (redone r) h.found
    ∙ ap (λ t. if t then behind_common (replayed_of k).block r.block else 1 + length r.block) h.alike

-- ---- trails

front_and_rest : (n : ℕ) (cs : List RawCommand) → take n (commands_of cs) ++ commands_of (drop n cs) ≡ commands_of cs
front_and_rest n cs =
    let kind : RawCommand → CommandKind = λ c. c.kind in
    ap (λ xs. xs ++ commands_of (drop n cs)) (take-map kind n cs) ∙ sym (map-append kind (take n cs) (drop n cs))
    ∙ ap commands_of (take-append-drop n cs)

-- a trail goes on behind the common front of both blocks
pub resumed : (s : Statement) (answer : Result Proof Refusal) (n : ℕ) (whole front made : Trail)
    (before : List CommandKind) (old now rest : List RawCommand) → commands_of old ≡ before → rest ≡ drop n now
    → ((b : List CommandKind) → IsTrailOf s answer b whole → IsTrailOf s answer (take n b) front)
    → (IsTrailOf s answer (take n (commands_of old)) front → IsTrailOf s answer (take n (commands_of now)) front)
    → ((b : List CommandKind) → IsTrailOf s answer b front → IsTrailOf s answer (b ++ commands_of rest) made)
    → IsTrailOf s answer before whole → IsTrailOf s answer (commands_of now) made
resumed s answer n whole front made before old now rest same left cut exchange on h =
    subst (λ b. IsTrailOf s answer b made)
    (ap (λ r. take n (commands_of now) ++ commands_of r) left ∙ front_and_rest n now)
    (on (take n (commands_of now)) (exchange (cut (commands_of old)
    (subst (λ b. IsTrailOf s answer b whole) (sym same) h))))

-- a trail from the opening on
pub opened : (limit : ℕ) (stem : List ℕ) (script : Script) (claim : Claim) (lemmas : List EarlierDuty)
    (theory : Theory) (statement : Statement) (ls : List EarlierDuty) (k : ℕ) (preamble commands : List RawCommand)
    (first last : Trail) → theory ≡ claim.theory → statement ≡ claim.statement → ls ≡ lemmas → k ≡ limit
    → preamble ≡ script.preamble → commands ≡ commands_in (block_of script claim.label)
    → IsTrailOf statement (begun_with (record { theory = theory; statement = statement; lemmas = ls }) k
    (commands_of preamble)) [] first
    → ((s : Statement) (answer : Result Proof Refusal) (b : List CommandKind) → IsTrailOf s answer b first
    → IsTrailOf s answer (b ++ commands_of commands) last)
    → IsTrailFor limit (task stem script claim lemmas) last
opened limit stem script claim lemmas theory statement ls k preamble commands first last t s l e p q h on =
    let made : ℕ → Theory → Statement → List EarlierDuty → List RawCommand → List RawCommand → ℕ × Replayed =
    λ n u v ms ps cs. (
      n,
      record {
        trait_name = stem;
        label = claim.label;
        duty = record { theory = u; statement = v; lemmas = ms };
        preamble = commands_of ps;
        block = commands_of cs;
      },
    ) in
    let path : made k theory statement ls preamble commands
    ≡ made limit claim.theory claim.statement lemmas script.preamble (commands_in (block_of script claim.label)) =
    λ i. made (e i) (t i) (s i) (l i) (p i) (q i) in
    subst (λ (x : ℕ × Replayed). IsTrailFor x.0 x.1 last) path (on statement _ [] h)

-- ---- a duty

-- it can be replayed with its lemmas
pub can_begin : (d : ProofDuty) (c : ClaimedDuty) (lemmas : List EarlierDuty) → CanBegin c lemmas
    → d.theory.now ≡ c.theory → d.statement.now ≡ c.statement → duties_of d.lemmas.now ≡ lemmas → CanReplay d
can_begin d c lemmas h t s ls = can_replay d c h.earlier h.follows t s (ls ∙ h.are)

-- with the lemmas that it has, what is wanted of it is that behind earlier ones
pub wanted_is : (stem : List ℕ) (script : Script) (claim : Claim) (earlier : List Answered) (lemmas : List EarlierDuty)
    → lemmas ≡ lemmas_for (script_duty claim) earlier
    → task stem script claim lemmas ≡ task_behind stem script earlier (script_duty claim)
wanted_is stem script claim earlier lemmas e = ap (task stem script claim) e

-- the trail that was made is that of the record
pub is_kept : (limit : ℕ) (k : Kept) (r : Replayed) (trail : Trail) → replayed_of k ≡ r → k.trail ≡ trail
    → IsTrailFor limit r trail → IsKept limit k
is_kept limit k r trail e f h =
    subst (λ (x : Replayed). IsTrailFor limit x k.trail) (sym e) (subst (IsTrailFor limit r) (sym f) h)

-- what is wanted was replayed, and the trail is of that
pub is_replayed : (limit : ℕ) (k : Kept) (r : Replayed) → replayed_of k ≡ r → IsKept limit k
    → IsTrailFor limit r k.trail
is_replayed limit k r e h = subst (λ (x : Replayed). IsTrailFor limit x k.trail) e h

pub redone_same : (before : ℕ × List Replayed) (r q : Replayed) → r ≡ q
    → redone r (replayed_before before r) ≡ redone q (replayed_before before q)
redone_same before r q e = ap (λ x. redone x (replayed_before before x)) e

-- the record that was made is of what is wanted
pub record_is : (stem name : List ℕ) (label : Label) (t u : Theory) (s r : Statement) (ls : List EarlierDuty)
    (f g : Script) → stem ≡ name → t ≡ u → s ≡ r → f ≡ g
    → replayed_as stem label t s ls f ≡ replayed_as name label u r ls g
record_is stem name label t u s r ls f g a b c d = λ i. replayed_as (a i) label (b i) (c i) ls (d i)

-- ---- answers

pub if_ok : {A E : Type 0} (P Q : A → Type 0) (r : Result A E) → ((x : A) → P x → Q x) → IfOk r P → IfOk r Q
if_ok P Q (Ok x) f h = f x h
if_ok P Q (Err e) f h = tt

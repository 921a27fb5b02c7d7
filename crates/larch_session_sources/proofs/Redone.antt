-- How many steps a report takes at most: what it replays, replayed from nothing.
use Rattle.std.proofs.Common.{◌≡◌, refl, sym, ap₂, ◌∙◌, arith, ℕ, suc, ◌+◌, List, [], ◌∷◌, ◌++◌, length, None}
use Rattle.std.specs.Prelude.{sum_by}
use Rattle.std.proofs.lemmas.List.{length-map}
use Rattle.std.proofs.lemmas.List.Sums.{sum_by-append, sum_by-cons}
use Rattle.larch_session_law.specs.ProveMeaningRedo.{Replayed, redo, redone, replayed_behind, trait_replayed}
use Rattle.larch_session_law.specs.ProveMeaningReports.{Answered, all_answered, commands_in, outcome_for, replayed_for}
use Rattle.larch_session_law.specs.ProveMeaningScripts.{ClaimedDuty, block_of, commands_of}
use Rattle.larch_script_commands.specs.declared.command.RawCommand.{RawCommand}
use Rattle.larch_script_commands.specs.declared.script.Script.{Script}
use Rattle.larch_session_sources.specs.Steps.{block_steps, script_steps}

-- of nothing before, what is redone of lists in turn adds up
pub redo_append : (xs ys : List Replayed) → redo [] (xs ++ ys) ≡ redo [] xs + redo [] ys
redo_append xs ys = sum_by-append (λ r. redone r None) xs ys

-- ---- the duties of a trait

module _ (name : List ℕ) (script : Script) where
  replayed_steps : (earlier answers : List Answered)
      → sum_by (λ r. redone r None) (replayed_behind name script earlier answers)
      ≡ sum_by (λ (a : Answered). block_steps script a.duty.label) answers
  replayed_steps earlier [] = refl
  replayed_steps earlier (a ∷ answers) =
      let commands = commands_in (block_of script a.duty.label) in
      let rest = replayed_behind name script (earlier ++ a ∷ []) answers in
      let first : Replayed = record {
        trait_name = name;
        label = a.duty.label;
        duty = replayed_for a.duty earlier;
        preamble = commands_of script.preamble;
        block = commands_of commands;
      } in
      sum_by-cons (λ r. redone r None) first rest
      ∙ ap₂ (λ (n m : ℕ). 1 + n + m) (length-map commands (λ (c : RawCommand). c.kind))
      (replayed_steps (earlier ++ a ∷ []) answers)
      ∙ sym (sum_by-cons (λ (b : Answered). block_steps script b.duty.label) a answers)

  answered_steps : (limit : ℕ) (earlier : List Answered) (k : ℕ) (ds : List ClaimedDuty)
      → sum_by (λ (a : Answered). block_steps script a.duty.label) (all_answered limit script earlier k ds)
      ≡ sum_by (λ (a : Answered). block_steps script a.duty.label) earlier + script_steps script ds
  answered_steps limit earlier k [] = omega arith
  answered_steps limit earlier k (d ∷ ds) =
      let a : Answered = record { number = k; duty = d; outcome = outcome_for limit script earlier d } in
      let steps : Answered → ℕ = λ b. block_steps script b.duty.label in
      let first = sum_by-append steps earlier (a ∷ []) in
      let one = sum_by-cons steps a [] in
      let all = sum_by-cons (λ (e : ClaimedDuty). block_steps script e.label) d ds in
      answered_steps limit (earlier ++ a ∷ []) (suc k) ds ∙ omega (arith, first, one, all)

  pub redone_is : (limit : ℕ) (ds : List ClaimedDuty)
      → redo [] (trait_replayed limit name script ds) ≡ script_steps script ds
  redone_is limit ds =
      replayed_steps [] (all_answered limit script [] 1 ds) ∙ answered_steps limit [] 1 ds ∙ omega arith

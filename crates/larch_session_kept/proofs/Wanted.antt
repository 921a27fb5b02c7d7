-- What is wanted of the duties of a trait, one behind the other, is what a report replays.
use Rattle.std.proofs.Common.{◌≡◌, refl, sym, ap, ap₂, ◌∙◌, arith, ℕ, suc, ◌+◌, ◌≤◌, List, [], ◌∷◌, ◌++◌, map}
use Rattle.std.proofs.Common.{length}
use Rattle.std.proofs.lemmas.List.{append_assoc, append-nil, length-append, map-append}
use Rattle.std.proofs.lemmas.List.Sums.{sum_by-cons}
use Rattle.larch_prove_meaning.specs.Redo.{Replayed, redo, redone, replayed_behind, trait_replayed}
use Rattle.larch_prove_meaning.specs.Reports.{Answered, all_answered, outcome_for}
use Rattle.larch_prove_meaning.specs.Scripts.{ClaimedDuty}
use Rattle.larch_script_commands.specs.declared.script.Script.{Script}
use Rattle.larch_session_blocks.specs.DutiesMeaningClaims.{Claim}
use Rattle.larch_session_blocks.specs.SessionMeaningTraits.{script_duty}
use Rattle.larch_session_kept.specs.Kept.{records_in, replayed_before, task_behind}
use Rattle.larch_session_kept.specs.Kept.{tasks_from}
use Rattle.larch_session_replay.specs.Replayed.{IsReplay, answer_of}
use Rattle.larch_session_replay.specs.declared.replayed.Replayed.{Replayed as WasReplayed}

module _ (limit : ℕ) (stem : List ℕ) (script : Script) where
  -- ---- what a report replays

  -- the duties with their outcomes, without those before
  abbrev further : List Answered → ℕ → List ClaimedDuty → List Answered
  further earlier k [] = []
  further earlier k (d ∷ ds) =
      let a : Answered = record { number = k; duty = d; outcome = outcome_for limit script earlier d } in
      a ∷ further (earlier ++ a ∷ []) (suc k) ds

  answered_from : (earlier : List Answered) (k : ℕ) (ds : List ClaimedDuty)
      → all_answered limit script earlier k ds ≡ earlier ++ further earlier k ds
  answered_from earlier k [] = sym (append-nil earlier)
  answered_from earlier k (d ∷ ds) =
      let a : Answered = record { number = k; duty = d; outcome = outcome_for limit script earlier d } in
      answered_from (earlier ++ a ∷ []) (suc k) ds
      ∙ append_assoc earlier (a ∷ []) (further (earlier ++ a ∷ []) (suc k) ds)

  replayed_from : (earlier : List Answered) (k : ℕ) (ds : List ClaimedDuty)
      → replayed_behind stem script earlier (further earlier k ds) ≡ tasks_from limit stem script earlier k ds
  replayed_from earlier k [] = refl
  replayed_from earlier k (d ∷ ds) =
      let a : Answered = record { number = k; duty = d; outcome = outcome_for limit script earlier d } in
      ap (λ rs. task_behind stem script earlier d ∷ rs) (replayed_from (earlier ++ a ∷ []) (suc k) ds)

  pub wanted_all : (ds : List ClaimedDuty)
      → trait_replayed limit stem script ds ≡ tasks_from limit stem script [] 1 ds
  wanted_all ds = ap (replayed_behind stem script []) (answered_from [] 1 ds) ∙ replayed_from [] 1 ds

  -- ---- a duty more

  -- what is wanted of the duties that are left, behind those that were replayed
  abbrev pub left : List WasReplayed → List Claim → List Replayed
  left rs claims = tasks_from limit stem script (map answer_of rs) (1 + length rs) (map script_duty claims)

  pub left_next : (rs : List WasReplayed) (r : WasReplayed) (c : Claim) (claims : List Claim)
      → r.claim ≡ c → r.number ≡ 1 + length rs → IsReplay limit script (map answer_of rs) r
      → left rs (c ∷ claims) ≡ task_behind stem script (map answer_of rs) (script_duty c) ∷ left (rs ++ r ∷ []) claims
  left_next rs r c claims is number replay =
      let a : Answered = record {
        number = 1 + length rs;
        duty = script_duty c;
        outcome = outcome_for limit script (map answer_of rs) (script_duty c);
      } in
      let same : a ≡ answer_of r =
      ap₂ (λ (n : ℕ) (p : Claim). let b : Answered = record {
        number = n;
        duty = script_duty p;
        outcome = outcome_for limit script (map answer_of rs) (script_duty p);
      } in b) (sym number) (sym is)
      ∙ ap (λ o. let b : Answered = record { number = r.number; duty = script_duty r.claim; outcome = o } in b)
      (sym replay.outcome) in
      let answers : map answer_of rs ++ a ∷ [] ≡ map answer_of (rs ++ r ∷ []) =
      ap (λ b. map answer_of rs ++ b ∷ []) same ∙ sym (map-append answer_of rs (r ∷ [])) in
      let count : suc (1 + length rs) ≡ 1 + length (rs ++ r ∷ []) =
      let l = length-append rs (r ∷ []) in omega (arith, l) in
      ap₂ (λ (told : List Answered) (n : ℕ). task_behind stem script (map answer_of rs) (script_duty c)
      ∷ tasks_from limit stem script told n (map script_duty claims)) answers count

  -- ---- records and steps so far

  module _ (before : ℕ × List Replayed) (first : List Replayed) (all : List Claim) where
    -- the records so far, and the steps up to now, with what is wanted of the duties that are left
    pub record Keeping (rs : List WasReplayed) (rest : List Claim) (kept : List Replayed) (start now : ℕ) : Type 0 where
      pub replayed : kept ++ left rs rest
          ≡ first ++ trait_replayed limit stem script (map script_duty all)
      pub most : now + redo (records_in before) (left rs rest)
          ≤ start + redo (records_in before) (trait_replayed limit stem script (map script_duty all))

    pub at_first : (start : ℕ) → Keeping [] all first start start
    at_first start =
        let e = sym (wanted_all (map script_duty all)) in
        let f = ap (redo (records_in before)) e in
        record {
          replayed = ap (λ rs. first ++ rs) e;
          most = omega (arith, f);
        }

    pub next_most : (rs : List WasReplayed) (c : Claim) (rest : List Claim) (kept : List Replayed) (start now then : ℕ)
        → Keeping rs (c ∷ rest) kept start now
        → then ≤ now + redone (task_behind stem script (map answer_of rs) (script_duty c))
        (replayed_before before (task_behind stem script (map answer_of rs) (script_duty c)))
        → then ≤ start + redo (records_in before) (trait_replayed limit stem script (map script_duty all))
    next_most rs c rest kept start now then h k =
        let step : Replayed → ℕ = λ r. redone r (replayed_before before r) in
        let a : Answered = record {
          number = 1 + length rs;
          duty = script_duty c;
          outcome = outcome_for limit script (map answer_of rs) (script_duty c);
        } in
        let split = sum_by-cons step (task_behind stem script (map answer_of rs) (script_duty c))
        (tasks_from limit stem script (map answer_of rs ++ a ∷ []) (suc (1 + length rs)) (map script_duty rest)) in
        let most = h.most in
        omega (arith, split, most, k)

    pub one_more : (rs : List WasReplayed) (r : WasReplayed) (c : Claim) (rest : List Claim) (kept : List Replayed)
        (k : Replayed) (start now then : ℕ) → Keeping rs (c ∷ rest) kept start now
        → r.claim ≡ c → r.number ≡ 1 + length rs → IsReplay limit script (map answer_of rs) r
        → k ≡ task_behind stem script (map answer_of rs) (script_duty c)
        → then ≤ now + redone (task_behind stem script (map answer_of rs) (script_duty c))
        (replayed_before before (task_behind stem script (map answer_of rs) (script_duty c)))
        → Keeping (rs ++ r ∷ []) rest (kept ++ k ∷ []) start then
    one_more rs r c rest kept k start now then h is number replay same steps =
        let step : Replayed → ℕ = λ r. redone r (replayed_before before r) in
        let w = task_behind stem script (map answer_of rs) (script_duty c) in
        let next = left_next rs r c rest is number replay in
        let sum = ap (redo (records_in before)) next in
        let split = sum_by-cons step w (left (rs ++ r ∷ []) rest) in
        let most = h.most in
        record {
          replayed = ap (λ xs. xs ++ left (rs ++ r ∷ []) rest)
              (ap (λ x. kept ++ x ∷ []) same)
              ∙ append_assoc kept (w ∷ []) (left (rs ++ r ∷ []) rest)
              ∙ ap (λ xs. kept ++ xs) (sym next) ∙ h.replayed;
          most = omega (arith, sum, split, most, steps);
        }

    pub all_kept : (rs : List WasReplayed) (rest : List Claim) (kept : List Replayed) (start now : ℕ) → rest ≡ []
        → Keeping rs rest kept start now
        → kept ≡ first ++ trait_replayed limit stem script (map script_duty all)
    all_kept rs rest kept start now e h =
        sym (append-nil kept) ∙ sym (ap (λ cs. kept ++ left rs cs) e) ∙ h.replayed

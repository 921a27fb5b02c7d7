-- The numbers of a duty's lemmas differ.
use Rattle.std.specs.Prelude.{◌≢◌, ◌<◌, ◌&&◌, ℕ, suc, List, [], ◌∷◌, ◌++◌, filter, All, AllPairs}
use Rattle.std.proofs.Common.{arith}
use Rattle.std.proofs.lemmas.List.Elements.{All-nil, All-push, All-weaker}
use Rattle.std.proofs.lemmas.List.Kept.{AllPairs-filter}
use Rattle.std.proofs.lemmas.List.Quantifiers.{all_pairs_push}
use Rattle.larch_base.proofs.Lists.{pairs_map}
use Rattle.larch_script_commands.specs.declared.script.Script.{Script}
use Rattle.larch_prove_meaning.specs.Levels.{EarlierDuty}
use Rattle.larch_prove_meaning.specs.Named.{HaveDifferentNumbers}
use Rattle.larch_prove_meaning.specs.Reports.{Answered, all_answered, is_proved, lemmas_for, may_serve, outcome_for}
use Rattle.larch_prove_meaning.specs.Scripts.{ClaimedDuty}

abbrev Others : Answered → Answered → Type 0
Others a b = a.number ≢ b.number

pub lemmas_apart : (duty : ClaimedDuty) (earlier : List Answered) → AllPairs (λ a b. a.number ≢ b.number) earlier
    → HaveDifferentNumbers (lemmas_for duty earlier)
lemmas_apart duty earlier h =
    let test = λ (a : Answered). is_proved a.outcome && may_serve a.duty.clause duty.clause in
    pairs_map (λ (l m : EarlierDuty). l.number ≢ m.number) Others
    (λ a. record { number = a.number; statement = a.duty.statement }) (filter test earlier) (λ a b c d n. n)
    (AllPairs-filter Others test earlier h)

abbrev HasNumberBelow : ℕ → Answered → Type 0
HasNumberBelow k a = a.number < k

-- duties that are answered in turn get further numbers
answered_apart : (limit : ℕ) (script : Script) (earlier : List Answered) (k : ℕ) (ds : List ClaimedDuty)
    → AllPairs Others earlier → All (HasNumberBelow k) earlier
    → AllPairs Others (all_answered limit script earlier k ds)
answered_apart limit script earlier k [] h b = h
answered_apart limit script earlier k (d ∷ ds) h b =
    let a : Answered = record { number = k; duty = d; outcome = outcome_for limit script earlier d } in
    answered_apart limit script (earlier ++ a ∷ []) (suc k) ds
    (all_pairs_push Others earlier a h (λ i e lt q. let l = b i e lt in absurd (omega (arith, l, q))))
    (All-push (HasNumberBelow (suc k)) earlier a
    (All-weaker (HasNumberBelow k) (HasNumberBelow (suc k)) (λ x l. omega (arith, l)) earlier b) (omega arith))

pub numbers_apart : (limit : ℕ) (script : Script) (ds : List ClaimedDuty)
    → AllPairs (λ a b. a.number ≢ b.number) (all_answered limit script [] 1 ds)
numbers_apart limit script ds =
    answered_apart limit script [] 1 ds (λ i j d lt within. absurd (omega arith)) (All-nil (HasNumberBelow 1))

-- The lemmas of a duty, gathered one by one.
use Rattle.std.proofs.Common.{◌≡◌, sym, ap, ◌∙◌, ℕ, ◌+◌, ◌<◌, Bool, true, false, ◌&&◌, if◌then◌else◌, List, []}
use Rattle.std.proofs.Common.{◌∷◌, ◌++◌, map, length, drop, get_or, Result, Ok, Err, OnOk}
use Rattle.std.specs.Prelude.{filter}
use Rattle.std.proofs.lemmas.List.{append_assoc, drop_more}
use Rattle.larch_prove_meaning.specs.Levels.{EarlierDuty}
use Rattle.larch_prove_meaning.specs.Reports.{Answered, is_proved, lemmas_for, may_serve}
use Rattle.larch_prove_meaning.specs.Scripts.{ClaimedDuty}
use Rattle.larch_session_replay.specs.declared.replayed.Replayed.{Replayed}

-- what stands under a test in front of others
filter_true : {X : Type 0} (p : X → Bool) (x : X) (xs : List X) → p x ≡ true → filter p (x ∷ xs) ≡ x ∷ filter p xs
filter_true p x xs e = ap (λ b. if b then x ∷ filter p xs else filter p xs) e

filter_false : {X : Type 0} (p : X → Bool) (x : X) (xs : List X) → p x ≡ false → filter p (x ∷ xs) ≡ filter p xs
filter_false p x xs e = ap (λ b. if b then x ∷ filter p xs else filter p xs) e

abbrev lemma_of : Answered → EarlierDuty
lemma_of a = record { number = a.number; statement = a.duty.statement }

abbrev serves : ClaimedDuty → Answered → Bool
serves d a = is_proved a.outcome && may_serve a.duty.clause d.clause

-- a lemma, and what is none, in front of others
pub lemma_first : (d : ClaimedDuty) (a : Answered) (rest : List Answered) (old new : List EarlierDuty)
    → serves d a ≡ true → new ≡ old ++ lemma_of a ∷ [] → new ++ lemmas_for d rest ≡ old ++ lemmas_for d (a ∷ rest)
lemma_first d a rest old new is put =
    ap (λ x. x ++ lemmas_for d rest) put ∙ append_assoc old (lemma_of a ∷ []) (lemmas_for d rest)
    ∙ ap (λ xs. old ++ map lemma_of xs) (sym (filter_true (serves d) a rest is))

pub other_first : (d : ClaimedDuty) (a : Answered) (rest : List Answered) (old : List EarlierDuty)
    → serves d a ≡ false → old ++ lemmas_for d rest ≡ old ++ lemmas_for d (a ∷ rest)
other_first d a rest old isnt = ap (λ xs. old ++ map lemma_of xs) (sym (filter_false (serves d) a rest isnt))

-- what is left begins with the duty of the next place
pub drop_item : (rs : List Replayed) (i : ℕ) (r : Replayed) → i < length rs → r ≡ get_or rs i r
    → drop i rs ≡ r ∷ drop (i + 1) rs
drop_item rs i r lt e = drop_more rs i r lt ∙ ap (λ x. x ∷ drop (i + 1) rs) (sym e)

-- what holds of an answer that isn't refused
pub on_ok : {A B : Type 0} {X E : Type 0} (r : Result X E) → (A → B) → OnOk r A → OnOk r B
on_ok (Ok x) f h = f h
on_ok (Err x) f h = tt

-- Scripts without a trait, name by name.
use Rattle.std.proofs.Common.{◌≡◌, sym, ap, ◌∙◌, ℕ, Bool, true, false, if◌then◌else◌, List, [], ◌∷◌, ◌++◌, map, Result}
use Rattle.std.proofs.Common.{Ok, Err, OnOk}
use Rattle.std.specs.Prelude.{filter}
use Rattle.std.proofs.lemmas.List.{append_assoc}
use Rattle.larch_base.specs.FileName.{stem_of}
use Rattle.larch_report.specs.declared.line.ReportLine.{ReportLine}
use Rattle.larch_report.specs.declared.line.ReportLine.TheVariants.{Stray}
use Rattle.larch_session_replay.specs.SessionMeaningFiles.{is_stray}
use Rattle.larch_session_replay.specs.TraitsFiles.{Table}

-- what stands under a test in front of others
filter_by : {X : Type 0} (p : X → Bool) (x : X) (xs : List X) (b : Bool) → p x ≡ b
    → filter p (x ∷ xs) ≡ (if b then x ∷ filter p xs else filter p xs)
filter_by p x xs b e = ap (λ c. if c then x ∷ filter p xs else filter p xs) e

-- a script without a trait, and another file, in front of others
pub stray_first : (files : Table) (name : List ℕ) (rest : List (List ℕ)) (old new : List ReportLine)
    → is_stray files name ≡ true → new ≡ old ++ Stray (stem_of name) ∷ []
    → new ++ map (λ n. Stray (stem_of n)) (filter (is_stray files) rest)
    ≡ old ++ map (λ n. Stray (stem_of n)) (filter (is_stray files) (name ∷ rest))
stray_first files name rest old new is put =
    let more = map (λ n. Stray (stem_of n)) (filter (is_stray files) rest) in
    ap (λ x. x ++ more) put ∙ append_assoc old (Stray (stem_of name) ∷ []) more
    ∙ ap (λ xs. old ++ map (λ n. Stray (stem_of n)) xs) (sym (filter_by (is_stray files) name rest true is))

pub other_first : (files : Table) (name : List ℕ) (rest : List (List ℕ)) (old : List ReportLine)
    → is_stray files name ≡ false
    → old ++ map (λ n. Stray (stem_of n)) (filter (is_stray files) rest)
    ≡ old ++ map (λ n. Stray (stem_of n)) (filter (is_stray files) (name ∷ rest))
other_first files name rest old isnt =
    ap (λ xs. old ++ map (λ n. Stray (stem_of n)) xs) (sym (filter_by (is_stray files) name rest false isnt))

-- what holds of an answer that isn't refused
pub on_ok : {A B : Type 0} {X E : Type 0} (r : Result X E) → (A → B) → OnOk r A → OnOk r B
on_ok (Ok x) f h = f h
on_ok (Err x) f h = tt

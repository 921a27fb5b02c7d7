-- What was kept of a duty, found among records.
use Rattle.std.proofs.Common.{◌≡◌, refl, sym, ap, ap₂, ◌∙◌, arith, ℕ, ◌+◌, ◌<◌, Bool, true, false, cond}
use Rattle.std.proofs.Common.{if◌then◌else◌, List, [], ◌∷◌, map, length, get_or, take, ◌++◌, All, Bor, Option}
use Rattle.std.proofs.Common.{Some, None, IfSome}
use Rattle.std.specs.Prelude.{find}
use Rattle.std.specs.Option.{option_copied, option_map}
use Rattle.std.proofs.lemmas.List.{length-map, map-append, take_more}
use Rattle.std.proofs.lemmas.List.Elements.{All-contains}
use Rattle.larch_base.specs.declared.label.Label.{Label}
use Rattle.larch_base.proofs.Lists.{map_map}
use Rattle.larch_prove_meaning.specs.Levels.{EarlierDuty}
use Rattle.larch_prove_meaning.specs.Redo.{Replayed, begin_alike, behind_common, redone}
use Rattle.larch_prove_meaning.specs.Replays.{Duty}
use Rattle.larch_prove_meaning.specs.Reports.{commands_in}
use Rattle.larch_prove_meaning.specs.Scripts.{block_of}
use Rattle.larch_prove_meaning.proofs.Redone.{alike_Decides}
use Rattle.larch_script_commands.specs.Bare.{bare, bare_kind}
use Rattle.larch_script_commands.specs.declared.command.RawCommand.{RawCommand}
use Rattle.larch_script_commands.specs.declared.script.Script.{Script}
use Rattle.larch_script_commands.proofs.TreeLists.{differs_at}
use Rattle.larch_session_blocks.proofs.TraitsItemsKept.{found_is}
use Rattle.larch_session_blocks.specs.DutiesMeaningClaims.{Claim}
use Rattle.larch_session_kept.specs.Kept.{IsHelpFor, IsKept, is_for, is_kept_for, limit_in, records_in}
use Rattle.larch_session_kept.specs.Kept.{redone_behind, replayed_of, task}
use Rattle.larch_session_kept.specs.declared.kept.Kept.{Kept}
use Rattle.larch_session_sources.specs.Steps.{block_steps}
use Rattle.larch_session_trail.specs.ProveOpeningStating.{duties_of}
use Rattle.larch_session_trail.specs.declared.from_prove.Lemma.{Lemma}
use Rattle.larch_term.specs.declared.statement.Statement.{Statement}
use Rattle.larch_term.specs.declared.statement.Theory.{Theory}

-- ---- found by what it says

found_by : {A B : Type 0} (f : A → B) (x : A) (t : Bool) (other : Option B) (same : Option A)
    → other ≡ option_map f same → cond t (Some (f x)) other ≡ option_map f (cond t (Some x) same)
found_by f x true other same e = refl
found_by f x false other same e = e

find_mapped : {A B : Type 0} (f : A → B) (p : B → Bool) (xs : List A)
    → find p (map f xs) ≡ option_map f (find (λ x. p (f x)) xs)
find_mapped f p [] = refl
find_mapped f p (x ∷ xs) =
    found_by f x (p (f x)) (find p (map f xs)) (find (λ y. p (f y)) xs) (find_mapped f p xs)

pub found_so : (ks : List Kept) (stem : List ℕ) (label : Label) (r : Option Kept)
    → r ≡ find (is_kept_for stem label) ks
    → option_map replayed_of r ≡ find (is_for stem label) (map replayed_of ks)
found_so ks stem label r e =
    ap (option_map replayed_of) e ∙ sym (find_mapped replayed_of (is_for stem label) ks)

pub found_kept : (limit : ℕ) (ks : List Kept) (stem : List ℕ) (label : Label) (r : Option (Bor Kept))
    → option_copied r ≡ find (is_kept_for stem label) ks → All (IsKept limit) ks
    → IfSome r (λ k. IsKept limit k.now)
found_kept limit ks stem label None e h = tt
found_kept limit ks stem label (Some k) e h =
    All-contains (IsKept limit) ks k.now h (found_is (is_kept_for stem label) ks k.now (sym e)).0

-- ---- a record that begins alike

-- a record begins as what is wanted of a duty
abbrev pub BeginsAs : Kept → Claim → List EarlierDuty → Script → Type 0
BeginsAs k claim lemmas script =
    (k.theory.value ≡ claim.theory)
    × ((k.statement ≡ claim.statement)
    × ((duties_of k.lemmas ≡ lemmas) × (map bare k.script.value.preamble ≡ map bare script.preamble)))

duty_by : Theory → Statement → List EarlierDuty → Duty
duty_by t s ls = record { theory = t; statement = s; lemmas = ls }

bares : (cs : List RawCommand) → map bare_kind (map (λ (c : RawCommand). c.kind) cs) ≡ map bare cs
bares cs = map_map bare_kind (λ (c : RawCommand). c.kind) cs

begins_alike : (k : Kept) (stem : List ℕ) (script : Script) (claim : Claim) (lemmas : List EarlierDuty)
    → BeginsAs k claim lemmas script → begin_alike (replayed_of k) (task stem script claim lemmas) ≡ true
unfolding duty_by
begins_alike k stem script claim lemmas h =
    let duty : duty_by k.theory.value k.statement (duties_of k.lemmas) ≡ duty_by claim.theory claim.statement lemmas =
    λ i. duty_by (h.0 i) (h.1.0 i) (h.1.1.0 i) in
    (alike_Decides (replayed_of k) (task stem script claim lemmas)).1
    (duty, bares k.script.value.preamble ∙ h.1.1.1 ∙ sym (bares script.preamble))

begins_as : (k : Kept) (stem : List ℕ) (script : Script) (claim : Claim) (lemmas : List EarlierDuty)
    → begin_alike (replayed_of k) (task stem script claim lemmas) ≡ true → BeginsAs k claim lemmas script
begins_as k stem script claim lemmas e =
    let h = (alike_Decides (replayed_of k) (task stem script claim lemmas)).0 e in (
      ap (λ (d : Duty). d.theory) h.0,
      (
        ap (λ (d : Duty). d.statement) h.0,
        (
          ap (λ (d : Duty). d.lemmas) h.0,
          sym (bares k.script.value.preamble) ∙ h.1 ∙ bares script.preamble,
        ),
      ),
    )

-- ---- help, or none

pub help_is : (before : ℕ × List Replayed) (k : Kept) (stem : List ℕ) (script : Script) (claim : Claim)
    (lemmas : List EarlierDuty) → IsKept (limit_in before) k
    → find (is_for stem claim.label) (records_in before) ≡ Some (replayed_of k)
    → BeginsAs k claim lemmas script → IsHelpFor before (task stem script claim lemmas) k
help_is before k stem script claim lemmas kept found h =
    record {
      found = found;
      alike = begins_alike k stem script claim lemmas h;
      kept = kept;
    }

-- all steps of a task
whole_task : (stem : List ℕ) (script : Script) (claim : Claim) (lemmas : List EarlierDuty)
    → 1 + length (task stem script claim lemmas).block ≡ block_steps script claim.label
whole_task stem script claim lemmas =
    let all = length-map (commands_in (block_of script claim.label)) (λ (c : RawCommand). c.kind) in omega (arith, all)

-- nothing was kept of a duty
pub none_kept : (before : ℕ × List Replayed) (stem : List ℕ) (script : Script) (claim : Claim)
    (lemmas : List EarlierDuty) → find (is_for stem claim.label) (records_in before) ≡ None
    → redone_behind before (task stem script claim lemmas) ≡ block_steps script claim.label
none_kept before stem script claim lemmas e =
    ap (redone (task stem script claim lemmas)) e ∙ whole_task stem script claim lemmas

redone_by : (t : Bool) (n m : ℕ) → (t ≡ true → ⊥) → (if t then n else m) ≡ m
redone_by true n m h = absurd (h refl)
redone_by false n m h = refl

-- what was kept of it began otherwise
pub other_kept : (before : ℕ × List Replayed) (k : Kept) (stem : List ℕ) (script : Script) (claim : Claim)
    (lemmas : List EarlierDuty)
    → find (is_for stem claim.label) (records_in before) ≡ Some (replayed_of k)
    → (BeginsAs k claim lemmas script → ⊥)
    → redone_behind before (task stem script claim lemmas) ≡ block_steps script claim.label
other_kept before k stem script claim lemmas e differs =
    let now = task stem script claim lemmas in
    ap (redone now) e
    ∙ redone_by (begin_alike (replayed_of k) now) (behind_common (replayed_of k).block now.block)
    (1 + length now.block) (λ t. differs (begins_as k stem script claim lemmas t))
    ∙ whole_task stem script claim lemmas

-- ---- lemmas

lemma_of : Lemma → EarlierDuty
lemma_of l = record { number = l.number; statement = l.statement }

one_more : (ls : List Lemma) (i : ℕ) (l : Lemma) → i < length ls → l ≡ get_or ls i l
    → duties_of (take (i + 1) ls) ≡ duties_of (take i ls) ++ lemma_of l ∷ []
unfolding lemma_of
one_more ls i l lt e =
    ap duties_of (take_more ls i l lt ∙ ap (λ x. take i ls ++ x ∷ []) (sym e))
    ∙ map-append lemma_of (take i ls) (l ∷ [])

same_lemmas : (l m : Lemma) → (l.number ≡ m.number) × (l.statement ≡ m.statement) → lemma_of l ≡ lemma_of m
unfolding lemma_of
same_lemmas l m h = λ i. record { number = h.0 i; statement = h.1 i }

-- equal lemmas stand behind equal ones
pub both_more : (ls ms : List Lemma) (i : ℕ) (l m : Lemma) → i < length ls → i < length ms → l ≡ get_or ls i l
    → m ≡ get_or ms i m → (l.number ≡ m.number) × (l.statement ≡ m.statement)
    → duties_of (take i ls) ≡ duties_of (take i ms) → duties_of (take (i + 1) ls) ≡ duties_of (take (i + 1) ms)
both_more ls ms i l m lt less e f same h =
    one_more ls i l lt e ∙ ap₂ (λ xs x. xs ++ x ∷ []) h (same_lemmas l m same) ∙ sym (one_more ms i m less f)

-- lists of lemmas are equal where the lemmas at a place are
pub equal_at : (ls ms : List Lemma) (i : ℕ) (l m : Lemma) → i < length ls → i < length ms → l ≡ get_or ls i l
    → m ≡ get_or ms i m → duties_of ls ≡ duties_of ms → (l.number ≡ m.number) × (l.statement ≡ m.statement)
unfolding lemma_of
equal_at ls ms i l m lt less e f h =
    let same = differs_at lemma_of ls ms i l m lt less e f h in
    (ap (λ (d : EarlierDuty). d.number) same, ap (λ (d : EarlierDuty). d.statement) same)

-- What is derived of the duty of a trait with a label.
use Rattle.std.proofs.Common.{◌≡◌, refl, sym, ap, subst, ◌∙◌, arith, ℕ, zero, suc, ◌+◌, ◌<◌, ◌≤◌, false, List, []}
use Rattle.std.proofs.Common.{◌∷◌, ◌++◌}
use Rattle.std.proofs.Common.{length}
use Rattle.std.proofs.Common.{flat_map, map, IfOk, Option, Some, None, Result, Ok, Err}
use Rattle.std.specs.Prelude.{is_some}
use Rattle.std.specs.List.{slice_get}
use Rattle.std.proofs.lemmas.List.{length-map}
use Rattle.larch_base.proofs.Lists.{map_map}
use Rattle.larch_base.specs.declared.label.Label.{Label}
use Rattle.larch_certificate.specs.declared.line.Line.{Line}
use Rattle.larch_session_derive_meaning.specs.DutiesTraitDuties.{trait_claims}
use Rattle.larch_session_derive_meaning.specs.DutiesMeaningClaims.{Claim}
use Rattle.larch_session_derive_meaning.specs.FlatMeaningFiles.{is_there}
use Rattle.larch_session_derive_meaning.specs.FlatMeaningStops.{Stop}
use Rattle.larch_session_derive_meaning.specs.FlatSourcesSources.{Table as Sources, files_in, name_at}
use Rattle.larch_session_derive_meaning.proofs.FlatSourcesTables.{name_got}
use Rattle.larch_prove_meaning.specs.Redo.{Replayed as Replays, redo}
use Rattle.larch_prove_meaning.specs.Reports.{Answered, all_answered}
use Rattle.larch_prove_meaning.specs.Scripts.{ClaimedDuty}
use Rattle.larch_base.specs.declared.fault.Fault.{Fault}
use Rattle.larch_raw.specs.declared.equation.RawTrait.{RawTrait}
use Rattle.larch_script_commands.specs.declared.script.Script.{Script}
use Rattle.larch_session_replay.proofs.SessionSourcesRedone.{redo_append}
use Rattle.larch_session_replay.proofs.SessionSourcesTold.{all_replayed, entry_at}
use Rattle.larch_session_derive.specs.Parts.{AreReplayed}
use Rattle.larch_session_derive_meaning.specs.Derived.{Derives, IsDerived, IsDerivedOf, answer_with, answers_by}
use Rattle.larch_session_derive_meaning.specs.Ordered.{AreInOrder}
use Rattle.larch_session_derive_meaning.proofs.Called.{absent_has_none}
use Rattle.larch_session_derive_meaning.specs.SessionLawClaims.{AreClaims}
use Rattle.larch_session_derive_meaning.specs.SessionMeaningFiles.{script_among}
use Rattle.larch_session_derive_meaning.specs.SessionMeaningRedone.{replayed_for_trait, replayed_on}
use Rattle.larch_session_derive_meaning.specs.SessionMeaningTraits.{script_duty}
use Rattle.larch_session_replay.specs.Replayed.{AreReplays, answer_of}
use Rattle.larch_session_replay.specs.declared.replayed.Replayed.{Replayed}
use Rattle.larch_session_replay.proofs.Following.{answered_are}
use Rattle.larch_session_derive_meaning.specs.TraitsFiles.{Table}
use Rattle.larch_session_derive_meaning.specs.TraitsReading.{read_files}

-- ---- a trait that isn't there, or is wrong

none_of : (label : Label) (answers : List Answered) → answers ≡ [] → IsDerivedOf (answer_with label answers) None
none_of label answers e = subst (λ xs. IsDerivedOf (answer_with label xs) None) (sym e) refl

pub none_absent : (limit : ℕ) (files : Table) (stem : List ℕ) (label : Label) (sources : Sources) (place : Option ℕ)
    → sources ≡ read_files files → is_some place ≡ is_there (files_in sources) stem → place ≡ None
    → Derives limit files stem label None
none_absent limit files stem label sources place read there none =
    subst (λ s. IsDerivedOf (answer_with label (answers_by limit (script_among files stem) (trait_claims s stem))) None)
    read
    (none_of label (answers_by limit (script_among files stem) (trait_claims sources stem))
    (absent_has_none limit (script_among files stem) sources stem (sym there ∙ ap is_some none)))

pub none_wrong : (limit : ℕ) (files : Table) (stem : List ℕ) (label : Label) (sources : Sources) (stop : Stop)
    → sources ≡ read_files files → trait_claims sources stem ≡ Err stop → Derives limit files stem label None
none_wrong limit files stem label sources stop read is =
    subst (λ r. IsDerivedOf (answer_with label (answers_by limit (script_among files stem) r)) None)
    (sym is ∙ ap (λ s. trait_claims s stem) read) refl

-- a trait that is right
pub of_claims : (limit : ℕ) (files : Table) (stem : List ℕ) (label : Label) (sources : Sources) (claims : List Claim)
    (derived : Option (List Line)) → sources ≡ read_files files → trait_claims sources stem ≡ Ok claims
    → IsDerivedOf (answer_with label (answers_by limit (script_among files stem) (Ok claims))) derived
    → Derives limit files stem label derived
of_claims limit files stem label sources claims derived read is h =
    subst (λ r. IsDerivedOf (answer_with label (answers_by limit (script_among files stem) r)) derived)
    (sym is ∙ ap (λ s. trait_claims s stem) read) h

-- ---- duties that were replayed

module _ (limit : ℕ) (script : Script) (claims : List Claim) (rs : List Replayed)
    (answers : map answer_of rs ≡ all_answered limit script [] 1 (map script_duty claims)) where
  duties_are : map (λ (r : Replayed). (answer_of r).duty) rs ≡ map script_duty claims
  duties_are =
      sym (map_map (λ (a : Answered). a.duty) answer_of rs) ∙ ap (map (λ (a : Answered). a.duty)) answers
      ∙ answered_are limit script [] 1 (map script_duty claims)

  pub replayed_are : AreClaims (map script_duty claims) → AreInOrder (map script_duty claims)
      → AreReplays limit script [] rs → AreReplayed rs
  replayed_are are order replays =
      record {
        limit = limit;
        script = script;
        claims = subst AreClaims (sym duties_are) are;
        order = subst AreInOrder (sym duties_are) order;
        replays = replays;
      }

  pub some_replayed : 0 < length claims → 0 < length rs
  some_replayed lt =
      let same = sym (length-map rs (λ (r : Replayed). (answer_of r).duty)) ∙ ap length duties_are
      ∙ length-map claims script_duty in
      omega (arith, lt, same)

nothing_behind : {A : Type 0} (ys : List A) (y : A) → [] ≡ ys ++ y ∷ [] → ⊥
nothing_behind [] y e = absurd (cc)
nothing_behind (z ∷ ys) y e = absurd (cc)

tail_is : {A : Type 0} (x y : A) (xs ys : List A) → x ∷ xs ≡ y ∷ ys → xs ≡ ys
tail_is x y xs ys e = cc

-- what the last of some things is made of
last_made : {A B : Type 0} (f : A → B) (xs : List A) (ys : List B) (y : B) → map f xs ≡ ys ++ y ∷ []
    → (front : List A) × ((x : A) × ((xs ≡ front ++ x ∷ []) × (f x ≡ y)))
last_made f [] ys y e = absurd (nothing_behind ys y e)
last_made f (x ∷ []) [] y e = ([], (x, (refl, cc)))
last_made f (x ∷ z ∷ xs) [] y e = absurd (cc)
last_made f (x ∷ xs) (w ∷ ys) y e =
    let m = last_made f xs ys y (tail_is (f x) w (map f xs) (ys ++ y ∷ []) e) in
    (x ∷ m.0, (m.1.0, (ap (λ zs. x ∷ zs) m.1.1.0, m.1.1.1)))

-- of the last of them is derived what is derived of its answer
pub last_derived : (rs : List Replayed) (answers : List Answered) (derived : Option (List Line))
    → map answer_of rs ≡ answers
    → ((front : List Replayed) (last : Replayed) → rs ≡ front ++ last ∷ [] → IsDerived (answer_of last) derived)
    → (before : List Answered) (last : Answered) → answers ≡ before ++ last ∷ [] → IsDerived last derived
last_derived rs answers derived is h before last e =
    let m = last_made answer_of rs before last (is ∙ e) in
    subst (λ a. IsDerived a derived) m.1.1.1 (h m.0 m.1.0 m.1.1.0)

-- the answer with the label is this one
pub of_answer : (label : Label) (answers : List Answered) (answer : Answered) (derived : Option (List Line))
    → answer_with label answers ≡ Some answer → IsDerived answer derived
    → IsDerivedOf (answer_with label answers) derived
of_answer label answers answer derived e h = subst (λ o. IsDerivedOf o derived) (sym e) h

-- what holds of an answer holds in another way
pub if_ok_so : {X E : Type 0} {P Q : X → Type 0} (r : Result X E) → ((x : X) → P x → Q x) → IfOk r P → IfOk r Q
if_ok_so (Ok x) f h = f x h
if_ok_so (Err e) f h = tt

-- ---- steps

one_of : (f : List ℕ → List Replays) (sources : Sources) (i : ℕ) (n : List ℕ) (t : Result RawTrait Fault)
    → slice_get sources i ≡ Some (n, t) → redo [] (f n) ≤ redo [] (flat_map (λ s. f s.0) sources)
one_of f [] i n t e = cc
one_of f (s ∷ sources) zero n t e =
    let all = redo_append (f s.0) (flat_map (λ q. f q.0) sources) in
    let first : s ≡ (n, t) = cc in
    let same : redo [] (f s.0) ≡ redo [] (f n) = ap (λ q. redo [] (f q.0)) first in
    omega (arith, all, same)
one_of f (s ∷ sources) (suc i) n t e =
    let all = redo_append (f s.0) (flat_map (λ q. f q.0) sources) in
    let later = one_of f sources i n t e in
    omega (arith, all, later)

-- one trait takes no more than all
pub steps_within : (limit : ℕ) (files : Table) (sources : Sources) (i : ℕ) → i < length sources
    → sources ≡ read_files files
    → redo [] (replayed_for_trait limit (script_among files (name_at sources i)) (name_at sources i)
    (trait_claims sources (name_at sources i))) ≤ redo [] (replayed_on limit files)
steps_within limit files sources i lt read =
    let f : List ℕ → List Replays =
    λ stem. replayed_for_trait limit (script_among files stem) stem (trait_claims sources stem) in
    let p = entry_at sources i lt in
    let named : name_at sources i ≡ p.0.0 = name_got sources i p.0.0 p.0.1 p.1.1.1 in
    let one = one_of f sources i p.0.0 p.0.1 p.1.1.1 in
    let own : redo [] (f (name_at sources i)) ≡ redo [] (f p.0.0) = ap (λ n. redo [] (f n)) named in
    let same = ap (redo []) (all_replayed limit files sources read) in
    omega (arith, one, own, same)

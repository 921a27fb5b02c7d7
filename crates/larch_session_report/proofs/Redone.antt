-- What is replayed, and what is replayed again, trait by trait.
use Rattle.std.proofs.Common.{◌≡◌, sym, ap, subst, ◌∙◌, arith, ℕ, ◌+◌, ◌<◌, ◌≤◌, flat_map, drop, length}
use Rattle.std.proofs.Common.{List, [], ◌++◌, map, Ok, Err}
use Rattle.std.specs.Prelude.{find}
use Rattle.std.proofs.lemmas.List.{append_assoc}
use Rattle.std.proofs.lemmas.List.Sums.{sum_by-append}
use Rattle.larch_prove_meaning.specs.Redo.{Replayed, is_of_one, redo, redone, trait_replayed}
use Rattle.larch_session_replay.specs.DutiesMeaningClaims.{Claim}
use Rattle.larch_session_replay.specs.DutiesTraitDuties.{trait_claims}
use Rattle.larch_session_replay.specs.FlatMeaningStops.{Stop}
use Rattle.larch_session_replay.specs.FlatSourcesSources.{Table as Sources, name_at}
use Rattle.larch_session_replay.specs.SessionMeaningFiles.{script_among}
use Rattle.larch_session_replay.specs.SessionMeaningRedone.{replayed_for_trait}
use Rattle.larch_session_replay.specs.SessionMeaningTraits.{script_duty}
use Rattle.larch_session_replay.specs.TraitsFiles.{Table}
use Rattle.larch_session_law.proofs.FlatSourcesTables.{name_got}
use Rattle.larch_session_replay.proofs.SessionSourcesTold.{entry_at}

redo_append : (before xs ys : List Replayed) → redo before (xs ++ ys) ≡ redo before xs + redo before ys
redo_append before xs ys = sum_by-append (λ r. redone r (find (is_of_one r) before)) xs ys

-- what is replayed for a trait that claims this
pub claimed_replayed : (limit : ℕ) (files : Table) (sources : Sources) (name stem : List ℕ) (claims : List Claim)
    → stem ≡ name → trait_claims sources name ≡ Ok claims
    → trait_replayed limit stem (script_among files stem) (map script_duty claims)
    ≡ replayed_for_trait limit (script_among files name) name (trait_claims sources name)
claimed_replayed limit files sources name stem claims named is =
    ap (λ n. trait_replayed limit n (script_among files n) (map script_duty claims)) named
    ∙ ap (replayed_for_trait limit (script_among files name) name) (sym is)

-- and for one that is wrong
pub wrong_replayed : (limit : ℕ) (files : Table) (sources : Sources) (name : List ℕ) (stop : Stop)
    → trait_claims sources name ≡ Err stop
    → replayed_for_trait limit (script_among files name) name (trait_claims sources name) ≡ []
wrong_replayed limit files sources name stop is = ap (replayed_for_trait limit (script_among files name) name) is

module _ (limit : ℕ) (files : Table) (before : List Replayed) where
  -- what is replayed for the next trait is put behind the others
  pub next_records : (all sources : Sources) (i : ℕ) (old new whole : List Replayed) → i < length sources
      → new ≡ old ++ replayed_for_trait limit (script_among files (name_at sources i)) (name_at sources i)
      (trait_claims all (name_at sources i))
      → old ++ flat_map (λ source. replayed_for_trait limit (script_among files source.0) source.0
      (trait_claims all source.0)) (drop i sources) ≡ whole
      → new ++ flat_map (λ source. replayed_for_trait limit (script_among files source.0) source.0
      (trait_claims all source.0)) (drop (i + 1) sources) ≡ whole
  next_records all sources i old new whole lt put e =
      let p = entry_at sources i lt in
      let f : List ℕ → List Replayed =
      λ stem. replayed_for_trait limit (script_among files stem) stem (trait_claims all stem) in
      let named : name_at sources i ≡ p.0.0 = name_got sources i p.0.0 p.0.1 p.1.1.1 in
      let rest = flat_map (λ source. f source.0) (drop (i + 1) sources) in
      ap (λ x. x ++ rest) (put ∙ ap (λ n. old ++ f n) named) ∙ append_assoc old (f p.0.0) rest
      ∙ sym (ap (λ xs. old ++ flat_map (λ source. f source.0) xs) p.1.0) ∙ e

  -- and its steps to the others
  pub next_redone : (all sources : Sources) (i : ℕ) (then now whole : ℕ) → i < length sources
      → now ≤ then + redo before (replayed_for_trait limit (script_among files (name_at sources i)) (name_at sources i)
      (trait_claims all (name_at sources i)))
      → then + redo before (flat_map (λ source. replayed_for_trait limit (script_among files source.0) source.0
      (trait_claims all source.0)) (drop i sources)) ≤ whole
      → now + redo before (flat_map (λ source. replayed_for_trait limit (script_among files source.0) source.0
      (trait_claims all source.0)) (drop (i + 1) sources)) ≤ whole
  next_redone all sources i then now whole lt most e =
      let p = entry_at sources i lt in
      let f : List ℕ → List Replayed =
      λ stem. replayed_for_trait limit (script_among files stem) stem (trait_claims all stem) in
      let named : name_at sources i ≡ p.0.0 = name_got sources i p.0.0 p.0.1 p.1.1.1 in
      let rest = flat_map (λ source. f source.0) (drop (i + 1) sources) in
      let own : now ≤ then + redo before (f p.0.0) = subst (λ n. now ≤ then + redo before (f n)) named most in
      let split : redo before (flat_map (λ source. f source.0) (drop i sources))
      ≡ redo before (f p.0.0) + redo before rest =
      ap (λ xs. redo before (flat_map (λ source. f source.0) xs)) p.1.0 ∙ redo_append before (f p.0.0) rest in
      omega (arith, own, split, e)

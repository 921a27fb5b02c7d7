-- The lines of the critical pairs of two facts.
use Rattle.std.specs.Prelude.{◌≡◌, ◌+◌, ◌<◌, ◌++◌, ℕ, Bool, true, false, List, [], ◌∷◌, All, AllPairs, Ok, get_or}
use Rattle.std.specs.Prelude.{Decides, length, map, take}
use Rattle.std.proofs.Common.{ap, sym, subst, ◌∙◌}
use Rattle.std.proofs.lemmas.Bool.Decides.{same_from_decides}
use Rattle.std.proofs.lemmas.List.{map-append, take_more}
use Rattle.std.proofs.lemmas.List.Elements.{All-append, All-cons, All-contains, All-nil, All-weaker}
use Rattle.larch_base.proofs.Lists.{all_from}
use Rattle.larch_base.specs.declared.fact_name.FactName.{FactName}
use Rattle.larch_complete_pairs.specs.CompleteMeaningPairs.{as_equation, as_rule}
use Rattle.larch_complete_pairs.proofs.PairEntries.{all_apart}
use Rattle.larch_complete_pairs.specs.Said.{IsPairOf}
use Rattle.larch_derive.proofs.Growth.{stays_said}
use Rattle.larch_derive.specs.Predicates.{Extends, HasEquation}
use Rattle.larch_derive.specs.declared.builder.Builder.{Builder}
use Rattle.larch_complete_pairs.specs.DeriveBoxesBoxes.{IsPart}
use Rattle.larch_complete_pairs.specs.DeriveLinesRules.{AreKnownEntries}
use Rattle.larch_pairs_critical.proofs.Overlapping.{all_overlap}
use Rattle.larch_pairs_critical.proofs.Replacements.{all_differ}
use Rattle.larch_pairs_critical.specs.Overlap.{IsApplication, Overlaps}
use Rattle.larch_pairs_critical.specs.Pairs.{critical_pairs}
use Rattle.larch_pairs_critical.specs.declared.pair.Pair.{Pair}
use Rattle.larch_prove_work.proofs.ProveAddingStaying.{equations_stay}
use Rattle.larch_prove_work.specs.ProveAddingEquation.{IsSaid, sides_in}
use Rattle.larch_prove_work.specs.ProveAddingEquationSaidEquation.{SaidEquation}
use Rattle.larch_prove_work.proofs.ProveInvariantInstances.{pair_entries}
use Rattle.larch_prove_work.specs.ProveInvariantHolding.{open_constants}
use Rattle.larch_rewrite_meaning.specs.Sides.{Sides}
use Rattle.larch_script_commands.proofs.Decided.{fact_Decides}
use Rattle.larch_script_commands.specs.Same.{same_fact_name}
use Rattle.larch_term.specs.Substitution.{is_entry_of}
use Rattle.larch_term.specs.declared.substitution.Entry.{Entry}

-- whether two names are one
pub name_told : (b : Bool) (n m : FactName) → Decides b (n ≡ m) → b ≡ same_fact_name n m
name_told b n m d = same_from_decides b (same_fact_name n m) d (fact_Decides n m)

-- each critical pair of two rules that lines say can be written
pub all_pairs_written : (b : Builder) (n m : ℕ) (r q : Sides) (one : Bool) (ps : List Pair)
    → All IsPart (open_constants b) → HasEquation b n r.left r.right → HasEquation b m q.left q.right
    → IsApplication q.left → critical_pairs (as_rule r) (as_rule q) one ≡ Ok ps → All (IsPairOf b r q) ps
all_pairs_written b n m r q one ps parts h k i e =
    let entries = pair_entries b n m (as_rule r) (as_rule q) one ps parts h k i e in
    let overlap = all_overlap (as_rule r) (as_rule q) one ps e in
    let differ = all_differ (as_rule r) (as_rule q) one ps e in
    all_from (IsPairOf b r q) ps (λ p c.
    let known = All-contains (λ (x : Pair). AreKnownEntries b x.first × AreKnownEntries b x.second) ps p entries c in
    let apart = All-contains (λ (x : Pair). AllPairs (λ d y. is_entry_of y.name y.sort d ≡ false) x.first
    × AllPairs (λ d y. is_entry_of y.name y.sort d ≡ false) x.second) ps p differ c in
    record {
      overlaps = All-contains (Overlaps (as_rule r) (as_rule q)) ps p overlap c;
      first = known.0;
      second = known.1;
      first_different = all_apart p.first apart.0;
      second_different = all_apart p.second apart.1;
    })

-- one pair more
pub pairs_more : (now new : List SaidEquation) (pairs : List Pair) (i : ℕ) (p : Pair) (e : SaidEquation)
    → map sides_in now ≡ map as_equation (take i pairs) → new ≡ now ++ e ∷ [] → sides_in e ≡ as_equation p
    → i < length pairs → p ≡ get_or pairs i p
    → map sides_in new ≡ map as_equation (take (i + 1) pairs)
pairs_more now new pairs i p e w n s l g =
    ap (map sides_in) n
    ∙ (map-append sides_in now (e ∷ [])
    ∙ (ap (λ es. es ++ sides_in e ∷ []) w
    ∙ (ap (λ d. map as_equation (take i pairs) ++ d ∷ []) s
    ∙ (sym (map-append as_equation (take i pairs) (p ∷ []))
    ∙ ap (map as_equation) (ap (λ q. take i pairs ++ q ∷ []) g ∙ sym (take_more pairs i p l))))))

pub said_more : (a b : Builder) (now new : List SaidEquation) (e : SaidEquation) → Extends a b → All (IsSaid a) now
    → IsSaid b e → new ≡ now ++ e ∷ [] → All (IsSaid b) new
said_more a b now new e x h k n =
    subst (All (IsSaid b)) (sym n)
    (All-append (IsSaid b) now (e ∷ []) (equations_stay a b now x h)
    (All-cons (IsSaid b) e [] k (All-nil (IsSaid b))))

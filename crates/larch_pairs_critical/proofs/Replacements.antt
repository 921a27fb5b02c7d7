-- What takes the places of variables in critical pairs.
use Rattle.std.proofs.Common.{◌≡◌, ℕ, Bool, false, List, [], ◌∷◌, map, All, AllPairs, Contains, Some, Ok, ◌∙◌, subst}
use Rattle.std.proofs.lemmas.List.Elements.{All-nil, All-cons, All-head, All-tail}
use Rattle.larch_base.proofs.Lists.{map_map}
use Rattle.larch_term.specs.Operator.{PlainOperator}
use Rattle.larch_term.specs.Place.{at}
use Rattle.larch_term.specs.Sorts.{IsOver}
use Rattle.larch_term.specs.Substitution.{Fits, instance_of, is_entry_of}
use Rattle.larch_term.specs.Tree.{Tree}
use Rattle.larch_term.specs.declared.substitution.Entry.{Entry}
use Rattle.larch_pairs.proofs.TermLawPlaces.{at_over, at_well_sorted}
use Rattle.larch_pairs.proofs.TermLawSubstitutions.{substituted_over}
use Rattle.larch_pairs.proofs.Fitting.{entries_fit}
use Rattle.larch_pairs.proofs.OverOperators.{unifier_over}
use Rattle.larch_pairs.specs.Unify.{entries_under, unify, variables_of_both}
use Rattle.larch_pairs_critical.proofs.Different.{marking_different, under_different}
use Rattle.larch_pairs_critical.proofs.Every.{all_pairs, pair_from}
use Rattle.larch_pairs_critical.proofs.OverOperators.{marked_over, numbered_over}
use Rattle.larch_pairs_critical.proofs.Overlapping.{marking_bound}
use Rattle.larch_pairs_critical.proofs.Sorting.{marked_fit, numbered_fit, stands_inner, under_application, under_sorted}
use Rattle.larch_pairs_critical.proofs.Sorting.{unifying_fits}
use Rattle.larch_pairs_critical.specs.Overlap.{AreSorted, IsApplication}
use Rattle.larch_pairs_critical.specs.Pairs.{apart, critical_pairs, inner_places, marking, name_variables}
use Rattle.larch_pairs_critical.specs.Pairs.{number_variables, pair_variables, raw_pair}
use Rattle.larch_pairs_critical.specs.Variables.{variable_in}
use Rattle.larch_pairs_critical.specs.declared.pair.Pair.{Pair}
use Rattle.larch_pairs_critical.specs.declared.pair.Rule.{Rule}

-- what holds of the pair that a unifier makes at a place, whatever the place
abbrev pub ByUnifier : (Pair → Type 0) → Rule → Rule → Type 0
ByUnifier P r q =
    (p : List ℕ) (t : Tree) (u : List Entry) → Contains (inner_places (apart 1 r).rule.left) p
    → at (apart 1 r).rule.left p ≡ Some t → unify t (apart 2 q).rule.left ≡ Ok (Some u)
    → P (name_variables (raw_pair (apart 1 r) (apart 2 q) p u))

pub of_all : (P : Pair → Type 0) (r q : Rule) (b : Bool) (ps : List Pair) → ByUnifier P r q
    → critical_pairs r q b ≡ Ok ps → All P ps
of_all P r q b ps h e =
    all_pairs P r q b ps
    (λ p c y x.
    let f = pair_from (apart 1 r) (apart 2 q) p y x in
    subst P f.is (h p f.here f.unifier c f.stands f.unifies))
    e

-- ---- sorts

-- the terms of both substitutions have the sorts of their variables
abbrev BothFit : Pair → Type 0
BothFit p = Fits p.first × Fits p.second

pub all_fit : (r q : Rule) (b : Bool) (ps : List Pair) → AreSorted r.left r.right → AreSorted q.left q.right
    → IsApplication q.left → critical_pairs r q b ≡ Ok ps → All BothFit ps
all_fit r q b ps h k i e =
    of_all BothFit r q b ps
    (λ p t u c a x.
    let one = (apart 1 r).rule in
    let raw = raw_pair (apart 1 r) (apart 2 q) p u in
    let marks = marked_fit 1 (variables_of_both r.left r.right) in
    let others = marked_fit 2 (variables_of_both q.left q.right) in
    let m = under_sorted (marking 1 r) r.left r.right marks h in
    let n = under_sorted (marking 2 q) q.left q.right others k in
    let f = unifying_fits t (apart 2 q).rule.left u (at_well_sorted one.left p t a m.0) n.0
    (stands_inner one.left p c t a) (under_application (marking 2 q) q.left i) x in
    let ns = number_variables 1 (pair_variables raw) in
    let last = numbered_fit 1 (pair_variables raw) in (
      entries_fit ns (entries_under u (marking 1 r)) last (entries_fit u (marking 1 r) f marks),
      entries_fit ns (entries_under u (marking 2 q)) last (entries_fit u (marking 2 q) f others),
    ))
    e

-- ---- operators

abbrev EntryOver : List PlainOperator → Entry → Type 0
EntryOver fs e = IsOver fs e.term

entries_over : (fs : List PlainOperator) (os bs : List Entry) → All (EntryOver fs) os → All (EntryOver fs) bs
    → All (EntryOver fs) (entries_under os bs)
entries_over fs os [] k h = All-nil (EntryOver fs)
entries_over fs os (b ∷ bs) k h =
    All-cons (EntryOver fs) (record { name = b.name; sort = b.sort; term = instance_of os b.term })
    (entries_under os bs) (substituted_over fs os b.term k (All-head (EntryOver fs) b bs h))
    (entries_over fs os bs k (All-tail (EntryOver fs) b bs h))

-- the terms of both substitutions are over operators
abbrev BothOver : List PlainOperator → Pair → Type 0
BothOver fs p = All (EntryOver fs) p.first × All (EntryOver fs) p.second

pub all_over : (fs : List PlainOperator) (r q : Rule) (b : Bool) (ps : List Pair) → IsOver fs r.left × IsOver fs r.right
    → IsOver fs q.left × IsOver fs q.right → critical_pairs r q b ≡ Ok ps → All (BothOver fs) ps
all_over fs r q b ps h k e =
    of_all (BothOver fs) r q b ps
    (λ p t u c a x.
    let one = (apart 1 r).rule in
    let raw = raw_pair (apart 1 r) (apart 2 q) p u in
    let m = marked_over fs 1 (variables_of_both r.left r.right) in
    let n = marked_over fs 2 (variables_of_both q.left q.right) in
    let f = unifier_over fs t (apart 2 q).rule.left u
    (at_over fs one.left p t a (substituted_over fs (marking 1 r) r.left m h.0))
    (substituted_over fs (marking 2 q) q.left n k.0) x in
    let ns = number_variables 1 (pair_variables raw) in
    let last = numbered_over fs 1 (pair_variables raw) in (
      entries_over fs ns (entries_under u (marking 1 r)) last (entries_over fs u (marking 1 r) f m),
      entries_over fs ns (entries_under u (marking 2 q)) last (entries_over fs u (marking 2 q) f n),
    ))
    e

-- ---- variables

variables_under : (es bs : List Entry) → map variable_in (entries_under es bs) ≡ map variable_in bs
variables_under es bs =
    map_map variable_in (λ d. record { name = d.name; sort = d.sort; term = instance_of es d.term }) bs

named_variables : (ns u : List Entry) (k : ℕ) (r : Rule)
    → map variable_in (entries_under ns (entries_under u (marking k r))) ≡ variables_of_both r.left r.right
named_variables ns u k r =
    variables_under ns (entries_under u (marking k r)) ∙ (variables_under u (marking k r) ∙ marking_bound k r)

pub first_variables : (r q : Rule) (b : Bool) (ps : List Pair) → critical_pairs r q b ≡ Ok ps
    → All (λ p. map variable_in p.first ≡ variables_of_both r.left r.right) ps
first_variables r q b ps e =
    of_all (λ p. map variable_in p.first ≡ variables_of_both r.left r.right) r q b ps
    (λ p t u c a x. named_variables
    (number_variables 1 (pair_variables (raw_pair (apart 1 r) (apart 2 q) p u))) u 1 r)
    e

pub second_variables : (r q : Rule) (b : Bool) (ps : List Pair) → critical_pairs r q b ≡ Ok ps
    → All (λ p. map variable_in p.second ≡ variables_of_both q.left q.right) ps
second_variables r q b ps e =
    of_all (λ p. map variable_in p.second ≡ variables_of_both q.left q.right) r q b ps
    (λ p t u c a x. named_variables
    (number_variables 1 (pair_variables (raw_pair (apart 1 r) (apart 2 q) p u))) u 2 q)
    e

-- no two entries of either substitution are of one variable
abbrev BothDiffer : Pair → Type 0
BothDiffer p =
    AllPairs (λ d e. is_entry_of e.name e.sort d ≡ false) p.first
    × AllPairs (λ d e. is_entry_of e.name e.sort d ≡ false) p.second

pub all_differ : (r q : Rule) (b : Bool) (ps : List Pair) → critical_pairs r q b ≡ Ok ps → All BothDiffer ps
all_differ r q b ps e =
    of_all BothDiffer r q b ps
    (λ p t u c a x.
    let ns = number_variables 1 (pair_variables (raw_pair (apart 1 r) (apart 2 q) p u)) in (
      under_different ns (entries_under u (marking 1 r)) (under_different u (marking 1 r) (marking_different 1 r)),
      under_different ns (entries_under u (marking 2 q)) (under_different u (marking 2 q) (marking_different 2 q)),
    ))
    e

-- Critical pairs of rules over operators are over them.
use Rattle.std.specs.Prelude.{◌≡◌, ℕ, ◌+◌, ◌++◌, Bool, List, [], ◌∷◌, map, codes, Some, Ok, All}
use Rattle.std.specs.Fmt.{decimal}
use Rattle.std.proofs.Common.{subst}
use Rattle.std.proofs.lemmas.List.Elements.{All-nil, All-cons}
use Rattle.larch_term.specs.Operator.{PlainOperator}
use Rattle.larch_term.specs.Place.{at, put}
use Rattle.larch_term.specs.Sorts.{IsOver}
use Rattle.larch_term.specs.Tree.{Tree, var}
use Rattle.larch_term.specs.declared.substitution.Entry.{Entry}
use Rattle.larch_term.specs.declared.variable.Variable.{Variable}
use Rattle.larch_pairs.proofs.TermLawPlaces.{at_over, put_over}
use Rattle.larch_pairs.proofs.TermLawSubstitutions.{substituted_over}
use Rattle.larch_pairs.proofs.OverOperators.{unifier_over}
use Rattle.larch_pairs.specs.Unify.{unify, variables_of_both}
use Rattle.larch_pairs_critical.proofs.Every.{all_pairs, pair_from}
use Rattle.larch_pairs_critical.specs.Pairs.{apart, critical_pairs, marking, name_variables, number_variables}
use Rattle.larch_pairs_critical.specs.Pairs.{pair_variables, raw_pair}
use Rattle.larch_pairs_critical.specs.declared.pair.Pair.{Pair}
use Rattle.larch_pairs_critical.specs.declared.pair.Rule.{Rule}

-- each term of a substitution is over operators
abbrev EntryOver : List PlainOperator → Entry → Type 0
EntryOver fs e = IsOver fs e.term

pub marked_over : (fs : List PlainOperator) (k : ℕ) (vs : List Variable)
    → All (EntryOver fs) (map (λ v. record { name = v.name; sort = v.sort; term = var (v.name ++ k ∷ []) v.sort }) vs)
marked_over fs k [] = All-nil (EntryOver fs)
marked_over fs k (v ∷ vs) =
    All-cons (EntryOver fs) (record { name = v.name; sort = v.sort; term = var (v.name ++ k ∷ []) v.sort })
    (map (λ v. record { name = v.name; sort = v.sort; term = var (v.name ++ k ∷ []) v.sort }) vs) tt
    (marked_over fs k vs)

pub numbered_over : (fs : List PlainOperator) (k : ℕ) (vs : List Variable) → All (EntryOver fs) (number_variables k vs)
numbered_over fs k [] = All-nil (EntryOver fs)
numbered_over fs k (v ∷ vs) =
    All-cons (EntryOver fs) (record { name = v.name; sort = v.sort; term = var (codes "v" ++ decimal k) v.sort })
    (number_variables (k + 1) vs) tt (numbered_over fs (k + 1) vs)

-- both sides of a rule, and of a pair, are over operators
abbrev IsRuleOver : List PlainOperator → Rule → Type 0
IsRuleOver fs r = IsOver fs r.left × IsOver fs r.right

abbrev IsPairOver : List PlainOperator → Pair → Type 0
IsPairOver fs q = IsOver fs q.left × IsOver fs q.right

-- the pair of a unifier
made_over : (fs : List PlainOperator) (r q : Rule) (p : List ℕ) (t : Tree) (u : List Entry) → IsRuleOver fs r
    → IsRuleOver fs q → at (apart 1 r).rule.left p ≡ Some t → unify t (apart 2 q).rule.left ≡ Ok (Some u)
    → IsPairOver fs (name_variables (raw_pair (apart 1 r) (apart 2 q) p u))
made_over fs r q p t u h k a e =
    let one = (apart 1 r).rule in
    let two = (apart 2 q).rule in
    let raw = raw_pair (apart 1 r) (apart 2 q) p u in
    let m = marked_over fs 1 (variables_of_both r.left r.right) in
    let n = marked_over fs 2 (variables_of_both q.left q.right) in
    let left = substituted_over fs (marking 1 r) r.left m h.0 in
    let unifier = unifier_over fs t two.left u (at_over fs one.left p t a left)
    (substituted_over fs (marking 2 q) q.left n k.0) e in
    let last = numbered_over fs 1 (pair_variables raw) in (
      substituted_over fs (number_variables 1 (pair_variables raw)) raw.left last
          (substituted_over fs u (put one.left p two.right) unifier
          (put_over fs one.left p two.right left (substituted_over fs (marking 2 q) q.right n k.1))),
      substituted_over fs (number_variables 1 (pair_variables raw)) raw.right last
          (substituted_over fs u one.right unifier (substituted_over fs (marking 1 r) r.right m h.1)),
    )

-- critical pairs of rules over operators are over them
pub pairs_over : (fs : List PlainOperator) (r q : Rule) (b : Bool) (ps : List Pair) → IsRuleOver fs r → IsRuleOver fs q
    → critical_pairs r q b ≡ Ok ps → All (IsPairOver fs) ps
pairs_over fs r q b ps h k e =
    all_pairs (IsPairOver fs) r q b ps
    (λ p c y x.
    let f = pair_from (apart 1 r) (apart 2 q) p y x in
    subst (IsPairOver fs) f.is (made_over fs r q p f.here f.unifier h k f.stands f.unifies))
    e

-- Each critical pair comes from one term.
use Rattle.std.proofs.Common.{◌≡◌, ℕ, inl, inr, cond, Bool, true, false, List, [], ◌∷◌, ◌++◌, map, Some, Ok, All}
use Rattle.std.proofs.Common.{Contains, refl, sym, ◌∙◌, ap, subst}
use Rattle.larch_base.proofs.Lists.{all_from, map_map}
use Rattle.larch_base.proofs.Members.{contains_cases, contains_none}
use Rattle.larch_term.specs.Place.{at, put}
use Rattle.larch_term.specs.Substitution.{image, is_entry_of, instance_of}
use Rattle.larch_term.specs.Tree.{Tree, var}
use Rattle.larch_term.specs.Variable.{occurrences}
use Rattle.larch_term.specs.declared.substitution.Entry.{Entry}
use Rattle.larch_term.specs.declared.variable.Variable.{Variable}
use Rattle.larch_pairs.proofs.TermLawAgreement.{AgreeOn, same_by_agreement}
use Rattle.larch_pairs.proofs.TermLawOccurring.{variable_Decides}
use Rattle.larch_pairs.proofs.TermLawSubstitutions.{at_substituted, substituted_composed, substituted_put}
use Rattle.larch_term.specs.Substitution.{compose}
use Rattle.larch_pairs.proofs.Kept.{Among, variable_of}
use Rattle.larch_pairs_critical.proofs.Every.{all_pairs, pair_from}
use Rattle.larch_pairs.proofs.Solving.{left_listed, right_listed, unifier_unifies}
use Rattle.larch_pairs_critical.specs.Overlap.{Overlaps}
use Rattle.larch_pairs_critical.specs.Pairs.{apart, critical_pairs, marking, name_variables, number_variables, pair_at}
use Rattle.larch_pairs_critical.specs.Pairs.{pair_variables, raw_pair}
use Rattle.larch_pairs.specs.Unify.{entries_under, unify, variables_of_both}
use Rattle.larch_pairs_critical.specs.declared.pair.Pair.{Pair}
use Rattle.larch_pairs_critical.specs.declared.pair.Rule.{Rule}

under_by : (es bs : List Entry) (b : Entry) (x : Variable) (c : Bool) → is_entry_of x.name x.sort b ≡ c
    → (c ≡ false → image (entries_under es bs) x.name x.sort ≡ instance_of es (image bs x.name x.sort))
    → cond c (instance_of es b.term) (image (entries_under es bs) x.name x.sort)
    ≡ instance_of es (cond c b.term (image bs x.name x.sort))
under_by es bs b x true e h = refl
under_by es bs b x false e h = h refl

-- what takes the place of a bound variable
image_under : (es bs : List Entry) (x : Variable) → Contains (map variable_of bs) x
    → image (entries_under es bs) x.name x.sort ≡ instance_of es (image bs x.name x.sort)
image_under es [] x c = absurd (contains_none x c)
image_under es (b ∷ bs) x c =
    under_by es bs b x (is_entry_of x.name x.sort b) refl
    (λ f. elim (contains_cases (variable_of b) x (map variable_of bs) c) [
      | inl e ↦ let t = (variable_Decides (variable_of b) x).1 e in let z : true ≡ false = sym t ∙ f in cc
      | inr d ↦ image_under es bs x d
    ])

-- all variables of the term are bound
abbrev AllBound : List Entry → Tree → Type 0
AllBound bs t = Among (map variable_of bs) (occurrences t)

image_composed : (es bs : List Entry) (x : Variable) → Contains (map variable_of bs) x
    → image (entries_under es bs) x.name x.sort ≡ image (compose es bs) x.name x.sort
image_composed es bs x c = image_under es bs x c ∙ sym (substituted_composed es bs (var x.name x.sort))

substituted_under : (es bs : List Entry) (t : Tree) → AllBound bs t
    → instance_of (entries_under es bs) t ≡ instance_of es (instance_of bs t)
substituted_under es bs t h =
    same_by_agreement (entries_under es bs) (compose es bs) t
    (all_from (AgreeOn (entries_under es bs) (compose es bs)) (occurrences t) (λ x c. image_composed es bs x (h x c)))
    ∙ substituted_composed es bs t

still_bound : (es bs : List Entry) (t : Tree) → AllBound bs t → AllBound (entries_under es bs) t
still_bound es bs t h x c =
    subst (λ vs. Contains vs x) (sym
    (map_map variable_of (λ d. record { name = d.name; sort = d.sort; term = instance_of es d.term }) bs)) (h x c)

unmapped : (vs : List Variable) → map (λ (v : Variable). record { name = v.name; sort = v.sort }) vs ≡ vs
unmapped [] = refl
unmapped (v ∷ vs) = ap (λ ws. v ∷ ws) (unmapped vs)

pub marking_bound : (k : ℕ) (r : Rule) → map variable_of (marking k r) ≡ variables_of_both r.left r.right
marking_bound k r =
    map_map variable_of (λ v. record { name = v.name; sort = v.sort; term = var (v.name ++ k ∷ []) v.sort })
    (variables_of_both r.left r.right)
    ∙ unmapped (variables_of_both r.left r.right)

-- a rule's term under a substitution of the pair
named_under : (ns u : List Entry) (k : ℕ) (r : Rule) (t : Tree)
    → Among (variables_of_both r.left r.right) (occurrences t)
    → instance_of (entries_under ns (entries_under u (marking k r))) t
    ≡ instance_of ns (instance_of u (instance_of (marking k r) t))
named_under ns u k r t h =
    let b : AllBound (marking k r) t = λ x c. subst (λ vs. Contains vs x) (sym (marking_bound k r)) (h x c) in
    substituted_under ns (entries_under u (marking k r)) t (still_bound u (marking k r) t b)
    ∙ ap (instance_of ns) (substituted_under u (marking k r) t b)

-- the equations of a pair that a unifier makes
overlapped : (r q : Rule) (p : List ℕ) (t : Tree) (u : List Entry) → at (apart 1 r).rule.left p ≡ Some t
    → unify t (apart 2 q).rule.left ≡ Ok (Some u)
    → Overlaps r q (name_variables (raw_pair (apart 1 r) (apart 2 q) p u))
overlapped r q p t u a e =
    let raw = raw_pair (apart 1 r) (apart 2 q) p u in
    let ns = number_variables 1 (pair_variables raw) in
    let one = (apart 1 r).rule in
    let two = (apart 2 q).rule in
    let l = named_under ns u 1 r r.left (left_listed r.left r.right) in
    let m = named_under ns u 1 r r.right (right_listed r.left r.right) in
    let k = named_under ns u 2 q q.left (left_listed q.left q.right) in
    let o = named_under ns u 2 q q.right (right_listed q.left q.right) in
    let b = at_substituted u one.left p t a in
    record {
      stands = ap (λ x. at x p) l ∙ at_substituted ns (instance_of u one.left) p (instance_of u t) b
          ∙ ap (λ x. Some (instance_of ns x)) (unifier_unifies t two.left u e) ∙ ap Some (sym k);
      left = ap (instance_of ns) (substituted_put u one.left p t two.right a)
          ∙ substituted_put ns (instance_of u one.left) p (instance_of u t) (instance_of u two.right) b
          ∙ (λ i. put (sym l i) p (sym o i));
      right = sym m;
    }

pub pair_overlaps : (r q : Rule) (p : List ℕ) (y : Pair) → pair_at (apart 1 r) (apart 2 q) p ≡ Ok (Some y)
    → Overlaps r q y
pair_overlaps r q p y h =
    let f = pair_from (apart 1 r) (apart 2 q) p y h in
    subst (Overlaps r q) f.is (overlapped r q p f.here f.unifier f.stands f.unifies)

pub all_overlap : (r q : Rule) (b : Bool) (ys : List Pair) → critical_pairs r q b ≡ Ok ys → All (Overlaps r q) ys
all_overlap r q b ys e = all_pairs (Overlaps r q) r q b ys (λ p c y h. pair_overlaps r q p y h) e

-- The variables of critical pairs are numbered, and their sorts are those of the rules' variables.
use Rattle.std.proofs.Common.{◌≡◌, ◌≢◌, ℕ, suc, zero, ◌+◌, inl, inr, cond, Bool, true, false, List, [], ◌∷◌, ◌++◌}
use Rattle.std.proofs.Common.{fold, All, Contains, Some, Ok, refl, sym, ◌∙◌, ap, subst}
use Rattle.std.specs.Prelude.{codes}
use Rattle.std.specs.Fmt.{decimal}
use Rattle.std.specs.List.{flat_map, list_any}
use Rattle.std.proofs.lemmas.List.Elements.{All-nil, All-cons, All-contains, All-head, All-tail, All-append, All-weaker}
use Rattle.larch_base.proofs.Bools.{or_left, or_right, true_or_false}
use Rattle.larch_base.proofs.Lists.{all_from}
use Rattle.larch_base.proofs.Members.{contained_in_flat_map, contained_in_map, contains_cases, contains_here}
use Rattle.larch_base.proofs.Members.{contains_flat_map, contains_later, contains_left, contains_map, contains_none}
use Rattle.larch_base.proofs.Members.{contains_right}
use Rattle.larch_term.specs.Operator.{plain}
use Rattle.larch_term.specs.Place.{at, put, put_in}
use Rattle.larch_term.specs.Substitution.{image, instance_of, is_entry_of, substituted_all}
use Rattle.larch_term.specs.Tree.{Tree, Forest, var, app, none, more}
use Rattle.larch_term.specs.Variable.{occurrences, occurrences_in, same_variable, variables_of, with_variable}
use Rattle.larch_term.specs.declared.substitution.Entry.{Entry}
use Rattle.larch_term.specs.declared.variable.Variable.{Variable}
use Rattle.larch_pairs.proofs.TermLawAgreement.{AgreeOn, agreement_by_same, same_by_agreement}
use Rattle.larch_pairs.proofs.TermLawOccurring.{all_have, all_keep, occurs_in_subterm, variable_Decides}
use Rattle.larch_pairs.proofs.TermLawSubstitutions.{image_holds, substituted_nil}
use Rattle.larch_pairs.proofs.Kept.{Among}
use Rattle.larch_pairs.proofs.Solving.{left_listed, most_general, right_listed, unifier_unifies}
use Rattle.larch_pairs.specs.Unify.{entries_under, unify, variables_of_both}
use Rattle.larch_pairs_critical.proofs.Replacements.{of_all}
use Rattle.larch_pairs_critical.specs.Pairs.{apart, critical_pairs, marking, name_variables, number_variables}
use Rattle.larch_pairs_critical.specs.Pairs.{pair_variables, raw_pair}
use Rattle.larch_pairs_critical.specs.Variables.{HasNumbered, IsNumbered, IsNumberedPair, sorts_of_rules}
use Rattle.larch_pairs_critical.specs.declared.pair.Pair.{Pair}
use Rattle.larch_pairs_critical.specs.declared.pair.Rule.{Rule}

-- ---- variables in lists

found_here : (v w : Variable) (ws : List Variable) (b : Bool) → same_variable v w ≡ b
    → (list_any (same_variable v) ws ≡ true → Contains ws v)
    → list_any (same_variable v) (w ∷ ws) ≡ true → Contains (w ∷ ws) v
found_here v w ws true e next h = subst (λ u. Contains (u ∷ ws) v) ((variable_Decides v w).0 e) (contains_here v ws)
found_here v w ws false e next h = contains_later w v ws (next (rw e at h))

found_contains : (v : Variable) (ws : List Variable) → list_any (same_variable v) ws ≡ true → Contains ws v
found_contains v [] h = cc
found_contains v (w ∷ ws) h = found_here v w ws (same_variable v w) refl (found_contains v ws) h

contains_found : (v : Variable) (ws : List Variable) → Contains ws v → list_any (same_variable v) ws ≡ true
contains_found v [] c = absurd (contains_none v c)
contains_found v (w ∷ ws) c =
    elim (contains_cases w v ws c) [
      | inl e ↦ or_left (same_variable v w) (list_any (same_variable v) ws) ((variable_Decides v w).1 (sym e))
      | inr d ↦ or_right (same_variable v w) (list_any (same_variable v) ws) (contains_found v ws d)
    ]

not_listed : (v : Variable) (ws : List Variable) → list_any (same_variable v) ws ≡ false → Contains ws v → ⊥
not_listed v ws e c = let z : true ≡ false = sym (contains_found v ws c) ∙ e in cc

-- ---- what a unifier brings in

-- a closed term
abbrev closed_term : Tree
closed_term = app (record { name = plain []; domain = []; range = [] }) none

-- a substitution that closes a variable as well
abbrev closing : Variable → List Entry → List Entry
closing w r = record { name = w.name; sort = w.sort; term = closed_term } ∷ r

other : (v w : Variable) → v ≢ w → same_variable v w ≡ false
other v w h = elim (true_or_false (same_variable v w)) [ inl a ↦ absurd (h ((variable_Decides v w).0 a)) | inr b ↦ b ]

-- it does what it did to other variables
closes_none : (w v : Variable) (r : List Entry) → w ≢ v → AgreeOn (closing w r) r v
closes_none w v r h = ap (λ b. cond b closed_term (image r v.name v.sort)) (other w v h)

-- and closes this one
closes_it : (w : Variable) (r : List Entry) → image (closing w r) w.name w.sort ≡ closed_term
closes_it w r = ap (λ b. cond b closed_term (image r w.name w.sort)) ((variable_Decides w w).1 refl)

-- a term without the variable is done the same to
closes_nothing : (w : Variable) (r : List Entry) (t : Tree) → (Contains (occurrences t) w → ⊥)
    → instance_of (closing w r) t ≡ instance_of r t
closes_nothing w r t h =
    same_by_agreement (closing w r) r t
    (all_from (AgreeOn (closing w r) r) (occurrences t) (λ v c. closes_none w v r (λ e. h
    (subst (Contains (occurrences t)) (sym e) c))))

-- no term of a unifier has a variable that neither of the terms has
none_new : (t u : Tree) (r : List Entry) (x w : Variable) → unify t u ≡ Ok (Some r)
    → (Contains (occurrences t) w → ⊥) → (Contains (occurrences u) w → ⊥) → w ≢ x
    → Contains (occurrences (image r x.name x.sort)) w → ⊥
none_new t u r x w e h k d c =
    let es = closing w r in
    let both : instance_of es t ≡ instance_of es u =
    closes_nothing w r t h ∙ (unifier_unifies t u r e ∙ sym (closes_nothing w r u k)) in
    let same : instance_of es (image r x.name x.sort) ≡ instance_of [] (image r x.name x.sort) =
    most_general t u r es e both (var x.name x.sort)
    ∙ (closes_none w x r d ∙ sym (substituted_nil (image r x.name x.sort))) in
    let a = All-contains (AgreeOn es []) (occurrences (image r x.name x.sort)) w
    (agreement_by_same es [] (image r x.name x.sort) same) c in
    let z : closed_term ≡ var w.name w.sort = sym (closes_it w r) ∙ a in
    cc

-- ---- what all variables of a term are

abbrev HasAll : (Variable → Type 0) → Tree → Type 0
HasAll P t = All P (occurrences t)

abbrev EntryHas : (Variable → Type 0) → Entry → Type 0
EntryHas P e = HasAll P e.term

mutual
  under_has : (P : Variable → Type 0) (es : List Entry) (t : Tree)
      → ((v : Variable) → Contains (occurrences t) v → HasAll P (image es v.name v.sort)) → HasAll P (instance_of es t)
  under_has P es (var n s) h = h (record { name = n; sort = s }) (contains_here (record { name = n; sort = s }) [])
  under_has P es (app f ts) h = all_under_have P es ts h

  all_under_have : (P : Variable → Type 0) (es : List Entry) (ts : Forest)
      → ((v : Variable) → Contains (occurrences_in ts) v → HasAll P (image es v.name v.sort))
      → All P (occurrences_in (substituted_all es ts))
  all_under_have P es none h = All-nil P
  all_under_have P es (more t ts) h =
      All-append P (occurrences (instance_of es t)) (occurrences_in (substituted_all es ts))
      (under_has P es t (λ v c. h v (contains_left (occurrences t) (occurrences_in ts) v c)))
      (all_under_have P es ts (λ v c. h v (contains_right (occurrences t) (occurrences_in ts) v c)))

entries_have : (P : Variable → Type 0) (es bs : List Entry)
    → ((b : Entry) → Contains bs b → HasAll P (instance_of es b.term)) → All (EntryHas P) (entries_under es bs)
entries_have P es bs h =
    all_from (EntryHas P) (entries_under es bs) (λ e c.
    let m = contained_in_map (λ (d : Entry). record { name = d.name; sort = d.sort; term = instance_of es d.term })
    bs e c in
    subst (EntryHas P) m.2 (h m.0 m.1))

all_front : {X : Type 0} (P : X → Type 0) (xs ys : List X) → All P (xs ++ ys) → All P xs
all_front P xs ys h = all_from P xs (λ x c. All-contains P (xs ++ ys) x h (contains_left xs ys x c))

all_rest : {X : Type 0} (P : X → Type 0) (xs ys : List X) → All P (xs ++ ys) → All P ys
all_rest P xs ys h = all_from P ys (λ x c. All-contains P (xs ++ ys) x h (contains_right xs ys x c))

mutual
  put_has : (P : Variable → Type 0) (t : Tree) (p : List ℕ) (v : Tree) → HasAll P t → HasAll P v
      → HasAll P (put t p v)
  put_has P t [] v h k = k
  put_has P (var n s) (i ∷ p) v h k = h
  put_has P (app f ts) (i ∷ p) v h k = put_in_has P ts i p v h k

  put_in_has : (P : Variable → Type 0) (ts : Forest) (i : ℕ) (p : List ℕ) (v : Tree) → All P (occurrences_in ts)
      → HasAll P v → All P (occurrences_in (put_in ts i p v))
  put_in_has P none i p v h k = All-nil P
  put_in_has P (more t ts) zero p v h k = h
  put_in_has P (more t ts) (suc zero) p v h k =
      All-append P (occurrences (put t p v)) (occurrences_in ts)
      (put_has P t p v (all_front P (occurrences t) (occurrences_in ts) h) k)
      (all_rest P (occurrences t) (occurrences_in ts) h)
  put_in_has P (more t ts) (suc (suc i)) p v h k =
      All-append P (occurrences t) (occurrences_in (put_in ts (suc i) p v))
      (all_front P (occurrences t) (occurrences_in ts) h)
      (put_in_has P ts (suc i) p v (all_rest P (occurrences t) (occurrences_in ts) h) k)

one_kept : (P : Variable → Type 0) (vs : List Variable) (w : Variable) (b : Bool) → All P vs → P w
    → All P (cond b vs (vs ++ w ∷ []))
one_kept P vs w true h k = h
one_kept P vs w false h k = All-append P vs (w ∷ []) h (All-cons P w [] k (All-nil P))

-- what variables and further ones are, those are that are listed of them
all_kept : (P : Variable → Type 0) (vs ws : List Variable) → All P vs → All P ws → All P (fold with_variable vs ws)
all_kept P vs [] h k = h
all_kept P vs (w ∷ ws) h k =
    all_kept P (with_variable vs w) ws (one_kept P vs w (list_any (same_variable w) vs) h (All-head P w ws k))
    (All-tail P w ws k)

pub both_have : (P : Variable → Type 0) (t u : Tree) → HasAll P t → HasAll P u → All P (variables_of_both t u)
both_have P t u h k = all_kept P (variables_of t) (occurrences u) (all_kept P [] (occurrences t) (All-nil P) h) k

-- the variables of a pair
abbrev PairHas : (Variable → Type 0) → Pair → Type 0
PairHas P q = (HasAll P q.left × HasAll P q.right) × (All (EntryHas P) q.first × All (EntryHas P) q.second)

pair_has : (P : Variable → Type 0) (q : Pair) → PairHas P q → All P (pair_variables q)
pair_has P q h =
    let es = q.first ++ q.second in
    let all = All-append (EntryHas P) q.first q.second h.1.0 h.1.1 in
    all_kept P (variables_of_both q.left q.right) (flat_map (λ e. occurrences e.term) es)
    (both_have P q.left q.right h.0.0 h.0.1)
    (all_from P (flat_map (λ e. occurrences e.term) es) (λ v c.
    let m = contained_in_flat_map (λ (e : Entry). occurrences e.term) es v c in
    All-contains P (occurrences m.0.term) v (All-contains (EntryHas P) es m.0 all m.1) m.2))

-- ---- the sorts of variables

-- the sort of a variable is one of these
abbrev HasSortIn : List (List ℕ) → Variable → Type 0
HasSortIn sorts v = Contains sorts v.sort

-- what marks variables of such sorts
marks_have : (sorts : List (List ℕ)) (k : ℕ) (r : Rule) → All (HasSortIn sorts) (variables_of_both r.left r.right)
    → All (EntryHas (HasSortIn sorts)) (marking k r)
marks_have sorts k r h =
    all_from (EntryHas (HasSortIn sorts)) (marking k r) (λ e c.
    let m = contained_in_map (λ (v : Variable). record {
      name = v.name;
      sort = v.sort;
      term = var (v.name ++ k ∷ []) v.sort;
    }) (variables_of_both r.left r.right) e c in
    subst (EntryHas (HasSortIn sorts)) m.2
    (All-cons (HasSortIn sorts) (record { name = m.0.name ++ k ∷ []; sort = m.0.sort }) []
    (All-contains (HasSortIn sorts) (variables_of_both r.left r.right) m.0 h m.1) (All-nil (HasSortIn sorts))))

-- a term under entries that have such sorts
replaced_has : (sorts : List (List ℕ)) (es : List Entry) (t : Tree) → All (EntryHas (HasSortIn sorts)) es
    → HasAll (HasSortIn sorts) t → HasAll (HasSortIn sorts) (instance_of es t)
replaced_has sorts es t h k =
    under_has (HasSortIn sorts) es t (λ v c.
    image_holds (HasAll (HasSortIn sorts)) v.name v.sort es
    (All-cons (HasSortIn sorts) v [] (All-contains (HasSortIn sorts) (occurrences t) v k c)
    (All-nil (HasSortIn sorts)))
    (All-weaker (EntryHas (HasSortIn sorts))
    (λ e. is_entry_of v.name v.sort e ≡ true → HasAll (HasSortIn sorts) e.term) (λ e q i. q) es h))

-- a term under a unifier of terms that have such sorts
unified_has : (sorts : List (List ℕ)) (t u : Tree) (r : List Entry) (a : Tree) → unify t u ≡ Ok (Some r)
    → HasAll (HasSortIn sorts) t → HasAll (HasSortIn sorts) u → HasAll (HasSortIn sorts) a
    → HasAll (HasSortIn sorts) (instance_of r a)
unified_has sorts t u r a e h k m =
    under_has (HasSortIn sorts) r a (λ x c. all_from (HasSortIn sorts) (occurrences (image r x.name x.sort)) (λ w d.
    by_listed x c w d (list_any (same_variable w) (variables_of_both t u)) refl))
  where
    by_listed : (x : Variable) → Contains (occurrences a) x → (w : Variable)
        → Contains (occurrences (image r x.name x.sort)) w → (b : Bool)
        → list_any (same_variable w) (variables_of_both t u) ≡ b → HasSortIn sorts w
    by_listed x c w d true q =
        All-contains (HasSortIn sorts) (variables_of_both t u) w (both_have (HasSortIn sorts) t u h k)
        (found_contains w (variables_of_both t u) q)
    by_listed x c w d false q =
        elim (true_or_false (same_variable w x)) [
          | inl i ↦ subst (HasSortIn sorts) (sym ((variable_Decides w x).0 i))
              (All-contains (HasSortIn sorts) (occurrences a) x m c)
          | inr i ↦ absurd (none_new t u r x w e (λ o. not_listed w (variables_of_both t u) q (left_listed t u w o))
              (λ o. not_listed w (variables_of_both t u) q (right_listed t u w o))
              (λ s. let z : true ≡ false = sym ((variable_Decides w x).1 s) ∙ i in cc) d)
        ]

raw_has : (r q : Rule) (p : List ℕ) (t : Tree) (u : List Entry) → at (apart 1 r).rule.left p ≡ Some t
    → unify t (apart 2 q).rule.left ≡ Ok (Some u)
    → PairHas (HasSortIn (sorts_of_rules r q)) (raw_pair (apart 1 r) (apart 2 q) p u)
raw_has r q p t u a e =
    let sorts = sorts_of_rules r q in
    let S = HasSortIn sorts in
    let one = (apart 1 r).rule in
    let two = (apart 2 q).rule in
    let all = variables_of_both r.left r.right ++ variables_of_both q.left q.right in
    let here : All S all = all_from S all (λ v c. contains_map (λ (w : Variable). w.sort) all v c) in
    let fs = all_front S (variables_of_both r.left r.right) (variables_of_both q.left q.right) here in
    let gs = all_rest S (variables_of_both r.left r.right) (variables_of_both q.left q.right) here in
    let of_one : (x : Tree) → Among (variables_of_both r.left r.right) (occurrences x)
    → HasAll S (instance_of (marking 1 r) x) =
    λ x l. replaced_has sorts (marking 1 r) x (marks_have sorts 1 r fs)
    (all_from S (occurrences x) (λ v c. All-contains S (variables_of_both r.left r.right) v fs (l v c))) in
    let of_two : (x : Tree) → Among (variables_of_both q.left q.right) (occurrences x)
    → HasAll S (instance_of (marking 2 q) x) =
    λ x l. replaced_has sorts (marking 2 q) x (marks_have sorts 2 q gs)
    (all_from S (occurrences x) (λ v c. All-contains S (variables_of_both q.left q.right) v gs (l v c))) in
    let left = of_one r.left (left_listed r.left r.right) in
    let other_left = of_two q.left (left_listed q.left q.right) in
    let there : HasAll S t = all_from S (occurrences t) (λ v c.
    All-contains S (occurrences one.left) v left (occurs_in_subterm one.left p t v a c)) in
    let under : (x : Tree) → HasAll S x → HasAll S (instance_of u x) =
    λ x h. unified_has sorts t two.left u x e there other_left h in (
      (
        under (put one.left p two.right)
            (put_has S one.left p two.right left (of_two q.right (right_listed q.left q.right))),
        under one.right (of_one r.right (right_listed r.left r.right)),
      ),
      (
        entries_have S u (marking 1 r) (λ b c. under b.term
            (All-contains (EntryHas S) (marking 1 r) b (marks_have sorts 1 r fs) c)),
        entries_have S u (marking 2 q) (λ b c. under b.term
            (All-contains (EntryHas S) (marking 2 q) b (marks_have sorts 2 q gs) c)),
      ),
    )

-- ---- numbers

-- what takes the place of a variable
abbrev HasNumber : ℕ → List Variable → Variable → Type 0
HasNumber k vs v =
    (j : ℕ) × (image (number_variables k vs) v.name v.sort ≡ var (codes "v" ++ decimal j) v.sort)

chosen_number : (k : ℕ) (w v : Variable) (ws : List Variable) (b : Bool) → same_variable w v ≡ b
    → (b ≡ false → HasNumber (k + 1) ws v)
    → (j : ℕ) × (cond b (var (codes "v" ++ decimal k) w.sort) (image (number_variables (k + 1) ws) v.name v.sort)
    ≡ var (codes "v" ++ decimal j) v.sort)
chosen_number k w v ws true e h =
    (k, ap (λ (u : Variable). var (codes "v" ++ decimal k) u.sort) ((variable_Decides w v).0 e))
chosen_number k w v ws false e h = h refl

numbered_image : (k : ℕ) (vs : List Variable) (v : Variable) → Contains vs v → HasNumber k vs v
numbered_image k [] v c = absurd (contains_none v c)
numbered_image k (w ∷ ws) v c =
    chosen_number k w v ws (same_variable w v) refl
    (λ f. elim (contains_cases w v ws c) [
      | inl e ↦ let t = (variable_Decides w v).1 e in let z : true ≡ false = sym t ∙ f in cc
      | inr d ↦ numbered_image (k + 1) ws v d
    ])

numbered_term : (sorts : List (List ℕ)) (vs : List Variable) (t : Tree) → All (HasSortIn sorts) vs
    → Among vs (occurrences t) → HasNumbered sorts (instance_of (number_variables 1 vs) t)
numbered_term sorts vs t h among =
    under_has (IsNumbered sorts) (number_variables 1 vs) t (λ v c.
    let i = numbered_image 1 vs v (among v c) in
    subst (HasNumbered sorts) (sym i.1)
    (All-cons (IsNumbered sorts) (record { name = codes "v" ++ decimal i.0; sort = v.sort }) []
    (record { number = i.0; name = refl; sort = All-contains (HasSortIn sorts) vs v h (among v c) })
    (All-nil (IsNumbered sorts))))

-- all variables of a pair are among those that are numbered
bound_among : (q : Pair) (e : Entry) → Contains (q.first ++ q.second) e → Among (pair_variables q) (occurrences e.term)
bound_among q e c x o =
    all_have (variables_of_both q.left q.right) (flat_map (λ d. occurrences d.term) (q.first ++ q.second)) x
    (contains_flat_map (λ (d : Entry). occurrences d.term) (q.first ++ q.second) e x c o)

numbered_pair : (sorts : List (List ℕ)) (q : Pair) → PairHas (HasSortIn sorts) q
    → IsNumberedPair sorts (name_variables q)
numbered_pair sorts q h =
    let vs = pair_variables q in
    let ws = flat_map (λ (e : Entry). occurrences e.term) (q.first ++ q.second) in
    let k = pair_has (HasSortIn sorts) q h in
    record {
      left = numbered_term sorts vs q.left k
          (λ x c. all_keep (variables_of_both q.left q.right) ws x (left_listed q.left q.right x c));
      right = numbered_term sorts vs q.right k
          (λ x c. all_keep (variables_of_both q.left q.right) ws x (right_listed q.left q.right x c));
      first = entries_have (IsNumbered sorts) (number_variables 1 vs) q.first
          (λ e c. numbered_term sorts vs e.term k (bound_among q e (contains_left q.first q.second e c)));
      second = entries_have (IsNumbered sorts) (number_variables 1 vs) q.second
          (λ e c. numbered_term sorts vs e.term k (bound_among q e (contains_right q.first q.second e c)));
    }

pub all_numbered : (r q : Rule) (b : Bool) (ps : List Pair) → critical_pairs r q b ≡ Ok ps
    → All (IsNumberedPair (sorts_of_rules r q)) ps
all_numbered r q b ps e =
    of_all (IsNumberedPair (sorts_of_rules r q)) r q b ps
    (λ p t u c a x. numbered_pair (sorts_of_rules r q) (raw_pair (apart 1 r) (apart 2 q) p u) (raw_has r q p t u a x)) e

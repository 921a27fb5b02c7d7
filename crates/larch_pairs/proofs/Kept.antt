-- What a unification keeps: bound variables are gone from all that is left, and from the bound terms.
use Rattle.std.proofs.Common.{◌≡◌, ◌≢◌, suc, ◌==◌, ◌&&◌, ◌||◌, ◌<◌, ◌≤◌, ◌⊎◌, inl, inr, cond, not, Bool, true, false}
use Rattle.std.proofs.Common.{List, [], ◌∷◌, ◌++◌, length, All, AllPairs, Contains, arith, refl, sym, ◌∙◌, ap, subst}
use Rattle.std.specs.List.{filter, list_any}
use Rattle.std.proofs.lemmas.List.Elements.{All-nil, All-cons, All-head, All-tail, All-append}
use Rattle.std.proofs.lemmas.List.Quantifiers.{all_pairs_push}
use Rattle.larch_base.proofs.Bools.{true_or_false, or_left, or_right}
use Rattle.larch_base.proofs.Lists.{pairs_map}
use Rattle.larch_base.proofs.Members.{contains_here, contains_cases, contains_none, contains_one, contains_left}
use Rattle.larch_base.proofs.Members.{contains_right, contained_in_flat_map, contains_filter, contained_in_filter}
use Rattle.larch_term.specs.Equality.{same_operator}
use Rattle.larch_term.specs.Substitution.{is_entry_of, instance_of}
use Rattle.larch_term.specs.Tree.{Tree, Forest, var, app, none, more, list_of}
use Rattle.larch_term.specs.Variable.{occurrences, occurrences_in, same_variable}
use Rattle.larch_term.specs.declared.substitution.Entry.{Entry}
use Rattle.larch_term.specs.declared.variable.Variable.{Variable}
use Rattle.larch_term_law.proofs.Agreement.{substituted_occurrences, image_occurrences}
use Rattle.larch_term_law.proofs.Occurring.{variable_Decides}
use Rattle.larch_pairs.specs.Demand.{demand, demand_all, first_demand, occurs, or_next, pairs_of}
use Rattle.larch_pairs.specs.Unify.{entries_under, entry, extend, sides_under}
use Rattle.larch_pairs.specs.declared.demand.Demand.{Demand}
use Rattle.larch_pairs.specs.declared.demand.Demand.TheVariants.{Nothing, Bind, Clash}
use Rattle.larch_pairs.specs.declared.demand.Sides.{Sides}

-- all variables that occur are among these
abbrev pub Among : List Variable → List Variable → Type 0
Among vs ws = (x : Variable) → Contains ws x → Contains vs x

abbrev pub SidesAmong : List Variable → Sides → Type 0
SidesAmong vs e = Among vs (occurrences e.left) × Among vs (occurrences e.right)

abbrev pub DemandAmong : List Variable → Demand → Type 0
DemandAmong vs Nothing = Unit {0}
DemandAmong vs (Bind v t es) = Contains vs v × Among vs (occurrences t) × (occurs v t ≡ false) × All (SidesAmong vs) es
DemandAmong vs Clash = Unit {0}

among_left : (vs xs ys : List Variable) → Among vs (xs ++ ys) → Among vs xs
among_left vs xs ys h x c = h x (contains_left xs ys x c)

among_right : (vs xs ys : List Variable) → Among vs (xs ++ ys) → Among vs ys
among_right vs xs ys h x c = h x (contains_right xs ys x c)

next_among : (vs : List Variable) (d : Demand) (rest : List Sides) (next : Demand) → DemandAmong vs d
    → All (SidesAmong vs) rest
    → DemandAmong vs next → DemandAmong vs (or_next d rest next)
next_among vs Nothing rest next a b c = c
next_among vs (Bind v t es) rest next (i, j, k, l) b c = (i, j, k, All-append (SidesAmong vs) es rest l b)
next_among vs Clash rest next a b c = tt

binding_among : (vs : List Variable) (v : Variable) (t : Tree) (b : Bool) → occurs v t ≡ b → Contains vs v
    → Among vs (occurrences t)
    → DemandAmong vs (cond b Clash (Bind v t []))
binding_among vs v t true e c a = tt
binding_among vs v t false e c a = (c, a, e, All-nil (SidesAmong vs))

not_here : (b : Bool) → b ≡ false → (b || false) ≡ false
not_here true h = h
not_here false h = refl

variables_among : (vs : List Variable) (v w : Variable) (b : Bool) → same_variable v w ≡ b → Contains vs v
    → Contains vs w
    → DemandAmong vs (cond b Nothing (Bind v (var w.name w.sort) []))
variables_among vs v w true e c d = tt
variables_among vs v w false e c d =
    (c, λ x o. subst (Contains vs) (contains_one w x o) d, not_here (same_variable v w) e, All-nil (SidesAmong vs))

paired_among : (vs : List Variable) (ts us : Forest) → Among vs (occurrences_in ts) → Among vs (occurrences_in us)
    → All (SidesAmong vs) (pairs_of ts us)
paired_among vs none us a b = All-nil (SidesAmong vs)
paired_among vs (more t ts) none a b = All-nil (SidesAmong vs)
paired_among vs (more t ts) (more u us) a b =
    All-cons (SidesAmong vs) (record { left = t; right = u }) (pairs_of ts us)
    (among_left vs (occurrences t) (occurrences_in ts) a, among_left vs (occurrences u) (occurrences_in us) b)
    (paired_among vs ts us (among_right vs (occurrences t) (occurrences_in ts) a)
    (among_right vs (occurrences u) (occurrences_in us) b))

chosen_among : (vs : List Variable) (b : Bool) (d : Demand) → DemandAmong vs d → DemandAmong vs (cond b d Clash)
chosen_among vs true d h = h
chosen_among vs false d h = tt

mutual
  -- a demand has no variables but those of the sides
  pub demand_among : (vs : List Variable) (t u : Tree) → Among vs (occurrences t) → Among vs (occurrences u)
      → DemandAmong vs (demand t u)
  demand_among vs (var n s) (var m r) a b =
      variables_among vs (record { name = n; sort = s }) (record { name = m; sort = r })
      (same_variable (record { name = n; sort = s }) (record { name = m; sort = r })) refl
      (a (record { name = n; sort = s }) (contains_here (record { name = n; sort = s }) []))
      (b (record { name = m; sort = r }) (contains_here (record { name = m; sort = r }) []))
  demand_among vs (var n s) (app g us) a b =
      binding_among vs (record { name = n; sort = s }) (app g us)
      (occurs (record { name = n; sort = s }) (app g us)) refl
      (a (record { name = n; sort = s }) (contains_here (record { name = n; sort = s }) [])) b
  demand_among vs (app f ts) (var m r) a b =
      binding_among vs (record { name = m; sort = r }) (app f ts)
      (occurs (record { name = m; sort = r }) (app f ts)) refl
      (b (record { name = m; sort = r }) (contains_here (record { name = m; sort = r }) [])) a
  demand_among vs (app f ts) (app g us) a b =
      chosen_among vs (same_operator f g && length (list_of ts) == length (list_of us)) (demand_all ts us)
      (arguments_among vs ts us a b)

  arguments_among : (vs : List Variable) (ts us : Forest) → Among vs (occurrences_in ts) → Among vs (occurrences_in us)
      → DemandAmong vs (demand_all ts us)
  arguments_among vs none us a b = tt
  arguments_among vs (more t ts) none a b = tt
  arguments_among vs (more t ts) (more u us) a b =
      let x = among_right vs (occurrences t) (occurrences_in ts) a in
      let y = among_right vs (occurrences u) (occurrences_in us) b in
      next_among vs (demand t u) (pairs_of ts us) (demand_all ts us)
      (demand_among vs t u (among_left vs (occurrences t) (occurrences_in ts) a)
      (among_left vs (occurrences u) (occurrences_in us) b))
      (paired_among vs ts us x y) (arguments_among vs ts us x y)

pub first_among : (vs : List Variable) (es : List Sides) → All (SidesAmong vs) es → DemandAmong vs (first_demand es)
first_among vs [] h = tt
first_among vs (e ∷ es) h =
    let p = All-head (SidesAmong vs) e es h in
    let q = All-tail (SidesAmong vs) e es h in
    next_among vs (demand e.left e.right) es (first_demand es) (demand_among vs e.left e.right p.0 p.1) q
    (first_among vs es q)

-- the variables without one
abbrev pub without : Variable → List Variable → List Variable
without v vs = filter (λ x. not (same_variable v x)) vs

pub itself : (v : Variable) → same_variable v v ≡ true
itself v = (variable_Decides v v).1 refl

differs : (v x : Variable) → v ≢ x → not (same_variable v x) ≡ true
differs v x h =
    elim (true_or_false (same_variable v x)) [ inl a ↦ absurd (h ((variable_Decides v x).0 a)) | inr b ↦ ap not b ]

pub still : (v x : Variable) (vs : List Variable) → Contains vs x → v ≢ x → Contains (without v vs) x
still v x vs c h = contains_filter (λ y. not (same_variable v y)) vs x c (differs v x h)

pub was : (v x : Variable) (vs : List Variable) → Contains (without v vs) x → Contains vs x
was v x vs c = (contained_in_filter (λ y. not (same_variable v y)) vs x c).0

pub gone : (v : Variable) (vs : List Variable) → Contains (without v vs) v → ⊥
gone v vs c =
    let h = (contained_in_filter (λ y. not (same_variable v y)) vs v c).1 in
    let i = itself v in
    let x : false ≡ true = sym (ap not i) ∙ h in cc

without_by : (v x : Variable) (vs : List Variable) (b : Bool) → same_variable v x ≡ b
    → length (without v vs) ≤ length vs
    → length (cond (not b) (x ∷ without v vs) (without v vs)) ≤ suc (length vs)
without_by v x vs true e h = omega (arith, h)
without_by v x vs false e h = omega (arith, h)

without_less : (v : Variable) (vs : List Variable) → length (without v vs) ≤ length vs
without_less v [] = omega arith
without_less v (x ∷ vs) = without_by v x vs (same_variable v x) refl (without_less v vs)

shorter_by : (v x : Variable) (vs : List Variable) (b : Bool) → same_variable v x ≡ b
    → (b ≡ true) ⊎ (length (without v vs) < length vs)
    → length (without v vs) ≤ length vs → length (cond (not b) (x ∷ without v vs) (without v vs)) < suc (length vs)
shorter_by v x vs true e h l = omega (arith, l)
shorter_by v x vs false e (inl a) l = cc
shorter_by v x vs false e (inr b) l = omega (arith, b)

pub shorter : (v : Variable) (vs : List Variable) → Contains vs v → length (without v vs) < length vs
shorter v [] c = absurd (contains_none v c)
shorter v (x ∷ vs) c =
    shorter_by v x vs (same_variable v x) refl
    (elim (contains_cases x v vs c) [ inl e ↦ inl ((variable_Decides v x).1 (sym e)) | inr d ↦ inr (shorter v vs d) ])
    (without_less v vs)

found : (v : Variable) (ws : List Variable) → Contains ws v → list_any (same_variable v) ws ≡ true
found v [] c = absurd (contains_none v c)
found v (w ∷ ws) c =
    elim (contains_cases w v ws c) [
      | inl e ↦ or_left (same_variable v w) (list_any (same_variable v) ws) ((variable_Decides v w).1 (sym e))
      | inr d ↦ or_right (same_variable v w) (list_any (same_variable v) ws) (found v ws d)
    ]

-- what doesn't hold the variable is among the others
pub among_others : (vs : List Variable) (v : Variable) (t : Tree) → Among vs (occurrences t) → occurs v t ≡ false
    → Among (without v vs) (occurrences t)
among_others vs v t a e x c =
    still v x vs (a x c)
    (λ i. let d = found v (occurrences t) (subst (Contains (occurrences t)) (sym i) c) in
    let y : true ≡ false = sym d ∙ e in cc)

image_among : (vs : List Variable) (v : Variable) (w : Tree) (y : Variable) (b : Bool) → same_variable v y ≡ b
    → Contains vs y
    → Among (without v vs) (occurrences w) → Among (without v vs) (occurrences (cond b w (var y.name y.sort)))
image_among vs v w y true e c a x o = a x o
image_among vs v w y false e c a x o =
    subst (Contains (without v vs)) (contains_one y x o)
    (still v y vs c (λ i. let h = (variable_Decides v y).1 i in let z : true ≡ false = sym h ∙ e in cc))

-- a binding takes its variable away
pub bound_among : (vs : List Variable) (v : Variable) (w t : Tree) → Among vs (occurrences w) → occurs v w ≡ false
    → Among vs (occurrences t)
    → Among (without v vs) (occurrences (instance_of (entry v w ∷ []) t))
bound_among vs v w t a e b x c =
    let r = contained_in_flat_map (image_occurrences (entry v w ∷ [])) (occurrences t) x
    (subst (λ os. Contains os x) (substituted_occurrences (entry v w ∷ []) t) c) in
    image_among vs v w r.0 (same_variable v r.0) refl (b r.0 r.1) (among_others vs v w a e) x r.2

abbrev pub variable_of : Entry → Variable
variable_of b = record { name = b.name; sort = b.sort }

-- the variables that aren't bound yet, with the bindings
pub record Kept (vs : List Variable) (bs : List Entry) : Type 0 where
  pub terms : All (λ b. Among vs (occurrences b.term)) bs
  pub unbound : All (λ b. Contains vs (variable_of b) → ⊥) bs
  pub different : AllPairs (λ d e. is_entry_of e.name e.sort d ≡ false) bs

pub none_kept : (vs : List Variable) → Kept vs []
none_kept vs = record {
  terms = All-nil (λ b. Among vs (occurrences b.term));
  unbound = All-nil (λ b. Contains vs (variable_of b) → ⊥);
  different = λ i j d lt within. absurd (omega arith);
}

under_among : (vs : List Variable) (v : Variable) (w : Tree) (bs : List Entry) → Among vs (occurrences w)
    → occurs v w ≡ false
    → All (λ b. Among vs (occurrences b.term)) bs
    → All (λ b. Among (without v vs) (occurrences b.term)) (entries_under (entry v w ∷ []) bs)
under_among vs v w [] a e h = All-nil (λ b. Among (without v vs) (occurrences b.term))
under_among vs v w (b ∷ bs) a e h =
    All-cons (λ b. Among (without v vs) (occurrences b.term))
    (record { name = b.name; sort = b.sort; term = instance_of (entry v w ∷ []) b.term })
    (entries_under (entry v w ∷ []) bs)
    (bound_among vs v w b.term a e (All-head (λ b. Among vs (occurrences b.term)) b bs h))
    (under_among vs v w bs a e (All-tail (λ b. Among vs (occurrences b.term)) b bs h))

under_unbound : (vs : List Variable) (v : Variable) (es bs : List Entry)
    → All (λ b. Contains vs (variable_of b) → ⊥) bs
    → All (λ b. Contains (without v vs) (variable_of b) → ⊥) (entries_under es bs)
under_unbound vs v es [] h = All-nil (λ b. Contains (without v vs) (variable_of b) → ⊥)
under_unbound vs v es (b ∷ bs) h =
    All-cons (λ b. Contains (without v vs) (variable_of b) → ⊥)
    (record { name = b.name; sort = b.sort; term = instance_of es b.term }) (entries_under es bs)
    (λ c. All-head (λ b. Contains vs (variable_of b) → ⊥) b bs h (was v (variable_of b) vs c))
    (under_unbound vs v es bs (All-tail (λ b. Contains vs (variable_of b) → ⊥) b bs h))

pub another : (vs : List Variable) (v x : Variable) → Contains vs v → (Contains vs x → ⊥) → same_variable x v ≡ false
another vs v x c h = elim (true_or_false (same_variable x v)) [
  | inl a ↦ absurd (h (subst (Contains vs) (sym ((variable_Decides x v).0 a)) c))
  | inr b ↦ b
]

last_differs : (vs : List Variable) (v : Variable) (es bs : List Entry) → Contains vs v
    → All (λ b. Contains vs (variable_of b) → ⊥) bs
    → All (λ d. is_entry_of v.name v.sort d ≡ false) (entries_under es bs)
last_differs vs v es [] c h = All-nil (λ d. is_entry_of v.name v.sort d ≡ false)
last_differs vs v es (b ∷ bs) c h =
    All-cons (λ d. is_entry_of v.name v.sort d ≡ false)
    (record { name = b.name; sort = b.sort; term = instance_of es b.term }) (entries_under es bs)
    (another vs v (variable_of b) c (All-head (λ b. Contains vs (variable_of b) → ⊥) b bs h))
    (last_differs vs v es bs c (All-tail (λ b. Contains vs (variable_of b) → ⊥) b bs h))

-- one binding more
pub kept_on : (vs : List Variable) (v : Variable) (w : Tree) (bs : List Entry) → Contains vs v
    → Among vs (occurrences w) → occurs v w ≡ false
    → Kept vs bs → Kept (without v vs) (extend v w bs)
kept_on vs v w bs c a e k =
    let es : List Entry = entry v w ∷ [] in
    record {
      terms =
          All-append (λ b. Among (without v vs) (occurrences b.term)) (entries_under es bs) es
          (under_among vs v w bs a e k.terms)
          (All-cons (λ b. Among (without v vs) (occurrences b.term)) (entry v w) [] (among_others vs v w a e)
          (All-nil (λ b. Among (without v vs) (occurrences b.term))));
      unbound =
          All-append (λ b. Contains (without v vs) (variable_of b) → ⊥) (entries_under es bs) es
          (under_unbound vs v es bs k.unbound)
          (All-cons (λ b. Contains (without v vs) (variable_of b) → ⊥) (entry v w) [] (gone v vs)
          (All-nil (λ b. Contains (without v vs) (variable_of b) → ⊥)));
      different = all_pairs_push (λ d e. is_entry_of e.name e.sort d ≡ false) (entries_under es bs) (entry v w)
          (pairs_map (λ d e. is_entry_of e.name e.sort d ≡ false) (λ d e. is_entry_of e.name e.sort d ≡ false)
          (λ d. record { name = d.name; sort = d.sort; term = instance_of es d.term }) bs (λ x y p q s. s) k.different)
          (last_differs vs v es bs c k.unbound);
    }

-- the equations that are left have only variables that aren't bound
pub left_among : (vs : List Variable) (v : Variable) (w : Tree) (es : List Sides) → Among vs (occurrences w)
    → occurs v w ≡ false
    → All (SidesAmong vs) es → All (SidesAmong (without v vs)) (sides_under (entry v w ∷ []) es)
left_among vs v w [] a e h = All-nil (SidesAmong (without v vs))
left_among vs v w (s ∷ es) a e h =
    let p = All-head (SidesAmong vs) s es h in
    All-cons (SidesAmong (without v vs))
    (record { left = instance_of (entry v w ∷ []) s.left; right = instance_of (entry v w ∷ []) s.right })
    (sides_under (entry v w ∷ []) es)
    (bound_among vs v w s.left a e p.0, bound_among vs v w s.right a e p.1)
    (left_among vs v w es a e (All-tail (SidesAmong vs) s es h))

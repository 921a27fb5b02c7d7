-- What a unification answers: its bindings make both terms one, and from them all others come.
use Rattle.std.proofs.Common.{◌≡◌, ◌↔◌, ℕ, zero, suc, ◌≤◌, cond, Bool, true, false, List, [], ◌∷◌, ◌++◌, length, fold}
use Rattle.std.proofs.Common.{Some, None, Result, Ok, Err, All, AllPairs, Contains, arith, refl, sym, ◌∙◌, ap, subst}
use Rattle.std.proofs.lemmas.List.Elements.{All-nil, All-cons, All-head, All-tail, All-append}
use Rattle.std.proofs.lemmas.List.Sums.{fold-append}
use Rattle.std.proofs.lemmas.List.{append-nil}
use Rattle.larch_base.proofs.Lists.{all_from, pairs_head, pairs_tail}
use Rattle.larch_base.proofs.Members.{contains_left, contains_right}
use Rattle.larch_term.specs.Substitution.{image, is_entry_of, instance_of, substituted_all}
use Rattle.larch_term.specs.Tree.{Tree, Forest, var, app, none, more}
use Rattle.larch_term.specs.Operator.{plain}
use Rattle.larch_term.specs.Variable.{occurrences, variables_of, with_variable}
use Rattle.larch_term.specs.declared.substitution.Entry.{Entry}
use Rattle.larch_term.specs.declared.variable.Variable.{Variable}
use Rattle.larch_term_law.proofs.Agreement.{AgreeOn, same_by_agreement}
use Rattle.larch_term_law.proofs.Substitutions.{substituted_nil}
use Rattle.larch_term_law.proofs.Occurring.{listed_occurs, variable_Decides}
use Rattle.larch_pairs.proofs.Kept.{Among, another, itself, shorter, DemandAmong, Kept, demand_among, first_among}
use Rattle.larch_pairs.proofs.Kept.{kept_on, left_among, none_kept, variable_of, without}
use Rattle.larch_pairs.proofs.Meaning.{Meets, Solves, Unifies, demand_met, first_met}
use Rattle.larch_pairs.proofs.Unifying.{from_nothing, from_clash, unify_is}
use Rattle.larch_pairs.specs.Demand.{demand, first_demand}
use Rattle.larch_pairs.specs.Unify.{Oversize, a_term_is_too_large, entries_under, entry, extend, sides_under}
use Rattle.larch_pairs.specs.Unify.{some_large, unify, unify_from, variables_of_both}
use Rattle.larch_pairs.specs.declared.demand.Demand.{Demand}
use Rattle.larch_pairs.specs.declared.demand.Demand.TheVariants.{Nothing, Bind, Clash}
use Rattle.larch_pairs.specs.declared.demand.Sides.{Sides}

small_enough : {X : Type 0} (b : Bool) (o : Oversize) (x : Result X Oversize) (y : X)
    → cond b (Err o) x ≡ Ok y → x ≡ Ok y
small_enough true o x y e = cc
small_enough false o x y e = e

-- what each round keeps
abbrev pub Steps : (Demand → List Entry → Type 0) → Type 0
Steps P = (v : Variable) (t : Tree) (es : List Sides) (bs : List Entry) → P (Bind v t es) bs
    → P (first_demand (sides_under (entry v t ∷ []) es)) (extend v t bs)

-- what holds at the start and is kept holds at the end
pub at_end : (P : Demand → List Entry → Type 0) → Steps P → (n : ℕ) (d : Demand) (bs r : List Entry) → P d bs
    → unify_from n d bs ≡ Ok (Some r) → P Nothing r
unfolding unify_from
at_end P step n Nothing bs r p e =
    let q = sym (from_nothing n bs) ∙ e in
    let i : bs ≡ r = cc in
    subst (P Nothing) i p
at_end P step n Clash bs r p e = let q = sym (from_clash n bs) ∙ e in cc
at_end P step zero (Bind v t es) bs r p e = cc
at_end P step (suc n) (Bind v t es) bs r p e =
    at_end P step n (first_demand (sides_under (entry v t ∷ []) es)) (extend v t bs) r (step v t es bs p)
    (small_enough (some_large (sides_under (entry v t ∷ []) es) (extend v t bs)) a_term_is_too_large
    (unify_from n (first_demand (sides_under (entry v t ∷ []) es)) (extend v t bs)) (Some r) e)

at_clash : (P : Demand → List Entry → Type 0) → Steps P → (n : ℕ) (d : Demand) (bs : List Entry) → P d bs
    → unify_from n d bs ≡ Ok None → (r : List Entry) × P Clash r
unfolding unify_from
at_clash P step n Nothing bs p e = let q = sym (from_nothing n bs) ∙ e in cc
at_clash P step n Clash bs p e = (bs, p)
at_clash P step zero (Bind v t es) bs p e = cc
at_clash P step (suc n) (Bind v t es) bs p e =
    at_clash P step n (first_demand (sides_under (entry v t ∷ []) es)) (extend v t bs) (step v t es bs p)
    (small_enough (some_large (sides_under (entry v t ∷ []) es) (extend v t bs)) a_term_is_too_large
    (unify_from n (first_demand (sides_under (entry v t ∷ []) es)) (extend v t bs)) None e)

-- bound variables are gone
abbrev IsKept : Demand → List Entry → Type 0
IsKept d bs = (vs : List Variable) × DemandAmong vs d × Kept vs bs

kept_step : Steps IsKept
kept_step v t es bs (vs, (c, a, e, h), k) = (
  without v vs,
  first_among (without v vs) (sides_under (entry v t ∷ []) es) (left_among vs v t es a e h),
  kept_on vs v t bs c a e k,
)

-- a substitution gives bound variables what it makes of their terms
abbrev pub Satisfies : List Entry → List Entry → Type 0
Satisfies es = All (λ b. image es b.name b.sort ≡ instance_of es b.term)

absorbed_by : (es bs : List Entry) (n s : List ℕ) (b : Entry) (c : Bool) → is_entry_of n s b ≡ c
    → image es b.name b.sort ≡ instance_of es b.term
    → instance_of es (image bs n s) ≡ image es n s → instance_of es (cond c b.term (image bs n s)) ≡ image es n s
absorbed_by es bs n s b true e h i =
    let j = (variable_Decides (variable_of b) (record { name = n; sort = s })).0 e in
    sym h ∙ ap (λ v. image es v.name v.sort) j
absorbed_by es bs n s b false e h i = i

image_absorbed : (es bs : List Entry) (n s : List ℕ) → Satisfies es bs → instance_of es (image bs n s) ≡ image es n s
image_absorbed es [] n s h = refl
image_absorbed es (b ∷ bs) n s h =
    absorbed_by es bs n s b (is_entry_of n s b) refl
    (All-head (λ b. image es b.name b.sort ≡ instance_of es b.term) b bs h)
    (image_absorbed es bs n s (All-tail (λ b. image es b.name b.sort ≡ instance_of es b.term) b bs h))

mutual
  -- the bindings come first for such a substitution, and change nothing
  pub absorbed : (es bs : List Entry) (t : Tree) → Satisfies es bs
      → instance_of es (instance_of bs t) ≡ instance_of es t
  absorbed es bs (var n s) h = image_absorbed es bs n s h
  absorbed es bs (app f ts) h = ap (app f) (all_absorbed es bs ts h)

  all_absorbed : (es bs : List Entry) (ts : Forest) → Satisfies es bs
      → substituted_all es (substituted_all bs ts) ≡ substituted_all es ts
  all_absorbed es bs none h = refl
  all_absorbed es bs (more t ts) h = let i = absorbed es bs t h in let j = all_absorbed es bs ts h in
      λ k. more (i k) (j k)

one_satisfied : (es : List Entry) (v : Variable) (t : Tree) → image es v.name v.sort ≡ instance_of es t
    → Satisfies es (entry v t ∷ [])
one_satisfied es v t h =
    All-cons (λ b. image es b.name b.sort ≡ instance_of es b.term) (entry v t) [] h
    (All-nil (λ b. image es b.name b.sort ≡ instance_of es b.term))

front : {X : Type 0} (P : X → Type 0) (xs ys : List X) → All P (xs ++ ys) → All P xs
front P [] ys h = All-nil P
front P (x ∷ xs) ys h = All-cons P x xs (All-head P x (xs ++ ys) h) (front P xs ys (All-tail P x (xs ++ ys) h))

back : {X : Type 0} (P : X → Type 0) (xs ys : List X) → All P (xs ++ ys) → All P ys
back P [] ys h = h
back P (x ∷ xs) ys h = back P xs ys (All-tail P x (xs ++ ys) h)

under_satisfied : (es os bs : List Entry) → Satisfies es os → Satisfies es bs ↔ Satisfies es (entries_under os bs)
under_satisfied es os [] h = (λ p. p, λ p. p)
under_satisfied es os (b ∷ bs) h =
    let S : Entry → Type 0 = λ b. image es b.name b.sort ≡ instance_of es b.term in
    let c : Entry = record { name = b.name; sort = b.sort; term = instance_of os b.term } in
    let r = under_satisfied es os bs h in
    let i = absorbed es os b.term h in (
      λ p. All-cons S c (entries_under os bs) (All-head S b bs p ∙ sym i) (r.0 (All-tail S b bs p)),
      λ p. All-cons S b bs (All-head S c (entries_under os bs) p ∙ i) (r.1 (All-tail S c (entries_under os bs) p)),
    )

sides_solved : (es os : List Entry) (ds : List Sides) → Satisfies es os → Solves es ds ↔ Solves es (sides_under os ds)
sides_solved es os [] h = (λ p. p, λ p. p)
sides_solved es os (d ∷ ds) h =
    let S : Sides → Type 0 = λ d. Unifies es d.left d.right in
    let c : Sides = record { left = instance_of os d.left; right = instance_of os d.right } in
    let r = sides_solved es os ds h in
    let i = absorbed es os d.left h in
    let j = absorbed es os d.right h in (
      λ p. All-cons S c (sides_under os ds) (i ∙ All-head S d ds p ∙ sym j) (r.0 (All-tail S d ds p)),
      λ p. All-cons S d ds (sym i ∙ All-head S c (sides_under os ds) p ∙ j) (r.1 (All-tail S c (sides_under os ds) p)),
    )

-- the start is met exactly where the bindings are and the demand is
abbrev IsMet : List Entry → Type 0 → Demand → List Entry → Type 0
IsMet es S d bs = S ↔ (Satisfies es bs × Meets es d)

met_step : (es : List Entry) (S : Type 0) → Steps (IsMet es S)
met_step es S v t ds bs h =
    let T : Entry → Type 0 = λ b. image es b.name b.sort ≡ instance_of es b.term in
    let os : List Entry = entry v t ∷ [] in (
      λ s. let p = h.0 s in
          let o = one_satisfied es v t p.1.0 in (
            All-append T (entries_under os bs) os ((under_satisfied es os bs o).0 p.0) o,
            (first_met es (sides_under os ds)).0 ((sides_solved es os ds o).0 p.1.1),
          ),
      λ p. let o = back T (entries_under os bs) os p.0 in
          let u = (under_satisfied es os bs o).1 (front T (entries_under os bs) os p.0) in
          let d = (sides_solved es os ds o).1 ((first_met es (sides_under os ds)).1 p.1) in
          h.1 (u, (All-head T (entry v t) [] o, d)),
    )

met_at_start : (es : List Entry) (t u : Tree) → IsMet es (Unifies es t u) (demand t u) []
met_at_start es t u =
    let m = demand_met es t u in
    (λ e. (All-nil (λ b. image es b.name b.sort ≡ instance_of es b.term), m.0 e), λ p. m.1 p.1)

-- where a unifier is answered, exactly those substitutions that satisfy it make the terms one
pub unifies_by : (t u : Tree) (r es : List Entry) → unify t u ≡ Ok (Some r) → Unifies es t u ↔ Satisfies es r
unifies_by t u r es e =
    let m = at_end (IsMet es (Unifies es t u)) (met_step es (Unifies es t u)) (length (variables_of_both t u))
    (demand t u) [] r (met_at_start es t u) (sym (unify_is t u) ∙ e) in
    (λ h. (m.0 h).0, λ s. m.1 (s, tt))

-- where none is answered, none exists
pub none_unifies : (t u : Tree) (es : List Entry) → unify t u ≡ Ok None → Unifies es t u → ⊥
none_unifies t u es e h =
    let m = at_clash (IsMet es (Unifies es t u)) (met_step es (Unifies es t u)) (length (variables_of_both t u))
    (demand t u) [] (met_at_start es t u) (sym (unify_is t u) ∙ e) in
    (m.1.0 h).1

-- every other one is an instance of it
pub most_general : (t u : Tree) (r es : List Entry) → unify t u ≡ Ok (Some r) → Unifies es t u → (x : Tree)
    → instance_of es (instance_of r x) ≡ instance_of es x
most_general t u r es e h x = absorbed es r x ((unifies_by t u r es e).0 h)

-- both terms as the arguments of one
abbrev joined : Tree → Tree → Tree
joined t u = app (record { name = plain []; domain = []; range = [] }) (more t (more u none))

pub both_listed : (t u : Tree) → variables_of (joined t u) ≡ variables_of_both t u
both_listed t u =
    fold-append with_variable [] (occurrences t) (occurrences u ++ [])
    ∙ ap (λ vs. fold with_variable (variables_of t) vs) (append-nil (occurrences u))

pub left_listed : (t u : Tree) → Among (variables_of_both t u) (occurrences t)
left_listed t u x c =
    subst (λ vs. Contains vs x) (both_listed t u)
    ((listed_occurs (joined t u) x).1 (contains_left (occurrences t) (occurrences u ++ []) x c))

pub right_listed : (t u : Tree) → Among (variables_of_both t u) (occurrences u)
right_listed t u x c =
    subst (λ vs. Contains vs x) (both_listed t u)
    ((listed_occurs (joined t u) x).1
    (contains_right (occurrences t) (occurrences u ++ []) x (contains_left (occurrences u) [] x c)))

pub unifier_kept : (t u : Tree) (r : List Entry) → unify t u ≡ Ok (Some r) → (vs : List Variable) × Kept vs r
unifier_kept t u r e =
    let vs = variables_of_both t u in
    let k = at_end IsKept kept_step (length vs) (demand t u) [] r
    (vs, demand_among vs t u (left_listed t u) (right_listed t u), none_kept vs) (sym (unify_is t u) ∙ e) in
    (k.0, k.2)

-- no variable is bound twice
pub unifier_different : (t u : Tree) (r : List Entry) → unify t u ≡ Ok (Some r)
    → AllPairs (λ d e. is_entry_of e.name e.sort d ≡ false) r
unifier_different t u r e = (unifier_kept t u r e).1.different

pub started_different : (t u : Tree) (r : List Entry)
    → unify_from (length (variables_of_both t u)) (demand t u) [] ≡ Ok (Some r)
    → AllPairs (λ d e. is_entry_of e.name e.sort d ≡ false) r
started_different t u r e = unifier_different t u r (unify_is t u ∙ e)

own_image : (bs : List Entry) → AllPairs (λ d e. is_entry_of e.name e.sort d ≡ false) bs
    → All (λ b. image bs b.name b.sort ≡ b.term) bs
own_image [] h = All-nil (λ b. image [] b.name b.sort ≡ b.term)
own_image (b ∷ bs) h =
    let d = pairs_head (λ d e. is_entry_of e.name e.sort d ≡ false) b bs h in
    let i = own_image bs (pairs_tail (λ d e. is_entry_of e.name e.sort d ≡ false) b bs h) in
    let own : image (b ∷ bs) b.name b.sort ≡ b.term =
    ap (λ c. cond c b.term (image bs b.name b.sort)) (itself (variable_of b)) in
    All-cons (λ c. image (b ∷ bs) c.name c.sort ≡ c.term) b bs own (λ k x lt. image_behind b bs _ (d k x lt) (i k x lt))
  where
    image_behind : (b : Entry) (bs : List Entry) (c : Entry) → is_entry_of c.name c.sort b ≡ false
        → image bs c.name c.sort ≡ c.term → image (b ∷ bs) c.name c.sort ≡ c.term
    image_behind b bs c e i = ap (λ x. cond x b.term (image bs c.name c.sort)) e ∙ i

untouched : (vs : List Variable) (x : Variable) (bs : List Entry) → Contains vs x
    → All (λ b. Contains vs (variable_of b) → ⊥) bs → image bs x.name x.sort ≡ var x.name x.sort
untouched vs x [] c h = refl
untouched vs x (b ∷ bs) c h =
    ap (λ y. cond y b.term (image bs x.name x.sort))
    (another vs x (variable_of b) c (All-head (λ b. Contains vs (variable_of b) → ⊥) b bs h))
    ∙ untouched vs x bs c (All-tail (λ b. Contains vs (variable_of b) → ⊥) b bs h)

-- a term without bound variables stays as it is
stays : (vs : List Variable) (bs : List Entry) (t : Tree) → Kept vs bs → Among vs (occurrences t) → instance_of bs t ≡ t
stays vs bs t k a =
    same_by_agreement bs [] t (all_from (AgreeOn bs []) (occurrences t) (λ x c. untouched vs x bs (a x c) k.unbound))
    ∙ substituted_nil t

-- bindings satisfy themselves
satisfied : (vs : List Variable) (bs : List Entry) → Kept vs bs → Satisfies bs bs
satisfied vs bs k = λ i x lt. own_image bs k.different i x lt ∙ sym (stays vs bs _ k (k.terms i x lt))

-- the answer makes the terms one
pub unifier_unifies : (t u : Tree) (r : List Entry) → unify t u ≡ Ok (Some r) → instance_of r t ≡ instance_of r u
unifier_unifies t u r e = let k = unifier_kept t u r e in (unifies_by t u r r e).1 (satisfied k.0 r k.1)

-- the bindings done twice are the bindings done once
pub unifier_once : (t u : Tree) (r : List Entry) → unify t u ≡ Ok (Some r) → (x : Tree)
    → instance_of r (instance_of r x) ≡ instance_of r x
unifier_once t u r e x = let k = unifier_kept t u r e in absorbed r r x (satisfied k.0 r k.1)

-- as many rounds as there are variables are enough
enough : (n m : ℕ) (vs : List Variable) (d : Demand) (bs : List Entry) → DemandAmong vs d → length vs ≤ n
    → length vs ≤ m → unify_from n d bs ≡ unify_from m d bs
unfolding unify_from
enough n m vs Nothing bs a p q = from_nothing n bs ∙ sym (from_nothing m bs)
enough n m vs Clash bs a p q = from_clash n bs ∙ sym (from_clash m bs)
enough zero m vs (Bind v t es) bs (c, a, e, h) p q = let l = shorter v vs c in absurd (omega (arith, l, p))
enough (suc n) zero vs (Bind v t es) bs (c, a, e, h) p q = let l = shorter v vs c in absurd (omega (arith, l, q))
enough (suc n) (suc m) vs (Bind v t es) bs (c, a, e, h) p q =
    let l = shorter v vs c in
    let x : length (without v vs) ≤ n = omega (arith, l, p) in
    let y : length (without v vs) ≤ m = omega (arith, l, q) in
    ap (cond (some_large (sides_under (entry v t ∷ []) es) (extend v t bs)) (Err a_term_is_too_large))
    (enough n m (without v vs) (first_demand (sides_under (entry v t ∷ []) es)) (extend v t bs)
    (first_among (without v vs) (sides_under (entry v t ∷ []) es) (left_among vs v t es a e h)) x y)

pub rounds_suffice : (t u : Tree) (n : ℕ) → length (variables_of_both t u) ≤ n
    → unify_from n (demand t u) [] ≡ unify t u
rounds_suffice t u n h =
    let vs = variables_of_both t u in
    enough n (length vs) vs (demand t u) [] (demand_among vs t u (left_listed t u) (right_listed t u)) h (omega arith)
    ∙ sym (unify_is t u)

-- Rules and facts that have a name, and the others.
use Rattle.std.specs.Prelude.{◌≡◌, ◌+◌, ◌<◌, ◌≤◌, ℕ, Bool, true, false, not, cond, List, [], ◌∷◌, ◌++◌, All, filter}
use Rattle.std.specs.Prelude.{find}
use Rattle.std.specs.Prelude.{is_some, length, map, take, drop, Option, None, Some, option_map, slice_get, refl}
use Rattle.std.proofs.Common.{inl, inr, ap, append-nil, arith, sym, subst, ◌∙◌}
use Rattle.std.proofs.lemmas.Bool.Decides.{same_from_decides}
use Rattle.std.proofs.lemmas.List.{drop_all, drop_more, take_more}
use Rattle.std.proofs.lemmas.List.Elements.{All-head, All-tail, filter-append}
use Rattle.std.proofs.lemmas.Option.{get_or_from_slice_get, slice_get-map, slice_get_cases, slice_get_within}
use Rattle.larch_base.specs.declared.fact_name.FactName.{FactName}
use Rattle.larch_derive.specs.Predicates.{HasEquation}
use Rattle.larch_derive.specs.declared.builder.Builder.{Builder}
use Rattle.larch_prove_adding.specs.Beside.{HasNoRoomFor, HasRoomFor, facts_without, one_or_none, with_new}
use Rattle.larch_prove_adding.specs.Equation.{sides_in}
use Rattle.larch_prove_adding.specs.KeptFacts.{AreCounted, AreSaid, KeptFacts, fact_by, facts_of}
use Rattle.larch_prove_adding.specs.declared.equation.SaidEquation.{SaidEquation}
use Rattle.larch_prove_adding.proofs.FactLists.{named_length}
use Rattle.larch_prove_invariant.specs.ProveMeaningFacts.{Fact, Facts, is_full}
use Rattle.larch_prove_invariant.specs.ProveMeaningSteps.{serves_beside}
use Rattle.larch_prove_invariant.specs.ProveMeaningSteps.{has_name as has_fact_name}
use Rattle.larch_rewrite.specs.RuleSet.{IsSaid, PlainRule, RuleSet, has_name, sides_of_plain, without}
use Rattle.larch_rewrite.specs.declared.refusal.RewriteRefusal.{RewriteRefusal}
use Rattle.larch_rewrite.specs.declared.refusal.RewriteRefusal.TheVariants.{Limit, TooLarge, Memory}
use Rattle.larch_rewrite.proofs.PlainRules.{name_Decides}
use Rattle.larch_rewrite_meaning.specs.Sides.{Sides}
use Rattle.larch_prove_invariant.proofs.ScriptCommandsDecided.{fact_Decides}

-- ---- places in a list

same : {X : Type 0} (x y : X) → Some x ≡ Some y → x ≡ y
same x y e = cc

other : {X : Type 0} (x : X) → None ≡ Some x → ⊥
other x e = cc

-- something stands at each place within
pub stands_within : {X : Type 0} (xs : List X) (i n : ℕ) → i < n → n ≡ length xs → None ≡ slice_get xs i → ⊥
stands_within xs i n l e h = elim (slice_get_cases xs i).1 [
  | inl p ↦ other p.0 (h ∙ p.2)
  | inr p ↦ let k = p.0 in absurd (omega (arith, l, e, k))
]

found_at : {X : Type 0} (p : X → Bool) (xs : List X) (i : ℕ) (x : X) → Some x ≡ slice_get xs i
    → find p (drop i xs) ≡ cond (p x) (Some x) (find p (drop (i + 1) xs))
found_at p xs i x e =
    ap (find p)
    (drop_more xs i x (slice_get_within xs i x (sym e))
    ∙ ap (λ y. y ∷ drop (i + 1) xs) (get_or_from_slice_get xs i x x (sym e)))

-- what stands at a place passes, or doesn't
pub found_here : {X : Type 0} (p : X → Bool) (xs : List X) (i : ℕ) (x : X) → Some x ≡ slice_get xs i → p x ≡ true
    → Some x ≡ find p (drop i xs)
found_here p xs i x e h = sym (found_at p xs i x e ∙ ap (λ b. cond b (Some x) (find p (drop (i + 1) xs))) h)

pub found_further : {X : Type 0} (p : X → Bool) (xs : List X) (i : ℕ) (x : X) → Some x ≡ slice_get xs i → p x ≡ false
    → find p (drop i xs) ≡ find p (drop (i + 1) xs)
found_further p xs i x e h = found_at p xs i x e ∙ ap (λ b. cond b (Some x) (find p (drop (i + 1) xs))) h

pub found_nowhere : {X : Type 0} (p : X → Bool) (xs : List X) (i : ℕ) → length xs ≤ i → None ≡ find p (drop i xs)
found_nowhere p xs i h = ap (find p) (sym (drop_all i xs h))

passing_more : {X : Type 0} (p : X → Bool) (xs : List X) (i : ℕ) (x : X) → Some x ≡ slice_get xs i
    → filter p (take (i + 1) xs) ≡ filter p (take i xs) ++ cond (p x) (x ∷ []) []
passing_more p xs i x e =
    ap (filter p)
    (take_more xs i x (slice_get_within xs i x (sym e))
    ∙ ap (λ y. take i xs ++ y ∷ []) (get_or_from_slice_get xs i x x (sym e)))
    ∙ filter-append p (take i xs) (x ∷ [])

pushed : {X : Type 0} (xs : List X) (x : X) → length (xs ++ x ∷ []) ≡ length xs + 1
pushed [] x = refl
pushed (y ∷ xs) x = let h = pushed xs x in omega (arith, h)

-- one more passes, or doesn't
pub counted_more : {X : Type 0} (p : X → Bool) (xs : List X) (i n : ℕ) (x : X) → Some x ≡ slice_get xs i
    → n ≡ length (filter p (take i xs)) → p x ≡ true → n + 1 ≡ length (filter p (take (i + 1) xs))
counted_more p xs i n x e h k =
    ap (λ m. m + 1) h ∙ sym (pushed (filter p (take i xs)) x)
    ∙ ap length (sym (passing_more p xs i x e ∙ ap (λ b. filter p (take i xs) ++ cond b (x ∷ []) []) k))

pub counted_same : {X : Type 0} (p : X → Bool) (xs : List X) (i n : ℕ) (x : X) → Some x ≡ slice_get xs i
    → n ≡ length (filter p (take i xs)) → p x ≡ false → n ≡ length (filter p (take (i + 1) xs))
counted_same p xs i n x e h k =
    h
    ∙ ap length (sym (passing_more p xs i x e
    ∙ ap (λ b. filter p (take i xs) ++ cond b (x ∷ []) []) k ∙ append-nil (filter p (take i xs))))

-- ---- what is found

found_passes : {X : Type 0} (p : X → Bool) (xs : List X) (x : X) → Some x ≡ find p xs → p x ≡ true
found_passes p [] x e = absurd (other x (sym e))
found_passes p (y ∷ xs) x e = by_case (p y) refl (λ g. found_passes p xs x g) e
  where
    by_case : (b : Bool) → p y ≡ b → (Some x ≡ find p xs → p x ≡ true) → Some x ≡ cond b (Some y) (find p xs)
        → p x ≡ true
    by_case true h f g = subst (λ z. p z ≡ true) (sym (same x y g)) h
    by_case false h f g = f g

found_of_all : {X : Type 0} (P : X → Type 0) (p : X → Bool) (xs : List X) (x : X) → Some x ≡ find p xs → All P xs
    → P x
found_of_all P p [] x e h = absurd (other x (sym e))
found_of_all P p (y ∷ xs) x e h =
    by_case (p y) (λ g. found_of_all P p xs x g (All-tail P y xs h)) (All-head P y xs h) e
  where
    by_case : (b : Bool) → (Some x ≡ find p xs → P x) → P y → Some x ≡ cond b (Some y) (find p xs) → P x
    by_case true f k g = subst P (sym (same x y g)) k
    by_case false f k g = f g

-- what is at a place
got_of_all : {X : Type 0} (P : X → Type 0) (xs : List X) (i : ℕ) (x : X) → Some x ≡ slice_get xs i → All P xs → P x
got_of_all P xs i x e h =
    subst P (get_or_from_slice_get xs i x x (sym e)) (h i x (slice_get_within xs i x (sym e)))

-- ---- names of rules and of facts

names_agree : (n : FactName) (r : PlainRule) → has_fact_name n (fact_by r) ≡ has_name n r
names_agree n r =
    same_from_decides (has_fact_name n (fact_by r)) (has_name n r) (fact_Decides n r.name) (name_Decides n r)

find_fact : (n : FactName) (rs : List PlainRule)
    → find (has_fact_name n) (map fact_by rs) ≡ option_map fact_by (find (has_name n) rs)
find_fact n [] = refl
find_fact n (r ∷ rs) =
    ap (λ b. cond b (Some (fact_by r)) (find (has_fact_name n) (map fact_by rs))) (names_agree n r)
    ∙ by_case (has_name n r) (find_fact n rs)
  where
    by_case : (b : Bool) → find (has_fact_name n) (map fact_by rs) ≡ option_map fact_by (find (has_name n) rs)
        → cond b (Some (fact_by r)) (find (has_fact_name n) (map fact_by rs))
        ≡ option_map fact_by (cond b (Some r) (find (has_name n) rs))
    by_case true h = refl
    by_case false h = h

other_facts : (n : FactName) (rs : List PlainRule)
    → map fact_by (without n rs) ≡ filter (serves_beside n) (map fact_by rs)
other_facts n [] = refl
other_facts n (r ∷ rs) =
    by_case (not (has_name n r)) (other_facts n rs)
    ∙ ap (λ b. cond (not b) (fact_by r ∷ filter (serves_beside n) (map fact_by rs))
    (filter (serves_beside n) (map fact_by rs))) (sym (names_agree n r))
  where
    by_case : (b : Bool) → map fact_by (without n rs) ≡ filter (serves_beside n) (map fact_by rs)
        → map fact_by (cond b (r ∷ without n rs) (without n rs))
        ≡ cond b (fact_by r ∷ filter (serves_beside n) (map fact_by rs)) (filter (serves_beside n) (map fact_by rs))
    by_case true h = ap (λ fs. fact_by r ∷ fs) h
    by_case false h = h

-- ---- facts as contracts see them

pub counted : (k : KeptFacts) (rules : RuleSet) (absurd : Option ℕ) (count : ℕ)
    → record { rules = rules; absurd = absurd } ≡ k → AreCounted rules count → count ≡ length (facts_of k).rules
counted k rules absurd count e h =
    h ∙ sym (named_length rules.rules) ∙ ap (λ (j : KeptFacts). length (facts_of j).rules) e

find_now : (k : KeptFacts) (rules : RuleSet) (absurd : Option ℕ) (n : FactName)
    → record { rules = rules; absurd = absurd } ≡ k
    → find (has_fact_name n) (facts_of k).rules ≡ option_map fact_by (find (has_name n) rules.rules)
find_now k rules absurd n e =
    ap (λ (j : KeptFacts). find (has_fact_name n) (facts_of j).rules) (sym e) ∙ find_fact n rules.rules

pub none_found : (k : KeptFacts) (rules : RuleSet) (absurd : Option ℕ) (n : FactName)
    → record { rules = rules; absurd = absurd } ≡ k → None ≡ find (has_name n) rules.rules
    → find (has_fact_name n) (facts_of k).rules ≡ None
none_found k rules absurd n e h = find_now k rules absurd n e ∙ ap (option_map fact_by) (sym h)

pub one_found : (k : KeptFacts) (rules : RuleSet) (absurd : Option ℕ) (n : FactName) (r : PlainRule) (s : Sides)
    → record { rules = rules; absurd = absurd } ≡ k → Some r ≡ find (has_name n) rules.rules → s ≡ sides_of_plain r
    → find (has_fact_name n) (facts_of k).rules ≡ Some (record { name = n; sides = s })
one_found k rules absurd n r s e h d =
    find_now k rules absurd n e ∙ ap (option_map fact_by) (sym h)
    ∙ by_parts (sym ((name_Decides n r).0 (found_passes (has_name n) rules.rules r h)))
  where
    by_parts : r.name ≡ n → ◌≡◌ {A = Option Fact} (Some (fact_by r)) (Some (record { name = n; sides = s }))
    by_parts p = λ i. Some (record { name = p i; sides = (sym d) i })

pub found_said : (b : Builder) (k : KeptFacts) (rules : RuleSet) (absurd : Option ℕ) (n : FactName) (r : PlainRule)
    (e : SaidEquation) → record { rules = rules; absurd = absurd } ≡ k → Some r ≡ find (has_name n) rules.rules
    → sides_in e ≡ sides_of_plain r → e.line ≡ r.line → AreSaid b k → HasEquation b e.line e.left e.right
found_said b k rules absurd n r e v h s l a =
    let w : AreSaid b (record { rules = rules; absurd = absurd }) = subst (AreSaid b) (sym v) a in
    let q : IsSaid b r = found_of_all (IsSaid b) (has_name n) rules.rules r h w.0.0 in
    subst (λ m. HasEquation b m e.left e.right) (sym l)
    (subst (λ (d : Sides). HasEquation b r.line d.left d.right) (sym s) q)

pub others_now : (k : KeptFacts) (rules others : RuleSet) (absurd : Option ℕ) (n : FactName)
    → record { rules = rules; absurd = absurd } ≡ k → others.rules ≡ without n rules.rules
    → facts_of (record { rules = others; absurd = absurd }) ≡ facts_without n (facts_of k)
others_now k rules others absurd n e h =
    by_list (ap (map fact_by) h ∙ other_facts n rules.rules) ∙ ap (λ (j : KeptFacts). facts_without n (facts_of j)) e
  where
    by_list : map fact_by others.rules ≡ filter (serves_beside n) (map fact_by rules.rules)
        → facts_of (record { rules = others; absurd = absurd })
        ≡ facts_without n (facts_of (record { rules = rules; absurd = absurd }))
    by_list q = λ i. record { rules = q i; contradictory = is_some absurd }

-- ---- what comes behind

got_fact : (s : KeptFacts) (rules : RuleSet) (absurd : Option ℕ) (i : ℕ) (o : Option PlainRule)
    → record { rules = rules; absurd = absurd } ≡ s → o ≡ slice_get rules.rules i
    → option_map fact_by o ≡ slice_get (facts_of s).rules i
got_fact s rules absurd i o e h =
    ap (option_map fact_by) h ∙ sym (slice_get-map fact_by rules.rules i)
    ∙ ap (λ (j : KeptFacts). slice_get (facts_of j).rules i) e

-- where nothing has come, these stay, and contradict each other where those do
pub none_follows : (k s : KeptFacts) (rules more : RuleSet) (absurd other_absurd : Option ℕ) (i : ℕ)
    → record { rules = rules; absurd = absurd } ≡ k → record { rules = more; absurd = other_absurd } ≡ s
    → None ≡ slice_get more.rules i
    → facts_of (record { rules = rules; absurd = other_absurd }) ≡ with_new (facts_of s) i (facts_of k)
none_follows k s rules more absurd other_absurd i e d h =
    let g = got_fact s more other_absurd i None d h in
    let p : map fact_by rules.rules ≡ (facts_of k).rules ++ one_or_none (slice_get (facts_of s).rules i) =
    ap (λ (j : KeptFacts). (facts_of j).rules) e
    ∙ sym (append-nil (facts_of k).rules)
    ∙ ap (λ o. (facts_of k).rules ++ one_or_none o) g in
    let q = ap (λ (j : KeptFacts). (facts_of j).contradictory) d in
    λ i. record { rules = p i; contradictory = q i }

pub no_room_wanted : (k s : KeptFacts) (more : RuleSet) (other_absurd : Option ℕ) (i : ℕ)
    → record { rules = more; absurd = other_absurd } ≡ s → None ≡ slice_get more.rules i
    → HasRoomFor (slice_get (facts_of s).rules i) (facts_of k)
no_room_wanted k s more other_absurd i d h =
    subst (λ o. HasRoomFor o (facts_of k)) (got_fact s more other_absurd i None d h) tt

-- where a fact has come, it comes behind these
pub one_follows : (k s : KeptFacts) (new : Facts) (more : RuleSet) (rules : RuleSet) (absurd other_absurd : Option ℕ)
    (i : ℕ) (r : PlainRule) → record { rules = rules; absurd = absurd } ≡ k
    → record { rules = more; absurd = other_absurd } ≡ s → Some r ≡ slice_get more.rules i
    → new ≡ record {
      rules = (facts_of (record { rules = rules; absurd = other_absurd })).rules ++ fact_by r ∷ [];
      contradictory = (facts_of (record { rules = rules; absurd = other_absurd })).contradictory;
    }
    → new ≡ with_new (facts_of s) i (facts_of k)
one_follows k s new more rules absurd other_absurd i r e d h n =
    let g = got_fact s more other_absurd i (Some r) d h in
    let p : map fact_by rules.rules ++ fact_by r ∷ []
    ≡ (facts_of k).rules ++ one_or_none (slice_get (facts_of s).rules i) =
    ap (λ (j : KeptFacts). (facts_of j).rules ++ fact_by r ∷ []) e
    ∙ ap (λ o. (facts_of k).rules ++ one_or_none o) g in
    let q = ap (λ (j : KeptFacts). (facts_of j).contradictory) d in
    n ∙ (λ j. record { rules = p j; contradictory = q j })

pub room_had : (k s : KeptFacts) (more rules : RuleSet) (absurd other_absurd : Option ℕ) (i : ℕ) (r : PlainRule)
    → record { rules = rules; absurd = absurd } ≡ k → record { rules = more; absurd = other_absurd } ≡ s
    → Some r ≡ slice_get more.rules i → is_full (facts_of (record { rules = rules; absurd = other_absurd })) ≡ false
    → HasRoomFor (slice_get (facts_of s).rules i) (facts_of k)
room_had k s more rules absurd other_absurd i r e d h f =
    subst (λ o. HasRoomFor o (facts_of k)) (got_fact s more other_absurd i (Some r) d h)
    (subst (λ (j : KeptFacts). is_full (facts_of j) ≡ false) e f)

pub room_missed : (k s : KeptFacts) (more rules : RuleSet) (absurd other_absurd : Option ℕ) (i : ℕ) (r : PlainRule)
    (x : RewriteRefusal) → record { rules = rules; absurd = absurd } ≡ k
    → record { rules = more; absurd = other_absurd } ≡ s → Some r ≡ slice_get more.rules i
    → HasNoRoomFor (Some (fact_by r)) (facts_of (record { rules = rules; absurd = other_absurd })) x
    → HasNoRoomFor (slice_get (facts_of s).rules i) (facts_of k) x
room_missed k s more rules absurd other_absurd i r x e d h f =
    subst (λ o. HasNoRoomFor o (facts_of k) x) (got_fact s more other_absurd i (Some r) d h)
    (subst (λ (j : KeptFacts). HasNoRoomFor (Some (fact_by r)) (facts_of j) x) e (moved x f))
  where
    moved : (y : RewriteRefusal)
        → HasNoRoomFor (Some (fact_by r)) (facts_of (record { rules = rules; absurd = other_absurd })) y
        → HasNoRoomFor (Some (fact_by r)) (facts_of (record { rules = rules; absurd = absurd })) y
    moved Memory g = tt
    moved Limit g = g
    moved TooLarge g = g

-- what is said
pub follows_said : (b : Builder) (k s : KeptFacts) (rules more : RuleSet) (absurd other_absurd : Option ℕ)
    → record { rules = rules; absurd = absurd } ≡ k → record { rules = more; absurd = other_absurd } ≡ s → AreSaid b k
    → AreSaid b s → AreSaid b (record { rules = rules; absurd = other_absurd })
follows_said b k s rules more absurd other_absurd e d h g =
    ((subst (AreSaid b) (sym e) h).0, (subst (AreSaid b) (sym d) g).1)

pub got_said : (b : Builder) (s : KeptFacts) (more : RuleSet) (other_absurd : Option ℕ) (i : ℕ) (r : PlainRule)
    → record { rules = more; absurd = other_absurd } ≡ s → Some r ≡ slice_get more.rules i → AreSaid b s → IsSaid b r
got_said b s more other_absurd i r d h g =
    let w : AreSaid b (record { rules = more; absurd = other_absurd }) = subst (AreSaid b) (sym d) g in
    got_of_all (IsSaid b) more.rules i r h w.0.0

-- The constants of a block have new names.
use Rattle.std.specs.Prelude.{◌≡◌, ◌≢◌, ◌<◌, ◌||◌, ℕ, zero, suc, Bool, true, false, cond, not, List, [], ◌∷◌, ◌++◌}
use Rattle.std.specs.Prelude.{map}
use Rattle.std.specs.Prelude.{length, find, unwrap_or, codes, nat_eq, bytes_eq, All, AllPairs, Contains, Option, Some}
use Rattle.std.specs.Prelude.{None, option_map, Result, Ok, refl}
use Rattle.std.specs.List.{flat_map, list_any}
use Rattle.std.specs.Fmt.{decimal}
use Rattle.std.proofs.Common.{arith, inl, inr, ◌⊎◌, ap, subst, sym, ◌∙◌}
use Rattle.std.proofs.lemmas.List.{append-nil}
use Rattle.std.proofs.lemmas.List.Elements.{All-append, All-cons, All-contains, All-head, All-nil, All-tail}
use Rattle.std.proofs.lemmas.List.Elements.{All-weaker}
use Rattle.std.proofs.lemmas.List.Kept.{AllPairs-cons}
use Rattle.std.proofs.lemmas.Slice.Eq.{bytes_eq-Decides}
use Rattle.larch_base.specs.declared.code.Code.{Code}
use Rattle.larch_base.specs.declared.code.Code.TheVariants as refusal
use Rattle.larch_base.proofs.Lists.{all_from, pairs_head, pairs_tail}
use Rattle.larch_base.proofs.Members.{contains_cases, contains_here, contains_later, contains_left, contains_map}
use Rattle.larch_base.proofs.Members.{contains_none, contains_right}
use Rattle.larch_term.specs.BuiltIn.{built_in_name, is_built_in_as}
use Rattle.larch_term.specs.Operator.{PlainOperator, plain, name_bytes}
use Rattle.larch_term.specs.Sorts.{sort_of}
use Rattle.larch_term.specs.Tree.{Tree}
use Rattle.larch_term.specs.Variable.{variables_of}
use Rattle.larch_term.specs.declared.built_in.BuiltIn.{BuiltIn}
use Rattle.larch_term.specs.declared.built_in.BuiltIn.TheVariants.{True, False, Not, And, Or, Implies, Iff, Equal}
use Rattle.larch_term.specs.declared.built_in.BuiltIn.TheVariants.{Unequal, If}
use Rattle.larch_term.specs.declared.statement.Theory.{Theory}
use Rattle.larch_term.specs.declared.variable.Variable.{Variable}
use Rattle.larch_rewrite_meaning.specs.CalculusObservation.{Observation, observations_of}
use Rattle.larch_rewrite_meaning.specs.CalculusTheories.{AreConstants, AreNew, IsFront, IsNewName}
use Rattle.larch_prove_meaning.specs.Levels.{Proof, all_constants}
use Rattle.larch_prove_meaning.specs.NewNames.{all_bytes, constant_named, free_name, new_constants, numbered_from}
use Rattle.larch_prove_meaning.specs.NewNames.{variable_names}
use Rattle.larch_prove_meaning.specs.Plans.{Cases, Conjunction, Contradiction, Implication, Induction, Method}
use Rattle.larch_prove_meaning.specs.Plans.{Partition, Plan, Setting, Subgoal, argument_variables, a_variable}
use Rattle.larch_prove_meaning.specs.Plans.{conjuncts, constants_of, found_or, generators, implication_of}
use Rattle.larch_prove_meaning.specs.Plans.{induction_subgoals, names_of, observers, other_sorts, partition_subgoals}
use Rattle.larch_prove_meaning.specs.Plans.{plan, shared_subgoal, taken_beside, two_arguments, with_found}
use Rattle.larch_prove_meaning.specs.Steps.{own_operators, taken_names}
use Rattle.larch_prove_meaning.proofs.FreeNames.{free_is_free}
use Rattle.larch_prove_meaning.proofs.LevelSorts.{ok_inj}
use Rattle.larch_prove_meaning.proofs.PlanParts.{new_are_constants}

-- ---- names

true_false : true ≡ false → ⊥
true_false e = cc

left_false : (a b : Bool) → (a || b) ≡ false → a ≡ false
left_false true b e = e
left_false false b e = refl

right_false : (a b : Bool) → (a || b) ≡ false → b ≡ false
right_false true b e = absurd (true_false e)
right_false false b e = e

none_contained : {A : Type 0} (test : A → Bool) (xs : List A) → list_any test xs ≡ false → (x : A) → Contains xs x
    → test x ≡ true → ⊥
none_contained test [] e x c t = contains_none x c
none_contained test (y ∷ ys) e x c t = elim (contains_cases y x ys c) [
  | inl q ↦ true_false (sym t ∙ (ap test (sym q) ∙ left_false (test y) (list_any test ys) e))
  | inr d ↦ none_contained test ys (right_false (test y) (list_any test ys) e) x d t
]

-- what is found, or stands in its place, has what all have
picked : {A : Type 0} (P : A → Type 0) (test : A → Bool) (d : A) → P d → (xs : List A) → All P xs
    → P (unwrap_or (find test xs) d)
picked P test d h [] a = h
picked P test d h (x ∷ xs) a =
    let here = All-head P x xs a in
    let behind = picked P test d h xs (All-tail P x xs a) in
    elim (test x) as (λ b. P (unwrap_or (cond b (Some x) (find test xs)) d)) [ true ↦ here | false ↦ behind ]

numbered_fronts : (word : List ℕ) (k n : ℕ) → All (IsFront word) (numbered_from word k n)
numbered_fronts word k zero = All-nil (IsFront word)
numbered_fronts word k (suc n) =
    All-cons (IsFront word) (word ++ decimal k) (numbered_from word (suc k) n) (decimal k, refl)
    (numbered_fronts word (suc k) n)

-- a new name begins with its word
free_front : (taken : List (List ℕ)) (word : List ℕ) → IsFront word (free_name taken word)
free_front taken word =
    picked (IsFront word) (λ n. not (list_any (bytes_eq n) taken)) (word ++ all_bytes taken) (all_bytes taken, refl)
    (word ∷ numbered_from word 1 (length taken))
    (All-cons (IsFront word) word (numbered_from word 1 (length taken)) ([], sym (append-nil word))
    (numbered_fronts word 1 (length taken)))

-- the words for new constants have a c or a g, and no name of a built-in operator has one
abbrev HasMark : List ℕ → Type 0
HasMark n = Contains n 99 ⊎ Contains n 103

unmarked : (b : BuiltIn)
    → (list_any (nat_eq 99) (built_in_name b) ≡ false) × (list_any (nat_eq 103) (built_in_name b) ≡ false)
unmarked True = (refl, refl)
unmarked False = (refl, refl)
unmarked Not = (refl, refl)
unmarked And = (refl, refl)
unmarked Or = (refl, refl)
unmarked Implies = (refl, refl)
unmarked Iff = (refl, refl)
unmarked Equal = (refl, refl)
unmarked Unequal = (refl, refl)
unmarked If = (refl, refl)

no_built_in_name : (b : BuiltIn) → HasMark (built_in_name b) → ⊥
no_built_in_name b (inl c) = none_contained (nat_eq 99) (built_in_name b) (unmarked b).0 99 c refl
no_built_in_name b (inr c) = none_contained (nat_eq 103) (built_in_name b) (unmarked b).1 103 c refl

marked_front : (word rest : List ℕ) → HasMark word → HasMark (word ++ rest)
marked_front word rest (inl c) = inl (contains_left word rest 99 c)
marked_front word rest (inr c) = inr (contains_left word rest 103 c)

marked_length : (word : List ℕ) → HasMark word → 0 < length word
marked_length word (inl c) = omega (arith, c.1)
marked_length word (inr c) = omega (arith, c.1)

plain_inj : {n m : List ℕ} → plain n ≡ plain m → n ≡ m
plain_inj e = cc

-- ---- operators with new names

-- the operator's name is none of those that are taken, and no built-in operator's
record IsNewBeside (taken : List (List ℕ)) (c : PlainOperator) : Type 0 where
  name : List ℕ
  is : c.name ≡ plain name
  free : (n : List ℕ) → Contains taken n → name ≢ n
  marked : HasMark name

-- so are the names of operators, and they differ
pub record AreNewBeside (taken : List (List ℕ)) (cs : List PlainOperator) : Type 0 where
  all : All (IsNewBeside taken) cs
  different : AllPairs (λ f g. f.name ≢ g.name) cs

abbrev HaveTwoNames : PlainOperator → PlainOperator → Type 0
HaveTwoNames f g = f.name ≢ g.name

new_one : (taken : List (List ℕ)) (word : List ℕ) (f : PlainOperator) → HasMark word
    → f.name ≡ plain (free_name taken word) → IsNewBeside taken f
new_one taken word f m e =
    let front = free_front taken word in
    record {
      name = free_name taken word;
      is = e;
      free = λ n c q. none_contained (bytes_eq (free_name taken word)) taken (free_is_free taken word
          (marked_length word m))
          n c ((bytes_eq-Decides (free_name taken word) n).1 q);
      marked = subst HasMark (sym front.1) (marked_front word front.0 m);
    }

pub none_new : (taken : List (List ℕ)) → AreNewBeside taken []
none_new taken = record { all = All-nil (IsNewBeside taken); different = λ i j d l m. absurd (omega (arith, m)) }

beside_less : (ns taken : List (List ℕ)) (c : PlainOperator) → IsNewBeside (ns ++ taken) c → IsNewBeside taken c
beside_less ns taken c h =
    record { name = h.name; is = h.is; free = λ n d. h.free n (contains_right ns taken n d); marked = h.marked }

cons_new : (taken : List (List ℕ)) (c : PlainOperator) (cs : List PlainOperator) (n : List ℕ) → c.name ≡ plain n
    → IsNewBeside taken c → AreNewBeside (n ∷ taken) cs → AreNewBeside taken (c ∷ cs)
cons_new taken c cs n e h r = record {
  all = All-cons (IsNewBeside taken) c cs h
      (All-weaker (IsNewBeside (n ∷ taken)) (IsNewBeside taken) (beside_less (n ∷ []) taken) cs r.all);
  different = AllPairs-cons HaveTwoNames c cs
      (All-weaker (IsNewBeside (n ∷ taken)) (HaveTwoNames c)
      (λ d k q. k.free n (contains_here n taken) (plain_inj (sym k.is ∙ (sym q ∙ e)))) cs r.all) r.different;
}

constants_new : (taken : List (List ℕ)) (vs : List Variable) → AreNewBeside taken (new_constants taken vs)
constants_new taken [] = none_new taken
constants_new taken (v ∷ vs) =
    let word = v.name ++ codes "c" in
    let n = free_name taken word in
    cons_new taken (constant_named n v.sort) (new_constants (n ∷ taken) vs) n refl
    (new_one taken word (constant_named n v.sort) (inl (contains_right v.name (codes "c") 99
    (contains_here 99 []))) refl)
    (constants_new (n ∷ taken) vs)

new_beside_fewer : (taken more : List (List ℕ)) (cs : List PlainOperator) → AreNewBeside (taken ++ more) cs
    → AreNewBeside taken cs
new_beside_fewer taken more cs h = record {
  all = All-weaker (IsNewBeside (taken ++ more)) (IsNewBeside taken) (λ c k. record {
    name = k.name;
    is = k.is;
    free = λ n d. k.free n (contains_left taken more n d);
    marked = k.marked;
  }) cs h.all;
  different = h.different;
}

pairs_append : {X : Type 0} (R : X → X → Type 0) (xs ys : List X) → AllPairs R xs → AllPairs R ys
    → ((x y : X) → Contains xs x → Contains ys y → R x y) → AllPairs R (xs ++ ys)
pairs_append R [] ys a b h = b
pairs_append R (x ∷ xs) ys a b h =
    AllPairs-cons R x (xs ++ ys)
    (All-append (R x) xs ys (pairs_head R x xs a) (all_from (R x) ys (λ y c. h x y (contains_here x xs) c)))
    (pairs_append R xs ys (pairs_tail R x xs a) b (λ z y c d. h z y (contains_later x z xs c) d))

-- the name of an operator that has another one's
same_name_taken : (taken : List (List ℕ)) (f d : PlainOperator) → Contains taken (name_bytes f.name)
    → IsNewBeside taken d
    → f.name ≢ d.name
same_name_taken taken f d c h e = h.free (name_bytes f.name) c (sym (ap name_bytes (e ∙ h.is)))

append_new : (taken : List (List ℕ)) (cs ds : List PlainOperator) → AreNewBeside taken cs
    → AreNewBeside (names_of cs ++ taken) ds → AreNewBeside taken (cs ++ ds)
append_new taken cs ds a b = record {
  all = All-append (IsNewBeside taken) cs ds a.all
      (All-weaker (IsNewBeside (names_of cs ++ taken)) (IsNewBeside taken) (beside_less (names_of cs) taken) ds b.all);
  different = pairs_append HaveTwoNames cs ds a.different b.different (λ x y c d.
      same_name_taken (names_of cs ++ taken) x y
      (contains_left (names_of cs) taken (name_bytes x.name) (contains_map (λ
      (f : PlainOperator). name_bytes f.name) cs x c))
      (All-contains (IsNewBeside (names_of cs ++ taken)) ds y b.all d));
}

-- ---- plans

abbrev made_by : List Subgoal → List PlainOperator
made_by ss = flat_map (λ s. s.constants) ss

induction_new : (taken : List (List ℕ)) (x : Variable) (goal : Tree) (fs : List PlainOperator)
    → AreNewBeside taken (made_by (induction_subgoals taken x goal fs))
induction_new taken x goal [] = none_new taken
induction_new taken x goal (f ∷ fs) =
    let cs = new_constants taken (argument_variables x f.domain) in
    append_new taken cs (made_by (induction_subgoals (names_of cs ++ taken) x goal fs))
    (constants_new taken (argument_variables x f.domain)) (induction_new (names_of cs ++ taken) x goal fs)

partition_new : (taken : List (List ℕ)) (t u : Tree) (ws : List Observation)
    → AreNewBeside taken (made_by (partition_subgoals taken t u ws))
partition_new taken t u [] = none_new taken
partition_new taken t u (w ∷ ws) =
    let vs = map a_variable (other_sorts w.place 1 w.observer.domain) in
    let cs = new_constants taken vs in
    append_new taken cs (made_by (partition_subgoals (names_of cs ++ taken) t u ws)) (constants_new taken vs)
    (partition_new (names_of cs ++ taken) t u ws)

no_constants : (ts : List Tree) → made_by (map (shared_subgoal []) ts) ≡ []
no_constants [] = refl
no_constants (t ∷ ts) = no_constants ts

-- constants for the variables of a term
shared_new : (taken : List (List ℕ)) (goal t : Tree) → AreNewBeside taken (constants_of taken goal t ++ [])
shared_new taken goal t =
    subst (AreNewBeside taken) (sym (append-nil (constants_of taken goal t)))
    (new_beside_fewer taken (variable_names goal) (constants_of taken goal t)
    (constants_new (taken ++ variable_names goal) _))

-- what was found
record Found {A B : Type 0} (o : Option A) (next : A → Result B Code) (z : B) : Type 0 where
  thing : A
  is : o ≡ Some thing
  second : next thing ≡ Ok z

found_with : {A B : Type 0} (code : Code) (o : Option A) (next : A → Result B Code) (z : B)
    → with_found code o next ≡ Ok z → Found o next z
found_with code None next z e = cc
found_with code (Some x) next z e = record { thing = x; is = refl; second = e }

abbrev PlanIsNew : List (List ℕ) → Plan → Type 0
PlanIsNew taken made = AreNewBeside taken (all_constants made)

mapped_new : {A : Type 0} (taken : List (List ℕ)) (f : A → Plan) (o : Option A) (made : Plan)
    → ((x : A) → PlanIsNew taken (f x)) → found_or refusal.Shape (option_map f o) ≡ Ok made → PlanIsNew taken made
mapped_new taken f None made h e = cc
mapped_new taken f (Some x) made h e = subst (PlanIsNew taken) (ok_inj e) (h x)

-- a plan by induction on a variable, and by observers of two terms
abbrev by_generators : Setting → Tree → Variable → List PlainOperator → Result Plan Code
by_generators setting goal x fs =
    Ok (record { constants = []; subgoals = induction_subgoals (taken_beside setting.taken goal) x goal fs })

abbrev by_variable : Setting → Tree → Variable → Result Plan Code
by_variable setting goal x =
    with_found refusal.Generated (generators x.sort setting.clauses) (by_generators setting goal x)

abbrev by_observers : Setting → Tree → Tree × Tree → List PlainOperator → Result Plan Code
by_observers setting goal p os =
    Ok (record {
      constants = [];
      subgoals = partition_subgoals (taken_beside setting.taken goal) p.0 p.1 (observations_of (sort_of p.0) os);
    })

abbrev by_sides : Setting → Tree → Tree × Tree → Result Plan Code
by_sides setting goal p =
    with_found refusal.Partitioned (observers (sort_of p.0) setting.clauses) (by_observers setting goal p)

pub plan_new : (setting : Setting) (goal : Tree) (method : Method) (made : Plan) → plan setting goal method ≡ Ok made
    → AreNewBeside setting.taken (all_constants made)
unfolding plan
plan_new setting goal (Cases f) made e =
    subst (PlanIsNew setting.taken) (ok_inj e) (shared_new setting.taken goal f)
plan_new setting goal Implication made e =
    mapped_new setting.taken (implication_of setting.taken goal) _ made (λ p. shared_new setting.taken goal p.0) e
plan_new setting goal Conjunction made e =
    mapped_new setting.taken _ _ made
    (λ p. subst (AreNewBeside setting.taken) (sym (no_constants (conjuncts goal))) (none_new setting.taken)) e
plan_new setting goal Contradiction made e =
    subst (PlanIsNew setting.taken) (ok_inj e) (shared_new setting.taken goal goal)
plan_new setting goal (Induction n) made e =
    let m = found_with refusal.Variable (find (λ v. bytes_eq v.name n) (variables_of goal))
    (by_variable setting goal) made
    e in
    let o = found_with refusal.Generated (generators m.thing.sort setting.clauses)
    (by_generators setting goal m.thing) made
    m.second in
    subst (PlanIsNew setting.taken) (ok_inj o.second)
    (new_beside_fewer setting.taken (variable_names goal)
    (made_by (induction_subgoals (taken_beside setting.taken goal) m.thing goal o.thing))
    (induction_new (setting.taken ++ variable_names goal) m.thing goal o.thing))
plan_new setting goal Partition made e =
    let m = found_with refusal.Shape (two_arguments (λ f. is_built_in_as f Equal) goal)
    (by_sides setting goal) made e in
    let o = found_with refusal.Partitioned (observers (sort_of m.thing.0) setting.clauses)
    (by_observers setting goal m.thing) made m.second in
    let ws = observations_of (sort_of m.thing.0) o.thing in
    subst (PlanIsNew setting.taken) (ok_inj o.second)
    (new_beside_fewer setting.taken (variable_names goal)
    (made_by (partition_subgoals (taken_beside setting.taken goal) m.thing.0 m.thing.1 ws))
    (partition_new (setting.taken ++ variable_names goal) m.thing.0 m.thing.1 ws))

-- ---- what a plan makes are constants

abbrev TakesNone : PlainOperator → Type 0
TakesNone f = f.domain ≡ []

induction_constants : (taken : List (List ℕ)) (x : Variable) (goal : Tree) (fs : List PlainOperator)
    → AreConstants (made_by (induction_subgoals taken x goal fs))
induction_constants taken x goal [] = All-nil TakesNone
induction_constants taken x goal (f ∷ fs) =
    let cs = new_constants taken (argument_variables x f.domain) in
    All-append TakesNone cs (made_by (induction_subgoals (names_of cs ++ taken) x goal fs))
    (new_are_constants taken (argument_variables x f.domain)) (induction_constants (names_of cs ++ taken) x goal fs)

partition_constants : (taken : List (List ℕ)) (t u : Tree) (ws : List Observation)
    → AreConstants (made_by (partition_subgoals taken t u ws))
partition_constants taken t u [] = All-nil TakesNone
partition_constants taken t u (w ∷ ws) =
    let vs = map a_variable (other_sorts w.place 1 w.observer.domain) in
    let cs = new_constants taken vs in
    All-append TakesNone cs (made_by (partition_subgoals (names_of cs ++ taken) t u ws)) (new_are_constants taken vs)
    (partition_constants (names_of cs ++ taken) t u ws)

shared_constants : (taken : List (List ℕ)) (goal t : Tree) → AreConstants (constants_of taken goal t ++ [])
shared_constants taken goal t =
    subst AreConstants (sym (append-nil (constants_of taken goal t)))
    (new_are_constants (taken ++ variable_names goal) (variables_of t))

abbrev PlanIsConstant : Plan → Type 0
PlanIsConstant made = AreConstants (all_constants made)

mapped_constants : {A : Type 0} (f : A → Plan) (o : Option A) (made : Plan) → ((x : A) → PlanIsConstant (f x))
    → found_or refusal.Shape (option_map f o) ≡ Ok made → PlanIsConstant made
mapped_constants f None made h e = cc
mapped_constants f (Some x) made h e = subst PlanIsConstant (ok_inj e) (h x)

pub plan_constants : (setting : Setting) (goal : Tree) (method : Method) (made : Plan)
    → plan setting goal method ≡ Ok made → AreConstants (all_constants made)
unfolding plan
plan_constants setting goal (Cases f) made e = subst PlanIsConstant (ok_inj e) (shared_constants setting.taken goal f)
plan_constants setting goal Implication made e =
    mapped_constants (implication_of setting.taken goal) _ made (λ p. shared_constants setting.taken goal p.0) e
plan_constants setting goal Conjunction made e =
    mapped_constants _ _ made (λ p. subst AreConstants (sym (no_constants (conjuncts goal))) (All-nil TakesNone)) e
plan_constants setting goal Contradiction made e =
    subst PlanIsConstant (ok_inj e) (shared_constants setting.taken goal goal)
plan_constants setting goal (Induction n) made e =
    let m =
    found_with refusal.Variable (find (λ v. bytes_eq v.name n) (variables_of goal)) (by_variable setting goal) made
    e in
    let o =
    found_with refusal.Generated (generators m.thing.sort setting.clauses) (by_generators setting goal m.thing) made
    m.second in
    subst PlanIsConstant (ok_inj o.second)
    (induction_constants (taken_beside setting.taken goal) m.thing goal o.thing)
plan_constants setting goal Partition made e =
    let m =
    found_with refusal.Shape (two_arguments (λ f. is_built_in_as f Equal) goal) (by_sides setting goal) made e in
    let o = found_with refusal.Partitioned (observers (sort_of m.thing.0) setting.clauses)
    (by_observers setting goal m.thing) made m.second in
    subst PlanIsConstant (ok_inj o.second)
    (partition_constants (taken_beside setting.taken goal) m.thing.0 m.thing.1
    (observations_of (sort_of m.thing.0) o.thing))

-- their names are none of those that are taken, and differ
pub plan_names_free : (setting : Setting) (goal : Tree) (method : Method) (made : Plan)
    → plan setting goal method ≡ Ok made
    → All (λ c. (n : List ℕ) → Contains setting.taken n → name_bytes c.name ≢ n) (all_constants made)
plan_names_free setting goal method made e =
    All-weaker (IsNewBeside setting.taken)
    (λ (c : PlainOperator). (n : List ℕ) → Contains setting.taken n → name_bytes c.name ≢ n)
    (λ c h n i q. h.free n i (sym (ap name_bytes h.is) ∙ q)) (all_constants made)
    (plan_new setting goal method made e).all

pub plan_names_differ : (setting : Setting) (goal : Tree) (method : Method) (made : Plan)
    → plan setting goal method ≡ Ok made → AllPairs (λ c d. c.name ≢ d.name) (all_constants made)
plan_names_differ setting goal method made e = (plan_new setting goal method made e).different

-- ---- theories

pub none_are_new : (t : Theory) → AreNew t []
none_are_new t = record {
  names = All-nil (λ (f : PlainOperator). IsNewName t f.name);
  different = λ i j d l m. absurd (omega (arith, m));
}

is_new_name : (t : Theory) (cs : List PlainOperator) (taken : List (List ℕ)) (d : PlainOperator)
    → ((f : PlainOperator) → Contains (t.operators ++ cs) f → Contains taken (name_bytes f.name)) → IsNewBeside taken d
    → IsNewName t d.name
is_new_name t cs taken d k h f (inl c) e = same_name_taken taken f d (k f (contains_left t.operators cs f c)) h e
is_new_name t cs taken d k h f (inr (b, (s, q))) e =
    no_built_in_name b
    (subst HasMark (plain_inj (sym h.is ∙ (sym e ∙ ap (λ (g : PlainOperator). g.name) q))) h.marked)

-- with operators whose names are none of the theory's and of the constants
pub grown_new : (t : Theory) (cs ds : List PlainOperator) (taken : List (List ℕ))
    → ((f : PlainOperator) → Contains (t.operators ++ cs) f → Contains taken (name_bytes f.name))
    → AreNewBeside taken ds → AreNew t cs → AreNew t (cs ++ ds)
grown_new t cs ds taken k h a = record {
  names = All-append (λ (f : PlainOperator). IsNewName t f.name) cs ds a.names
      (All-weaker (IsNewBeside taken) (λ (f : PlainOperator). IsNewName t f.name)
      (λ d w. is_new_name t cs taken d k w) ds
      h.all);
  different = pairs_append HaveTwoNames cs ds a.different h.different (λ x y c d.
      same_name_taken taken x y (k x (contains_right t.operators cs x c)) (All-contains
      (IsNewBeside taken) ds y h.all d));
}

-- names of a proof's operators are taken
pub own_taken : (p : Proof) (f : PlainOperator) → Contains (own_operators p) f
    → Contains (taken_names p) (name_bytes f.name)
own_taken p f c =
    contains_left (map (λ (g : PlainOperator). name_bytes g.name) (own_operators p)) (map (λ v. v.0) p.scope)
    (name_bytes f.name) (contains_map (λ (g : PlainOperator). name_bytes g.name) (own_operators p) f c)

-- the predicate of a generation, and the constants of a partition
pub predicate_new : (taken : List (List ℕ)) (g : PlainOperator) → g.name ≡ plain (free_name taken (codes "gen"))
    → AreNewBeside taken (g ∷ [])
predicate_new taken g e =
    cons_new taken g [] (free_name taken (codes "gen")) e
    (new_one taken (codes "gen") g (inr (contains_here 103 (101 ∷ 110 ∷ []))) e) (none_new _)

pub two_new : (taken : List (List ℕ)) (c d : PlainOperator) → c.name ≡ plain (free_name taken (codes "lc"))
    → d.name ≡ plain (free_name (free_name taken (codes "lc") ∷ taken) (codes "rc")) → AreNewBeside taken (c ∷ d ∷ [])
two_new taken c d e f =
    let n = free_name taken (codes "lc") in
    cons_new taken c (d ∷ []) n e
    (new_one taken (codes "lc") c (inl (contains_later 108 99 (99 ∷ []) (contains_here 99 []))) e)
    (cons_new (n ∷ taken) d [] (free_name (n ∷ taken) (codes "rc")) f
    (new_one (n ∷ taken) (codes "rc") d (inl (contains_later 114 99 (99 ∷ []) (contains_here 99 []))) f) (none_new _))

-- The rules of a completion are derivable.
use Rattle.std.specs.Prelude.{◌≡◌, ◌==◌, ℕ, zero, suc, Bool, true, false, if◌then◌else◌, List, [], ◌∷◌, ◌++◌, All}
use Rattle.std.specs.Prelude.{Contains, Option, Some, None, Result, Ok, Err, drop, map, refl}
use Rattle.std.specs.List.{flat_map}
use Rattle.std.proofs.Common.{ap, sym, subst, ◌∙◌, inl, inr}
use Rattle.std.proofs.lemmas.List.Elements.{All-cons, All-head, All-nil, All-tail, All-weaker}
use Rattle.larch_base.proofs.Members.{contained_in_flat_map, contains_cases, contains_here, contains_later}
use Rattle.larch_base.proofs.Members.{contains_none}
use Rattle.larch_order.specs.Greater.{greater}
use Rattle.larch_order.specs.declared.precedence.Ranked.{Ranked}
use Rattle.larch_pairs.specs.Unify.{Oversize}
use Rattle.larch_pairs_critical.specs.Overlap.{AreSorted, IsApplication, Overlaps}
use Rattle.larch_pairs_critical.specs.Pairs.{critical_pairs}
use Rattle.larch_pairs_critical.specs.declared.pair.Pair.{Pair}
use Rattle.larch_pairs_critical.specs.declared.pair.Rule.{Rule}
use Rattle.larch_pairs_critical.proofs.Overlapping.{all_overlap}
use Rattle.larch_pairs_critical.proofs.Replacements.{all_fit, all_over}
use Rattle.larch_term.specs.Equality.{same_tree}
use Rattle.larch_term.specs.Sorts.{IsOver}
use Rattle.larch_term.specs.Statement.{IsStatementOver, IsWellSortedTheory}
use Rattle.larch_term.specs.Substitution.{Fits, instance_of}
use Rattle.larch_term.specs.Tree.{Tree, var, app}
use Rattle.larch_term.specs.declared.statement.Statement.{Statement}
use Rattle.larch_term.specs.declared.statement.Statement.TheVariants.{Equation, Generated, Partitioned}
use Rattle.larch_term.specs.declared.statement.Theory.{Theory}
use Rattle.larch_calculus.specs.Derivable.{Derivable, instance, symmetric}
use Rattle.larch_calculus.proofs.DerivedRules.{replaced_left, stated, transitive}
use Rattle.larch_calculus.proofs.WellSorted.{well_sorted}
use Rattle.larch_rewrite_meaning.specs.Sides.{Sides, flip, sides_of}
use Rattle.larch_complete_meaning.specs.Steps.{Step, after}
use Rattle.larch_complete_meaning.specs.Completion.{Completion, IsDerivable, IsRuleOf, IsStage, add_rule, complete}
use Rattle.larch_complete_meaning.specs.Completion.{complete_from, ends}
use Rattle.larch_complete_meaning.specs.Completion.{equations_of, go_on, most_equations, next_equation, take_found}
use Rattle.larch_complete_meaning.specs.Completion.{task_of}
use Rattle.larch_complete_meaning.specs.Completion.{without_next}
use Rattle.larch_complete_meaning.specs.LastTest.{first_apart, first_apart_in, last_test, unless_found}
use Rattle.larch_complete_meaning.specs.Pairs.{as_equation, as_equations, as_rule, pairs_from, pairs_in, pairs_in_each}
use Rattle.larch_complete_meaning.specs.Pairs.{pairs_of_all, pairs_of_new}
use Rattle.larch_complete_meaning.specs.Rounds.{Stage, Task, orient, reduce, settle, with_rule, with_waiting}
use Rattle.larch_complete_meaning.specs.declared.answer.CompletionAnswer.{CompletionAnswer}
use Rattle.larch_complete_meaning.specs.declared.answer.CompletionAnswer.TheVariants.{Spent, Unoriented}
use Rattle.larch_complete_meaning.proofs.Reducing.{forms_found}
use Rattle.larch_complete_meaning.proofs.Rewritten.{AreDerivable, normal_equal}

-- ---- what steps come to

-- what a step comes to has a property
abbrev Gives : {A : Type 0} → (A → Type 0) → Step A → Type 0
Gives P (Ok x) = P x
Gives P (Err answer) = Unit {0}

after_gives : {A B : Type 0} (P : A → Type 0) (Q : B → Type 0) (s : Step A) (next : A → Step B) → Gives P s
    → ((x : A) → P x → Gives Q (next x)) → Gives Q (after s next)
after_gives P Q (Ok x) next h k = k x h
after_gives P Q (Err answer) next h k = tt

-- ---- rules

abbrev AreRules : Theory → List Sides → Type 0
AreRules theory rules = All (IsRuleOf theory) rules

abbrev AreEquations : Theory → List Sides → Type 0
AreEquations theory es = All (IsDerivable theory) es

rules_derivable : (theory : Theory) (rules : List Sides) → AreRules theory rules → AreDerivable theory rules
rules_derivable theory [] h e c = absurd (contains_none e c)
rules_derivable theory (r ∷ rules) h e c = elim (contains_cases r e rules c) [
  | inl q ↦ subst (IsDerivable theory) q (All-head (IsRuleOf theory) r rules h).0
  | inr d ↦ rules_derivable theory rules (All-tail (IsRuleOf theory) r rules h) e d
]

-- ---- normal forms

reduced : (theory : Theory) (task : Task) (rules : List Sides) (e : Sides) → AreRules theory rules
    → IsDerivable theory e → Gives (IsDerivable theory) (reduce task rules e)
reduced theory task rules e h d = by_step (reduce task rules e) refl
  where
    by_step : (s : Step Sides) → reduce task rules e ≡ s → Gives (IsDerivable theory) s
    by_step (Err answer) q = tt
    by_step (Ok found) q =
        let f = forms_found rules task.budget e found q in
        let w = well_sorted d in
        let l = normal_equal theory rules e.left task.budget found.left f.between (rules_derivable theory rules h)
        w.0 f.left in
        let r = normal_equal theory rules e.right f.between found.right f.rest (rules_derivable theory rules h)
        w.1 f.right in
        transitive (symmetric l) (transitive d r)

-- ---- oriented equations

greater_applies : (ranks : List Ranked) (s t : Tree) → greater ranks s t ≡ true → IsApplication s
greater_applies ranks (var n s) t h = cc
greater_applies ranks (app f ss) t h = tt

oriented_by : (theory : Theory) (ranks : List Ranked) (e : Sides) (s : Statement) (b c : Bool)
    → greater ranks e.left e.right ≡ b → greater ranks e.right e.left ≡ c → IsDerivable theory e
    → Gives (IsRuleOf theory) (if b then Ok e else if c then Ok (flip e) else Err (Unoriented s))
oriented_by theory ranks e s true c p q d = (d, greater_applies ranks e.left e.right p)
oriented_by theory ranks e s false true p q d = (symmetric d, greater_applies ranks e.right e.left q)
oriented_by theory ranks e s false false p q d = tt

oriented : (theory : Theory) (ranks : List Ranked) (e : Sides) → IsDerivable theory e
    → Gives (IsRuleOf theory) (orient ranks e)
oriented theory ranks e d =
    oriented_by theory ranks e (Equation e.left e.right) (greater ranks e.left e.right) (greater ranks e.right e.left)
    refl refl d

-- ---- critical pairs

sorted_sides : (theory : Theory) (r : Sides) → IsDerivable theory r → AreSorted r.left r.right
sorted_sides theory r d = let w = well_sorted d in (w.0.0, w.1.0, sym w.2)

over_sides : (theory : Theory) (r : Sides) → IsDerivable theory r
    → IsOver theory.operators r.left × IsOver theory.operators r.right
over_sides theory r d = let w = well_sorted d in (w.0.1, w.1.1)

-- what substitutions of a pair are
abbrev Suits : Theory → Pair → Type 0
Suits theory p =
    (Fits p.first × Fits p.second)
    × (All (λ e. IsOver theory.operators e.term) p.first × All (λ e. IsOver theory.operators e.term) p.second)

pair_derivable : (theory : Theory) (r q : Sides) (p : Pair) → IsRuleOf theory r → IsRuleOf theory q
    → Overlaps (as_rule r) (as_rule q) p → Suits theory p → IsDerivable theory (as_equation p)
pair_derivable theory r q p h k o s =
    let one : Derivable theory (Equation (instance_of p.first r.left) (instance_of p.first r.right)) =
    instance p.first s.0.0 s.1.0 h.0 refl refl in
    let two : Derivable theory (Equation (instance_of p.second q.left) (instance_of p.second q.right)) =
    instance p.second s.0.1 s.1.1 k.0 refl refl in
    subst (λ t. Derivable theory (Equation p.left t)) (sym o.right)
    (subst (λ t. Derivable theory (Equation t (instance_of p.first r.right))) (sym o.left)
    (replaced_left p.place o.stands one two))

all_derivable : (theory : Theory) (r q : Sides) → IsRuleOf theory r → IsRuleOf theory q → (ps : List Pair)
    → All (Overlaps (as_rule r) (as_rule q)) ps → All (λ p. Fits p.first × Fits p.second) ps
    → All (λ p. All (λ e. IsOver theory.operators e.term) p.first × All (λ e. IsOver theory.operators e.term) p.second)
    ps → AreEquations theory (map as_equation ps)
all_derivable theory r q h k [] o f w = All-nil (IsDerivable theory)
all_derivable theory r q h k (p ∷ ps) o f w =
    let P : Pair → Type 0 = Overlaps (as_rule r) (as_rule q) in
    let Q : Pair → Type 0 = λ x. Fits x.first × Fits x.second in
    let R : Pair → Type 0 = λ x.
    All (λ e. IsOver theory.operators e.term) x.first × All (λ e. IsOver theory.operators e.term) x.second in
    All-cons (IsDerivable theory) (as_equation p) (map as_equation ps)
    (pair_derivable theory r q p h k (All-head P p ps o) (All-head Q p ps f, All-head R p ps w))
    (all_derivable theory r q h k ps (All-tail P p ps o) (All-tail Q p ps f) (All-tail R p ps w))

pairs_derivable : (theory : Theory) (r q : Sides) (b : Bool) → IsRuleOf theory r → IsRuleOf theory q
    → Gives (AreEquations theory) (pairs_in r q b)
pairs_derivable theory r q b h k = by_pairs (critical_pairs (as_rule r) (as_rule q) b) refl
  where
    by_pairs : (found : Result (List Pair) Oversize) → critical_pairs (as_rule r) (as_rule q) b ≡ found
        → Gives (AreEquations theory) (as_equations found)
    by_pairs (Err e) m = tt
    by_pairs (Ok ps) m =
        all_derivable theory r q h k ps (all_overlap (as_rule r) (as_rule q) b ps m)
        (all_fit (as_rule r) (as_rule q) b ps (sorted_sides theory r h.0) (sorted_sides theory q k.0) k.1 m)
        (all_over theory.operators (as_rule r) (as_rule q) b ps (over_sides theory r h.0) (over_sides theory q k.0) m)

both_all : {A : Type 0} (P : A → Type 0) (xs ys : List A) → All P xs → All P ys → All P (xs ++ ys)
both_all P [] ys h k = k
both_all P (x ∷ xs) ys h k =
    All-cons P x (xs ++ ys) (All-head P x xs h) (both_all P xs ys (All-tail P x xs h) k)

new_pairs_derivable : (theory : Theory) (rules : List Sides) (new : Sides) → AreRules theory rules
    → IsRuleOf theory new → Gives (AreEquations theory) (pairs_of_new rules new)
new_pairs_derivable theory [] new h k = pairs_derivable theory new new true k k
new_pairs_derivable theory (r ∷ rules) new h k =
    let P = AreEquations theory in
    let one = All-head (IsRuleOf theory) r rules h in
    after_gives P P (pairs_in r new false)
    (λ in_rule. after (pairs_in new r false) (λ in_new. after (pairs_of_new rules new)
    (λ others. Ok (in_rule ++ (in_new ++ others))))) (pairs_derivable theory r new false one k)
    (λ in_rule a. after_gives P P (pairs_in new r false)
    (λ in_new. after (pairs_of_new rules new) (λ others. Ok (in_rule ++ (in_new ++ others))))
    (pairs_derivable theory new r false k one)
    (λ in_new b. after_gives P P (pairs_of_new rules new) (λ others. Ok (in_rule ++ (in_new ++ others)))
    (new_pairs_derivable theory rules new (All-tail (IsRuleOf theory) r rules h) k)
    (λ others c. both_all (IsDerivable theory) in_rule (in_new ++ others) a
    (both_all (IsDerivable theory) in_new others b c))))

-- ---- rounds

-- an equation's rule is one, if it makes one
abbrev MayBeRule : Theory → Option Sides → Type 0
MayBeRule theory None = Unit {0}
MayBeRule theory (Some rule) = IsRuleOf theory rule

settled_by : (theory : Theory) (b : Bool) (ranks : List Ranked) (e : Sides) → IsDerivable theory e
    → Gives (MayBeRule theory) (elim b [ true ↦ Ok None | false ↦ after (orient ranks e) (λ rule. Ok (Some rule)) ])
settled_by theory true ranks e d = tt
settled_by theory false ranks e d =
    after_gives (IsRuleOf theory) (MayBeRule theory) (orient ranks e) (λ rule. Ok (Some rule))
    (oriented theory ranks e d)
    (λ rule k. k)

rule_settled : (theory : Theory) (task : Task) (rules : List Sides) (e : Sides) → AreRules theory rules
    → IsDerivable theory e → Gives (MayBeRule theory) (settle task rules e)
rule_settled theory task rules e h d =
    after_gives (IsDerivable theory) (MayBeRule theory) (reduce task rules e)
    (λ found. elim (same_tree found.left found.right)
    [ true ↦ Ok None | false ↦ after (orient task.ranks found) (λ rule. Ok (Some rule)) ])
    (reduced theory task rules e h d)
    (λ found k. settled_by theory (same_tree found.left found.right) task.ranks found k)

rule_joins : (theory : Theory) (stage : Stage) (rule : Sides) → IsStage theory stage → IsRuleOf theory rule
    → IsStage theory (with_rule stage rule)
rule_joins theory stage rule h k = (
  both_all (IsRuleOf theory) stage.rules (rule ∷ []) h.0
      (All-cons (IsRuleOf theory) rule [] k (All-nil (IsRuleOf theory))),
  h.1,
)

-- ---- tests: what they find is one of their equations

-- an equation is derivable, if there is one
abbrev MayBe : Theory → Option Sides → Type 0
MayBe theory None = Unit {0}
MayBe theory (Some e) = IsDerivable theory e

any : {A : Type 0} (s : Step A) → Gives (λ x. Unit {0}) s
any (Ok x) = tt
any (Err answer) = tt

apart_by : (theory : Theory) (b : Bool) (further : Step (Option Sides)) (e : Sides)
    → Gives (MayBe theory) further → IsDerivable theory e
    → Gives (MayBe theory) (elim b [ true ↦ further | false ↦ Ok (Some e) ])
apart_by theory true further e h d = h
apart_by theory false further e h d = d

apart_derivable : (theory : Theory) (task : Task) (rules es : List Sides) → AreEquations theory es
    → Gives (MayBe theory) (first_apart task rules es)
apart_derivable theory task rules [] h = tt
apart_derivable theory task rules (e ∷ es) h =
    after_gives (λ found. Unit {0}) (MayBe theory) (reduce task rules e)
    (λ found. elim (same_tree found.left found.right) [ true ↦ first_apart task rules es | false ↦ Ok (Some e) ])
    (any (reduce task rules e))
    (λ found u. apart_by theory (same_tree found.left found.right) (first_apart task rules es) e
    (apart_derivable theory task rules es (All-tail (IsDerivable theory) e es h))
    (All-head (IsDerivable theory) e es h))

found_derivable : (theory : Theory) (further : Step (Option Sides)) (found : Option Sides)
    → Gives (MayBe theory) further → MayBe theory found → Gives (MayBe theory) (unless_found further found)
found_derivable theory further None h k = h
found_derivable theory further (Some e) h k = k

abbrev AllGive : Theory → List (Step (List Sides)) → Type 0
AllGive theory [] = Unit {0}
AllGive theory (group ∷ groups) = Gives (AreEquations theory) group × AllGive theory groups

both_give : (theory : Theory) (gs hs : List (Step (List Sides))) → AllGive theory gs → AllGive theory hs
    → AllGive theory (gs ++ hs)
both_give theory [] hs g h = h
both_give theory (group ∷ gs) hs g h = (g.0, both_give theory gs hs g.1 h)

groups_derivable : (theory : Theory) (task : Task) (rules : List Sides) (groups : List (Step (List Sides)))
    → AllGive theory groups → Gives (MayBe theory) (first_apart_in task rules groups)
groups_derivable theory task rules [] h = tt
groups_derivable theory task rules (group ∷ groups) h =
    after_gives (AreEquations theory) (MayBe theory) group
    (λ es. after (first_apart task rules es) (λ found. unless_found (first_apart_in task rules groups) found)) h.0
    (λ es a. after_gives (MayBe theory) (MayBe theory) (first_apart task rules es)
    (λ found. unless_found (first_apart_in task rules groups) found) (apart_derivable theory task rules es a)
    (λ found k. found_derivable theory (first_apart_in task rules groups) found
    (groups_derivable theory task rules groups h.1) k))

from_give : (theory : Theory) (i : ℕ) (r : Sides) (j : ℕ) (qs : List Sides) → IsRuleOf theory r → AreRules theory qs
    → AllGive theory (pairs_from i r j qs)
from_give theory i r j [] h k = tt
from_give theory i r j (q ∷ qs) h k = (
  pairs_derivable theory r q (i == j) h (All-head (IsRuleOf theory) q qs k),
  from_give theory i r (suc j) qs h (All-tail (IsRuleOf theory) q qs k),
)

each_give : (theory : Theory) (rules : List Sides) (i : ℕ) (rs : List Sides) → AreRules theory rules
    → AreRules theory rs → AllGive theory (pairs_in_each rules i rs)
each_give theory rules i [] h k = tt
each_give theory rules i (r ∷ rs) h k =
    both_give theory (pairs_from i r 0 rules) (pairs_in_each rules (suc i) rs)
    (from_give theory i r 0 rules (All-head (IsRuleOf theory) r rs k) h)
    (each_give theory rules (suc i) rs h (All-tail (IsRuleOf theory) r rs k))

test_derivable : (theory : Theory) (task : Task) (rules : List Sides) → AreEquations theory task.equations
    → AreRules theory rules → Gives (MayBe theory) (last_test task rules)
test_derivable theory task rules h k =
    groups_derivable theory task rules (Ok task.equations ∷ pairs_of_all rules) (h, each_give theory rules 0 rules k k)

-- ---- the whole

taken_derivable : (theory : Theory) (s : Step (Option Sides)) → Gives (MayBe theory) s
    → Gives (IsDerivable theory) (take_found s)
taken_derivable theory (Ok None) h = tt
taken_derivable theory (Ok (Some e)) h = h
taken_derivable theory (Err answer) h = tt

next_derivable : (theory : Theory) (task : Task) (rules waiting : List Sides) → AreEquations theory task.equations
    → AreRules theory rules → AreEquations theory waiting
    → Gives (IsDerivable theory) (next_equation task (record { rules = rules; waiting = waiting }))
next_derivable theory task rules [] h k w =
    taken_derivable theory (last_test task rules) (test_derivable theory task rules h k)
next_derivable theory task rules (e ∷ es) h k w = All-head (IsDerivable theory) e es w

further_wait : (theory : Theory) (es : List Sides) → AreEquations theory es → AreEquations theory (drop 1 es)
further_wait theory [] h = h
further_wait theory (e ∷ es) h = All-tail (IsDerivable theory) e es h

step_derivable : {A : Type 0} (theory : Theory) (P : A → Type 0) (stage : Stage) (next : A → Completion) (s : Step A)
    → AreRules theory stage.rules → Gives P s → ((x : A) → P x → AreRules theory (next x).rules)
    → AreRules theory (go_on stage next s).rules
step_derivable theory P stage next (Ok x) h g k = k x g
step_derivable theory P stage next (Err answer) h g k = h

added_derivable : (theory : Theory) (next : Stage → Completion) (stage : Stage) (rule : Option Sides)
    → IsStage theory stage → MayBeRule theory rule
    → ((later : Stage) → IsStage theory later → AreRules theory (next later).rules)
    → AreRules theory (add_rule next stage rule).rules
added_derivable theory next stage None h k go = go stage h
added_derivable theory next stage (Some rule) h k go =
    let more = with_rule stage rule in
    let s = rule_joins theory stage rule h k in
    step_derivable theory (AreEquations theory) more (λ pairs. next (with_waiting more pairs))
    (pairs_of_new stage.rules rule) s.0 (new_pairs_derivable theory stage.rules rule h.0 k)
    (λ pairs c. go (with_waiting more pairs) (s.0, both_all (IsDerivable theory) stage.waiting pairs h.1 c))

from_derivable : (theory : Theory) (n : ℕ) (task : Task) (stage : Stage) → AreEquations theory task.equations
    → IsStage theory stage → AreRules theory (complete_from n task stage).rules
from_derivable theory zero task stage h k =
    step_derivable theory (IsDerivable theory) stage (λ e. ends stage Spent) (next_equation task stage) k.0
    (next_derivable theory task stage.rules stage.waiting h k.0 k.1) (λ e d. k.0)
from_derivable theory (suc n) task stage h k =
    let next : Stage → Completion = λ later. complete_from n task later in
    step_derivable theory (IsDerivable theory) stage
    (λ e. go_on stage (λ rule. add_rule next (without_next stage) rule) (settle task stage.rules e))
    (next_equation task stage) k.0 (next_derivable theory task stage.rules stage.waiting h k.0 k.1)
    (λ e d. step_derivable theory (MayBeRule theory) stage (λ rule. add_rule next (without_next stage) rule)
    (settle task stage.rules e) k.0 (rule_settled theory task stage.rules e k.0 d)
    (λ rule r. added_derivable theory next (without_next stage) rule (k.0, further_wait theory stage.waiting k.1) r
    (λ later g. from_derivable theory n task later h g)))

pub equations_derivable : (theory : Theory) → IsWellSortedTheory theory → AreEquations theory (equations_of theory)
equations_derivable theory w =
    all_by (equations_of theory) (λ e c.
    let found = contained_in_flat_map sides_of theory.statements e c in
    by_statement found.0 e (stated theory found.0 w found.1) found.2)
  where
    by_statement : (s : Statement) (e : Sides) → Derivable theory s → Contains (sides_of s) e → IsDerivable theory e
    by_statement (Equation l r) e d c = elim (contains_cases (record { left = l; right = r }) e [] c) [
      | inl q ↦ subst (IsDerivable theory) q d
      | inr n ↦ absurd (contains_none e n)
    ]
    by_statement (Generated s fs) e d c = absurd (contains_none e c)
    by_statement (Partitioned s fs) e d c = absurd (contains_none e c)

    all_by : (es : List Sides) → ((e : Sides) → Contains es e → IsDerivable theory e) → AreEquations theory es
    all_by [] h = All-nil (IsDerivable theory)
    all_by (e ∷ es) h =
        All-cons (IsDerivable theory) e es (h e (contains_here e es)) (all_by es (λ d c. h d (contains_later e d es c)))

pub completion_derivable : (theory : Theory) (limit : ℕ) → IsWellSortedTheory theory
    → All (IsDerivable theory) (complete theory limit).rules
unfolding complete
completion_derivable theory limit w =
    let start : Stage = record { rules = []; waiting = equations_of theory } in
    All-weaker (IsRuleOf theory) (IsDerivable theory) (λ r h. h.0)
    (complete_from most_equations (task_of theory limit) start).rules
    (from_derivable theory most_equations (task_of theory limit) start (equations_derivable theory w)
    (All-nil (IsRuleOf theory), equations_derivable theory w))

-- ---- what is found on the way

-- the rule that an equation makes
pub settled_is_rule : (theory : Theory) (task : Task) (rules : List Sides) (e rule : Sides) → AreRules theory rules
    → IsDerivable theory e → settle task rules e ≡ Ok (Some rule) → IsRuleOf theory rule
settled_is_rule theory task rules e rule h d q =
    subst (Gives (MayBeRule theory)) q (rule_settled theory task rules e h d)

-- a rule's critical pairs
pub new_pairs_are : (theory : Theory) (rules : List Sides) (new : Sides) (es : List Sides) → AreRules theory rules
    → IsRuleOf theory new → pairs_of_new rules new ≡ Ok es → All (IsDerivable theory) es
new_pairs_are theory rules new es h k q =
    subst (Gives (AreEquations theory)) q (new_pairs_derivable theory rules new h k)

-- what the last test finds
pub found_is_derivable : (theory : Theory) (task : Task) (rules : List Sides) (e : Sides) → IsWellSortedTheory theory
    → task.equations ≡ equations_of theory → AreRules theory rules → last_test task rules ≡ Ok (Some e)
    → IsDerivable theory e
found_is_derivable theory task rules e w t h q =
    subst (Gives (MayBe theory)) q
    (test_derivable theory task rules (subst (AreEquations theory) (sym t) (equations_derivable theory w)) h)

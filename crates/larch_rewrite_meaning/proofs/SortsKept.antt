-- Rewriting keeps sorts.
use Rattle.std.specs.Prelude.{◌≡◌, ℕ, ◌-◌, ◌==◌, suc, zero, Bool, true, false, cond, List, [], ◌∷◌, ◌++◌, take, All}
use Rattle.std.specs.Prelude.{Contains, Option, Some, None, option_map, refl}
use Rattle.std.specs.List.{flat_map, slice_get}
use Rattle.std.proofs.Common.{inl, inr, arith, ap, ap₂, sym, subst, ◌∙◌}
use Rattle.std.proofs.lemmas.Bool.Decides.{Decides-eqb}
use Rattle.std.proofs.lemmas.List.Elements.{All-weaker}
use Rattle.larch_term.proofs.BaseMembers.{contains_here, contains_later, contains_cases, contains_none, contains_either}
use Rattle.larch_term.proofs.BaseMembers.{contained_in_flat_map, contains_got}
use Rattle.larch_term.specs.BaseByNumber.{numbered}
use Rattle.larch_term.specs.Operator.{PlainOperator}
use Rattle.larch_term.specs.Tree.{Tree, Forest, var, app, none, more}
use Rattle.larch_term.specs.BuiltIn.{built_in, is_built_in, is_built_in_as}
use Rattle.larch_term.specs.Sorts.{sort_of, sorts_of, WellSorted, AllWellSorted, AllOver, IsOver, IsTermOver}
use Rattle.larch_term.specs.Substitution.{instance_of}
use Rattle.larch_term.specs.OperatorKey.{operator_Decides}
use Rattle.larch_term.specs.declared.built_in.BuiltIn.TheVariants.{Equal}
use Rattle.larch_term.specs.declared.statement.Statement.{Statement}
use Rattle.larch_term.specs.declared.statement.Statement.TheVariants.{Equation, Generated, Partitioned}
use Rattle.larch_term.specs.declared.substitution.Entry.{Entry}
use Rattle.larch_tables.proofs.TermLawSubstitutions.{substituted_sort, substituted_well_sorted, substituted_over}
use Rattle.larch_tables.proofs.CalculusIdentities.{identity_over}
use Rattle.larch_tables.specs.Row.{PlainRow}
use Rattle.larch_tables.specs.Tables.{built_in_rows}
use Rattle.larch_tables.specs.Statement.{IsIdentityStatement}
use Rattle.larch_tables.proofs.Identities.{row_identity}
use Rattle.larch_rewrite_meaning.specs.Matching.{match_term}
use Rattle.larch_rewrite_meaning.specs.NormalForm.{Onward, applied_or, at_root, pass, pass_all, normal_by, normal}
use Rattle.larch_rewrite_meaning.specs.Rewriting.{rewritten_by, rewrite_of, rewritten_once, exchange_rule, tries_of}
use Rattle.larch_rewrite_meaning.specs.Rewriting.{rewriting_rows, rewriting_row_count, rows_for, sort_at}
use Rattle.larch_rewrite_meaning.specs.Sides.{Sides, sides_of, AreSidesOver}
use Rattle.larch_rewrite_meaning.specs.Work.{Work, Made, OverLimit, OverSize, then_work, within_size, is_large}
use Rattle.larch_rewrite_meaning.proofs.Matches.{IsBound, match_is_right, match_over}

-- each rule of a list is well sorted over operators
abbrev AreRulesOver : List PlainOperator → List Sides → Type 0
AreRulesOver fs rules = (e : Sides) → Contains rules e → AreSidesOver fs e

-- a term has become another one of its sort, over the operators
abbrev pub Becomes : List PlainOperator → Tree → Tree → Type 0
Becomes fs t u = IsTermOver fs u × (sort_of u ≡ sort_of t)

-- ---- one rule

ruled : (fs : List PlainOperator) (e : Sides) (t u : Tree) (es : List Entry) → AreSidesOver fs e → IsTermOver fs t
    → match_term e.left t [] ≡ Some es → instance_of es e.right ≡ u → Becomes fs t u
ruled fs e t u es s w m q =
    let b = match_over fs e.left t es w m in
    let fits = All-weaker (IsBound (IsTermOver fs)) (λ d. WellSorted d.term × (sort_of d.term ≡ d.sort))
    (λ d k. (k.0.0, k.1)) es b in
    let over = All-weaker (IsBound (IsTermOver fs)) (λ d. IsOver fs d.term) (λ d k. k.0.1) es b in
    subst (Becomes fs t) q (
      (substituted_well_sorted es e.right fits s.1.0, substituted_over fs es e.right over s.1.1),
      substituted_sort es e.right fits ∙ (sym s.2 ∙ (sym (substituted_sort es e.left fits)
          ∙ ap sort_of (match_is_right e.left t es m))),
    )

by_option : (fs : List PlainOperator) (e : Sides) (t u : Tree) (o : Option (List Entry)) → AreSidesOver fs e
    → IsTermOver fs t → match_term e.left t [] ≡ o → option_map (λ es. instance_of es e.right) o ≡ Some u
    → Becomes fs t u
by_option fs e t u None s w m h = cc
by_option fs e t u (Some es) s w m h = ruled fs e t u es s w m (inner h)
  where
    inner : {x y : Tree} → Some x ≡ Some y → x ≡ y
    inner k = cc

some_same : {A : Type 0} {x y : A} → Some x ≡ Some y → x ≡ y
some_same e = cc

first_by : (fs : List PlainOperator) (t u : Tree) (o : Option Tree) (next : Option Tree)
    → (o ≡ Some u → Becomes fs t u) → (next ≡ Some u → Becomes fs t u)
    → (elim o [ None ↦ next | Some v ↦ Some v ]) ≡ Some u → Becomes fs t u
first_by fs t u None next one others h = others h
first_by fs t u (Some v) next one others h = one h

rewritten_keeps : (fs : List PlainOperator) (rules : List Sides) (t u : Tree) → AreRulesOver fs rules → IsTermOver fs t
    → rewrite_of rules t ≡ Some u → Becomes fs t u
rewritten_keeps fs [] t u r w h = cc
rewritten_keeps fs (e ∷ rules) t u r w h =
    first_by fs t u (rewritten_by e t) (rewrite_of rules t)
    (λ k. by_option fs e t u (match_term e.left t []) (r e (contains_here e rules)) w refl k)
    (λ k. rewritten_keeps fs rules t u (λ d c. r d (contains_later e d rules c)) w k) h

-- ---- rules as they are tried

-- an equality with its sides exchanged is as well sorted
exchanged_over : (fs : List PlainOperator) (f : PlainOperator) (s t r : Tree) → f ≡ built_in Equal (sort_at f)
    → AreSidesOver fs (record { left = app f (more s (more t none)); right = r })
    → AreSidesOver fs (record { left = app f (more t (more s none)); right = r })
exchanged_over fs f s t r e h =
    let w = h.0.0 in
    let k = h.0.1 in
    let d : sort_of s ∷ sort_of t ∷ [] ≡ sort_at f ∷ sort_at f ∷ [] = w.0 ∙ ap (λ g. g.domain) e in
    (((swapped d ∙ sym (ap (λ g. g.domain) e), (w.1.1.0, (w.1.0, tt))), (k.0, (k.1.1.0, (k.1.0, tt)))), h.1, h.2)
  where
    swapped : {a b c : List ℕ} → a ∷ b ∷ [] ≡ c ∷ c ∷ [] → b ∷ a ∷ [] ≡ c ∷ c ∷ []
    swapped p = cc

exchanged_in : (fs : List PlainOperator) (f : PlainOperator) (s t r : Tree) (b : Bool)
    → (b ≡ true → f ≡ built_in Equal (sort_at f))
    → AreSidesOver fs (record { left = app f (more s (more t none)); right = r }) → (d : Sides)
    → Contains (cond b (record { left = app f (more t (more s none)); right = r } ∷ []) []) d → AreSidesOver fs d
exchanged_in fs f s t r true e h d c =
    elim (contains_cases (record { left = app f (more t (more s none)); right = r }) d [] c) [
      | inl q ↦ subst (AreSidesOver fs) q (exchanged_over fs f s t r (e refl) h)
      | inr n ↦ absurd (contains_none d n)
    ]
exchanged_in fs f s t r false e h d c = absurd (contains_none d c)

exchanged_from : (fs : List PlainOperator) (l r : Tree) → AreSidesOver fs (record { left = l; right = r }) → (d : Sides)
    → Contains (exchange_rule (record { left = l; right = r })) d → AreSidesOver fs d
exchanged_from fs (var n s) r h d c = absurd (contains_none d c)
exchanged_from fs (app f none) r h d c = absurd (contains_none d c)
exchanged_from fs (app f (more s none)) r h d c = absurd (contains_none d c)
exchanged_from fs (app f (more s (more t none))) r h d c =
    exchanged_in fs f s t r (is_built_in_as f Equal) (operator_Decides f (built_in Equal (sort_at f))).0 h d c
exchanged_from fs (app f (more s (more t (more u ts)))) r h d c = absurd (contains_none d c)

tried_over : (fs : List PlainOperator) (e d : Sides) → AreSidesOver fs e → Contains (tries_of e) d → AreSidesOver fs d
tried_over fs e d h c = elim (contains_cases e d (exchange_rule e) c) [
  | inl q ↦ subst (AreSidesOver fs) q h
  | inr k ↦ exchanged_from fs e.left e.right h d k
]

all_tried_over : (fs : List PlainOperator) (rules : List Sides) → AreRulesOver fs rules
    → AreRulesOver fs (flat_map tries_of rules)
all_tried_over fs rules r d c =
    let found = contained_in_flat_map tries_of rules d c in
    tried_over fs found.0 d (r found.0 found.1) found.2

-- ---- the rows

taken_contains : {A : Type 0} (n : ℕ) (xs : List A) (x : A) → Contains (take n xs) x → Contains xs x
taken_contains zero xs x c = absurd (contains_none x (subst (λ ys. Contains ys x) (take_none xs) c))
  where
    take_none : {A : Type 0} (xs : List A) → take 0 xs ≡ []
    take_none [] = refl
    take_none (y ∷ ys) = refl
taken_contains (suc n) [] x c = absurd (contains_none x c)
taken_contains (suc n) (y ∷ ys) x c = elim (contains_cases y x (take n ys) c) [
  | inl e ↦ subst (Contains (y ∷ ys)) e (contains_here y ys)
  | inr d ↦ contains_later y x ys (taken_contains n ys x d)
]

zero_test : (i : ℕ) → (suc i == 0) ≡ false
zero_test i =
    elim (suc i == 0) as (λ b. (suc i == 0) ≡ b → b ≡ false) [
      | true ↦ λ e. (let h = (Decides-eqb (suc i) 0).0 e in absurd (omega (arith, h)))
      | false ↦ λ e. refl
    ] refl

-- what stands at a place has the number behind it
numbered_at : {A : Type 0} (xs : List A) (i : ℕ) (x : A) → slice_get xs i ≡ Some x → numbered xs (suc i) ≡ Some x
numbered_at xs i x e =
    let p : suc i - 1 ≡ i = omega arith in
    ap (λ b. cond b None (slice_get xs (suc i - 1))) (zero_test i) ∙ (ap (slice_get xs) p ∙ e)

sides_identity : (fs : List PlainOperator) (s : Statement) (d : Sides) → IsIdentityStatement s → Contains (sides_of s) d
    → AreSidesOver fs d
sides_identity fs (Equation l r) d i c = elim (contains_cases (record { left = l; right = r }) d [] c) [
  | inl e ↦ subst (AreSidesOver fs) e (identity_over fs i)
  | inr n ↦ absurd (contains_none d n)
]
sides_identity fs (Generated s gs) d i c = absurd i
sides_identity fs (Partitioned s gs) d i c = absurd i

rows_over : (fs : List PlainOperator) (s : List ℕ) → AreRulesOver fs (rewriting_rows s)
rows_over fs s d c =
    let found = contained_in_flat_map (λ (row : PlainRow). sides_of row.given)
    (take rewriting_row_count (built_in_rows s)) d c in
    let place = contains_got (built_in_rows s) found.0
    (taken_contains rewriting_row_count (built_in_rows s) found.0 found.1) in
    sides_identity fs found.0.given d
    (row_identity s (suc place.0) found.0 (numbered_at (built_in_rows s) place.0 found.0 place.1)) found.2

rows_for_over : (fs : List PlainOperator) (t : Tree) → AreRulesOver fs (rows_for t)
rows_for_over fs (var n s) d c = absurd (contains_none d c)
rows_for_over fs (app f ts) d c = by_test (is_built_in f) c
  where
    by_test : (b : Bool) → Contains (elim b [ true ↦ flat_map tries_of (rewriting_rows (sort_at f)) | false ↦ [] ]) d
        → AreSidesOver fs d
    by_test true k = all_tried_over fs (rewriting_rows (sort_at f)) (rows_over fs (sort_at f)) d k
    by_test false k = absurd (contains_none d k)

once_keeps : (fs : List PlainOperator) (rules : List Sides) (t u : Tree) → AreRulesOver fs rules → IsTermOver fs t
    → rewritten_once rules t ≡ Some u → Becomes fs t u
once_keeps fs rules t u r w h =
    rewritten_keeps fs (rows_for t ++ flat_map tries_of rules) t u
    (λ d c. elim (contains_either (rows_for t) (flat_map tries_of rules) d c) [
      | inl k ↦ rows_for_over fs t d k
      | inr k ↦ all_tried_over fs rules r d k
    ]) w h

-- ---- normal forms

made_term : {A : Type 0} {x y : A} {b c : ℕ} → Made x b ≡ Made y c → x ≡ y
made_term e = cc

-- what goes on keeps sorts
abbrev KeepsSorts : List PlainOperator → Onward → Type 0
KeepsSorts fs next = (t : Tree) (b : ℕ) (u : Tree) (r : ℕ) → IsTermOver fs t → next t b ≡ Made u r → Becomes fs t u

then_becomes : (fs : List PlainOperator) (t v u : Tree) → Becomes fs t v → Becomes fs v u → Becomes fs t u
then_becomes fs t v u h k = (k.0, k.1 ∙ h.1)

applied_keeps : (fs : List PlainOperator) (next : Onward) → KeepsSorts fs next → (t : Tree) (b : ℕ) (o : Option Tree)
    (u : Tree) (r : ℕ) → IsTermOver fs t → ((v : Tree) → o ≡ Some v → Becomes fs t v)
    → applied_or next t b o ≡ Made u r → Becomes fs t u
applied_keeps fs next k t b None u r w one h = subst (Becomes fs t) (made_term h) (w, refl)
applied_keeps fs next k t zero (Some v) u r w one h = cc
applied_keeps fs next k t (suc b) (Some v) u r w one h =
    let m = one v refl in then_becomes fs t v u m (k v b u r m.0 h)

within_made : {A : Type 0} (large : Bool) (w : Work A) (x : A) (r : ℕ) → within_size large w ≡ Made x r → w ≡ Made x r
within_made true w x r h = cc
within_made false w x r h = h

root_keeps : (fs : List PlainOperator) (rules : List Sides) (next : Onward) → AreRulesOver fs rules
    → KeepsSorts fs next → (t : Tree) (b : ℕ) (u : Tree) (r : ℕ) → IsTermOver fs t
    → at_root next rules t b ≡ Made u r → Becomes fs t u
root_keeps fs rules next a k t b u r w h =
    applied_keeps fs next k t b (rewritten_once rules t) u r w (λ v e. once_keeps fs rules t v a w e)
    (within_made (is_large t) (applied_or next t b (rewritten_once rules t)) u r h)

-- arguments have become others of their sorts
abbrev AllBecome : List PlainOperator → Forest → Forest → Type 0
AllBecome fs none none = Unit {0}
AllBecome fs none (more u us) = ⊥
AllBecome fs (more t ts) none = ⊥
AllBecome fs (more t ts) (more u us) = Becomes fs t u × AllBecome fs ts us

sorts_become : (fs : List PlainOperator) (ts us : Forest) → AllBecome fs ts us → sorts_of us ≡ sorts_of ts
sorts_become fs none none h = refl
sorts_become fs none (more u us) h = absurd h
sorts_become fs (more t ts) none h = absurd h
sorts_become fs (more t ts) (more u us) h = ap₂ (λ s ss. s ∷ ss) h.0.1 (sorts_become fs ts us h.1)

all_well_sorted : (fs : List PlainOperator) (ts us : Forest) → AllBecome fs ts us → AllWellSorted us × AllOver fs us
all_well_sorted fs none none h = (tt, tt)
all_well_sorted fs none (more u us) h = absurd h
all_well_sorted fs (more t ts) none h = absurd h
all_well_sorted fs (more t ts) (more u us) h =
    let k = all_well_sorted fs ts us h.1 in
    ((h.0.0.0, k.0), (h.0.0.1, k.1))

-- an application of arguments that have become others
application_over : (fs : List PlainOperator) (f : PlainOperator) (ts us : Forest) → IsTermOver fs (app f ts)
    → AllBecome fs ts us → IsTermOver fs (app f us)
application_over fs f ts us w h =
    let k = all_well_sorted fs ts us h in
    ((sorts_become fs ts us h ∙ w.0.0, k.0), (w.1.0, k.1))

behind_arguments : (fs : List PlainOperator) (rules : List Sides) (next : Onward) → AreRulesOver fs rules
    → KeepsSorts fs next → (f : PlainOperator) (ts : Forest) (w : Work Forest) (u : Tree) (r : ℕ)
    → IsTermOver fs (app f ts) → ((us : Forest) (c : ℕ) → w ≡ Made us c → AllBecome fs ts us)
    → then_work w (λ us c. at_root next rules (app f us) c) ≡ Made u r → Becomes fs (app f ts) u
behind_arguments fs rules next a k f ts (Made us c) u r w go h =
    root_keeps fs rules next a k (app f us) c u r (application_over fs f ts us w (go us c refl)) h
behind_arguments fs rules next a k f ts OverLimit u r w go h = cc
behind_arguments fs rules next a k f ts OverSize u r w go h = cc

behind_others : (fs : List PlainOperator) (t : Tree) (ts : Forest) (v : Tree) (w : Work Forest) (us : Forest) (c : ℕ)
    → Becomes fs t v → ((vs : Forest) (q : ℕ) → w ≡ Made vs q → AllBecome fs ts vs)
    → then_work w (λ vs q. Made (more v vs) q) ≡ Made us c → AllBecome fs (more t ts) us
behind_others fs t ts v (Made vs q) us c m go h = subst (AllBecome fs (more t ts)) (made_term h) (m, go vs q refl)
behind_others fs t ts v OverLimit us c m go h = cc
behind_others fs t ts v OverSize us c m go h = cc

behind_first : (fs : List PlainOperator) (rules : List Sides) (next : Onward) (t : Tree) (ts : Forest) (w : Work Tree)
    (us : Forest) (c : ℕ) → ((v : Tree) (r : ℕ) → w ≡ Made v r → Becomes fs t v)
    → ((r : ℕ) (vs : Forest) (q : ℕ) → pass_all next rules ts r ≡ Made vs q → AllBecome fs ts vs)
    → then_work w (λ v r. then_work (pass_all next rules ts r) (λ vs q. Made (more v vs) q)) ≡ Made us c
    → AllBecome fs (more t ts) us
behind_first fs rules next t ts (Made v r) us c first others h =
    behind_others fs t ts v (pass_all next rules ts r) us c (first v r refl) (others r) h
behind_first fs rules next t ts OverLimit us c first others h = cc
behind_first fs rules next t ts OverSize us c first others h = cc

mutual
  pass_keeps : (fs : List PlainOperator) (rules : List Sides) (next : Onward) → AreRulesOver fs rules
      → KeepsSorts fs next → (t : Tree) (b : ℕ) (u : Tree) (r : ℕ) → IsTermOver fs t → pass next rules t b ≡ Made u r
      → Becomes fs t u
  pass_keeps fs rules next a k (var n s) b u r w h = root_keeps fs rules next a k (var n s) b u r w h
  pass_keeps fs rules next a k (app f ts) b u r w h =
      behind_arguments fs rules next a k f ts (pass_all next rules ts b) u r w
      (all_keep fs rules next a k ts b (w.0.1, w.1.1)) h

  all_keep : (fs : List PlainOperator) (rules : List Sides) (next : Onward) → AreRulesOver fs rules
      → KeepsSorts fs next → (ts : Forest) (b : ℕ) → AllWellSorted ts × AllOver fs ts → (us : Forest) (c : ℕ)
      → pass_all next rules ts b ≡ Made us c → AllBecome fs ts us
  all_keep fs rules next a k none b w us c h = subst (AllBecome fs none) (made_term h) tt
  all_keep fs rules next a k (more t ts) b w us c h =
      behind_first fs rules next t ts (pass next rules t b) us c
      (λ v r. pass_keeps fs rules next a k t b v r (w.0.0, w.1.0))
      (λ r. all_keep fs rules next a k ts r (w.0.1, w.1.1)) h

normal_by_keeps : (n : ℕ) (fs : List PlainOperator) (rules : List Sides) → AreRulesOver fs rules
    → KeepsSorts fs (λ t b. normal_by n rules t b)
normal_by_keeps zero fs rules a t b u r w h =
    pass_keeps fs rules (λ v c. OverLimit) a (λ v c x q y e. cc) t b u r w
    (within_made (is_large t) (pass (λ v c. OverLimit) rules t b) u r h)
normal_by_keeps (suc n) fs rules a t b u r w h =
    pass_keeps fs rules (λ v c. normal_by n rules v c) a (normal_by_keeps n fs rules a) t b u r w
    (within_made (is_large t) (pass (λ v c. normal_by n rules v c) rules t b) u r h)

-- a rule of a list at its place
all_contained : (fs : List PlainOperator) (rules : List Sides) → All (AreSidesOver fs) rules → AreRulesOver fs rules
all_contained fs rules h e c = subst (AreSidesOver fs) c.2 (h c.0 e c.1)

-- a normal form is well sorted, over the operators, and has the sort of its term
pub normal_keeps : (fs : List PlainOperator) (rules : List Sides) (t : Tree) (b : ℕ) (u : Tree) (r : ℕ)
    → All (AreSidesOver fs) rules → IsTermOver fs t → normal rules t b ≡ Made u r
    → IsTermOver fs u × (sort_of u ≡ sort_of t)
unfolding normal
normal_keeps fs rules t b u r a w h = normal_by_keeps b fs rules (all_contained fs rules a) t b u r w h

-- A term and its normal form are equal: the equation is derivable where those of the rules are.
use Rattle.std.specs.Prelude.{◌≡◌, ℕ, ◌-◌, ◌==◌, zero, suc, Bool, true, false, cond, List, [], ◌∷◌, ◌++◌, take, length}
use Rattle.std.specs.Prelude.{All, Contains, Option, Some, None, codes, option_and_then, option_map, refl}
use Rattle.std.specs.List.{flat_map, slice_get}
use Rattle.std.proofs.Common.{inl, inr, arith, ap, ap₂, sym, subst, ◌∙◌}
use Rattle.std.proofs.lemmas.Bool.Decides.{Decides-eqb}
use Rattle.std.proofs.lemmas.List.Elements.{All-weaker}
use Rattle.larch_base.proofs.Members.{contains_cases, contains_either, contains_got, contains_here, contains_later}
use Rattle.larch_base.proofs.Members.{contains_none, contained_in_flat_map}
use Rattle.larch_base.specs.ByNumber.{numbered}
use Rattle.larch_term.specs.BuiltIn.{built_in, is_built_in, is_built_in_as}
use Rattle.larch_term.specs.Operator.{PlainOperator}
use Rattle.larch_term.specs.OperatorKey.{operator_Decides}
use Rattle.larch_term.specs.Place.{argument, at, put_in}
use Rattle.larch_term.specs.Sorts.{AllOver, AllWellSorted, IsOver, IsTermOver, WellSorted, sort_of}
use Rattle.larch_term.specs.Substitution.{instance_of}
use Rattle.larch_term.specs.Tree.{Tree, Forest, var, app, none, more, forest_of, list_of}
use Rattle.larch_term.specs.declared.built_in.BuiltIn.TheVariants.{Equal}
use Rattle.larch_term.specs.declared.statement.Statement.{Statement}
use Rattle.larch_term.specs.declared.statement.Statement.TheVariants.{Equation, Generated, Partitioned}
use Rattle.larch_term.specs.declared.statement.Theory.{Theory}
use Rattle.larch_term.specs.declared.substitution.Entry.{Entry}
use Rattle.larch_term.proofs.TreeLists.{forest_of-list_of}
use Rattle.larch_calculus.specs.Derivable.{Derivable, identity, instance, reflexive}
use Rattle.larch_calculus.specs.Formula.{equality}
use Rattle.larch_calculus.specs.Identity.{equal_exchanged}
use Rattle.larch_calculus.specs.Letters.{two}
use Rattle.larch_calculus.specs.Theories.{IsTermOf}
use Rattle.larch_calculus.proofs.DerivedRules.{identity_instance, image_x, image_y, replaced_right, transitive}
use Rattle.larch_calculus.proofs.WellSorted.{well_sorted}
use Rattle.larch_tables.specs.Row.{PlainRow}
use Rattle.larch_tables.specs.Statement.{IsIdentityStatement}
use Rattle.larch_tables.specs.Tables.{built_in_rows}
use Rattle.larch_tables.proofs.Identities.{row_identity}
use Rattle.larch_rewrite_meaning.specs.Matching.{match_term}
use Rattle.larch_rewrite_meaning.specs.NormalForm.{Onward, applied_or, at_root, pass, pass_all, normal_by, normal}
use Rattle.larch_rewrite_meaning.specs.Rewriting.{rewritten_by, rewrite_of, rewritten_once, exchange_rule, tries_of}
use Rattle.larch_rewrite_meaning.specs.Rewriting.{rewriting_rows, rewriting_row_count, rows_for, sort_at}
use Rattle.larch_rewrite_meaning.specs.Sides.{Sides, sides_of}
use Rattle.larch_rewrite_meaning.specs.Work.{Work, Made, OverLimit, OverSize, then_work, within_size, is_large}
use Rattle.larch_rewrite_meaning.proofs.Matches.{IsBound, match_is_right, match_over}
use Rattle.larch_complete_meaning.specs.Completion.{IsDerivable}

-- the equation of each rule of a list is derivable
abbrev pub AreDerivable : Theory → List Sides → Type 0
AreDerivable theory rules = (e : Sides) → Contains rules e → IsDerivable theory e

-- two terms are equal
abbrev pub AreEqual : Theory → Tree → Tree → Type 0
AreEqual theory t u = Derivable theory (Equation t u)

-- ---- one rule

rule_equal : (theory : Theory) (e : Sides) (t u : Tree) (es : List Entry) → IsDerivable theory e
    → IsTermOver theory.operators t → match_term e.left t [] ≡ Some es → instance_of es e.right ≡ u
    → AreEqual theory t u
rule_equal theory e t u es d w m q =
    let fs = theory.operators in
    let b = match_over fs e.left t es w m in
    let fits = All-weaker (IsBound (IsTermOver fs)) (λ d. WellSorted d.term × (sort_of d.term ≡ d.sort))
    (λ d k. (k.0.0, k.1)) es b in
    let over = All-weaker (IsBound (IsTermOver fs)) (λ d. IsOver fs d.term) (λ d k. k.0.1) es b in
    instance es fits over d (sym (match_is_right e.left t es m)) (sym q)

some_same : {A : Type 0} {x y : A} → Some x ≡ Some y → x ≡ y
some_same e = cc

by_option : (theory : Theory) (e : Sides) (t u : Tree) (o : Option (List Entry)) → IsDerivable theory e
    → IsTermOver theory.operators t → match_term e.left t [] ≡ o
    → option_map (λ es. instance_of es e.right) o ≡ Some u → AreEqual theory t u
by_option theory e t u None d w m h = cc
by_option theory e t u (Some es) d w m h = rule_equal theory e t u es d w m (some_same h)

first_by : (P : Tree → Type 0) (u : Tree) (o : Option Tree) (next : Option Tree) → (o ≡ Some u → P u)
    → (next ≡ Some u → P u) → (elim o [ None ↦ next | Some v ↦ Some v ]) ≡ Some u → P u
first_by P u None next one others h = others h
first_by P u (Some v) next one others h = one h

rules_equal : (theory : Theory) (rules : List Sides) (t u : Tree) → AreDerivable theory rules
    → IsTermOver theory.operators t → rewrite_of rules t ≡ Some u → AreEqual theory t u
rules_equal theory [] t u r w h = cc
rules_equal theory (e ∷ rules) t u r w h =
    first_by (AreEqual theory t) u (rewritten_by e t) (rewrite_of rules t)
    (λ k. by_option theory e t u (match_term e.left t []) (r e (contains_here e rules)) w refl k)
    (λ k. rules_equal theory rules t u (λ d c. r d (contains_later e d rules c)) w k) h

-- ---- rules as they are tried

-- terms of one sort, under an equality whose sides are exchanged
equality_exchanged : (theory : Theory) (s : List ℕ) (t u : Tree) → IsTermOf theory.operators s t
    → IsTermOf theory.operators s u → AreEqual theory (equality s t u) (equality s u t)
equality_exchanged theory s t u w v =
    let x = codes "x" in
    let y = codes "y" in
    subst (λ q. AreEqual theory q (equality s u t)) (ap₂ (λ a b. equality s a b) (image_x s t u) (image_y s t u))
    (subst (AreEqual theory (instance_of (two s t u) (equality s (var x s) (var y s))))
    (ap₂ (λ b a. equality s b a) (image_y s t u) (image_x s t u))
    (identity_instance s t u w v (equal_exchanged s x y refl refl)))

exchanged : (theory : Theory) (f : PlainOperator) (s t r : Tree) → f ≡ built_in Equal (sort_at f)
    → IsDerivable theory (record { left = app f (more s (more t none)); right = r })
    → IsDerivable theory (record { left = app f (more t (more s none)); right = r })
exchanged theory f s t r e d =
    let w = (well_sorted d).0 in
    let k : sort_of s ∷ sort_of t ∷ [] ≡ sort_at f ∷ sort_at f ∷ [] = w.0.0 ∙ ap (λ g. g.domain) e in
    let one : IsTermOf theory.operators (sort_at f) s = ((w.0.1.0, w.1.1.0), first_of k) in
    let two : IsTermOf theory.operators (sort_at f) t = ((w.0.1.1.0, w.1.1.1.0), second_of k) in
    transitive
    (subst (λ g. AreEqual theory (app g (more t (more s none))) (app g (more s (more t none)))) (sym e)
    (equality_exchanged theory (sort_at f) t s two one)) d
  where
    first_of : {a b c : List ℕ} → a ∷ b ∷ [] ≡ c ∷ c ∷ [] → a ≡ c
    first_of p = cc

    second_of : {a b c : List ℕ} → a ∷ b ∷ [] ≡ c ∷ c ∷ [] → b ≡ c
    second_of p = cc

exchanged_in : (theory : Theory) (f : PlainOperator) (s t r : Tree) (b : Bool)
    → (b ≡ true → f ≡ built_in Equal (sort_at f))
    → IsDerivable theory (record { left = app f (more s (more t none)); right = r }) → (d : Sides)
    → Contains (cond b (record { left = app f (more t (more s none)); right = r } ∷ []) []) d → IsDerivable theory d
exchanged_in theory f s t r true e h d c =
    elim (contains_cases (record { left = app f (more t (more s none)); right = r }) d [] c) [
      | inl q ↦ subst (IsDerivable theory) q (exchanged theory f s t r (e refl) h)
      | inr n ↦ absurd (contains_none d n)
    ]
exchanged_in theory f s t r false e h d c = absurd (contains_none d c)

exchanged_from : (theory : Theory) (l r : Tree) → IsDerivable theory (record { left = l; right = r }) → (d : Sides)
    → Contains (exchange_rule (record { left = l; right = r })) d → IsDerivable theory d
exchanged_from theory (var n s) r h d c = absurd (contains_none d c)
exchanged_from theory (app f none) r h d c = absurd (contains_none d c)
exchanged_from theory (app f (more s none)) r h d c = absurd (contains_none d c)
exchanged_from theory (app f (more s (more t none))) r h d c =
    exchanged_in theory f s t r (is_built_in_as f Equal) (operator_Decides f (built_in Equal (sort_at f))).0 h d c
exchanged_from theory (app f (more s (more t (more u ts)))) r h d c = absurd (contains_none d c)

tried : (theory : Theory) (e d : Sides) → IsDerivable theory e → Contains (tries_of e) d → IsDerivable theory d
tried theory e d h c = elim (contains_cases e d (exchange_rule e) c) [
  | inl q ↦ subst (IsDerivable theory) q h
  | inr k ↦ exchanged_from theory e.left e.right h d k
]

all_tried : (theory : Theory) (rules : List Sides) → AreDerivable theory rules
    → AreDerivable theory (flat_map tries_of rules)
all_tried theory rules r d c =
    let found = contained_in_flat_map tries_of rules d c in
    tried theory found.0 d (r found.0 found.1) found.2

-- ---- the rows

none_taken : {A : Type 0} (xs : List A) → take 0 xs ≡ []
none_taken [] = refl
none_taken (y ∷ ys) = refl

taken_contains : {A : Type 0} (n : ℕ) (xs : List A) (x : A) → Contains (take n xs) x → Contains xs x
taken_contains zero xs x c = absurd (contains_none x (subst (λ ys. Contains ys x) (none_taken xs) c))
taken_contains (suc n) [] x c = absurd (contains_none x c)
taken_contains (suc n) (y ∷ ys) x c = elim (contains_cases y x (take n ys) c) [
  | inl e ↦ subst (Contains (y ∷ ys)) e (contains_here y ys)
  | inr d ↦ contains_later y x ys (taken_contains n ys x d)
]

zero_test : (i : ℕ) → (suc i == 0) ≡ false
zero_test i =
    elim (suc i == 0) as (λ b. (suc i == 0) ≡ b → b ≡ false) [
      | true ↦ λ e. (let h = (Decides-eqb (suc i) 0).0 e in absurd (omega (arith, h)))
      | false ↦ λ e. refl
    ] refl

-- what stands at a place has the number behind it
numbered_at : {A : Type 0} (xs : List A) (i : ℕ) (x : A) → slice_get xs i ≡ Some x → numbered xs (suc i) ≡ Some x
numbered_at xs i x e =
    let p : suc i - 1 ≡ i = omega arith in
    ap (λ b. cond b None (slice_get xs (suc i - 1))) (zero_test i) ∙ (ap (slice_get xs) p ∙ e)

identity_derivable : (theory : Theory) (s : Statement) (d : Sides) → IsIdentityStatement s → Contains (sides_of s) d
    → IsDerivable theory d
identity_derivable theory (Equation l r) d i c = elim (contains_cases (record { left = l; right = r }) d [] c) [
  | inl e ↦ subst (IsDerivable theory) e (identity i)
  | inr n ↦ absurd (contains_none d n)
]
identity_derivable theory (Generated s gs) d i c = absurd i
identity_derivable theory (Partitioned s gs) d i c = absurd i

rows_derivable : (theory : Theory) (s : List ℕ) → AreDerivable theory (rewriting_rows s)
rows_derivable theory s d c =
    let found = contained_in_flat_map (λ (row : PlainRow). sides_of row.given)
    (take rewriting_row_count (built_in_rows s)) d c in
    let place = contains_got (built_in_rows s) found.0
    (taken_contains rewriting_row_count (built_in_rows s) found.0 found.1) in
    identity_derivable theory found.0.given d
    (row_identity s (suc place.0) found.0 (numbered_at (built_in_rows s) place.0 found.0 place.1)) found.2

rows_for_derivable : (theory : Theory) (t : Tree) → AreDerivable theory (rows_for t)
rows_for_derivable theory (var n s) d c = absurd (contains_none d c)
rows_for_derivable theory (app f ts) d c = by_test (is_built_in f) c
  where
    by_test : (b : Bool) → Contains (elim b [ true ↦ flat_map tries_of (rewriting_rows (sort_at f)) | false ↦ [] ]) d
        → IsDerivable theory d
    by_test true k = all_tried theory (rewriting_rows (sort_at f)) (rows_derivable theory (sort_at f)) d k
    by_test false k = absurd (contains_none d k)

once_equal : (theory : Theory) (rules : List Sides) (t u : Tree) → AreDerivable theory rules
    → IsTermOver theory.operators t → rewritten_once rules t ≡ Some u → AreEqual theory t u
once_equal theory rules t u r w h =
    rules_equal theory (rows_for t ++ flat_map tries_of rules) t u
    (λ d c. elim (contains_either (rows_for t) (flat_map tries_of rules) d c) [
      | inl k ↦ rows_for_derivable theory t d k
      | inr k ↦ all_tried theory rules r d k
    ]) w h

-- ---- arguments

-- arguments are equal one by one
abbrev AllEqual : Theory → Forest → Forest → Type 0
AllEqual theory none none = Unit {0}
AllEqual theory none (more u us) = ⊥
AllEqual theory (more t ts) none = ⊥
AllEqual theory (more t ts) (more u us) = AreEqual theory t u × AllEqual theory ts us

argument_behind : (done rest : List Tree) (t : Tree)
    → argument (forest_of (done ++ t ∷ rest)) (suc (length done)) ≡ Some t
argument_behind [] rest t = refl
argument_behind (d ∷ done) rest t = argument_behind done rest t

put_behind : (done rest : List Tree) (t u : Tree)
    → put_in (forest_of (done ++ t ∷ rest)) (suc (length done)) [] u ≡ forest_of (done ++ u ∷ rest)
put_behind [] rest t u = refl
put_behind (d ∷ done) rest t u = ap (more d) (put_behind done rest t u)

one_more : (done rest : List Tree) (u : Tree) → (done ++ u ∷ []) ++ rest ≡ done ++ u ∷ rest
one_more [] rest u = refl
one_more (d ∷ done) rest u = ap (λ ts. d ∷ ts) (one_more done rest u)

-- what equals an application equals it with one argument changed
one_changed : (theory : Theory) (a : Tree) (f : PlainOperator) (done rest : List Tree) (t u : Tree)
    → AreEqual theory t u → AreEqual theory a (app f (forest_of (done ++ t ∷ rest)))
    → AreEqual theory a (app f (forest_of (done ++ u ∷ rest)))
one_changed theory a f done rest t u d h =
    subst (λ us. AreEqual theory a (app f us)) (put_behind done rest t u)
    (replaced_right (suc (length done) ∷ [])
    (ap (option_and_then (λ v. at v [])) (argument_behind done rest t)) h d)

-- and with all of them changed
all_changed : (theory : Theory) (a : Tree) (f : PlainOperator) (done : List Tree) (ts us : Forest)
    → AllEqual theory ts us → AreEqual theory a (app f (forest_of (done ++ list_of ts)))
    → AreEqual theory a (app f (forest_of (done ++ list_of us)))
all_changed theory a f done none none d h = h
all_changed theory a f done none (more u us) d h = absurd d
all_changed theory a f done (more t ts) none d h = absurd d
all_changed theory a f done (more t ts) (more u us) d h =
    subst (λ vs. AreEqual theory a (app f (forest_of vs))) (one_more done (list_of us) u)
    (all_changed theory a f (done ++ u ∷ []) ts us d.1
    (subst (λ vs. AreEqual theory a (app f (forest_of vs))) (sym (one_more done (list_of ts) u))
    (one_changed theory a f done (list_of ts) t u d.0 h)))

application_equal : (theory : Theory) (f : PlainOperator) (ts us : Forest) → IsTermOver theory.operators (app f ts)
    → AllEqual theory ts us → AreEqual theory (app f ts) (app f us)
application_equal theory f ts us w d =
    subst (λ vs. AreEqual theory (app f ts) (app f vs)) (forest_of-list_of us)
    (all_changed theory (app f ts) f [] ts us d
    (subst (λ vs. AreEqual theory (app f ts) (app f vs)) (sym (forest_of-list_of ts)) (reflexive w)))

-- ---- normal forms

made_term : {A : Type 0} {x y : A} {b c : ℕ} → Made x b ≡ Made y c → x ≡ y
made_term e = cc

-- what goes on makes equal terms
abbrev KeepsEqual : Theory → Onward → Type 0
KeepsEqual theory next =
    (t : Tree) (b : ℕ) (u : Tree) (r : ℕ) → IsTermOver theory.operators t → next t b ≡ Made u r → AreEqual theory t u

applied_equal : (theory : Theory) (next : Onward) → KeepsEqual theory next → (t : Tree) (b : ℕ) (o : Option Tree)
    (u : Tree) (r : ℕ) → IsTermOver theory.operators t → ((v : Tree) → o ≡ Some v → AreEqual theory t v)
    → applied_or next t b o ≡ Made u r → AreEqual theory t u
applied_equal theory next k t b None u r w one h = subst (AreEqual theory t) (made_term h) (reflexive w)
applied_equal theory next k t zero (Some v) u r w one h = cc
applied_equal theory next k t (suc b) (Some v) u r w one h =
    let m = one v refl in transitive m (k v b u r (well_sorted m).1 h)

within_made : {A : Type 0} (large : Bool) (w : Work A) (x : A) (r : ℕ) → within_size large w ≡ Made x r → w ≡ Made x r
within_made true w x r h = cc
within_made false w x r h = h

root_equal : (theory : Theory) (rules : List Sides) (next : Onward) → AreDerivable theory rules
    → KeepsEqual theory next → (t : Tree) (b : ℕ) (u : Tree) (r : ℕ) → IsTermOver theory.operators t
    → at_root next rules t b ≡ Made u r → AreEqual theory t u
root_equal theory rules next a k t b u r w h =
    applied_equal theory next k t b (rewritten_once rules t) u r w (λ v e. once_equal theory rules t v a w e)
    (within_made (is_large t) (applied_or next t b (rewritten_once rules t)) u r h)

behind_arguments : (theory : Theory) (rules : List Sides) (next : Onward) → AreDerivable theory rules
    → KeepsEqual theory next → (f : PlainOperator) (ts : Forest) (w : Work Forest) (u : Tree) (r : ℕ)
    → IsTermOver theory.operators (app f ts) → ((us : Forest) (c : ℕ) → w ≡ Made us c → AllEqual theory ts us)
    → then_work w (λ us c. at_root next rules (app f us) c) ≡ Made u r → AreEqual theory (app f ts) u
behind_arguments theory rules next a k f ts (Made us c) u r w go h =
    let m = application_equal theory f ts us w (go us c refl) in
    transitive m (root_equal theory rules next a k (app f us) c u r (well_sorted m).1 h)
behind_arguments theory rules next a k f ts OverLimit u r w go h = cc
behind_arguments theory rules next a k f ts OverSize u r w go h = cc

behind_others : (theory : Theory) (t : Tree) (ts : Forest) (v : Tree) (w : Work Forest) (us : Forest) (c : ℕ)
    → AreEqual theory t v → ((vs : Forest) (q : ℕ) → w ≡ Made vs q → AllEqual theory ts vs)
    → then_work w (λ vs q. Made (more v vs) q) ≡ Made us c → AllEqual theory (more t ts) us
behind_others theory t ts v (Made vs q) us c m go h =
    subst (AllEqual theory (more t ts)) (made_term h) (m, go vs q refl)
behind_others theory t ts v OverLimit us c m go h = cc
behind_others theory t ts v OverSize us c m go h = cc

behind_first : (theory : Theory) (rules : List Sides) (next : Onward) (t : Tree) (ts : Forest) (w : Work Tree)
    (us : Forest) (c : ℕ) → ((v : Tree) (r : ℕ) → w ≡ Made v r → AreEqual theory t v)
    → ((r : ℕ) (vs : Forest) (q : ℕ) → pass_all next rules ts r ≡ Made vs q → AllEqual theory ts vs)
    → then_work w (λ v r. then_work (pass_all next rules ts r) (λ vs q. Made (more v vs) q)) ≡ Made us c
    → AllEqual theory (more t ts) us
behind_first theory rules next t ts (Made v r) us c first others h =
    behind_others theory t ts v (pass_all next rules ts r) us c (first v r refl) (others r) h
behind_first theory rules next t ts OverLimit us c first others h = cc
behind_first theory rules next t ts OverSize us c first others h = cc

mutual
  pass_equal : (theory : Theory) (rules : List Sides) (next : Onward) → AreDerivable theory rules
      → KeepsEqual theory next → (t : Tree) (b : ℕ) (u : Tree) (r : ℕ) → IsTermOver theory.operators t
      → pass next rules t b ≡ Made u r → AreEqual theory t u
  pass_equal theory rules next a k (var n s) b u r w h = root_equal theory rules next a k (var n s) b u r w h
  pass_equal theory rules next a k (app f ts) b u r w h =
      behind_arguments theory rules next a k f ts (pass_all next rules ts b) u r w
      (all_equal theory rules next a k ts b (w.0.1, w.1.1)) h

  all_equal : (theory : Theory) (rules : List Sides) (next : Onward) → AreDerivable theory rules
      → KeepsEqual theory next → (ts : Forest) (b : ℕ) → AllWellSorted ts × AllOver theory.operators ts
      → (us : Forest) (c : ℕ) → pass_all next rules ts b ≡ Made us c → AllEqual theory ts us
  all_equal theory rules next a k none b w us c h = subst (AllEqual theory none) (made_term h) tt
  all_equal theory rules next a k (more t ts) b w us c h =
      behind_first theory rules next t ts (pass next rules t b) us c
      (λ v r. pass_equal theory rules next a k t b v r (w.0.0, w.1.0))
      (λ r. all_equal theory rules next a k ts r (w.0.1, w.1.1)) h

normal_by_equal : (n : ℕ) (theory : Theory) (rules : List Sides) → AreDerivable theory rules
    → KeepsEqual theory (λ t b. normal_by n rules t b)
normal_by_equal zero theory rules a t b u r w h =
    pass_equal theory rules (λ v c. OverLimit) a (λ v c x q y e. cc) t b u r w
    (within_made (is_large t) (pass (λ v c. OverLimit) rules t b) u r h)
normal_by_equal (suc n) theory rules a t b u r w h =
    pass_equal theory rules (λ v c. normal_by n rules v c) a (normal_by_equal n theory rules a) t b u r w
    (within_made (is_large t) (pass (λ v c. normal_by n rules v c) rules t b) u r h)

-- a term and its normal form are equal
pub normal_equal : (theory : Theory) (rules : List Sides) (t : Tree) (b : ℕ) (u : Tree) (r : ℕ)
    → AreDerivable theory rules → IsTermOver theory.operators t → normal rules t b ≡ Made u r → AreEqual theory t u
unfolding normal
normal_equal theory rules t b u r a w h = normal_by_equal b theory rules a t b u r w h

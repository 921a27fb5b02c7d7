-- What matches is an instance.
use Rattle.std.specs.Prelude.{◌≡◌, ◌&&◌, ℕ, Bool, true, false, cond, All, List, [], ◌∷◌, bytes_eq, find, Option, Some}
use Rattle.std.specs.Prelude.{None, option_map, option_and_then, refl}
use Rattle.std.proofs.Common.{arith, ap, ap₂, subst, ◌∙◌}
use Rattle.std.proofs.lemmas.Bool.Decides.{Decides-and}
use Rattle.std.proofs.lemmas.List.Elements.{All-cons}
use Rattle.std.proofs.lemmas.Slice.Eq.{bytes_eq-Decides}
use Rattle.larch_term.specs.Operator.{PlainOperator}
use Rattle.larch_term.specs.Tree.{Tree, Forest, var, app, none, more}
use Rattle.larch_term.specs.Sorts.{sort_of, WellSorted, AllWellSorted, AllOver, IsTermOver}
use Rattle.larch_term.specs.Equality.{same_operator, same_tree}
use Rattle.larch_term.specs.OperatorKey.{operator_Decides}
use Rattle.larch_term.specs.Substitution.{is_entry_of, image, instance_of, substituted_all, Fits}
use Rattle.larch_term.specs.declared.substitution.Entry.{Entry}
use Rattle.larch_term.proofs.Decided.{tree_Decides}
use Rattle.larch_rewrite_meaning.specs.Matching.{bound, match_term, matched_all}
use Rattle.larch_rewrite_meaning.specs.Instances.{bound_to, Keeps, IsInstance, AreInstances}

-- what a substitution has for a variable is what it puts in its place
image_of : (es : List Entry) (n s : List ℕ) (t : Tree) → bound_to es n s ≡ Some t → image es n s ≡ t
image_of [] n s t h = cc
image_of (e ∷ es) n s t h =
    elim (is_entry_of n s e) as (λ b. option_map (λ x. x.term) (cond b (Some e) (find (is_entry_of n s) es)) ≡ Some t
    → cond b e.term (image es n s) ≡ t) [
      | true ↦ λ k. some_inj e.term t k
      | false ↦ λ k. image_of es n s t k
    ] h
  where
    some_inj : (a b : Tree) → Some a ≡ Some b → a ≡ b
    some_inj a b k = cc

mutual
  -- an instance is the pattern with the substitution made
  pub instance_substituted : (es : List Entry) (p t : Tree) → IsInstance es p t → instance_of es p ≡ t
  instance_substituted es (var n s) t h = image_of es n s t h
  instance_substituted es (app f ps) (var n s) h = absurd h
  instance_substituted es (app f ps) (app g ts) h = ap₂ app h.0 (instances_substituted es ps ts h.1)

  instances_substituted : (es : List Entry) (ps ts : Forest) → AreInstances es ps ts → substituted_all es ps ≡ ts
  instances_substituted es none none h = refl
  instances_substituted es none (more t ts) h = absurd h
  instances_substituted es (more p ps) none h = absurd h
  instances_substituted es (more p ps) (more t ts) h =
      ap₂ more (instance_substituted es p t h.0) (instances_substituted es ps ts h.1)

mutual
  -- an instance stays one where more variables are bound
  instance_kept : (es ds : List Entry) → Keeps es ds → (p t : Tree) → IsInstance es p t → IsInstance ds p t
  instance_kept es ds k (var n s) t h = k n s t h
  instance_kept es ds k (app f ps) (var n s) h = h
  instance_kept es ds k (app f ps) (app g ts) h = (h.0, instances_kept es ds k ps ts h.1)

  instances_kept : (es ds : List Entry) → Keeps es ds → (ps ts : Forest) → AreInstances es ps ts → AreInstances ds ps ts
  instances_kept es ds k none none h = h
  instances_kept es ds k none (more t ts) h = h
  instances_kept es ds k (more p ps) none h = h
  instances_kept es ds k (more p ps) (more t ts) h = (instance_kept es ds k p t h.0, instances_kept es ds k ps ts h.1)

-- the entry of a variable
abbrev entry_for : List ℕ → List ℕ → Tree → Entry
entry_for n s t = record { name = n; sort = s; term = t }

entry_self : (n s : List ℕ) (t : Tree) → is_entry_of n s (entry_for n s t) ≡ true
entry_self n s t = ap₂ (λ a b. a && b) ((bytes_eq-Decides n n).1 refl) ((bytes_eq-Decides s s).1 refl)

entry_other : (m r n s : List ℕ) (t : Tree) → is_entry_of m r (entry_for n s t) ≡ true → (n ≡ m) × (s ≡ r)
entry_other m r n s t h =
    (Decides-and (bytes_eq n m) (bytes_eq s r) (bytes_eq-Decides n m) (bytes_eq-Decides s r)).0 h

-- what binding a variable leads to: it is bound to the term, and what was bound before still is
abbrev Binds : List Entry → List ℕ → List ℕ → Tree → List Entry → Type 0
Binds all n s t ds = (bound_to ds n s ≡ Some t) × Keeps all ds

some_same : {A : Type 0} {x y : A} → Some x ≡ Some y → x ≡ y
some_same e = cc

-- a variable that isn't bound yet is bound by one entry more
binds_new : (all : List Entry) (n s : List ℕ) (t : Tree) → find (is_entry_of n s) all ≡ None
    → Binds all n s t (entry_for n s t ∷ all)
binds_new all n s t q = (
  ap (λ b. option_map (λ e. e.term) (cond b (Some (entry_for n s t)) (find (is_entry_of n s) all))) (entry_self n s t),
  λ m r u h. elim (is_entry_of m r (entry_for n s t)) as (λ b. is_entry_of m r (entry_for n s t) ≡ b
      → option_map (λ e. e.term) (cond b (Some (entry_for n s t)) (find (is_entry_of m r) all)) ≡ Some u) [
        | true ↦ λ k. absurd (taken m r u h (entry_other m r n s t k))
        | false ↦ λ k. h
      ] refl,
)
  where
    taken : (m r : List ℕ) (u : Tree) → bound_to all m r ≡ Some u → (n ≡ m) × (s ≡ r) → ⊥
    taken m r u h k =
        let none : option_map (λ e. e.term) (find (is_entry_of m r) all) ≡ None =
        ap (option_map (λ e. e.term)) (subst (λ x. find (is_entry_of x r) all ≡ None) k.0
        (subst (λ x. find (is_entry_of n x) all ≡ None) k.1 q)) in
        cc

bound_there : (all : List Entry) (n s : List ℕ) (t : Tree) (e : Entry) (ds : List Entry) (b : Bool)
    → (b ≡ true → e.term ≡ t) → find (is_entry_of n s) all ≡ Some e → cond b (Some all) None ≡ Some ds
    → Binds all n s t ds
bound_there all n s t e ds true same q h =
    subst (Binds all n s t) (some_same h)
    (ap (option_map (λ x. x.term)) q ∙ ap Some (same refl), λ m r u k. k)
bound_there all n s t e ds false same q h = cc

bound_step : (all : List Entry) (n s : List ℕ) (t : Tree) (e : Entry) (es ds : List Entry) (b : Bool)
    → (find (is_entry_of n s) all ≡ find (is_entry_of n s) es → bound all n s t es ≡ Some ds → Binds all n s t ds)
    → find (is_entry_of n s) all ≡ cond b (Some e) (find (is_entry_of n s) es)
    → (elim b [ true ↦ cond (same_tree e.term t) (Some all) None | false ↦ bound all n s t es ]) ≡ Some ds
    → Binds all n s t ds
bound_step all n s t e es ds true go q h =
    bound_there all n s t e ds (same_tree e.term t) (tree_Decides e.term t).0 q h
bound_step all n s t e es ds false go q h = go q h

-- binding a variable, where the entries before those that are looked at aren't its own
bound_binds : (all : List Entry) (n s : List ℕ) (t : Tree) (es ds : List Entry)
    → find (is_entry_of n s) all ≡ find (is_entry_of n s) es → bound all n s t es ≡ Some ds → Binds all n s t ds
bound_binds all n s t [] ds q h = subst (Binds all n s t) (some_same h) (binds_new all n s t q)
bound_binds all n s t (e ∷ es) ds q h =
    bound_step all n s t e es ds (is_entry_of n s e) (bound_binds all n s t es ds) q h

-- what matching leads to: what was bound still is, and the term is an instance
abbrev Matches : List Entry → List Entry → Tree → Tree → Type 0
Matches es ds p t = Keeps es ds × IsInstance ds p t

abbrev AllMatch : List Entry → List Entry → Forest → Forest → Type 0
AllMatch es ds ps ts = Keeps es ds × AreInstances ds ps ts

variable_is : (n s : List ℕ) (t : Tree) (es ds : List Entry) (b : Bool)
    → cond b (bound es n s t es) None ≡ Some ds → Matches es ds (var n s) t
variable_is n s t es ds true h = let b = bound_binds es n s t es ds refl h in (b.1, b.0)
variable_is n s t es ds false h = cc

application_is : (f : PlainOperator) (ps : Forest) (g : PlainOperator) (ts : Forest) (es ds : List Entry) (b : Bool)
    → (b ≡ true → f ≡ g) → (matched_all ps ts es ≡ Some ds → AllMatch es ds ps ts)
    → (elim b [ true ↦ matched_all ps ts es | false ↦ None ]) ≡ Some ds
    → Matches es ds (app f ps) (app g ts)
application_is f ps g ts es ds true same go h = let m = go h in (m.0, (same refl, m.1))
application_is f ps g ts es ds false same go h = cc

further_are : (p : Tree) (ps : Forest) (t : Tree) (ts : Forest) (es ds : List Entry) (o : Option (List Entry))
    → ((gs : List Entry) → match_term p t es ≡ Some gs → Matches es gs p t)
    → ((gs : List Entry) → matched_all ps ts gs ≡ Some ds → AllMatch gs ds ps ts)
    → match_term p t es ≡ o → option_and_then (λ gs. matched_all ps ts gs) o ≡ Some ds
    → AllMatch es ds (more p ps) (more t ts)
further_are p ps t ts es ds None first others e h = cc
further_are p ps t ts es ds (Some gs) first others e h =
    let f = first gs e in
    let o = others gs h in
    (λ m r u k. o.0 m r u (f.0 m r u k), (instance_kept gs ds o.0 p t f.1, o.1))

mutual
  pub matched_is : (p t : Tree) (es ds : List Entry) → match_term p t es ≡ Some ds → Matches es ds p t
  matched_is (var n s) t es ds h = variable_is n s t es ds (bytes_eq (sort_of t) s) h
  matched_is (app f ps) (var n s) es ds h = cc
  matched_is (app f ps) (app g ts) es ds h =
      application_is f ps g ts es ds (same_operator f g) (operator_Decides f g).0 (matched_all_are ps ts es ds) h

  matched_all_are : (ps ts : Forest) (es ds : List Entry) → matched_all ps ts es ≡ Some ds → AllMatch es ds ps ts
  matched_all_are none none es ds h = subst (λ x. AllMatch es x none none) (some_same h) (λ m r u k. k, tt)
  matched_all_are none (more t ts) es ds h = cc
  matched_all_are (more p ps) none es ds h = cc
  matched_all_are (more p ps) (more t ts) es ds h =
      further_are p ps t ts es ds (match_term p t es) (λ gs. matched_is p t es gs) (λ gs. matched_all_are ps ts gs ds)
      refl h

-- ---- what is bound has the variable's sort, and what holds of a term and of all its arguments

-- what holds of an application holds of its arguments
pub record IsInherited (P : Tree → Type 0) (Q : Forest → Type 0) : Type 0 where
  pub arguments : (f : PlainOperator) (ts : Forest) → P (app f ts) → Q ts
  pub first : (t : Tree) (ts : Forest) → Q (more t ts) → P t
  pub others : (t : Tree) (ts : Forest) → Q (more t ts) → Q ts

-- an entry's term has the property and the sort of its variable
abbrev pub IsBound : (Tree → Type 0) → Entry → Type 0
IsBound P e = P e.term × (sort_of e.term ≡ e.sort)

abbrev pub AreBound : (Tree → Type 0) → List Entry → Type 0
AreBound P es = All (IsBound P) es

bound_there_fits : (P : Tree → Type 0) (all ds : List Entry) (b : Bool) → AreBound P all
    → cond b (Some all) None ≡ Some ds → AreBound P ds
bound_there_fits P all ds true f h = subst (AreBound P) (some_same h) f
bound_there_fits P all ds false f h = cc

bound_step_fits : (P : Tree → Type 0) (all : List Entry) (n s : List ℕ) (t : Tree) (e : Entry) (es ds : List Entry)
    (b : Bool) → AreBound P all → (bound all n s t es ≡ Some ds → AreBound P ds)
    → (elim b [ true ↦ cond (same_tree e.term t) (Some all) None | false ↦ bound all n s t es ]) ≡ Some ds
    → AreBound P ds
bound_step_fits P all n s t e es ds true f go h = bound_there_fits P all ds (same_tree e.term t) f h
bound_step_fits P all n s t e es ds false f go h = go h

bound_fits : (P : Tree → Type 0) (all : List Entry) (n s : List ℕ) (t : Tree) (es ds : List Entry) → AreBound P all
    → P t → sort_of t ≡ s → bound all n s t es ≡ Some ds → AreBound P ds
bound_fits P all n s t [] ds f w q h =
    subst (AreBound P) (some_same h) (All-cons (IsBound P) (entry_for n s t) all (w, q) f)
bound_fits P all n s t (e ∷ es) ds f w q h =
    bound_step_fits P all n s t e es ds (is_entry_of n s e) f (bound_fits P all n s t es ds f w q) h

variable_fits : (P : Tree → Type 0) (n s : List ℕ) (t : Tree) (es ds : List Entry) (b : Bool)
    → (b ≡ true → sort_of t ≡ s) → AreBound P es → P t → cond b (bound es n s t es) None ≡ Some ds → AreBound P ds
variable_fits P n s t es ds true q f w h = bound_fits P es n s t es ds f w (q refl) h
variable_fits P n s t es ds false q f w h = cc

application_fits : (P : Tree → Type 0) (ps ts : Forest) (es ds : List Entry) (b : Bool)
    → (matched_all ps ts es ≡ Some ds → AreBound P ds)
    → (elim b [ true ↦ matched_all ps ts es | false ↦ None ]) ≡ Some ds → AreBound P ds
application_fits P ps ts es ds true go h = go h
application_fits P ps ts es ds false go h = cc

further_fit : (P : Tree → Type 0) (p : Tree) (ps : Forest) (t : Tree) (ts : Forest) (es ds : List Entry)
    (o : Option (List Entry)) → ((gs : List Entry) → match_term p t es ≡ Some gs → AreBound P gs)
    → ((gs : List Entry) → AreBound P gs → matched_all ps ts gs ≡ Some ds → AreBound P ds)
    → match_term p t es ≡ o → option_and_then (λ gs. matched_all ps ts gs) o ≡ Some ds → AreBound P ds
further_fit P p ps t ts es ds None first others e h = cc
further_fit P p ps t ts es ds (Some gs) first others e h = others gs (first gs e) h

mutual
  pub matched_fits : (P : Tree → Type 0) (Q : Forest → Type 0) → IsInherited P Q → (p t : Tree) (es ds : List Entry)
      → AreBound P es → P t → match_term p t es ≡ Some ds → AreBound P ds
  matched_fits P Q i (var n s) t es ds f w h =
      variable_fits P n s t es ds (bytes_eq (sort_of t) s) (bytes_eq-Decides (sort_of t) s).0 f w h
  matched_fits P Q i (app g ps) (var n s) es ds f w h = cc
  matched_fits P Q i (app g ps) (app k ts) es ds f w h =
      application_fits P ps ts es ds (same_operator g k) (matched_all_fit P Q i ps ts es ds f (i.arguments k ts w)) h

  matched_all_fit : (P : Tree → Type 0) (Q : Forest → Type 0) → IsInherited P Q → (ps ts : Forest) (es ds : List Entry)
      → AreBound P es → Q ts → matched_all ps ts es ≡ Some ds → AreBound P ds
  matched_all_fit P Q i none none es ds f w h = subst (AreBound P) (some_same h) f
  matched_all_fit P Q i none (more t ts) es ds f w h = cc
  matched_all_fit P Q i (more p ps) none es ds f w h = cc
  matched_all_fit P Q i (more p ps) (more t ts) es ds f w h =
      further_fit P p ps t ts es ds (match_term p t es) (λ gs e. matched_fits P Q i p t es gs f (i.first t ts w) e)
      (λ gs g k. matched_all_fit P Q i ps ts gs ds g (i.others t ts w) k) refl h

bound_nothing : (P : Tree → Type 0) → AreBound P []
bound_nothing P k d lt = absurd (omega (arith, lt))

sorts_inherited : IsInherited WellSorted AllWellSorted
sorts_inherited = record {
  arguments = λ f ts w. w.1;
  first = λ t ts w. w.0;
  others = λ t ts w. w.1;
}

-- arguments that are well sorted terms over operators
abbrev pub AllTermsOver : List PlainOperator → Forest → Type 0
AllTermsOver fs ts = AllWellSorted ts × AllOver fs ts

pub terms_inherited : (fs : List PlainOperator) → IsInherited (IsTermOver fs) (AllTermsOver fs)
terms_inherited fs = record {
  arguments = λ f ts w. (w.0.1, w.1.1);
  first = λ t ts w. (w.0.0, w.1.0);
  others = λ t ts w. (w.0.1, w.1.1);
}

-- a term over operators binds the pattern's variables to such terms
pub match_over : (fs : List PlainOperator) (p t : Tree) (ds : List Entry) → IsTermOver fs t
    → match_term p t [] ≡ Some ds
    → AreBound (IsTermOver fs) ds
match_over fs p t ds w h =
    matched_fits (IsTermOver fs) (AllTermsOver fs) (terms_inherited fs) p t [] ds (bound_nothing (IsTermOver fs)) w h

-- what a pattern matches is the pattern with the substitution made, which fits
pub match_is_right : (p t : Tree) (ds : List Entry) → match_term p t [] ≡ Some ds → instance_of ds p ≡ t
match_is_right p t ds h = instance_substituted ds p t (matched_is p t [] ds h).1

pub match_fits : (p t : Tree) (ds : List Entry) → WellSorted t → match_term p t [] ≡ Some ds → Fits ds
match_fits p t ds w h =
    matched_fits WellSorted AllWellSorted sorts_inherited p t [] ds (bound_nothing WellSorted) w h

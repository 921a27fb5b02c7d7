-- The lists of readings hold exactly what terms and equations read as.
use Rattle.std.proofs.Common.{◌≡◌, ℕ, Bool, true, false, cond, List, [], ◌∷◌, map, Contains, Option, Some, None}
use Rattle.std.proofs.Common.{bytes_eq, refl, sym, subst}
use Rattle.std.specs.List.{filter, flat_map}
use Rattle.std.proofs.lemmas.Slice.Eq.{bytes_eq-Decides}
use Rattle.larch_base.specs.declared.position.Pos.{Pos}
use Rattle.larch_raw.specs.RawTree.{RawTree, RawForest, apply, qualified, no_more, one_more}
use Rattle.larch_raw.specs.declared.equation.RawRight.{RawRight}
use Rattle.larch_raw.specs.declared.equation.RawEquation.{RawEquation}
use Rattle.larch_term.specs.BuiltIn.{bool_sort}
use Rattle.larch_term.specs.declared.statement.Statement.{Statement}
use Rattle.larch_term.specs.declared.statement.Statement.TheVariants.{Equation, Generated, Partitioned}
use Rattle.larch_term.specs.Operator.{PlainOperator, plain}
use Rattle.larch_term.specs.Sorts.{sort_of, sorts_of}
use Rattle.larch_term.specs.Tree.{Tree, Forest, var, app, none, more}
use Rattle.larch_sorts_meaning.specs.Signature.{taking_part}
use Rattle.larch_sorts_meaning.specs.Scope.{Variables}
use Rattle.larch_sorts_meaning.specs.Readings.{variable_sort, Reads, a_variable, an_operator, of_sort, AllRead}
use Rattle.larch_sorts_meaning.specs.Readings.{all_read, one_read, ReadsRight, ReadsEquation, ReadsLone}
use Rattle.larch_term.specs.Truth.{truth}
use Rattle.larch_sorts_meaning.specs.ReadingLists.{readings, choices, applications, have_sorts, variable_or}
use Rattle.larch_sorts_meaning.specs.ReadingLists.{right_readings, equation_readings, lone_readings}
use Rattle.larch_term.specs.Equality.{same_name}
use Rattle.larch_base.proofs.Members.{contains_here, contains_one, contains_none, contains_map, contained_in_map}
use Rattle.larch_base.proofs.Members.{contains_flat_map, contained_in_flat_map, contains_filter, contained_in_filter}
use Rattle.larch_term.proofs.Decided.{name_Decides, sorts_Decides}

applied_to : (n : List ℕ) (us : List Forest) (f : PlainOperator) (ts : Forest) → f.name ≡ plain n → Contains us ts
    → sorts_of ts ≡ f.domain → Contains (applications n us f) (app f ts)
applied_to n us f ts e c d =
    rw ((name_Decides f.name (plain n)).1 e)
    (contains_map (app f) (filter (have_sorts f.domain) us) ts
    (contains_filter (have_sorts f.domain) us ts c ((sorts_Decides (sorts_of ts) f.domain).1 d)))

in_applied : (n : List ℕ) (us : List Forest) (f : PlainOperator) (t : Tree) (b : Bool) → same_name f.name (plain n) ≡ b
    → Contains (cond b (map (app f) (filter (have_sorts f.domain) us)) []) t
    → (ts : Forest) × (f.name ≡ plain n) × Contains us ts × (sorts_of ts ≡ f.domain) × (app f ts ≡ t)
in_applied n us f t true e c =
    let r = contained_in_map (app f) (filter (have_sorts f.domain) us) t c in
    let q = contained_in_filter (have_sorts f.domain) us r.0 r.1 in
    (r.0, (name_Decides f.name (plain n)).0 e, q.0, (sorts_Decides (sorts_of r.0) f.domain).0 q.1, r.2)
in_applied n us f t false e c = absurd (contains_none t c)

mutual
  unfolding readings choices

  pub listed : (fs : List PlainOperator) (vs : Variables) (raw : RawTree) (t : Tree) → Reads fs vs raw t
      → Contains (readings fs vs raw) t
  listed fs vs (apply n raws p) (var m s) (a_variable e) = rw e (contains_here (var n s) [])
  listed fs vs (apply n raws p) (app f ts) (an_operator e c d all sorts) =
      rw e (contains_flat_map (applications n (choices fs vs raws)) (taking_part fs) f (app f ts) c
      (applied_to n (choices fs vs raws) f ts d (all_listed fs vs raws ts all) sorts))
  listed fs vs (qualified raw w p) t (of_sort r e) =
      contains_filter (λ u. bytes_eq (sort_of u) w.name) (readings fs vs raw) t (listed fs vs raw t r)
      ((bytes_eq-Decides (sort_of t) w.name).1 e)

  pub all_listed : (fs : List PlainOperator) (vs : Variables) (raws : RawForest) (ts : Forest) → AllRead fs vs raws ts
      → Contains (choices fs vs raws) ts
  all_listed fs vs no_more none all_read = contains_here none []
  all_listed fs vs no_more (more t ts) r = elim r [ ]
  all_listed fs vs (one_more raw raws) none r = elim r [ ]
  all_listed fs vs (one_more raw raws) (more t ts) (one_read r all) =
      contains_flat_map (λ u. map (more u) (choices fs vs raws)) (readings fs vs raw) t (more t ts)
      (listed fs vs raw t r) (contains_map (more t) (choices fs vs raws) ts (all_listed fs vs raws ts all))

reads_apply : (fs : List PlainOperator) (vs : Variables) (n : List ℕ) (raws : RawForest) (p : Pos) (t : Tree)
    (o : Option (List ℕ)) → variable_sort vs n raws ≡ o
    → ((ts : Forest) → Contains (choices fs vs raws) ts → AllRead fs vs raws ts)
    → Contains (variable_or o n (flat_map (applications n (choices fs vs raws)) (taking_part fs))) t
    → Reads fs vs (apply n raws p) t
reads_apply fs vs n raws p t (Some s) e all c =
    subst (Reads fs vs (apply n raws p)) (contains_one (var n s) t c) (a_variable e)
reads_apply fs vs n raws p t None e all c =
    let r = contained_in_flat_map (applications n (choices fs vs raws)) (taking_part fs) t c in
    let q = in_applied n (choices fs vs raws) r.0 t (same_name r.0.name (plain n)) refl r.2 in
    subst (Reads fs vs (apply n raws p)) q.4 (an_operator e r.1 q.1 (all q.0 q.2) q.3)

mutual
  unfolding readings choices

  pub reads_listed : (fs : List PlainOperator) (vs : Variables) (raw : RawTree) (t : Tree)
      → Contains (readings fs vs raw) t → Reads fs vs raw t
  reads_listed fs vs (apply n raws p) t c =
      reads_apply fs vs n raws p t (variable_sort vs n raws) refl (all_reads_listed fs vs raws) c
  reads_listed fs vs (qualified raw w p) t c =
      let r = contained_in_filter (λ u. bytes_eq (sort_of u) w.name) (readings fs vs raw) t c in
      of_sort (reads_listed fs vs raw t r.0) ((bytes_eq-Decides (sort_of t) w.name).0 r.1)

  pub all_reads_listed : (fs : List PlainOperator) (vs : Variables) (raws : RawForest) (ts : Forest)
      → Contains (choices fs vs raws) ts → AllRead fs vs raws ts
  all_reads_listed fs vs no_more ts c = subst (AllRead fs vs no_more) (contains_one none ts c) all_read
  all_reads_listed fs vs (one_more raw raws) ts c =
      let r = contained_in_flat_map (λ u. map (more u) (choices fs vs raws)) (readings fs vs raw) ts c in
      let q = contained_in_map (more r.0) (choices fs vs raws) ts r.2 in
      subst (AllRead fs vs (one_more raw raws)) q.2
      (one_read (reads_listed fs vs raw r.0 r.1) (all_reads_listed fs vs raws q.0 q.1))

right_listed : (fs : List PlainOperator) (vs : Variables) (right : Option RawRight) (l r : Tree)
    → ReadsRight fs vs right l r → Contains (right_readings fs vs right l) r
right_listed fs vs None l r (e, t) =
    rw ((bytes_eq-Decides (sort_of l) bool_sort).1 e) (subst (Contains (truth ∷ [])) (sym t) (contains_here truth []))
right_listed fs vs (Some right) l r (q, e) =
    contains_filter (λ u. bytes_eq (sort_of l) (sort_of u)) (readings fs vs right.term) r (listed fs vs right.term r q)
    ((bytes_eq-Decides (sort_of l) (sort_of r)).1 e)

formula_reads : (l r : Tree) (b : Bool) → bytes_eq (sort_of l) bool_sort ≡ b → Contains (cond b (truth ∷ []) []) r
    → (sort_of l ≡ bool_sort) × (r ≡ truth)
formula_reads l r true e c = ((bytes_eq-Decides (sort_of l) bool_sort).0 e, sym (contains_one truth r c))
formula_reads l r false e c = absurd (contains_none r c)

right_reads : (fs : List PlainOperator) (vs : Variables) (right : Option RawRight) (l r : Tree)
    → Contains (right_readings fs vs right l) r → ReadsRight fs vs right l r
right_reads fs vs None l r c = formula_reads l r (bytes_eq (sort_of l) bool_sort) refl c
right_reads fs vs (Some right) l r c =
    let q = contained_in_filter (λ u. bytes_eq (sort_of l) (sort_of u)) (readings fs vs right.term) r c in
    (reads_listed fs vs right.term r q.0, (bytes_eq-Decides (sort_of l) (sort_of r)).0 q.1)

pub equation_listed : (fs : List PlainOperator) (vs : Variables) (raw : RawEquation) (s : Statement)
    → ReadsEquation fs vs raw s → Contains (equation_readings fs vs raw) s
equation_listed fs vs raw (Equation l r) (a, b) =
    contains_flat_map (λ u. map (Equation u) (right_readings fs vs raw.right u)) (readings fs vs raw.left) l
    (Equation l r) (listed fs vs raw.left l a)
    (contains_map (Equation l) (right_readings fs vs raw.right l) r (right_listed fs vs raw.right l r b))
equation_listed fs vs raw (Generated z gs) n = absurd n
equation_listed fs vs raw (Partitioned z gs) n = absurd n

pub equation_reads : (fs : List PlainOperator) (vs : Variables) (raw : RawEquation) (s : Statement)
    → Contains (equation_readings fs vs raw) s → ReadsEquation fs vs raw s
equation_reads fs vs raw s c =
    let a = contained_in_flat_map (λ u. map (Equation u) (right_readings fs vs raw.right u))
    (readings fs vs raw.left) s c in
    let b = contained_in_map (Equation a.0) (right_readings fs vs raw.right a.0) s a.2 in
    subst (ReadsEquation fs vs raw) b.2 (reads_listed fs vs raw.left a.0 a.1, right_reads fs vs raw.right a.0 b.0 b.1)

pub lone_listed : (fs : List PlainOperator) (vs : Variables) (wanted : Option (List ℕ)) (raw : RawEquation) (t : Tree)
    → ReadsLone fs vs wanted raw t → Contains (lone_readings fs vs wanted raw) t
lone_listed fs vs None raw t r = listed fs vs raw.left t r.0
lone_listed fs vs (Some s) raw t r =
    contains_filter (λ u. bytes_eq (sort_of u) s) (readings fs vs raw.left) t (listed fs vs raw.left t r.0)
    ((bytes_eq-Decides (sort_of t) s).1 r.1)

pub lone_reads : (fs : List PlainOperator) (vs : Variables) (wanted : Option (List ℕ)) (raw : RawEquation) (t : Tree)
    → Contains (lone_readings fs vs wanted raw) t → ReadsLone fs vs wanted raw t
lone_reads fs vs None raw t c = (reads_listed fs vs raw.left t c, tt)
lone_reads fs vs (Some s) raw t c =
    let q = contained_in_filter (λ u. bytes_eq (sort_of u) s) (readings fs vs raw.left) t c in
    (reads_listed fs vs raw.left t q.0, (bytes_eq-Decides (sort_of t) s).0 q.1)

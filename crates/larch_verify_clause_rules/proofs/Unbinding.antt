-- Variables that occur in no term are those that can be replaced without a change.
use Rattle.std.proofs.Common.{◌≡◌, ◌↔◌, IsTrue, ℕ, ◌+◌, ◌<◌, Bool, true, false, not, ◌&&◌, ◌||◌, if◌then◌else◌, List}
use Rattle.std.proofs.Common.{[], ◌∷◌, ◌++◌, length, map, take, get_or, bytes_eq, refl, sym, ◌∙◌, ap, subst}
use Rattle.std.specs.List.{list_all, list_any}
use Rattle.std.proofs.lemmas.Bool.Decides.{same_from_decides}
use Rattle.std.proofs.lemmas.List.Elements.{All-push}
use Rattle.std.proofs.lemmas.List.{map_push, take_more}
use Rattle.std.proofs.lemmas.List.Folds.{list_any-append}
use Rattle.larch_base.proofs.Bools.{and_left, and_right, and_both}
use Rattle.larch_term.specs.Substitution.{image, instance_of, substituted_all}
use Rattle.larch_term.specs.Tree.{Tree, Forest, var, app, none, more}
use Rattle.larch_term.specs.Truth.{truth}
use Rattle.larch_term.specs.Variable.{occurrences, occurrences_in, same_variable}
use Rattle.larch_term.specs.declared.variable.Variable.{Variable}
use Rattle.larch_verify_pool.specs.Pooled.{Pooled, tree_in, Grows, HasTree}
use Rattle.larch_verify_pool.specs.Substitution.{IsVar, AreBindings, AreVariables, entry_from, entries_of, variable_of}
use Rattle.larch_verify_pool.specs.declared.substitution.PoolBinding.{PoolBinding}
use Rattle.larch_verify_pool.proofs.Front.{grows_trans}
use Rattle.larch_verify_parts.proofs.Numbers.{within_later, tree_later, has_tree, has_within, entries_later}
use Rattle.larch_verify_clause_rules.specs.Observers.{none_occurs, variables_in, truth_for}

-- no variable is among others
abbrev none_among : List Variable → List Variable → Bool
none_among vs os = list_all (λ v. not (list_any (same_variable v) os)) vs

both_sides : (a b c d : Bool) → (not (a || b) && (c && d)) ≡ ((not a && c) && (not b && d))
both_sides true b c d = refl
both_sides false true true d = refl
both_sides false true false d = refl
both_sides false false true d = refl
both_sides false false false d = refl

among_both : (vs os ps : List Variable) → none_among vs (os ++ ps) ≡ (none_among vs os && none_among vs ps)
among_both [] os ps = refl
among_both (v ∷ vs) os ps =
    (λ i. not (list_any-append (same_variable v) os ps i) && among_both vs os ps i)
    ∙ both_sides (list_any (same_variable v) os) (list_any (same_variable v) ps) (none_among vs os) (none_among vs ps)

keeps_by : (b r : Bool) (t u : Tree) → (not (b || false) && r) ≡ true → (r ≡ true → t ≡ u)
    → (if b then truth else t) ≡ u
keeps_by true r t u h f = cc
keeps_by false r t u h f = f h

image_kept : (vs : List Variable) (n s : List ℕ) → none_among vs (record { name = n; sort = s } ∷ []) ≡ true
    → image (map truth_for vs) n s ≡ var n s
image_kept [] n s h = refl
image_kept (v ∷ vs) n s h =
    keeps_by (bytes_eq v.name n && bytes_eq v.sort s) (none_among vs (record { name = n; sort = s } ∷ []))
    (image (map truth_for vs) n s) (var n s) h
    (image_kept vs n s)

free_by : (b r : Bool) (t : Tree) (n s : List ℕ) → (if b then truth else t) ≡ var n s → (t ≡ var n s → r ≡ true)
    → (not (b || false) && r) ≡ true
free_by true r t n s h f = cc
free_by false r t n s h f = f h

image_free : (vs : List Variable) (n s : List ℕ) → image (map truth_for vs) n s ≡ var n s
    → none_among vs (record { name = n; sort = s } ∷ []) ≡ true
image_free [] n s h = refl
image_free (v ∷ vs) n s h =
    free_by (bytes_eq v.name n && bytes_eq v.sort s) (none_among vs (record { name = n; sort = s } ∷ []))
    (image (map truth_for vs) n s) n s h
    (image_free vs n s)

among_none : (vs : List Variable) → none_among vs [] ≡ true
among_none [] = refl
among_none (v ∷ vs) = among_none vs

mutual
  kept : (vs : List Variable) (t : Tree) → none_among vs (occurrences t) ≡ true → instance_of (map truth_for vs) t ≡ t
  kept vs (var n s) h = image_kept vs n s h
  kept vs (app f ts) h = ap (app f) (all_kept vs ts h)

  all_kept : (vs : List Variable) (ts : Forest) → none_among vs (occurrences_in ts) ≡ true
      → substituted_all (map truth_for vs) ts ≡ ts
  all_kept vs none h = refl
  all_kept vs (more t ts) h =
      let b : (none_among vs (occurrences t) && none_among vs (occurrences_in ts)) ≡ true =
      sym (among_both vs (occurrences t) (occurrences_in ts)) ∙ h in
      λ i. more (kept vs t (and_left (none_among vs (occurrences t)) (none_among vs (occurrences_in ts)) b) i)
      (all_kept vs ts (and_right (none_among vs (occurrences t)) (none_among vs (occurrences_in ts)) b) i)

mutual
  free : (vs : List Variable) (t : Tree) → instance_of (map truth_for vs) t ≡ t → none_among vs (occurrences t) ≡ true
  free vs (var n s) h = image_free vs n s h
  free vs (app f ts) h = let e : substituted_all (map truth_for vs) ts ≡ ts = cc in all_free vs ts e

  all_free : (vs : List Variable) (ts : Forest) → substituted_all (map truth_for vs) ts ≡ ts
      → none_among vs (occurrences_in ts) ≡ true
  all_free vs none h = among_none vs
  all_free vs (more t ts) h =
      let e : instance_of (map truth_for vs) t ≡ t = cc in
      let f : substituted_all (map truth_for vs) ts ≡ ts = cc in
      among_both vs (occurrences t) (occurrences_in ts)
      ∙ and_both (none_among vs (occurrences t)) (none_among vs (occurrences_in ts)) (free vs t e) (all_free vs ts f)

pub kept_told : (vs : List Variable) (t : Tree) (r : Bool) → (IsTrue r ↔ (instance_of (map truth_for vs) t ≡ t))
    → r ≡ none_occurs t vs
kept_told vs t r h = same_from_decides r (none_occurs t vs) h (kept vs t, free vs t)

-- whether variables occur in a term is whether its number stays
pub unbound_told : (p q r s : Pooled) (n m : ℕ) (by : List PoolBinding) (vs : List ℕ) (b : Bool) → Grows p q
    → Grows q r → Grows r s
    → n < length p.trees → AreBindings q.trees by → entries_of q.trees by ≡ map truth_for (variables_in p.trees vs)
    → HasTree s m (instance_of (entries_of r.trees by) (tree_in r.trees n))
    → (IsTrue b ↔ (tree_in s.trees m ≡ tree_in s.trees n))
    → b ≡ none_occurs (tree_in p.trees n) (variables_in p.trees vs)
unbound_told p q r s n m by vs b g h k l w e t d =
    let x : tree_in r.trees n ≡ tree_in p.trees n = tree_later p r n (grows_trans p q r g h) l in
    let y : tree_in s.trees n ≡ tree_in p.trees n = tree_later p s n (grows_trans p r s (grows_trans p q r g h) k) l in
    let z : tree_in s.trees m ≡ instance_of (map truth_for (variables_in p.trees vs)) (tree_in p.trees n) =
    has_tree s m (instance_of (entries_of r.trees by) (tree_in r.trees n)) t
    ∙ (λ i. instance_of ((entries_later q r by h w ∙ e) i) (x i)) in
    kept_told (variables_in p.trees vs) (tree_in p.trees n) b (λ c. sym z ∙ d.0 c ∙ y, λ c. d.1 (z ∙ c ∙ sym y))

-- one variable more is bound to true
pub bindings_pushed : (p q : Pooled) (vs : List ℕ) (i : ℕ) (b : PoolBinding) (bs cs : List PoolBinding) → i < length vs
    → Grows p q → AreVariables p.trees vs
    → b.variable ≡ get_or vs i 0 → HasTree q b.image truth → cs ≡ bs ++ b ∷ [] → AreBindings q.trees bs
    → AreBindings q.trees cs
bindings_pushed p q vs i b bs cs l g a v t e h =
    let w : (b.variable < length p.trees) × IsVar (tree_in p.trees b.variable) =
    subst (λ n. (n < length p.trees) × IsVar (tree_in p.trees n)) (sym v) (a i 0 l) in
    subst (λ (xs : List PoolBinding). AreBindings q.trees xs) (sym e)
    (All-push (λ c. (c.variable < length q.trees) × (c.image < length q.trees) × IsVar (tree_in q.trees c.variable)) bs
    b h (
      within_later p q b.variable g w.0,
      has_within q b.image truth t,
      subst IsVar (sym (tree_later p q b.variable g w.0)) w.1,
    ))

pub entries_pushed : (p q : Pooled) (vs : List ℕ) (i : ℕ) (b : PoolBinding) (bs cs : List PoolBinding) → i < length vs
    → Grows p q → AreVariables p.trees vs
    → b.variable ≡ get_or vs i 0 → HasTree q b.image truth → cs ≡ bs ++ b ∷ []
    → entries_of q.trees bs ≡ map truth_for (variables_in p.trees (take i vs))
    → entries_of q.trees cs ≡ map truth_for (variables_in p.trees (take (i + 1) vs))
entries_pushed p q vs i b bs cs l g a v t e h =
    let x : tree_in q.trees b.variable ≡ tree_in p.trees (get_or vs i 0) =
    ap (tree_in q.trees) v ∙ tree_later p q (get_or vs i 0) g (a i 0 l).0 in
    ap (entries_of q.trees) e
    ∙ map_push (λ c. entry_from (tree_in q.trees c.variable) (tree_in q.trees c.image)) bs b
    ∙ (λ j. h j ++ entry_from (x j) (has_tree q b.image truth t j) ∷ [])
    ∙ sym (map_push truth_for (variables_in p.trees (take i vs)) (variable_of (tree_in p.trees (get_or vs i 0))))
    ∙ ap (map truth_for) (sym (map_push (λ n. variable_of (tree_in p.trees n)) (take i vs) (get_or vs i 0))
    ∙ ap (variables_in p.trees) (sym (take_more vs i 0 l)))

-- The constants that a method makes are apart from those of open boxes.
use Rattle.std.specs.Prelude.{◌≡◌, ◌≢◌, ℕ, List, [], ◌∷◌, ◌++◌, map, AllPairs, Contains, None, Ok, refl}
use Rattle.std.specs.List.{flat_map}
use Rattle.std.proofs.Common.{ap, arith, inl, inr, subst, sym, ◌∙◌}
use Rattle.std.proofs.lemmas.List.{append-nil}
use Rattle.std.proofs.lemmas.List.Elements.{All-contains, All-nil}
use Rattle.larch_base.proofs.Lists.{all_from}
use Rattle.larch_base.proofs.Members.{contains_cases, contains_either, contains_flat_map, contains_left, contains_none}
use Rattle.larch_base.proofs.Members.{contains_right}
use Rattle.larch_term.specs.Operator.{PlainOperator, name_bytes}
use Rattle.larch_term.specs.Sorts.{IsKnown}
use Rattle.larch_term.specs.declared.statement.Statement.{Statement}
use Rattle.larch_term.specs.declared.statement.Theory.{Theory}
use Rattle.larch_calculus.specs.Theories.{AreNew, IsNewName}
use Rattle.larch_derive.specs.Builder.{boxes_in, theory_in}
use Rattle.larch_derive.specs.OpenBox.{constant_of}
use Rattle.larch_derive.specs.Predicates.{AreOthers}
use Rattle.larch_derive.specs.declared.builder.Builder.{Builder}
use Rattle.larch_derive.specs.declared.open_box.OpenBox.{OpenBox}
use Rattle.larch_methods.specs.ProveMeaningLevels.{Proof, all_constants}
use Rattle.larch_methods.specs.ProveMeaningPlans.{Cases, Conjunction, Contradiction, Implication, Induction, Method}
use Rattle.larch_methods.specs.ProveMeaningPlans.{Partition, Plan, Subgoal, plan}
use Rattle.larch_methods.specs.ProveMeaningSteps.{setting_of, taken_names}
use Rattle.larch_methods.proofs.ProveMeaningNewConstants.{grown_new, own_taken, plan_constants, plan_names_differ}
use Rattle.larch_methods.proofs.ProveMeaningNewConstants.{plan_names_free, plan_new}
use Rattle.larch_methods.specs.Opening.{HasOwnConstants}
use Rattle.larch_prove_invariant.specs.Book.{Kept, Running, SupposingBox, all_boxes, made_in}
use Rattle.larch_prove_invariant.specs.Holding.{AreOwn, HoldsProof, Shape, open_constants, shape_of}
use Rattle.larch_prove_invariant.specs.Holding.{shared_shapes, theory_for}
use Rattle.larch_prove_invariant.proofs.Apart.{not_constant, pairs_across, pairs_first, pairs_second}
use Rattle.larch_prove_invariant.proofs.BlockConstants.{open_made, shapes_made}
use Rattle.larch_prove_invariant.proofs.Held.{boxes_held}
use Rattle.larch_prove_invariant.proofs.Making.{boxes_append, boxes_made}

-- ---- lists

-- the constants of one subgoal among those of all
pairs_within : (R : PlainOperator → PlainOperator → Type 0) (ss : List Subgoal) (g : Subgoal) → Contains ss g
    → AllPairs R (flat_map (λ (s : Subgoal). s.constants) ss) → AllPairs R g.constants
pairs_within R [] g c h = absurd (contains_none g c)
pairs_within R (s ∷ ss) g c h =
    let rest = flat_map (λ (x : Subgoal). x.constants) ss in
    elim (contains_cases s g ss c) [
      | inl e ↦ subst (λ (x : Subgoal). AllPairs R x.constants) e (pairs_first R s.constants rest h)
      | inr d ↦ pairs_within R ss g d (pairs_second R s.constants rest h)
    ]

-- ---- shared boxes make the plan's shared constants

one_made : (cs : List PlainOperator) (f : PlainOperator) → Contains (cs ++ []) f → Contains cs f
one_made cs f c = elim (contains_either cs [] f c) [ inl d ↦ d | inr d ↦ absurd (contains_none f d) ]

shapes_have : (method : Method) (made : Plan) (f : PlainOperator)
    → Contains (flat_map (λ (h : Shape). h.constants) (shared_shapes method made)) f → Contains made.constants f
shapes_have (Cases t) made f c = one_made made.constants f c
shapes_have Implication made f c = one_made made.constants f c
shapes_have Conjunction made f c = absurd (contains_none f c)
shapes_have Contradiction made f c = one_made made.constants f c
shapes_have (Induction n) made f c = absurd (contains_none f c)
shapes_have Partition made f c = absurd (contains_none f c)

pub shared_have : (method : Method) (made : Plan) (xs : List SupposingBox) (f : PlainOperator)
    → map shape_of xs ≡ shared_shapes method made → Contains (made_in xs) f → Contains made.constants f
shared_have method made xs f e c =
    shapes_have method made f
    (subst (λ hs. Contains (flat_map (λ (h : Shape). h.constants) hs) f) e (subst (λ fs. Contains fs f)
    (shapes_made xs) c))

none_own : (b : Builder) → AreOwn b []
none_own b = record {
  constants = All-nil (λ (f : PlainOperator). f.domain ≡ []);
  different = λ i j d l m. absurd (omega (arith, m));
  outer = All-nil (λ f. constant_of (boxes_in b) f ≡ None);
}

shapes_own : (b : Builder) (method : Method) (made : Plan) → AreOwn b made.constants
    → AreOwn b (flat_map (λ (h : Shape). h.constants) (shared_shapes method made))
shapes_own b (Cases t) made h = subst (AreOwn b) (sym (append-nil made.constants)) h
shapes_own b Implication made h = subst (AreOwn b) (sym (append-nil made.constants)) h
shapes_own b Conjunction made h = none_own b
shapes_own b Contradiction made h = subst (AreOwn b) (sym (append-nil made.constants)) h
shapes_own b (Induction n) made h = none_own b
shapes_own b Partition made h = none_own b

pub shared_are_own : (b : Builder) (r : Running) → map shape_of r.shared ≡ shared_shapes r.method r.plan
    → AreOwn b r.plan.constants → AreOwn b (made_in r.shared)
shared_are_own b r e h =
    subst (AreOwn b) (sym (shapes_made r.shared ∙ ap (flat_map (λ (x : Shape). x.constants)) e))
    (shapes_own b r.method r.plan h)

-- ---- what a plan makes

abbrev NamesDiffer : PlainOperator → PlainOperator → Type 0
NamesDiffer f g = f.name ≢ g.name

abbrev own_of : Plan → List PlainOperator
own_of made = flat_map (λ (s : Subgoal). s.constants) made.subgoals

pub subgoal_constant : (made : Plan) (g : Subgoal) (f : PlainOperator) → Contains made.subgoals g
    → Contains g.constants f
    → Contains (all_constants made) f
subgoal_constant made g f c d =
    contains_right made.constants (own_of made) f
    (contains_flat_map (λ (s : Subgoal). s.constants) made.subgoals g f c d)

-- it is none of the block's constants
not_of_block : (p : Proof) (method : Method) (made : Plan) (f : PlainOperator)
    → plan (setting_of p) p.current.goal method ≡ Ok made → Contains (all_constants made) f → Contains p.constants f → ⊥
not_of_block p method made f e c d =
    All-contains (λ (k : PlainOperator). (n : List ℕ) → Contains (taken_names p) n → name_bytes k.name ≢ n)
    (all_constants made) f (plan_names_free (setting_of p) p.current.goal method made e) c (name_bytes f.name)
    (own_taken p f (contains_right p.theory.operators p.constants f d)) refl

pub plan_parts_new : (p : Proof) (method : Method) (made : Plan) → AreNew p.theory p.constants
    → plan (setting_of p) p.current.goal method ≡ Ok made → AreNew p.theory (p.constants ++ all_constants made)
plan_parts_new p method made n e =
    grown_new p.theory p.constants (all_constants made) (taken_names p) (own_taken p)
    (plan_new (setting_of p) p.current.goal method made e) n

-- with lemmas the theory has the same operators
pub with_lemmas_new : (p : Proof) (cs : List PlainOperator) → AreNew p.theory cs → AreNew (theory_for p) cs
with_lemmas_new p cs h = record { names = h.names; different = h.different }

without_lemmas_new : (p : Proof) (cs : List PlainOperator) → AreNew (theory_for p) cs → AreNew p.theory cs
without_lemmas_new p cs h = record { names = h.names; different = h.different }

-- what is new is not the theory's, and not built in
pub new_are_others : (t : Theory) (cs : List PlainOperator) → AreNew t cs → AreOthers t cs
new_are_others t cs h =
    all_from (λ c. IsKnown t.operators c → ⊥) cs (λ c i k.
    All-contains (λ (f : PlainOperator). IsNewName t f.name) cs c h.names i c k refl)

-- ---- where the method begins

open_of_block : (s : Statement) (b : Builder) (p : Proof) (ks : List Kept) (f : PlainOperator) → HoldsProof s b p ks
    → Contains (open_constants b) f → Contains p.constants f
open_of_block s b p ks f h c =
    All-contains (Contains p.constants) (made_in (all_boxes ks)) f h.levels.constants.among
    (subst (λ fs. Contains fs f) (open_made (theory_for p) s b ks h.levels.held) c)

pub shared_own : (s : Statement) (b : Builder) (p : Proof) (ks : List Kept) (method : Method) (made : Plan)
    → HoldsProof s b p ks → plan (setting_of p) p.current.goal method ≡ Ok made → AreOwn b made.constants
shared_own s b p ks method made h e =
    let all = all_constants made in
    let differ = plan_names_differ (setting_of p) p.current.goal method made e in
    let domains = plan_constants (setting_of p) p.current.goal method made e in
    record {
      constants = all_from (λ (f : PlainOperator). f.domain ≡ []) made.constants (λ f c.
          All-contains (λ (k : PlainOperator). k.domain ≡ []) all f domains
          (contains_left made.constants (own_of made) f c));
      different = λ m n f l k q.
          pairs_first NamesDiffer made.constants (own_of made) differ m n f l k (ap (λ (z : PlainOperator). z.name) q);
      outer = all_from (λ f. constant_of (boxes_in b) f ≡ None) made.constants (λ f c.
          not_constant (boxes_in b) f (λ o. not_of_block p method made f e (contains_left made.constants
          (own_of made) f c)
          (open_of_block s b p ks f h o)));
    }

-- the subgoals' own stand for none of an open box, the shared one included
pub subgoals_own : (s : Statement) (b c : Builder) (p : Proof) (ks : List Kept) (method : Method) (made : Plan)
    (shared : List SupposingBox) → HoldsProof s b p ks → plan (setting_of p) p.current.goal method ≡ Ok made
    → boxes_in c ≡ boxes_in b ++ map (λ x. x.box) shared → map shape_of shared ≡ shared_shapes method made
    → HasOwnConstants c made
subgoals_own s b c p ks method made shared h e x y =
    let differ = plan_names_differ (setting_of p) p.current.goal method made e in
    let domains = plan_constants (setting_of p) p.current.goal method made e in
    all_from (λ (g : Subgoal). AreOwn c g.constants) made.subgoals (λ g i. record {
      constants = all_from (λ (f : PlainOperator). f.domain ≡ []) g.constants (λ f d.
          All-contains (λ (k : PlainOperator). k.domain ≡ []) (all_constants made) f domains
          (subgoal_constant made g f i d));
      different = λ m n f l k q.
          pairs_within NamesDiffer made.subgoals g i (pairs_second NamesDiffer made.constants
          (own_of made) differ) m n f l k
          (ap (λ (z : PlainOperator). z.name) q);
      outer = all_from (λ f. constant_of (boxes_in c) f ≡ None) g.constants (λ f d.
          not_constant (boxes_in c) f (λ o. not_open f g i d (subst (λ fs. Contains fs f) opened o)));
    })
  where
    opened : open_constants c ≡ open_constants b ++ made_in shared
    opened =
        ap (flat_map (λ (z : OpenBox). z.constants)) x
        ∙ (boxes_append (boxes_in b) (map (λ (z : SupposingBox). z.box) shared)
        ∙ ap (λ fs. open_constants b ++ fs) (boxes_made shared))

    not_open : (f : PlainOperator) (g : Subgoal) → Contains made.subgoals g → Contains g.constants f
        → Contains (open_constants b ++ made_in shared) f → ⊥
    not_open f g i d o =
        elim (contains_either (open_constants b) (made_in shared) f o) [
          | inl old ↦
              not_of_block p method made f e (subgoal_constant made g f i d) (open_of_block s b p ks f h old)
          | inr new ↦
              pairs_across NamesDiffer made.constants (own_of made) f f
              (plan_names_differ (setting_of p) p.current.goal method made e)
              (shared_have method made shared f y new)
              (contains_flat_map (λ (z : Subgoal). z.constants) made.subgoals g f i d) refl
        ]

-- what a plan makes is neither the theory's nor built in
pub plan_others : (s : Statement) (b : Builder) (p : Proof) (ks : List Kept) (method : Method) (made : Plan)
    → HoldsProof s b p ks → plan (setting_of p) p.current.goal method ≡ Ok made
    → AreOthers (theory_in b) (all_constants made)
plan_others s b p ks method made h e =
    let t = theory_for p in
    let new = plan_parts_new p method made (without_lemmas_new p p.constants h.levels.constants.new) e in
    let others = new_are_others t (p.constants ++ all_constants made) (with_lemmas_new p _ new) in
    subst (λ u. AreOthers u (all_constants made)) (sym (boxes_held t s b ks h.levels.held).0)
    (all_from (λ c. IsKnown t.operators c → ⊥) (all_constants made) (λ c i.
    All-contains (λ c. IsKnown t.operators c → ⊥) (p.constants ++ all_constants made) c others
    (contains_right p.constants (all_constants made) c i)))

-- The box that a method's subgoals share, and what plans are made of.
use Rattle.std.specs.Prelude.{◌≡◌, ℕ, List, [], ◌∷◌, map, bytes_eq, find, Option, Some, None, Ok, option_map, Result}
use Rattle.std.specs.Prelude.{refl}
use Rattle.std.proofs.Common.{ap, subst, sym, ◌∙◌}
use Rattle.larch_base.specs.declared.code.Code.{Code}
use Rattle.larch_base.specs.declared.code.Code.TheVariants as refusal
use Rattle.larch_term.specs.BuiltIn.{bool_sort, built_in, is_built_in_as}
use Rattle.larch_term.specs.Equality.{same_operator}
use Rattle.larch_term.specs.Operator.{PlainOperator}
use Rattle.larch_term.specs.OperatorKey.{operator_Decides}
use Rattle.larch_term.specs.Sorts.{sort_of}
use Rattle.larch_term.specs.Tree.{Tree}
use Rattle.larch_term.specs.Variable.{variables_of}
use Rattle.larch_term.specs.declared.built_in.BuiltIn.TheVariants.{Equal, Implies}
use Rattle.larch_term.specs.declared.variable.Variable.{Variable}
use Rattle.larch_calculus.specs.Formula.{apply_two, implication}
use Rattle.larch_calculus.specs.Observation.{observations_of}
use Rattle.larch_derive.specs.Builder.{boxes_in}
use Rattle.larch_derive.specs.Predicates.{Grows}
use Rattle.larch_derive.specs.declared.builder.Builder.{Builder}
use Rattle.larch_derive.specs.declared.open_box.OpenBox.{OpenBox}
use Rattle.larch_derive.proofs.Growth.{grown_known, grows_alike}
use Rattle.larch_methods.specs.DeriveBoxesBoxes.{AreOwnConstants, Opens}
use Rattle.larch_methods.specs.ProveMeaningPlans.{Implication, Induction, Partition, Plan}
use Rattle.larch_methods.specs.ProveMeaningPlans.{Setting, found_or, generators}
use Rattle.larch_methods.specs.ProveMeaningPlans.{implication_of, induction_subgoals, observers}
use Rattle.larch_methods.specs.ProveMeaningPlans.{partition_subgoals, plan}
use Rattle.larch_methods.specs.ProveMeaningPlans.{taken_beside, two_arguments, with_found}
use Rattle.larch_methods.proofs.ProveMeaningCasePlans.{arguments_found}
use Rattle.larch_methods.specs.Methods.{IsKnownFormula}
use Rattle.larch_prove_invariant.specs.Book.{SupposingBox}
use Rattle.larch_prove_invariant.specs.Ending.{SharedBox}
use Rattle.larch_prove_invariant.specs.Holding.{AreOwn, Shape, Through, making, shape_of}

-- ---- the shared box

-- the box that a method's subgoals share was opened from outside, and the builder has grown since then
pub record IsShared (a b : Builder) (cs : List PlainOperator) (xs : List SupposingBox) : Type 0 where
  pub around : SharedBox a xs
  pub constants : around.supposing.box.constants ≡ cs
  pub opened : Builder
  pub opens : Opens around.outside opened around.supposing.box []
  pub grown : Grows opened b
  pub own : AreOwn around.outside cs

-- boxes of one shape are one
pub shapes_one : (xs : List SupposingBox) (h : Shape) → map shape_of xs ≡ h ∷ []
    → (x : SupposingBox) × ((xs ≡ x ∷ []) × (shape_of x ≡ h))
shapes_one [] h e = cc
shapes_one (x ∷ []) h e = (x, (refl, cc))
shapes_one (x ∷ y ∷ ys) h e = cc

pub shared_box : (a b : Builder) (cs : List PlainOperator) (xs : List SupposingBox) → map shape_of xs ≡ making cs ∷ []
    → AreOwn a cs → Through a xs b → IsShared a b cs xs
shared_box a b cs xs e own m =
    let s = shapes_one xs (making cs) e in
    let x = s.0 in
    let t = subst (λ ys. Through a ys b) s.1.0 m in
    record {
      around = record { outside = t.0; grows = t.1.1.0; supposing = x; is_shared = s.1.0 };
      constants = ap (λ (h : Shape). h.constants) s.1.1;
      opened = t.1.0;
      opens = subst (Opens t.0 t.1.0 x.box) (ap (λ (h : Shape). h.hypotheses) s.1.1) t.1.1.1.0;
      grown = t.1.1.1.1;
      own = subst (λ bs. AreOwnConstants bs (record { number = 0; constants = cs })) (sym (grows_alike a t.0 t.1.1.0).1)
          own;
    }

-- the box itself has its own constants
pub box_own : (a : Builder) (x : OpenBox) (cs : List PlainOperator) → x.constants ≡ cs → AreOwn a cs
    → AreOwnConstants (boxes_in a) x
box_own a x cs e h =
    let there = subst (λ ds. AreOwn a ds) (sym e) h in
    record { constants = there.constants; different = there.different; outer = there.outer }

pub formula_grows : (a b : Builder) (g : Tree) → Grows a b → IsKnownFormula a g → IsKnownFormula b g
formula_grows a b g w k = record { known = grown_known a b g w k.known; sort = k.sort }

-- where a method has no shared box, the builder has grown alone
-- boxes without a shape are none
pub no_shapes : (xs : List SupposingBox) → map shape_of xs ≡ [] → xs ≡ []
no_shapes [] e = refl
no_shapes (x ∷ xs) e = cc

-- ---- what plans are made of

implied_by : (taken : List (List ℕ)) (goal : Tree) (made : Plan) (o : Option (Tree × Tree))
    → two_arguments (same_operator (built_in Implies bool_sort)) goal ≡ o
    → found_or refusal.Shape (option_map (implication_of taken goal) o) ≡ Ok made
    → (p : Tree × Tree) × (goal ≡ implication p.0 p.1)
implied_by taken goal made None e h = cc
implied_by taken goal made (Some p) e h =
    let f = built_in Implies bool_sort in
    let a = arguments_found (same_operator f) goal p e in
    (p, a.1.1 ∙ ap (λ g. apply_two g p.0 p.1) (sym ((operator_Decides f a.0).0 a.1.0)))

pub is_implication : (setting : Setting) (goal : Tree) (made : Plan) → plan setting goal Implication ≡ Ok made
    → (p : Tree × Tree) × (goal ≡ implication p.0 p.1)
unfolding plan
is_implication setting goal made h =
    implied_by setting.taken goal made (two_arguments (same_operator (built_in Implies bool_sort)) goal) refl h

-- the variable of an induction, and the generators of its sort
abbrev pub IsInductive : Setting → Tree → List ℕ → Type 0
IsInductive setting goal n =
    (v : Variable) × ((find (λ v. bytes_eq v.name n) (variables_of goal) ≡ Some v)
    × ((fs : List PlainOperator) × (generators v.sort setting.clauses ≡ Some fs)))

abbrev made_for : Setting → Tree → Variable → List PlainOperator → Result Plan Code
made_for setting goal x fs =
    Ok (record { constants = []; subgoals = induction_subgoals (taken_beside setting.taken goal) x goal fs })

generated_by : (setting : Setting) (goal : Tree) (x : Variable) (made : Plan) (o : Option (List PlainOperator))
    → generators x.sort setting.clauses ≡ o → with_found refusal.Generated o (made_for setting goal x) ≡ Ok made
    → (fs : List PlainOperator) × (generators x.sort setting.clauses ≡ Some fs)
generated_by setting goal x made None e h = cc
generated_by setting goal x made (Some fs) e h = (fs, e)

inductive_by : (setting : Setting) (goal : Tree) (n : List ℕ) (made : Plan) (o : Option Variable)
    → find (λ v. bytes_eq v.name n) (variables_of goal) ≡ o
    → with_found refusal.Variable o (λ x. with_found refusal.Generated (generators x.sort setting.clauses)
    (made_for setting goal x)) ≡ Ok made → IsInductive setting goal n
inductive_by setting goal n made None e h = cc
inductive_by setting goal n made (Some x) e h =
    (x, (e, generated_by setting goal x made (generators x.sort setting.clauses) refl h))

pub is_induction : (setting : Setting) (goal : Tree) (n : List ℕ) (made : Plan)
    → plan setting goal (Induction n) ≡ Ok made
    → IsInductive setting goal n
unfolding plan
is_induction setting goal n made h =
    inductive_by setting goal n made (find (λ v. bytes_eq v.name n) (variables_of goal)) refl h

-- the sides of an equality, and the observers of their sort
abbrev pub IsPartitioned : Setting → Tree → Type 0
IsPartitioned setting goal =
    (l : Tree) × ((r : Tree) × ((two_arguments (λ f. is_built_in_as f Equal) goal ≡ Some (l, r))
    × ((os : List PlainOperator) × (observers (sort_of l) setting.clauses ≡ Some os))))

abbrev made_of : Setting → Tree → Tree × Tree → List PlainOperator → Result Plan Code
made_of setting goal p os =
    Ok (record {
      constants = [];
      subgoals = partition_subgoals (taken_beside setting.taken goal) p.0 p.1 (observations_of (sort_of p.0) os);
    })

observed_by : (setting : Setting) (goal : Tree) (p : Tree × Tree) (made : Plan) (o : Option (List PlainOperator))
    → observers (sort_of p.0) setting.clauses ≡ o → with_found refusal.Partitioned o (made_of setting goal p) ≡ Ok made
    → (os : List PlainOperator) × (observers (sort_of p.0) setting.clauses ≡ Some os)
observed_by setting goal p made None e h = cc
observed_by setting goal p made (Some os) e h = (os, e)

partitioned_by : (setting : Setting) (goal : Tree) (made : Plan) (o : Option (Tree × Tree))
    → two_arguments (λ f. is_built_in_as f Equal) goal ≡ o
    → with_found refusal.Shape o (λ p. with_found refusal.Partitioned (observers (sort_of p.0) setting.clauses)
    (made_of setting goal p)) ≡ Ok made → IsPartitioned setting goal
partitioned_by setting goal made None e h = cc
partitioned_by setting goal made (Some (l, r)) e h =
    (l, (r, (e, observed_by setting goal (l, r) made (observers (sort_of l) setting.clauses) refl h)))

pub is_partition : (setting : Setting) (goal : Tree) (made : Plan) → plan setting goal Partition ≡ Ok made
    → IsPartitioned setting goal
unfolding plan
is_partition setting goal made h =
    partitioned_by setting goal made (two_arguments (λ f. is_built_in_as f Equal) goal) refl h

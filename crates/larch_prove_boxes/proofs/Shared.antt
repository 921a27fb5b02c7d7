-- The box that all subgoals of a plan share.
use Rattle.std.specs.Prelude.{◌≡◌, List, [], ◌∷◌, map, All, Ok, refl}
use Rattle.std.proofs.Common.{ap, sym, ◌∙◌}
use Rattle.std.specs.List.{flat_map}
use Rattle.std.proofs.lemmas.List.Elements.{All-contains}
use Rattle.larch_base.proofs.Lists.{all_from}
use Rattle.larch_base.proofs.Members.{contains_left}
use Rattle.larch_term.specs.Operator.{PlainOperator}
use Rattle.larch_term.specs.Sorts.{IsKnown}
use Rattle.larch_term.specs.declared.statement.Statement.{Statement}
use Rattle.larch_derive.specs.Builder.{theory_in}
use Rattle.larch_derive.specs.Words.{IsWordedOperator}
use Rattle.larch_derive.specs.declared.builder.Builder.{Builder}
use Rattle.larch_derive.specs.declared.open_box.OpenBox.{OpenBox}
use Rattle.larch_derive.proofs.Growth.{grows_same}
use Rattle.larch_prove_invariant.specs.DeriveBoxesBoxes.{Opens}
use Rattle.larch_prove_invariant.specs.MethodsOpening.{MayOpen}
use Rattle.larch_prove_invariant.proofs.MethodsOpened.{may_open_bare}
use Rattle.larch_prove_invariant.specs.ProveMeaningLevels.{Proof, all_constants}
use Rattle.larch_prove_invariant.specs.ProveMeaningPlans.{Method, Plan, Subgoal, plan}
use Rattle.larch_prove_invariant.specs.ProveMeaningSteps.{setting_of}
use Rattle.larch_prove_invariant.specs.ProveMeaningWellSorted.{IsWellSortedProof}
use Rattle.larch_prove_invariant.specs.Book.{Kept, SupposingBox}
use Rattle.larch_prove_invariant.specs.Holding.{HoldsProof, IsKnownFor, Through, making, shape_of, shared_shapes}
use Rattle.larch_prove_invariant.specs.Holding.{theory_for}
use Rattle.larch_prove_invariant.proofs.Held.{holding_stands}
use Rattle.larch_prove_invariant.proofs.Own.{plan_others}
use Rattle.larch_prove_invariant.proofs.Planned.{made_worded}
use Rattle.larch_prove_boxes.specs.BoxLists.{boxes_with}
use Rattle.larch_prove_boxes.specs.Extras.{bare_box}
use Rattle.larch_prove_boxes.proofs.Extras.{through_one}

-- what holds of all that a plan makes holds of the shared constants
shared_of : (P : PlainOperator → Type 0) (made : Plan) → All P (all_constants made) → All P made.constants
shared_of P made h =
    all_from P made.constants (λ f i.
    All-contains P (all_constants made) f h
    (contains_left made.constants (flat_map (λ (g : Subgoal). g.constants) made.subgoals) f i))

-- the shared constants of a plan may have a box
may_share : (s : Statement) (b : Builder) (p : Proof) (k : Kept) (ks : List Kept) (method : Method) (made : Plan)
    → HoldsProof s b p (k ∷ ks) → IsWellSortedProof p → IsKnownFor b method
    → plan (setting_of p) p.current.goal method ≡ Ok made → MayOpen b made.constants []
may_share s b p k ks method made h w known e =
    may_open_bare b made.constants (holding_stands (theory_for p) s b (k ∷ ks) h.levels.held)
    (shared_of (λ c. IsKnown (theory_in b).operators c → ⊥) made (plan_others s b p (k ∷ ks) method made h e))
    (shared_of IsWordedOperator made (made_worded s b p k ks method made h w known e))

-- the box is open with the shape that the method wants
pub shared_open : (s : Statement) (b c : Builder) (p : Proof) (k : Kept) (ks : List Kept) (method : Method)
    (made : Plan) (x : OpenBox) → HoldsProof s b p (k ∷ ks) → IsWellSortedProof p → IsKnownFor b method
    → plan (setting_of p) p.current.goal method ≡ Ok made → shared_shapes method made ≡ making made.constants ∷ []
    → x.constants ≡ made.constants → (MayOpen b made.constants [] → Opens b c x [])
    → (xs : List SupposingBox) × ((boxes_with xs ≡ x ∷ [])
    × ((map shape_of xs ≡ shared_shapes method made) × Through b xs c))
shared_open s b c p k ks method made x h w known e shapes own o = (
  bare_box x ∷ [],
  (
    refl,
    (
      ap (λ cs. making cs ∷ []) own ∙ sym shapes,
      through_one b c (bare_box x) (o (may_share s b p k ks method made h w known e)),
    ),
  ),
)

-- no box is opened where the method wants none
pub nothing_open : (b : Builder) (method : Method) (made : Plan) → shared_shapes method made ≡ []
    → (xs : List SupposingBox) × ((boxes_with xs ≡ []) × ((map shape_of xs ≡ shared_shapes method made)
    × Through b xs b))
nothing_open b method made shapes = ([], (refl, (sym shapes, grows_same b b refl)))

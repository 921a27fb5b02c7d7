use Rattle.std.specs.Prelude.{[], ◌∷◌, if◌then◌else◌}
use Rattle.std.proofs.Common.{ap, subst, ◌∙◌}
use Rattle.larch_prove_invariant.specs.DeriveBoxesBoxes.{Opens}
use Rattle.larch_prove_invariant.specs.MethodsOpening.{MayOpen}
use Rattle.larch_prove_invariant.specs.ProveMeaningPlans as defined
use Rattle.larch_prove_invariant.specs.Holding.{making, shared_shapes}
use Rattle.larch_prove_boxes.proofs.Shared.{nothing_open, shared_open}
use Rattle.larch_prove_boxes.proofs.sharing.open_shared.Goals as goal

pub returns-then-not-has_shared_box : goal.returns-then-not-has_shared_box
returns-then-not-has_shared_box c = record {
  opens = λ s p k ks chosen made h w m known e q.
      nothing_open c.args.builder.now chosen made
      (ap (λ (d : defined.Method). shared_shapes d made) m ∙ (c.has_shared_box.ensures made
      ∙ ap (λ b. if b then making made.constants ∷ [] else []) c.if-not-has_shared_box.true));
}

pub returns : goal.returns
returns c = record {
  opens = λ s p k ks chosen made h w m known e q.
      let same = ap (λ r. r.constants) q in
      shared_open s c.args.builder.now c.open_constants.new.builder p k ks chosen made c.in_ok-opened.opened h w known e
      (ap (λ (d : defined.Method). shared_shapes d made) m ∙ (c.has_shared_box.ensures made
      ∙ ap (λ b. if b then making made.constants ∷ [] else []) c.if-not-has_shared_box.false))
      (c.in_ok-opened.ensures.constants ∙ same)
      (subst
      (λ cs. MayOpen c.args.builder.now cs []
      → Opens c.args.builder.now c.open_constants.new.builder c.in_ok-opened.opened []) same
      c.in_ok-opened.ensures.opens);
}

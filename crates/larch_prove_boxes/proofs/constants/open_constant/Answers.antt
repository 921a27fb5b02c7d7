use Rattle.std.specs.Prelude.{◌≡◌, [], ◌∷◌}
use Rattle.std.proofs.Common.{subst, ◌∙◌}
use Rattle.larch_prove_invariant.specs.DeriveBoxesBoxes.{Opens}
use Rattle.larch_prove_invariant.specs.MethodsOpening.{MayOpen}
use Rattle.larch_prove_boxes.proofs.Extras.{OpensOneMore, constant_open, if_both}
use Rattle.larch_prove_boxes.proofs.constants.open_constant.Goals as goal

pub returns-clause-constants : goal.returns-clause-constants
returns-clause-constants c =
    let fs = c.in_ok-constants.constants in
    if_both (λ x. x.constants ≡ fs) (λ x. x.constants ≡ fs) (λ x. x.constants ≡ c.args.constant.now ∷ [])
    c.open_constants.result (λ x e d. e ∙ c.in_ok-constants.ensures) c.open_constants.ensures.constants
    c.open_constants.ensures.constants

pub returns-clause-holds : goal.returns-clause-holds
returns-clause-holds c =
    let b = c.args.builder.now in
    let d = c.open_constants.new.builder in
    let f = c.args.constant.now in
    let fs = c.in_ok-constants.constants in
    if_both (λ x. x.constants ≡ fs) (λ x. MayOpen b fs [] → Opens b d x []) (OpensOneMore b d f)
    c.open_constants.result
    (λ x e o t s cs levels k ks idle i out h.
    constant_open t s b d cs levels k ks f x (e ∙ c.in_ok-constants.ensures)
    (subst (λ gs. MayOpen b gs [] → Opens b d x []) c.in_ok-constants.ensures o) idle i out h)
    c.open_constants.ensures.constants c.open_constants.ensures.opens

-- What refusals tell, step by step.
use Rattle.std.specs.Prelude.{◌≡◌, Result, Ok}
use Rattle.std.proofs.Common.{ap, subst, sym}
use Rattle.larch_base.specs.declared.code.Code.{Code}
use Rattle.larch_prove_adding.specs.Turns.{Tells}
use Rattle.larch_prove_levels.specs.Supposing.{TellsCode}
use Rattle.larch_prove_boxes.specs.ProveMeaningLevels.{work_result}
use Rattle.larch_prove_adding.specs.RewriteRefusalRewriteRefusal.{RewriteRefusal}
use Rattle.larch_prove_adding.specs.RewriteRefusalRewriteRefusal.TheVariants.{Limit, TooLarge, Memory}
use Rattle.larch_prove_adding.specs.RewriteMeaningWork.{Work}
use Rattle.larch_base_meaning.specs.Steps.{after}

-- the event in which work ends is the code of the step
pub tells_code : {A : Type 0} (w : Work A) (r : RewriteRefusal) → Tells w r → TellsCode (work_result w) r
tells_code w Limit h = ap work_result h
tells_code w TooLarge h = ap work_result h
tells_code w Memory h = tt

-- a step's refusal is that of what goes on behind it
pub tells_first : {A B : Type 0} (a : Result A Code) (f : A → Result B Code) (r : RewriteRefusal) → TellsCode a r
    → TellsCode (after a f) r
tells_first a f Limit h = ap (λ x. after x f) h
tells_first a f TooLarge h = ap (λ x. after x f) h
tells_first a f Memory h = tt

-- and that of what goes on is the whole's
pub tells_next : {A B : Type 0} (a : Result A Code) (x : A) (f : A → Result B Code) (r : RewriteRefusal) → a ≡ Ok x
    → TellsCode (f x) r → TellsCode (after a f) r
tells_next a x f r e h = subst (λ y. TellsCode (after y f) r) (sym e) h

pub tells_same : {A : Type 0} (a b : Result A Code) (r : RewriteRefusal) → a ≡ b → TellsCode b r → TellsCode a r
tells_same a b r e h = subst (λ y. TellsCode y r) (sym e) h

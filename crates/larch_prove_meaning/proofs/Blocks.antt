-- Blocks in parts.
use Rattle.std.specs.Prelude.{◌≡◌, List, [], ◌∷◌, ◌++◌, Result, Ok, Err, refl}
use Rattle.std.proofs.Common.{◌∙◌, sym}
use Rattle.larch_base_meaning.specs.Steps.{after}
use Rattle.larch_script_commands.specs.declared.command.CommandKind.{CommandKind}
use Rattle.larch_prove_meaning.specs.Levels.{Proof}
use Rattle.larch_prove_meaning.specs.Replays.{all_stepped, step_command}

after_after : {A B C E : Type 0} (r : Result A E) (f : A → Result B E) (g : B → Result C E)
    → after (after r f) g ≡ after r (λ x. after (f x) g)
after_after (Ok x) f g = refl
after_after (Err e) f g = refl

after_same : {A B E : Type 0} (r : Result A E) (f g : A → Result B E) → ((x : A) → f x ≡ g x) → after r f ≡ after r g
after_same (Ok x) f g e = e x
after_same (Err y) f g e = refl

-- a block in two parts
pub stepped_in_parts : (cs ds : List CommandKind) (p : Proof)
    → all_stepped (cs ++ ds) p ≡ after (all_stepped cs p) (λ q. all_stepped ds q)
stepped_in_parts [] ds p = refl
stepped_in_parts (c ∷ cs) ds p =
    after_same (step_command c p) (λ q. all_stepped (cs ++ ds) q)
    (λ q. after (all_stepped cs q) (λ r. all_stepped ds r))
    (λ q. stepped_in_parts cs ds q)
    ∙ sym (after_after (step_command c p) (λ q. all_stepped cs q) (λ q. all_stepped ds q))

-- What boxes make, and what is open inside of them.
use Rattle.std.specs.Prelude.{◌≡◌, List, [], ◌∷◌, ◌++◌, map, refl}
use Rattle.std.specs.List.{flat_map}
use Rattle.std.proofs.Common.{ap, sym, ◌∙◌}
use Rattle.std.proofs.lemmas.List.{append_assoc}
use Rattle.larch_derive.specs.Builder.{boxes_in}
use Rattle.larch_derive.specs.declared.builder.Builder.{Builder}
use Rattle.larch_derive.specs.declared.open_box.OpenBox.{OpenBox}
use Rattle.larch_prove_invariant.specs.Book.{SupposingBox, made_in}
use Rattle.larch_prove_invariant.specs.Holding.{Through, open_constants}
use Rattle.larch_prove_invariant.proofs.Boxes.{through_boxes}

pub made_append : (xs ys : List SupposingBox) → made_in (xs ++ ys) ≡ made_in xs ++ made_in ys
made_append [] ys = refl
made_append (x ∷ xs) ys =
    ap (λ fs. x.box.constants ++ fs) (made_append xs ys) ∙ sym (append_assoc x.box.constants (made_in xs) (made_in ys))

pub boxes_append : (bs cs : List OpenBox)
    → flat_map (λ (y : OpenBox). y.constants) (bs ++ cs)
    ≡ flat_map (λ (y : OpenBox). y.constants) bs ++ flat_map (λ (y : OpenBox). y.constants) cs
boxes_append [] cs = refl
boxes_append (b ∷ bs) cs =
    let made = flat_map (λ (y : OpenBox). y.constants) in
    ap (λ fs. b.constants ++ fs) (boxes_append bs cs) ∙ sym (append_assoc b.constants (made bs) (made cs))

pub boxes_made : (xs : List SupposingBox)
    → flat_map (λ (y : OpenBox). y.constants) (map (λ (x : SupposingBox). x.box) xs) ≡ made_in xs
boxes_made [] = refl
boxes_made (x ∷ xs) = ap (λ fs. x.box.constants ++ fs) (boxes_made xs)

-- what is open inside of boxes
pub open_inside : (a b : Builder) (xs : List SupposingBox) → Through a xs b
    → open_constants b ≡ open_constants a ++ made_in xs
open_inside a b xs t =
    ap (flat_map (λ (z : OpenBox). z.constants)) (through_boxes a b xs t).1
    ∙ (boxes_append (boxes_in a) (map (λ (z : SupposingBox). z.box) xs)
    ∙ ap (λ fs. open_constants a ++ fs) (boxes_made xs))

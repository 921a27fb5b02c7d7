use Rattle.std.specs.Prelude.{◌≡◌}
use Rattle.std.specs.List.{AllZip}
use Rattle.std.proofs.Common.{take}
use Rattle.larch_derive.specs.Predicates.{Extends, HasStatement}
use Rattle.larch_derive.specs.declared.open_box.OpenBox.{OpenBox}
use Rattle.larch_prove_invariant.specs.DeriveBoxesBoxes.{IsOpen}
use Rattle.larch_prove_boxes.proofs.entering.push_hypotheses.Given as goal

-- lines say the hypotheses so far
abbrev pub invariant-loop-index : goal.invariant-loop-index
invariant-loop-index l =
    (x : OpenBox) → x.number ≡ l.number → IsOpen l.initial.builder x l.hypotheses
    → Extends l.initial.builder l.builder
    × AllZip (λ s n. HasStatement l.builder n s) (take l.index l.hypotheses) l.lines

-- How the lowest level begins.
use Rattle.std.specs.Prelude.{◌≡◌, ℕ, List}
use Rattle.std.specs.List.{AllZip, flat_map}
use Rattle.larch_term.specs.declared.statement.Statement.{Statement}
use Rattle.larch_derive.specs.Predicates.{HasEquation, HasStatement}
use Rattle.larch_derive.specs.declared.builder.Builder.{Builder}
use Rattle.larch_prove_boxes.specs.BoxLists.{box_list, boxes_with}
use Rattle.larch_prove_boxes.specs.declared.beginning.Beginning.{Beginning}
use Rattle.larch_prove_invariant.specs.Book.{Book, SupposingBox}
use Rattle.larch_prove_invariant.specs.Holding.{Begins, Through}

-- lines say statements, one by one
abbrev pub AreSaidBy : Builder → List Statement → List ℕ → Type 0
AreSaidBy b hs ns = AllZip (λ h n. HasStatement b n h) hs ns

-- The level begins so for a statement: its box, if it has one, was opened, and lines say the hypotheses of that in
-- order; a level with this box and this first goal is one for the statement; and a line says that the goal equals
-- itself.
pub record IsBegun (a b : Builder) (s : Statement) (m : Beginning) : Type 0 where
  pub boxes : List SupposingBox
  pub boxes_are : boxes_with boxes ≡ box_list m.entrance
  pub through : Through a boxes b
  pub begins : (k : Book) → k.first ≡ m.first → k.entrance ≡ boxes → Begins s k
  pub hypotheses : AreSaidBy b (flat_map (λ x. x.hypotheses) boxes) m.hypotheses
  pub way : HasEquation b m.way m.first m.first

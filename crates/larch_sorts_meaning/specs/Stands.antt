-- Where a fault of an equation or a lone term stands, in terms of readings.
use Rattle.std.specs.Prelude.{All, List, None, Some, ◌++◌, ◌∷◌, ◌≡◌, ◌⊎◌}
use Rattle.larch_base.specs.declared.code.Code.TheVariants.{Ambiguous, NoReading, UnknownSort}
use Rattle.larch_base.specs.declared.fault.Fault.{Fault}
use Rattle.larch_base.specs.declared.position.Pos.{Pos}
use Rattle.larch_raw.specs.RawTree.{RawTree}
use Rattle.larch_raw.specs.declared.equation.RawEquation.{RawEquation}
use Rattle.larch_term.specs.Operator.{PlainOperator}
use Rattle.larch_term.specs.Tree.{Tree}
use Rattle.larch_sorts_meaning.specs.Faults.{fault}
use Rattle.larch_sorts_meaning.specs.Parts.{equation_head, head_of, in_sides, parts, sides}
use Rattle.larch_sorts_meaning.specs.Readings.{AreSeveral, IsNone, Reads}
use Rattle.larch_sorts_meaning.specs.Scope.{Variables}
use Rattle.larch_sorts_meaning.specs.Unknown.{unknown_sort}

-- a term has a reading
abbrev pub HasReading : List PlainOperator → Variables → RawTree → Type 0
HasReading fs vs raw = (t : Tree) × Reads fs vs raw t

-- the head token of the first of these terms that has no reading stands here
abbrev pub FirstUnread : List PlainOperator → Variables → List RawTree → Pos → Type 0
FirstUnread fs vs raws pos = (before after : List RawTree) × (raw : RawTree)
    × (raws ≡ before ++ raw ∷ after) × All (HasReading fs vs) before × IsNone (Reads fs vs raw) × (pos ≡ head_of raw)

-- NO-READING stands here: at the first part that has no reading, where the equation itself is the last part
abbrev pub NoReadingStands : {A : Type 0} → List PlainOperator → Variables → RawEquation → (A → Type 0) → Pos → Type 0
NoReadingStands fs vs raw P pos =
    FirstUnread fs vs (in_sides parts (sides raw)) pos
    ⊎ (All (HasReading fs vs) (in_sides parts (sides raw)) × IsNone P × (pos ≡ equation_head raw raw.right))

-- this fault of an equation stands, where the equation reads as what has this property
pub data Stands {A : Type 0} (fs : List PlainOperator) (vs : Variables) (raw : RawEquation) (P : A → Type 0)
    : Fault → Type 0 where
  -- at the first sort of a qualification that doesn't exist
  unknown_stands : {pos : Pos} → unknown_sort fs raw ≡ Some pos → Stands fs vs raw P (fault UnknownSort pos)
  -- at the first part that has no reading
  unread_stands : {pos : Pos} → unknown_sort fs raw ≡ None → NoReadingStands fs vs raw P pos
      → Stands fs vs raw P (fault NoReading pos)
  -- at the first token of what has several readings
  several_stand : {pos : Pos} → unknown_sort fs raw ≡ None → AreSeveral P → pos ≡ raw.first
      → Stands fs vs raw P (fault Ambiguous pos)

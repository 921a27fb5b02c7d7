-- Boxes for constants whose own box isn't open.
use Rattle.std.specs.Prelude.{◌≡◌, List, [], ◌∷◌, ◌++◌, map, Contains}
use Rattle.larch_term.specs.Operator.{PlainOperator}
use Rattle.larch_derive.specs.declared.open_box.OpenBox.{OpenBox}
use Rattle.larch_prove_invariant.specs.Book.{Kept, SupposingBox}

-- a box that supposes nothing
abbrev pub bare_box : OpenBox → SupposingBox
bare_box x = record { box = x; hypotheses = [] }

abbrev pub bare_boxes : List OpenBox → List SupposingBox
bare_boxes xs = map bare_box xs

-- the level with further boxes for constants
abbrev pub with_extras : List SupposingBox → Kept → Kept
with_extras xs k = record k { book = record k.book { extras = k.book.extras ++ xs } }

-- each box makes one constant, and these are the constants in order
abbrev pub MakeEach : List OpenBox → List PlainOperator → Type 0
MakeEach xs fs = map (λ x. x.constants) xs ≡ map (λ f. f ∷ []) fs

-- boxes may be opened for these in turn: each is a constant of the block, and neither open nor among those before it
abbrev pub AreToOpen : List PlainOperator → List PlainOperator → List PlainOperator → Type 0
AreToOpen block opened fs = (before : List PlainOperator) (f : PlainOperator) (behind : List PlainOperator)
    → fs ≡ before ++ f ∷ behind → Contains block f × (Contains (opened ++ before) f → ⊥)

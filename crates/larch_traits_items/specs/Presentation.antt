-- What a trait by itself presents.
use Rattle.std.specs.Prelude.{Result, Ok}
use Rattle.larch_base.specs.declared.fault.Fault.{Fault}
use Rattle.larch_raw.specs.declared.equation.RawTrait.{RawTrait}
use Rattle.larch_term.specs.declared.statement.Theory.{Theory}
use Rattle.larch_traits_items.specs.Declarations.{declared_operators}
use Rattle.larch_traits_items.specs.Items.{items_state}
use Rattle.larch_base_meaning.specs.Steps.{after}

-- the operators of a trait and what it states, or what is wrong with it first: declarations come before items
abbrev pub presentation_of : RawTrait → Result Theory Fault
presentation_of raw =
    after (declared_operators raw.declarations) (λ fs.
    after (items_state fs raw.items) (λ ss. Ok (record { operators = fs; statements = ss })))

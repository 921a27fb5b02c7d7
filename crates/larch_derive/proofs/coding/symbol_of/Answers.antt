use Rattle.std.proofs.Common.{sym}
use Rattle.larch_derive.proofs.Codes.{own_symbol, no_symbol}
use Rattle.larch_derive.proofs.coding.symbol_of.Goals as goal

pub returns-in-Some-place_of-clause-name : goal.returns-in-Some-place_of-clause-name
returns-in-Some-place_of-clause-name c =
    own_symbol c.args.boxes.now c.args.theory.now.operators c.args.operator.now c.in-Some-place_of.place
    (sym c.in_default.ensures)
    c.in_default-built_in_of.ensures.none (sym c.in-Some-place_of.ensures)

pub returns-in-None-clause-name : goal.returns-in-None-clause-name
returns-in-None-clause-name c =
    no_symbol c.args.boxes.now c.args.theory.now.operators c.args.operator.now 0 (sym c.in_default.ensures)
    c.in_default-built_in_of.ensures.none (sym c.in-None.ensures)

-- What a shorthand stands for.
use Rattle.std.specs.Prelude.{◌++◌}
use Rattle.larch_shorthand.specs.declared.expansion.Expansion.{Expansion}

-- one expansion behind another
abbrev pub followed_by : Expansion → Expansion → Expansion
followed_by a b = record { operators = a.operators ++ b.operators; statements = a.statements ++ b.statements }

-- What operators make of arguments, as contracts see what is made ready for them.
use Rattle.std.specs.Prelude.{ℕ, suc, min, ◌+◌, ◌*◌, List, [], ◌∷◌, get_or, if◌then◌else◌}
use Rattle.larch_term.specs.Operator.{PlainOperator}
use Rattle.larch_term.specs.OperatorKey.{same_operator}
use Rattle.larch_models_meaning.specs.declared.finite_model.FiniteModel.{FiniteModel}
use Rattle.larch_models_meaning.specs.declared.finite_model.OperatorTable.{OperatorTable}
use Rattle.larch_models_meaning.specs.FiniteModel.{last_in, value_among}
use Rattle.larch_models_meaning.specs.Interpretation.{meaning}
use Rattle.larch_models.specs.declared.maker.Maker.{Maker}
use Rattle.larch_models.specs.declared.maker.Maker.TheVariants.{Meaning, Table as Values}

-- the place of arguments behind so many lists of earlier ones, by the last value of each argument
abbrev pub place_by : List ℕ → ℕ → List ℕ → ℕ
place_by [] k vs = k
place_by (n ∷ ns) k [] = k
place_by (n ∷ ns) k (v ∷ vs) = place_by ns (k * suc n + v) vs

-- what is made of arguments
abbrev pub made_by : Maker → List ℕ → ℕ
made_by (Meaning b) vs = meaning b vs
made_by (Values t) vs = min t.last (get_or t.values.now (place_by t.lasts 0 vs) 0)

-- the values in the first table of an operator
abbrev pub values_for : List OperatorTable → PlainOperator → List ℕ
values_for [] f = []
values_for (t ∷ ts) f = if same_operator t.operator f then t.values else values_for ts f

-- what the first table of an operator has, or the last value of the range where that is less
abbrev pub made_by_table : FiniteModel → PlainOperator → List ℕ → ℕ
made_by_table m f vs = min (last_in m f.range) (value_among (last_in m) m.tables f vs)

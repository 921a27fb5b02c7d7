-- Hypotheses with the lines that say them.
use Rattle.std.specs.Prelude.{ℕ, List, [], ◌∷◌, ◌++◌}
use Rattle.larch_prove_opening.specs.ProveAddingEquationSaidEquation.{SaidEquation}
use Rattle.larch_term.specs.declared.statement.Statement.{Statement}
use Rattle.larch_term.specs.declared.statement.Statement.TheVariants.{Equation, Generated, Partitioned}

-- an equation with its line; a clause is none
abbrev pub said_by : Statement → ℕ → List SaidEquation
said_by (Equation l r) n = record { left = l; right = r; line = n } ∷ []
said_by (Generated s fs) n = []
said_by (Partitioned s os) n = []

-- the equations among hypotheses, each with its line
abbrev pub all_said : List Statement → List ℕ → List SaidEquation
all_said [] ns = []
all_said (h ∷ hs) [] = []
all_said (h ∷ hs) (n ∷ ns) = said_by h n ++ all_said hs ns

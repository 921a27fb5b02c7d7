-- Programs on a stack of values, and which of them compute the values of terms.
use Rattle.std.specs.Prelude.{◌≡◌, ℕ, suc, ◌-◌, ◌&&◌, List, [], ◌∷◌, ◌++◌, bytes_eq, drop, get_or, length, take}
use Rattle.std.specs.Prelude.{if◌then◌else◌, Option, None, Some}
use Rattle.larch_term.specs.Operator.{PlainOperator}
use Rattle.larch_term.specs.Tree.{Tree, Forest}
use Rattle.larch_term.specs.declared.variable.Variable.{Variable}
use Rattle.larch_models_meaning.specs.declared.finite_model.FiniteModel.{FiniteModel}
use Rattle.larch_models_meaning.specs.Computed.{update, zeros}
use Rattle.larch_models_meaning.specs.FiniteModel.{interpretation_of}
use Rattle.larch_models_meaning.specs.Interpretation.{Assignment, value_of, values_of}
use Rattle.larch_models.specs.Tables.{made_by}
use Rattle.larch_models.specs.declared.program.Instruction.{Instruction}
use Rattle.larch_models.specs.declared.program.Instruction.TheVariants.{Variable as Known, Apply}

-- the value at a place, or 0
abbrev pub value_at : List ℕ → Option ℕ → ℕ
value_at vs None = 0
value_at vs (Some k) = get_or vs k 0

-- what a step leaves on the stack
abbrev pub step : List ℕ → Instruction → List ℕ → List ℕ
step vs (Known k) st = st ++ value_at vs k ∷ []
step vs (Apply m n) st = take (length st - n) st ++ made_by m (drop (length st - n) st) ∷ []

-- what a program leaves on the stack
abbrev pub run : List Instruction → List ℕ → List ℕ → List ℕ
run [] vs st = st
run (i ∷ is) vs st = run is vs (step vs i st)

-- the value on top of a stack
abbrev pub top : List ℕ → ℕ
top st = get_or st (length st - 1) 0

-- the place of the last of these variables with a name and a sort, the first having a number, or else another place
abbrev pub place_among : ℕ → List Variable → List ℕ → List ℕ → Option ℕ → Option ℕ
place_among k [] n s o = o
place_among k (w ∷ ws) n s o =
    place_among (suc k) ws n s (if bytes_eq w.name n && bytes_eq w.sort s then Some k else o)

-- the assignment that has these values for variables, one after another, and is else another one
abbrev pub assignment_of : Assignment → List Variable → List ℕ → Assignment
assignment_of a [] vs = a
assignment_of a (w ∷ ws) [] = a
assignment_of a (w ∷ ws) (v ∷ vs) = assignment_of (update w.name w.sort v a) ws vs

-- wherever a program leaves something, the other one leaves further values behind it
abbrev pub Leaves : List Variable → List Instruction → List Instruction → (Assignment → List ℕ) → Type 0
Leaves ws old new further =
    (vs start st : List ℕ) → length vs ≡ length ws → run old vs start ≡ st
    → run new vs start ≡ st ++ further (assignment_of zeros ws vs)

-- what is added to a program computes the value of a term
abbrev pub Adds : FiniteModel → List Variable → List Instruction → List Instruction → Tree → Type 0
Adds m ws old new t = Leaves ws old new (λ a. value_of (interpretation_of m) a t ∷ [])

-- what is added to a program computes the values of terms
abbrev pub AddsAll : FiniteModel → List Variable → List Instruction → List Instruction → Forest → Type 0
AddsAll m ws old new ts = Leaves ws old new (λ a. values_of (interpretation_of m) a ts)

-- what is added to a program applies an operator to so many values
abbrev pub Applies : FiniteModel → PlainOperator → ℕ → List Instruction → List Instruction → Type 0
Applies m f n old new =
    (vs start st us : List ℕ) → length us ≡ n → run old vs start ≡ st ++ us
    → run new vs start ≡ st ++ (interpretation_of m).table f us ∷ []

-- the program computes the value of a term
abbrev pub Computes : FiniteModel → List Variable → List Instruction → Tree → Type 0
Computes m ws program t =
    (vs : List ℕ) → length vs ≡ length ws
    → top (run program vs []) ≡ value_of (interpretation_of m) (assignment_of zeros ws vs) t

-- Rules that take the equation of a line.
use Rattle.std.proofs.Common.{◌≡◌, ℕ, List, Option, Some, None, refl, sym, ◌∙◌, ap}
use Rattle.std.specs.Option.{option_and_then}
use Rattle.larch_term.specs.Operator.{PlainOperator}
use Rattle.larch_term.specs.declared.statement.Statement.{Statement}
use Rattle.larch_term.specs.declared.statement.Statement.TheVariants.{Equation, Generated, Partitioned}
use Rattle.larch_verify_meaning.specs.BoxRules.{equation_alone}

-- a rule that makes nothing of clauses
pub record OfEquations {X : Type 0} (f : Statement → Option X) : Type 0 where
  pub generated : (s : List ℕ) (fs : List PlainOperator) → f (Generated s fs) ≡ None
  pub partitioned : (s : List ℕ) (fs : List PlainOperator) → f (Partitioned s fs) ≡ None

pub alone_first : {X : Type 0} (f : Statement → Option X) → OfEquations f → (o : Option Statement)
    → option_and_then f (option_and_then equation_alone o) ≡ option_and_then f o
alone_first f h None = refl
alone_first f h (Some (Equation l r)) = refl
alone_first f h (Some (Generated s fs)) = sym (h.generated s fs)
alone_first f h (Some (Partitioned s fs)) = sym (h.partitioned s fs)

-- what a rule makes of the equation that was found
pub by_equation : {X : Type 0} (f : Statement → Option X) → OfEquations f
    → (o : Option Statement) (e : Statement) (r : Option X)
    → Some e ≡ option_and_then equation_alone o → r ≡ f e → r ≡ option_and_then f o
by_equation f h o e r i k = k ∙ ap (option_and_then f) i ∙ alone_first f h o

-- it makes nothing where there is none
pub by_nothing : {X : Type 0} (f : Statement → Option X) → OfEquations f → (o : Option Statement)
    → None ≡ option_and_then equation_alone o → None ≡ option_and_then f o
by_nothing f h o i = ap (option_and_then f) i ∙ alone_first f h o

-- Statements among the axioms of a builder, and what a refusal tells.
use Rattle.std.specs.Prelude.{◌≡◌, ◌+◌, ℕ, List, ◌∷◌, All, map, Some, Result, Err}
use Rattle.std.specs.List.{slice_get}
use Rattle.larch_base.specs.declared.code.Code.{Code}
use Rattle.larch_base.specs.declared.code.Code.TheVariants as code
use Rattle.larch_derive.specs.Builder.{theory_in}
use Rattle.larch_derive.specs.Predicates.{HasNoBadLine}
use Rattle.larch_derive.specs.declared.builder.Builder.{Builder}
use Rattle.larch_prove_adding.specs.ProveMeaningLevels.{EarlierDuty}
use Rattle.larch_prove_opening.specs.declared.opening.Lemma.{Lemma}
use Rattle.larch_prove_adding.specs.RewriteRefusalRewriteRefusal.{RewriteRefusal}
use Rattle.larch_prove_adding.specs.RewriteRefusalRewriteRefusal.TheVariants.{Limit, TooLarge, Memory}
use Rattle.larch_term.specs.Statement.{IsStatementOver, statement_zero}
use Rattle.larch_term.specs.declared.statement.Statement.{Statement}

-- lemmas as the earlier duties that they are
abbrev pub duties_of : List Lemma → List EarlierDuty
duties_of ls = map (λ l. record { number = l.number; statement = l.statement }) ls

-- what lemmas state
abbrev pub what_state : List EarlierDuty → List Statement
what_state ls = map (λ lemma. lemma.statement) ls

-- no line of the builder is bad, and its axiom with a number, counted from 0, is the statement, which is well sorted
pub record IsStated (b : Builder) (n : ℕ) (s : Statement) : Type 0 where
  pub stands : HasNoBadLine b
  pub is : slice_get (statement_zero ∷ (theory_in b).statements) n ≡ Some s
  pub sorted : IsStatementOver (theory_in b).operators s

-- its axioms from a number on are these statements
pub record AreStated (b : Builder) (n : ℕ) (ss : List Statement) : Type 0 where
  pub stands : HasNoBadLine b
  pub are : (i : ℕ) (s : Statement) → slice_get ss i ≡ Some s
      → slice_get (statement_zero ∷ (theory_in b).statements) (n + i) ≡ Some s
  pub sorted : All (IsStatementOver (theory_in b).operators) ss

-- a refusal tells the code with which a step is refused; out of memory it tells nothing
abbrev pub TellsCode : {A : Type 0} → Result A Code → RewriteRefusal → Type 0
TellsCode answer Limit = answer ≡ Err code.Limit
TellsCode answer TooLarge = answer ≡ Err code.Size
TellsCode answer Memory = Unit {0}

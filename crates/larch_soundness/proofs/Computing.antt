-- Computed truth is truth.
use Rattle.std.proofs.Common.{◌≡◌, ◌≤◌, ◌==◌, ◌||◌, not, ℕ, Bool, true, List, subst}
use Rattle.std.specs.List.{list_all}
use Rattle.std.proofs.lemmas.List.Elements.{All-contains}
use Rattle.larch_term.specs.Operator.{PlainOperator}
use Rattle.larch_term.specs.Sorts.{IsKnown}
use Rattle.larch_term.specs.Statement.{IsStatementOver, IsWellSortedTheory}
use Rattle.larch_term.specs.declared.statement.Statement.{Statement}
use Rattle.larch_term.specs.declared.statement.Statement.TheVariants.{Equation, Generated, Partitioned}
use Rattle.larch_term.specs.declared.statement.Theory.{Theory}
use Rattle.larch_calculus.specs.Observation.{Observation, observations_of}
use Rattle.larch_models_meaning.specs.Interpretation.{Interpretation, IsInterpretation}
use Rattle.larch_models_meaning.specs.Models.{with_value, ShowsSame, Holds, IsModel}
use Rattle.larch_models_meaning.specs.Computed.{all_up_to, shows_same, holds_partitioned, holds, all_hold}
use Rattle.larch_soundness.proofs.Assignments.{up_to_at, up_to_if, agree_so, agree_if}
use Rattle.larch_soundness.proofs.LeastSets.{arguments_at, arguments_if, all_at, all_if, implied_so, implied_if}
use Rattle.larch_soundness.proofs.LeastSets.{generated_so, generated_if}
use Rattle.larch_soundness.proofs.Values.{same_numbers, numbers_same, known_within}

-- an observer's value with this one at the place
abbrev seen : Interpretation → Observation → ℕ → List ℕ → ℕ
seen m w u vs = m.table w.observer (with_value w.place u 1 vs)

shows_so : (m : Interpretation) (u v : ℕ) (w : Observation) → shows_same m u v w ≡ true → ShowsSame m w u v
shows_so m u v w h vs i =
    same_numbers (seen m w u vs) (seen m w v vs)
    (arguments_at m.last w.observer.domain (λ vs. seen m w u vs == seen m w v vs) h vs i)

shows_if : (m : Interpretation) (u v : ℕ) (w : Observation) → ShowsSame m w u v → shows_same m u v w ≡ true
shows_if m u v w h =
    arguments_if m.last w.observer.domain (λ vs. seen m w u vs == seen m w v vs)
    (λ vs i. numbers_same (seen m w u vs) (seen m w v vs) (h vs i))

-- two values are equal if all observations show the same of them
abbrev told_apart : Interpretation → List ℕ → List PlainOperator → ℕ → ℕ → Bool
told_apart m s os u v = not (list_all (shows_same m u v) (observations_of s os)) || u == v

partitioned_so : (m : Interpretation) (s : List ℕ) (os : List PlainOperator) → holds_partitioned m s os ≡ true
    → Holds m (Partitioned s os)
partitioned_so m s os h u v lu lv k =
    let row = up_to_at (m.last s) (λ u. all_up_to (m.last s) (told_apart m s os u)) h u lu in
    same_numbers u v
    (implied_so (list_all (shows_same m u v) (observations_of s os)) (u == v)
    (up_to_at (m.last s) (told_apart m s os u) row v lv)
    (all_if (shows_same m u v) (observations_of s os) (λ w c. shows_if m u v w (k w c))))

partitioned_if : (m : Interpretation) (s : List ℕ) (os : List PlainOperator) → Holds m (Partitioned s os)
    → holds_partitioned m s os ≡ true
partitioned_if m s os h =
    up_to_if (m.last s) (λ u. all_up_to (m.last s) (told_apart m s os u)) (λ u lu.
    up_to_if (m.last s) (told_apart m s os u) (λ v lv.
    implied_if (list_all (shows_same m u v) (observations_of s os)) (u == v) (λ e.
    numbers_same u v (h u v lu lv (λ w c. shows_so m u v w (all_at (shows_same m u v) (observations_of s os) e w c))))))

pub holds_so : (m : Interpretation) (s : Statement) → holds m s ≡ true → Holds m s
holds_so m (Equation l r) h = agree_so m (λ a. a) (λ a b ws k. k) l r h
holds_so m (Generated s fs) h = generated_so m s fs h
holds_so m (Partitioned s os) h = partitioned_so m s os h

pub holds_if : {fs : List PlainOperator} {m : Interpretation} → IsInterpretation fs m → (s : Statement)
    → IsStatementOver fs s → Holds m s → holds m s ≡ true
holds_if {m = m} i (Equation l r) w h = agree_if m (λ a. a) l r h
holds_if {fs} {m} i (Generated s gs) w h =
    generated_if m s gs (λ f c vs v.
    let k = All-contains (λ g. IsKnown fs g × (g.range ≡ s)) gs f w c in
    subst (λ r. m.table f vs ≤ m.last r) k.1 (known_within i f k.0 vs v)) h
holds_if {m = m} i (Partitioned s os) w h = partitioned_if m s os h

pub model_so : {m : Interpretation} {t : Theory} → IsInterpretation t.operators m → all_hold m t ≡ true → IsModel m t
model_so {m} {t} i h =
    record { interpretation = i; statements = λ s c. holds_so m s (all_at (holds m) t.statements h s c) }

pub model_if : {m : Interpretation} {t : Theory} → IsWellSortedTheory t → IsModel m t → all_hold m t ≡ true
model_if {m} {t} w k =
    all_if (holds m) t.statements
    (λ s c. holds_if k.interpretation s (All-contains (IsStatementOver t.operators) t.statements s w c)
    (k.statements s c))

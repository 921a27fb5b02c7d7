-- Operators of clauses made ready.
use Rattle.std.proofs.Common.{◌≡◌, ◌<◌, ◌+◌, ℕ, List, [], ◌∷◌, ◌++◌, bytes_eq, get_or, length, take, refl}
use Rattle.std.proofs.Common.{sym, ◌∙◌, ap}
use Rattle.std.specs.Prelude.{map}
use Rattle.std.proofs.lemmas.List.{take_more}
use Rattle.larch_term.specs.Operator.{PlainOperator}
use Rattle.larch_models_meaning.specs.Interpretation.{Interpretation}
use Rattle.larch_models.specs.Tables.{made_by}
use Rattle.larch_models.specs.Clauses.{operation_at, plain_operation}
use Rattle.larch_models.specs.declared.operation.Operation.{Operation}

pub operation_is : (m : Interpretation) (s : List ℕ) (f : PlainOperator) (o : Operation)
    → o.lasts ≡ map m.last f.domain → o.own ≡ map (λ r. bytes_eq r s) f.domain → made_by o.maker ≡ m.table f
    → plain_operation o ≡ operation_at m s f
operation_is m s f o h k e = λ i. record { value = e i; lasts = h i; own = k i }

-- one operator more
pub operations_further : (m : Interpretation) (s : List ℕ) (fs : List PlainOperator) (os : List Operation) (i : ℕ)
    (f : PlainOperator) (o : Operation) → i < length fs → f ≡ get_or fs i f
    → map plain_operation os ≡ map (operation_at m s) (take i fs) → plain_operation o ≡ operation_at m s f
    → map plain_operation (os ++ o ∷ []) ≡ map (operation_at m s) (take (i + 1) fs)
operations_further m s fs os i f o l e h k =
    map-append plain_operation os (o ∷ []) ∙ ap (λ ps. ps ++ plain_operation o ∷ []) h
    ∙ ap (λ p. map (operation_at m s) (take i fs) ++ p ∷ []) k
    ∙ sym (map-append (operation_at m s) (take i fs) (f ∷ []))
    ∙ ap (map (operation_at m s)) (sym (take_more fs i f l ∙ ap (λ g. take i fs ++ g ∷ []) (sym e)))
  where
    map-append : {X Y : Type 0} (g : X → Y) (xs ys : List X) → map g (xs ++ ys) ≡ map g xs ++ map g ys
    map-append g [] ys = refl
    map-append g (x ∷ xs) ys = ap (λ zs. g x ∷ zs) (map-append g xs ys)

-- Operators, equations and variables by numbers while the pool grows.
use Rattle.std.proofs.Common.{◌≡◌, ℕ, ◌<◌, List, [], ◌∷◌, ◌++◌, length, map, slice_get, All, Some, refl, sym, ◌∙◌, ap}
use Rattle.std.proofs.Common.{subst, arith}
use Rattle.std.specs.Prelude.{reverse}
use Rattle.std.proofs.lemmas.Grind.{reverse_onto}
use Rattle.std.proofs.lemmas.List.{map_push}
use Rattle.std.proofs.lemmas.List.Elements.{All-head, All-tail, All-weaker}
use Rattle.std.proofs.lemmas.Option.{slice_get_within, get_or_from_slice_get}
use Rattle.larch_term.specs.Operator.{PlainOperator}
use Rattle.larch_term.specs.Tree.{Tree}
use Rattle.larch_verify_pool.specs.Pooled.{Pooled, operator_in, no_operator, tree_in, Grows}
use Rattle.larch_verify_pool.specs.Substitution.{IsVar, AreVariables, variable_of}
use Rattle.larch_verify_pool.proofs.Front.{front_at, front_get, front_within}
use Rattle.larch_verify_meaning.specs.Events.{Said, Opened, Closed}
use Rattle.larch_verify_history.specs.Past.{IsHappened, event_in, history_of}
use Rattle.larch_verify_history.specs.declared.event.KeptEvent.{KeptEvent}
use Rattle.larch_verify_history.specs.declared.event.KeptEvent.TheVariants.{Says, Opens, Closes}
use Rattle.larch_verify_history.specs.declared.past.KeptHistory.{KeptHistory}
use Rattle.larch_verify_history.proofs.Staying.{stated_same, box_same}
use Rattle.larch_verify_parts.proofs.Numbers.{within_later, tree_later}
use Rattle.larch_verify_clause_rules.specs.Observers.{IsObserver, variables_in}
use Rattle.larch_verify_clause_rules.specs.Operators.{IsKnown}
use Rattle.larch_verify_clause_rules.specs.declared.known.Known.{Known}
use Rattle.larch_verify_clause_rules.specs.declared.observers.Observer.{Observer}

-- the operator with a number
pub found_within : (p : Pooled) (n : ℕ) (f : PlainOperator) → slice_get p.operators n ≡ Some f → n < length p.operators
found_within p n f e = slice_get_within p.operators n f e

pub found_is : (p : Pooled) (n : ℕ) (f : PlainOperator) → slice_get p.operators n ≡ Some f
    → operator_in p.operators n ≡ f
found_is p n f e = get_or_from_slice_get p.operators n f no_operator e

pub found_later : (p q : Pooled) (n : ℕ) (f : PlainOperator) → Grows p q → slice_get p.operators n ≡ Some f
    → slice_get q.operators n ≡ Some f
found_later p q n f g e = front_get p.operators q.operators n f g.0 e

pub operator_later : (p q : Pooled) (n : ℕ) → Grows p q → n < length p.operators
    → operator_in q.operators n ≡ operator_in p.operators n
operator_later p q n g l = front_at p.operators q.operators n no_operator g.0 l

pub operator_within : (p q : Pooled) (n : ℕ) → Grows p q → n < length p.operators → n < length q.operators
operator_within p q n g l = let w = front_within p.operators q.operators g.0 in omega (arith, w, l)

pub known_later : (p q : Pooled) (ks : List Known) → Grows p q → All (IsKnown p) ks → All (IsKnown q) ks
known_later p q ks g a = All-weaker (IsKnown p) (IsKnown q) (λ k h. found_later p q k.number k.operator g h) ks a

pub observer_later : (p q : Pooled) (o : Observer) → Grows p q → IsObserver p o → IsObserver q o
observer_later p q o g h = (found_later p q o.number o.operator g h.0, h.1)

pub observers_later : (p q : Pooled) (os : List Observer) → Grows p q → All (IsObserver p) os → All (IsObserver q) os
observers_later p q os g a = All-weaker (IsObserver p) (IsObserver q) (λ o h. observer_later p q o g h) os a

-- variables
abbrev IsVariable : List Tree → ℕ → Type 0
IsVariable us v = (v < length us) × IsVar (tree_in us v)

pub variables_within : (p q : Pooled) (vs : List ℕ) → Grows p q → AreVariables p.trees vs → AreVariables q.trees vs
variables_within p q vs g a =
    All-weaker (IsVariable p.trees) (IsVariable q.trees)
    (λ v h. (within_later p q v g h.0, subst IsVar (sym (tree_later p q v g h.0)) h.1)) vs a

pub variables_later : (p q : Pooled) (vs : List ℕ) → Grows p q → AreVariables p.trees vs
    → variables_in q.trees vs ≡ variables_in p.trees vs
variables_later p q [] g a = refl
variables_later p q (v ∷ vs) g a =
    let h : IsVariable p.trees v = All-head (IsVariable p.trees) v vs a in
    λ i. variable_of (tree_later p q v g h.0 i) ∷ variables_later p q vs g (All-tail (IsVariable p.trees) v vs a) i

map_reverse : {X Y : Type 0} (f : X → Y) (xs : List X) → map f (reverse xs) ≡ reverse (map f xs)
map_reverse f [] = refl
map_reverse f (x ∷ xs) =
    ap (map f) (reverse_onto xs x []) ∙ map_push f (reverse xs) x ∙ ap (λ ys. ys ++ f x ∷ []) (map_reverse f xs)
    ∙ sym (reverse_onto (map f xs) (f x) [])

-- what has happened
event_later : (p q : Pooled) (e : KeptEvent) → Grows p q → IsHappened p e → event_in q e ≡ event_in p e
event_later p q (Says n s) g h = ap (Said n) (stated_same p q s g h)
event_later p q (Opens b) g h = ap Opened (box_same p q b g h)
event_later p q (Closes b s) g h = λ i. Closed (box_same p q b g h.0 i) (stated_same p q s g h.1 i)

events_later : (p q : Pooled) (es : List KeptEvent) → Grows p q → All (IsHappened p) es
    → map (event_in q) es ≡ map (event_in p) es
events_later p q [] g h = refl
events_later p q (e ∷ es) g h =
    λ i. event_later p q e g (All-head (IsHappened p) e es h) i
    ∷ events_later p q es g (All-tail (IsHappened p) e es h) i

pub history_later : (p q : Pooled) (past : KeptHistory) → Grows p q → All (IsHappened p) past.events.items
    → history_of q past ≡ history_of p past
history_later p q past g h =
    map_reverse (event_in q) past.events.items ∙ ap reverse (events_later p q past.events.items g h)
    ∙ sym (map_reverse (event_in p) past.events.items)

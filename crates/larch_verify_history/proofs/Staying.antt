-- What is kept stays right while the pool grows.
use Rattle.std.proofs.Common.{◌≡◌, ℕ, ◌≤◌, List, [], ◌∷◌, ◌++◌, length, map, take, All, slice_get, Some, refl, sym, ◌∙◌}
use Rattle.std.proofs.Common.{ap, arith}
use Rattle.std.specs.Prelude.{reverse}
use Rattle.std.proofs.lemmas.Grind.{reverse_onto}
use Rattle.std.proofs.lemmas.List.{map_push}
use Rattle.std.proofs.lemmas.List.Elements.{All-head, All-tail, All-weaker}
use Rattle.larch_term.specs.Operator.{PlainOperator}
use Rattle.larch_term.specs.declared.statement.Statement.TheVariants.{Equation}
use Rattle.larch_term.specs.declared.statement.Theory.{Theory}
use Rattle.larch_verify_meaning.specs.Events.{Said, Opened, Closed}
use Rattle.larch_verify_pool.specs.Pooled.{Pooled, no_tree, Grows}
use Rattle.larch_verify_pool.proofs.Front.{front_at, front_get, front_within}
use Rattle.larch_verify_history.specs.Past.{IsPast, IsEquated, IsStated, IsBox, IsHappened, equated_in, stated_in}
use Rattle.larch_verify_history.specs.Past.{box_in, event_in, history_of}
use Rattle.larch_verify_history.specs.declared.event.KeptEvent.{KeptEvent}
use Rattle.larch_verify_history.specs.declared.event.KeptEvent.TheVariants.{Says, Opens, Closes}
use Rattle.larch_verify_history.specs.declared.event.KnownBox.{KnownBox}
use Rattle.larch_verify_history.specs.declared.past.KeptHistory.{KeptHistory}
use Rattle.larch_verify_history.specs.declared.stated.Equated.{Equated}
use Rattle.larch_verify_history.specs.declared.stated.Stated.{Stated}
use Rattle.larch_verify_history.specs.declared.stated.Stated.TheVariants.{Equal, Generates, Partitions}

map_reverse : {X Y : Type 0} (f : X → Y) (xs : List X) → map f (reverse xs) ≡ reverse (map f xs)
map_reverse f [] = refl
map_reverse f (x ∷ xs) =
    ap (map f) (reverse_onto xs x []) ∙ map_push f (reverse xs) x ∙ ap (λ ys. ys ++ f x ∷ []) (map_reverse f xs)
    ∙ sym (reverse_onto (map f xs) (f x) [])

-- numbers stay, and what they stand for
pub equated_stays : (p q : Pooled) (e : Equated) → Grows p q → IsEquated p e → IsEquated q e
equated_stays p q e g h =
    let l : length p.trees ≤ length q.trees = front_within p.trees q.trees g.1 in
    (omega (arith, l, h.0), omega (arith, l, h.1))

pub equated_same : (p q : Pooled) (e : Equated) → Grows p q → IsEquated p e → equated_in q e ≡ equated_in p e
equated_same p q e g h =
    λ i. Equation (front_at p.trees q.trees e.left no_tree g.1 h.0 i)
    (front_at p.trees q.trees e.right no_tree g.1 h.1 i)

pub stated_stays : (p q : Pooled) (s : Stated) → Grows p q → IsStated p s → IsStated q s
stated_stays p q (Equal e) g h = equated_stays p q e g h
stated_stays p q (Generates s fs) g h = tt
stated_stays p q (Partitions s fs) g h = tt

pub stated_same : (p q : Pooled) (s : Stated) → Grows p q → IsStated p s → stated_in q s ≡ stated_in p s
stated_same p q (Equal e) g h = equated_same p q e g h
stated_same p q (Generates s fs) g h = refl
stated_same p q (Partitions s fs) g h = refl

pub hypotheses_same : (p q : Pooled) (es : List Equated) → Grows p q → All (IsEquated p) es
    → map (equated_in q) es ≡ map (equated_in p) es
hypotheses_same p q [] g h = refl
hypotheses_same p q (e ∷ es) g h =
    λ i. equated_same p q e g (All-head (IsEquated p) e es h) i
    ∷ hypotheses_same p q es g (All-tail (IsEquated p) e es h) i

pub box_stays : (p q : Pooled) (b : KnownBox) → Grows p q → IsBox p b → IsBox q b
box_stays p q b g h = All-weaker (IsEquated p) (IsEquated q) (λ e w. equated_stays p q e g w) b.hypotheses h

pub box_same : (p q : Pooled) (b : KnownBox) → Grows p q → IsBox p b → box_in q b ≡ box_in p b
box_same p q b g h =
    λ i. record { number = b.number; parts = b.parts; hypotheses = hypotheses_same p q b.hypotheses g h i }

event_stays : (p q : Pooled) (e : KeptEvent) → Grows p q → IsHappened p e → IsHappened q e
event_stays p q (Says n s) g h = stated_stays p q s g h
event_stays p q (Opens b) g h = box_stays p q b g h
event_stays p q (Closes b s) g h = (box_stays p q b g h.0, stated_stays p q s g h.1)

event_same : (p q : Pooled) (e : KeptEvent) → Grows p q → IsHappened p e → event_in q e ≡ event_in p e
event_same p q (Says n s) g h = ap (Said n) (stated_same p q s g h)
event_same p q (Opens b) g h = ap Opened (box_same p q b g h)
event_same p q (Closes b s) g h = λ i. Closed (box_same p q b g h.0 i) (stated_same p q s g h.1 i)

events_same : (p q : Pooled) (es : List KeptEvent) → Grows p q → All (IsHappened p) es
    → map (event_in q) es ≡ map (event_in p) es
events_same p q [] g h = refl
events_same p q (e ∷ es) g h =
    λ i. event_same p q e g (All-head (IsHappened p) e es h) i ∷ events_same p q es g (All-tail (IsHappened p) e es h) i

pub history_same : (t : Theory) (p q : Pooled) (past : KeptHistory) → IsPast t p past → Grows p q
    → history_of q past ≡ history_of p past
history_same t p q past h g =
    map_reverse (event_in q) past.events.items ∙ ap reverse (events_same p q past.events.items g h.within)
    ∙ sym (map_reverse (event_in p) past.events.items)

own_stays : (fs gs : List PlainOperator) (ks : List ℕ) (os : List PlainOperator) → take (length fs) gs ≡ fs
    → map (slice_get fs) ks ≡ map Some os → map (slice_get gs) ks ≡ map Some os
own_stays fs gs [] os f e = e
own_stays fs gs (k ∷ ks) [] f e = absurd cc
own_stays fs gs (k ∷ ks) (o ∷ os) f e =
    let a : slice_get fs k ≡ Some o = cc in
    let b : map (slice_get fs) ks ≡ map Some os = cc in
    λ i. front_get fs gs k o f a i ∷ own_stays fs gs ks os f b i

pub past_stays : (t : Theory) (p q : Pooled) (past : KeptHistory) → IsPast t p past → Grows p q → IsPast t q past
past_stays t p q past h g = record {
  own = own_stays p.operators q.operators past.own.items t.operators g.0 h.own;
  within = All-weaker (IsHappened p) (IsHappened q) (λ e w. event_stays p q e g w) past.events.items h.within;
  index = h.index;
  levels = h.levels;
}

-- Looking for a number among what has happened goes by its place.
use Rattle.std.proofs.Common.{◌≡◌, ◌==◌, ℕ, zero, suc, ◌<◌, ◌≤◌, ◌⊎◌, inl, inr, Bool, true, false, if◌then◌else◌, List}
use Rattle.std.proofs.Common.{[], ◌∷◌, ◌++◌, length, map, All, slice_get, Option, Some, None, refl, sym, ◌∙◌, ap, subst}
use Rattle.std.proofs.Common.{arith}
use Rattle.std.specs.Prelude.{reverse}
use Rattle.std.specs.Option.{option_and_then}
use Rattle.std.proofs.lemmas.Bool.Decides.{Decides-eqb}
use Rattle.std.proofs.lemmas.Grind.{reverse_onto}
use Rattle.std.proofs.lemmas.List.{get_or_push, get_or_append_left, length_push, length-reverse, reverse-reverse}
use Rattle.std.proofs.lemmas.List.Elements.{All-contains}
use Rattle.std.proofs.lemmas.Option.{slice_get-get_or, slice_get_past, same_Some, none-some}
use Rattle.larch_base.proofs.Members.{got_contains}
use Rattle.larch_base.specs.ByNumber.{numbered}
use Rattle.larch_term.specs.declared.statement.Statement.{Statement}
use Rattle.larch_verify_meaning.specs.Context.{find_line, find_open, find_closed}
use Rattle.larch_verify_meaning.specs.Events.{PlainBox}
use Rattle.larch_verify_pool.specs.Pooled.{Pooled}
use Rattle.larch_verify_history.specs.Levels.{level}
use Rattle.larch_verify_history.specs.Past.{stated_in, box_in, event_in, history_in, number_of, IsIndexed, event_of}
use Rattle.larch_verify_history.specs.declared.event.KeptEvent.{KeptEvent}
use Rattle.larch_verify_history.specs.declared.event.KeptEvent.TheVariants.{Says, Opens, Closes}

-- the first of two
abbrev first : {X : Type 0} → Option X → Option X → Option X
first (Some x) o = Some x
first None o = o

-- what is taken of the newest event with a number of which something is taken
abbrev seek : {X : Type 0} → (KeptEvent → Option X) → List KeptEvent → ℕ → Option X
seek pick [] m = None
seek pick (e ∷ h) m = if number_of e == m then first (pick e) (seek pick h m) else seek pick h m

-- what is taken of each kind of event
abbrev pub said_by : Pooled → KeptEvent → Option Statement
said_by p (Says n s) = Some (stated_in p s)
said_by p (Opens b) = None
said_by p (Closes b s) = None

abbrev pub opens_by : Pooled → KeptEvent → Option PlainBox
opens_by p (Says n s) = None
opens_by p (Opens b) = Some (box_in p b)
opens_by p (Closes b s) = None

abbrev pub closes_by : Pooled → KeptEvent → Option (PlainBox × Statement)
closes_by p (Says n s) = None
closes_by p (Opens b) = None
closes_by p (Closes b s) = Some (box_in p b, stated_in p s)

cond_same : {X : Type 0} (b : Bool) (x : X) → (if b then x else x) ≡ x
cond_same true x = refl
cond_same false x = refl

line_seek : (p : Pooled) (h : List KeptEvent) (m : ℕ) → find_line (map (event_in p) h) m ≡ seek (said_by p) h m
line_seek p [] m = refl
line_seek p (Says n s ∷ h) m = ap (λ o. if n == m then Some (stated_in p s) else o) (line_seek p h m)
line_seek p (Opens b ∷ h) m = line_seek p h m ∙ sym (cond_same (b.number == m) (seek (said_by p) h m))
line_seek p (Closes b s ∷ h) m = line_seek p h m ∙ sym (cond_same (b.number == m) (seek (said_by p) h m))

open_seek : (p : Pooled) (h : List KeptEvent) (m : ℕ) → find_open (map (event_in p) h) m ≡ seek (opens_by p) h m
open_seek p [] m = refl
open_seek p (Says n s ∷ h) m = open_seek p h m ∙ sym (cond_same (n == m) (seek (opens_by p) h m))
open_seek p (Opens b ∷ h) m = ap (λ o. if b.number == m then Some (box_in p b) else o) (open_seek p h m)
open_seek p (Closes b s ∷ h) m = open_seek p h m ∙ sym (cond_same (b.number == m) (seek (opens_by p) h m))

pub not_same : (a m : ℕ) (b : Bool) → (a == m) ≡ b → (a ≡ m → ⊥) → (a == m) ≡ false
not_same a m true e f = absurd (f ((Decides-eqb a m).0 e))
not_same a m false e f = e

-- an event with the number of one that stands elsewhere, or nowhere, isn't there
other : (places : List ℕ) (e : KeptEvent) (h : List KeptEvent) (m : ℕ) (o : Option ℕ) → IsIndexed places (e ∷ h)
    → numbered places m ≡ o
    → (Some (length h) ≡ o → ⊥) → (number_of e == m) ≡ false
other places e h m o x n f =
    not_same (number_of e) m (number_of e == m) refl (λ s. f (sym x.0 ∙ ap (numbered places) s ∙ n))

pass : {X : Type 0} (pick : KeptEvent → Option X) (e : KeptEvent) (h : List KeptEvent) (m : ℕ)
    → (number_of e == m) ≡ false → seek pick (e ∷ h) m ≡ seek pick h m
pass pick e h m s = ap (λ b. if b then first (pick e) (seek pick h m) else seek pick h m) s

longer : (n i : ℕ) → suc n ≤ i → Some n ≡ Some i → ⊥
longer n i l e = let s : n ≡ i = same_Some n i e in absurd (omega arith)

seek_past : {X : Type 0} (pick : KeptEvent → Option X) (places : List ℕ) (h : List KeptEvent) (m i : ℕ)
    → IsIndexed places h → numbered places m ≡ Some i
    → length h ≤ i → seek pick h m ≡ None
seek_past pick places [] m i x n l = refl
seek_past pick places (e ∷ h) m i x n l =
    pass pick e h m (other places e h m (Some i) x n (longer (length h) i l))
    ∙ seek_past pick places h m i x.1 n (omega arith)

seek_never : {X : Type 0} (pick : KeptEvent → Option X) (places : List ℕ) (h : List KeptEvent) (m : ℕ)
    → IsIndexed places h → numbered places m ≡ None
    → seek pick h m ≡ None
seek_never pick places [] m x n = refl
seek_never pick places (e ∷ h) m x n =
    pass pick e h m (other places e h m None x n (λ c. none-some (length h) (sym c))) ∙ seek_never pick places h m x.1 n

-- what is taken of an event if it has a number
abbrev if_numbered : {X : Type 0} → (KeptEvent → Option X) → ℕ → KeptEvent → Option X
if_numbered pick m e = if number_of e == m then pick e else None

oldest : (e : KeptEvent) (h : List KeptEvent) → slice_get (reverse (e ∷ h)) (length h) ≡ Some e
oldest e h =
    ap (λ xs. slice_get xs (length h)) (reverse_onto h e [])
    ∙ slice_get-get_or (reverse h ++ e ∷ []) (length h) e (omega (arith, length_push (reverse h) e, length-reverse h))
    ∙ ap Some (get_or_push (reverse h) e e (length h) (length-reverse h))

first_none : {X : Type 0} (o : Option X) → first o None ≡ o
first_none None = refl
first_none (Some x) = refl

here : {X : Type 0} (pick : KeptEvent → Option X) (e : KeptEvent) (h : List KeptEvent) (m : ℕ) (b : Bool)
    → seek pick h m ≡ None
    → (if b then first (pick e) (seek pick h m) else seek pick h m) ≡ (if b then pick e else None)
here pick e h m true n = ap (first (pick e)) n ∙ first_none (pick e)
here pick e h m false n = n

older : (e : KeptEvent) (h : List KeptEvent) (i : ℕ) → i < length h
    → slice_get (reverse (e ∷ h)) i ≡ slice_get (reverse h) i
older e h i l =
    let r : i < length (reverse h) = omega (arith, length-reverse h) in
    ap (λ xs. slice_get xs i) (reverse_onto h e [])
    ∙ slice_get-get_or (reverse h ++ e ∷ []) i e (omega (arith, length_push (reverse h) e))
    ∙ ap Some (get_or_append_left (reverse h) (e ∷ []) e i r) ∙ sym (slice_get-get_or (reverse h) i e r)

order : (i n : ℕ) → i < suc n → (i ≡ n) ⊎ (i < n)
order zero zero l = inl refl
order zero (suc n) l = inr (omega arith)
order (suc i) zero l = absurd (omega arith)
order (suc i) (suc n) l = up (order i n (omega arith))
  where
    up : (i ≡ n) ⊎ (i < n) → (suc i ≡ suc n) ⊎ (suc i < suc n)
    up (inl e) = inl (ap suc e)
    up (inr k) = inr (omega arith)

seek_at : {X : Type 0} (pick : KeptEvent → Option X) (places : List ℕ) (h : List KeptEvent) (m i : ℕ)
    → IsIndexed places h → numbered places m ≡ Some i
    → i < length h → seek pick h m ≡ option_and_then (if_numbered pick m) (slice_get (reverse h) i)
seek_at pick places [] m i x n l = absurd (omega arith)
seek_at pick places (e ∷ h) m i x n l = elim (order i (length h) l) [
  | inl s ↦
      here pick e h m (number_of e == m) (seek_past pick places h m i x.1 n (omega arith))
      ∙ sym (ap (λ j. option_and_then (if_numbered pick m) (slice_get (reverse (e ∷ h)) j)) s
      ∙ ap (option_and_then (if_numbered pick m)) (oldest e h))
  | inr k ↦
      pass pick e h m (other places e h m (Some i) x n (λ c. absurd (longer i (length h) (omega arith) (sym c))))
      ∙ seek_at pick places h m i x.1 n k ∙ sym (ap (option_and_then (if_numbered pick m)) (older e h i k))
]

take_numbered : {X : Type 0} (pick : KeptEvent → Option X) (m : ℕ) (o : Option KeptEvent)
    → option_and_then (if_numbered pick m) o
    ≡ option_and_then pick (option_and_then (λ e. if number_of e == m then Some e else None) o)
take_numbered pick m None = refl
take_numbered pick m (Some e) = by (number_of e == m)
  where
    by : (b : Bool) → (if b then pick e else None) ≡ option_and_then pick (if b then Some e else None)
    by true = refl
    by false = refl

less_or_more : (i n : ℕ) → (i < n) ⊎ (n ≤ i)
less_or_more i zero = inr (omega arith)
less_or_more zero (suc n) = inl (omega arith)
less_or_more (suc i) (suc n) = up (less_or_more i n)
  where
    up : (i < n) ⊎ (n ≤ i) → (suc i < suc n) ⊎ (suc n ≤ suc i)
    up (inl l) = inl (omega arith)
    up (inr l) = inr (omega arith)

event_found : {X : Type 0} (pick : KeptEvent → Option X) (places : List ℕ) (es : List KeptEvent) (m : ℕ) (o : Option ℕ)
    → IsIndexed places (reverse es)
    → numbered places m ≡ o → seek pick (reverse es) m ≡ option_and_then pick (event_of places es m)
event_found pick places es m None x n =
    seek_never pick places (reverse es) m x n
    ∙ sym
    (ap (λ o. option_and_then pick
    (option_and_then (λ i. option_and_then (λ e. if number_of e == m then Some e else None) (slice_get es i)) o)) n)
event_found pick places es m (Some i) x n =
    elim (less_or_more i (length (reverse es))) [
      | inl l ↦
          seek_at pick places (reverse es) m i x n l
          ∙ ap (λ xs. option_and_then (if_numbered pick m) (slice_get xs i)) (reverse-reverse es)
          ∙ take_numbered pick m (slice_get es i)
      | inr l ↦
          seek_past pick places (reverse es) m i x n l
          ∙ sym (ap (λ o. option_and_then pick (option_and_then (λ e. if number_of e == m then Some e else None) o))
          (slice_get_past es i (omega (arith, length-reverse es))))
    ]
    ∙ sym
    (ap (λ o. option_and_then pick
    (option_and_then (λ j. option_and_then (λ e. if number_of e == m then Some e else None) (slice_get es j)) o)) n)

pub line_by_event : (places : List ℕ) (es : List KeptEvent) (m : ℕ) → IsIndexed places (reverse es) → (p : Pooled)
    → find_line (history_in p es) m ≡ option_and_then (said_by p) (event_of places es m)
line_by_event places es m x p =
    line_seek p (reverse es) m ∙ event_found (said_by p) places es m (numbered places m) x refl

pub open_by_event : (places : List ℕ) (es : List KeptEvent) (m : ℕ) → IsIndexed places (reverse es) → (p : Pooled)
    → find_open (history_in p es) m ≡ option_and_then (opens_by p) (event_of places es m)
open_by_event places es m x p =
    open_seek p (reverse es) m ∙ event_found (opens_by p) places es m (numbered places m) x refl

-- a closed box is one of the innermost open box where its place is behind
closed_seek : (p : Pooled) (places : List ℕ) (h : List KeptEvent) (m i : ℕ) → IsIndexed places h
    → numbered places m ≡ Some i → level h ≤ i
    → find_closed (map (event_in p) h) m ≡ seek (closes_by p) h m
closed_seek p places [] m i x n l = refl
closed_seek p places (Says k s ∷ h) m i x n l =
    closed_seek p places h m i x.1 n l ∙ sym (cond_same (k == m) (seek (closes_by p) h m))
closed_seek p places (Opens b ∷ h) m i x n l = sym (seek_past (closes_by p) places (Opens b ∷ h) m i x n l)
closed_seek p places (Closes b s ∷ h) m i x n l =
    ap (λ o. if b.number == m then Some (box_in p b, stated_in p s) else o) (closed_seek p places h m i x.1 n l)

level_within : (h : List KeptEvent) → level h ≤ length h
level_within [] = omega arith
level_within (Says n s ∷ h) = omega (arith, level_within h)
level_within (Opens b ∷ h) = omega arith
level_within (Closes b s ∷ h) = omega (arith, level_within h)

closed_pass : (p : Pooled) (b : PlainBox) (s : Statement) (o : Option (PlainBox × Statement)) (m : ℕ)
    → (b.number == m) ≡ false → (if b.number == m then Some (b, s) else o) ≡ o
closed_pass p b s o m e = ap (λ c. if c then Some (b, s) else o) e

closed_below : (p : Pooled) (places : List ℕ) (h : List KeptEvent) (m i : ℕ) → IsIndexed places h
    → numbered places m ≡ Some i → i < level h
    → find_closed (map (event_in p) h) m ≡ None
closed_below p places [] m i x n l = refl
closed_below p places (Says k s ∷ h) m i x n l = closed_below p places h m i x.1 n l
closed_below p places (Opens b ∷ h) m i x n l = refl
closed_below p places (Closes b s ∷ h) m i x n l =
    closed_pass p (box_in p b) (stated_in p s) (find_closed (map (event_in p) h) m) m
    (other places (Closes b s) h m (Some i) x n
    (λ c. absurd (longer i (length h) (omega (arith, level_within h)) (sym c))))
    ∙ closed_below p places h m i x.1 n l

closed_never : (p : Pooled) (places : List ℕ) (h : List KeptEvent) (m : ℕ) → IsIndexed places h
    → numbered places m ≡ None
    → find_closed (map (event_in p) h) m ≡ None
closed_never p places [] m x n = refl
closed_never p places (Says k s ∷ h) m x n = closed_never p places h m x.1 n
closed_never p places (Opens b ∷ h) m x n = refl
closed_never p places (Closes b s ∷ h) m x n =
    closed_pass p (box_in p b) (stated_in p s) (find_closed (map (event_in p) h) m) m
    (other places (Closes b s) h m None x n (λ c. none-some (length h) (sym c)))
    ∙ closed_never p places h m x.1 n

pub closed_by_event : (places : List ℕ) (es : List KeptEvent) (m i : ℕ) → IsIndexed places (reverse es)
    → numbered places m ≡ Some i
    → level (reverse es) ≤ i → (p : Pooled)
    → find_closed (history_in p es) m ≡ option_and_then (closes_by p) (event_of places es m)
closed_by_event places es m i x n l p =
    closed_seek p places (reverse es) m i x n l ∙ event_found (closes_by p) places es m (Some i) x n

pub closed_outside : (places : List ℕ) (es : List KeptEvent) (m i : ℕ) → IsIndexed places (reverse es)
    → numbered places m ≡ Some i
    → i < level (reverse es) → (p : Pooled) → find_closed (history_in p es) m ≡ None
closed_outside places es m i x n l p = closed_below p places (reverse es) m i x n l

pub closed_nowhere : (places : List ℕ) (es : List KeptEvent) (m : ℕ) → IsIndexed places (reverse es)
    → numbered places m ≡ None
    → (p : Pooled) → find_closed (history_in p es) m ≡ None
closed_nowhere places es m x n p = closed_never p places (reverse es) m x n

-- a kept event is one of those that have happened
stands_with : (P : KeptEvent → Type 0) (es : List KeptEvent) (m : ℕ) (o : Option KeptEvent) (e : KeptEvent)
    → ((x : KeptEvent) → o ≡ Some x → P x)
    → option_and_then (λ x. if number_of x == m then Some x else None) o ≡ Some e → P e
stands_with P es m None e h s = absurd (none-some e s)
stands_with P es m (Some x) e h s = by (number_of x == m) s
  where
    by : (b : Bool) → (if b then Some x else None) ≡ Some e → P e
    by true q = subst P (same_Some x e q) (h x refl)
    by false q = absurd (none-some e q)

stands_in : (P : KeptEvent → Type 0) (es : List KeptEvent) (m : ℕ) (o : Option ℕ) (e : KeptEvent) → All P es
    → option_and_then (λ i. option_and_then (λ x. if number_of x == m then Some x else None) (slice_get es i)) o
    ≡ Some e → P e
stands_in P es m None e h s = absurd (none-some e s)
stands_in P es m (Some i) e h s =
    stands_with P es m (slice_get es i) e (λ x g. All-contains P es x h (got_contains es i x g)) s

pub event_within : (P : KeptEvent → Type 0) (places : List ℕ) (es : List KeptEvent) (m : ℕ) (e : KeptEvent) → All P es
    → event_of places es m ≡ Some e → P e
event_within P places es m e h s = stands_in P es m (numbered places m) e h s

-- what is found, by the event with the number
pub line_is : (places : List ℕ) (es : List KeptEvent) (m : ℕ) (o : Option KeptEvent) → IsIndexed places (reverse es)
    → event_of places es m ≡ o → (p : Pooled)
    → option_and_then (said_by p) o ≡ find_line (history_in p es) m
line_is places es m o x e p = sym (line_by_event places es m x p ∙ ap (option_and_then (said_by p)) e)

pub open_is : (places : List ℕ) (es : List KeptEvent) (m : ℕ) (o : Option KeptEvent) → IsIndexed places (reverse es)
    → event_of places es m ≡ o → (p : Pooled)
    → option_and_then (opens_by p) o ≡ find_open (history_in p es) m
open_is places es m o x e p = sym (open_by_event places es m x p ∙ ap (option_and_then (opens_by p)) e)

pub closed_is : (places : List ℕ) (es : List KeptEvent) (m i : ℕ) (o : Option KeptEvent) → IsIndexed places (reverse es)
    → numbered places m ≡ Some i → level (reverse es) ≤ i
    → event_of places es m ≡ o → (p : Pooled) → option_and_then (closes_by p) o ≡ find_closed (history_in p es) m
closed_is places es m i o x n l e p = sym (closed_by_event places es m i x n l p ∙ ap (option_and_then (closes_by p)) e)

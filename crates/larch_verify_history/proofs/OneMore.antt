-- One event more.
use Rattle.std.proofs.Common.{◌≡◌, ◌==◌, if◌then◌else◌, ℕ, zero, suc, ◌+◌, ◌-◌, ◌<◌, List, [], ◌∷◌, ◌++◌, length, map}
use Rattle.std.proofs.Common.{All, slice_get, Some, None, refl, sym, ◌∙◌, ap, subst, arith}
use Rattle.std.specs.Prelude.{reverse}
use Rattle.std.proofs.lemmas.List.{reverse-append, length-reverse, length_push, get_or_push, get_or_append_left}
use Rattle.std.proofs.lemmas.List.Elements.{All-push, All-pop}
use Rattle.std.proofs.lemmas.Option.{slice_get-get_or, slice_get_within, get_or_from_slice_get, none-some}
use Rattle.larch_base.specs.ByNumber.{numbered}
use Rattle.larch_term.specs.declared.statement.Theory.{Theory}
use Rattle.larch_verify_pool.specs.Pooled.{Pooled}
use Rattle.larch_verify_history.specs.Past.{IsPast, IsStated, IsEquated, IsBox, IsHappened, IsIndexed, event_in}
use Rattle.larch_verify_history.specs.Past.{history_in}
use Rattle.larch_verify_history.specs.Past.{number_of, open_levels}
use Rattle.larch_verify_history.proofs.LookUps.{not_same}
use Rattle.larch_verify_history.specs.declared.event.KeptEvent.{KeptEvent}
use Rattle.larch_verify_history.specs.declared.event.KeptEvent.TheVariants.{Says, Opens}
use Rattle.larch_verify_history.specs.declared.event.KnownBox.{KnownBox}
use Rattle.larch_verify_history.specs.declared.past.KeptHistory.{KeptHistory}
use Rattle.larch_verify_history.specs.declared.stated.Equated.{Equated}
use Rattle.larch_verify_history.specs.declared.stated.Stated.{Stated}

reverse_push : {X : Type 0} (xs : List X) (x : X) → reverse (xs ++ x ∷ []) ≡ x ∷ reverse xs
reverse_push xs x = reverse-append xs (x ∷ [])

get_more : (xs : List ℕ) (k i x : ℕ) → slice_get xs i ≡ Some x → slice_get (xs ++ k ∷ []) i ≡ Some x
get_more xs k i x e =
    let l : i < length xs = slice_get_within xs i x e in
    slice_get-get_or (xs ++ k ∷ []) i x (omega (arith, l, length_push xs k))
    ∙ ap Some (get_or_append_left xs (k ∷ []) x i l ∙ get_or_from_slice_get xs i x x e)

not_first : (xs : List ℕ) (n : ℕ) → numbered xs (suc n) ≡ slice_get xs (suc n - 1)
not_first xs n =
    ap (λ b. if b then None else slice_get xs (suc n - 1))
    (not_same (suc n) 0 (suc n == 0) refl (λ s. absurd (omega (arith, s))))

numbered_more : (xs : List ℕ) (k n i : ℕ) → numbered xs n ≡ Some i → numbered (xs ++ k ∷ []) n ≡ Some i
numbered_more xs k zero i e = absurd (none-some i e)
numbered_more xs k (suc n) i e =
    not_first (xs ++ k ∷ []) n ∙ get_more xs k (suc n - 1) i (sym (not_first xs n) ∙ e)

numbered_last : (xs : List ℕ) (k : ℕ) → numbered (xs ++ k ∷ []) (length xs + 1) ≡ Some k
numbered_last xs k =
    let e : length xs + 1 ≡ suc (length xs) = omega arith in
    let z : suc (length xs) - 1 ≡ length xs = omega arith in
    ap (numbered (xs ++ k ∷ [])) e ∙ not_first (xs ++ k ∷ []) (length xs) ∙ ap (slice_get (xs ++ k ∷ [])) z
    ∙ slice_get-get_or (xs ++ k ∷ []) (length xs) k (omega (arith, length_push xs k))
    ∙ ap Some (get_or_push xs k k (length xs) refl)

pub index_more : (places : List ℕ) (k : ℕ) (h : List KeptEvent) → IsIndexed places h → IsIndexed (places ++ k ∷ []) h
index_more places k [] x = tt
index_more places k (e ∷ h) x = (numbered_more places k (number_of e) (length h) x.0, index_more places k h x.1)

-- an event with the next line's number is put behind the others
pub index_push : (places : List ℕ) (es : List KeptEvent) (e : KeptEvent) → number_of e ≡ length places + 1
    → IsIndexed places (reverse es)
    → IsIndexed (places ++ length es ∷ []) (reverse (es ++ e ∷ []))
index_push places es e n x =
    subst (IsIndexed (places ++ length es ∷ [])) (sym (reverse_push es e)) (
      ap (numbered (places ++ length es ∷ [])) n ∙ numbered_last places (length es) ∙ ap Some (sym (length-reverse es)),
      index_more places (length es) (reverse es) x,
    )

pub history_push : (p : Pooled) (es : List KeptEvent) (e : KeptEvent)
    → history_in p (es ++ e ∷ []) ≡ event_in p e ∷ history_in p es
history_push p es e = ap (map (event_in p)) (reverse_push es e)

pub open_push : (es : List KeptEvent) (e : KeptEvent)
    → open_levels (reverse (es ++ e ∷ [])) ≡ open_levels (e ∷ reverse es)
open_push es e = ap open_levels (reverse_push es e)

pub said : (t : Theory) (p : Pooled) (a b : KeptHistory) (n : ℕ) (s : Stated) → b.own.items ≡ a.own.items
    → b.places.items ≡ a.places.items ++ length a.events.items ∷ [] → b.events.items ≡ a.events.items ++ Says n s ∷ []
    → b.levels.items ≡ a.levels.items
    → n ≡ length a.places.items + 1 → IsPast t p a → IsStated p s → IsPast t p b
said t p a b n s own places events level is h w = record {
  own = ap (map (slice_get p.operators)) own ∙ h.own;
  within = subst (All (IsHappened p)) (sym events) (All-push (IsHappened p) a.events.items (Says n s) h.within w);
  index = subst (λ xs. IsIndexed xs (reverse b.events.items)) (sym places)
      (subst (λ es. IsIndexed (a.places.items ++ length a.events.items ∷ []) (reverse es)) (sym events)
      (index_push a.places.items a.events.items (Says n s) is h.index));
  levels =
      ap (λ es. open_levels (reverse es)) events ∙ open_push a.events.items (Says n s) ∙ h.levels
      ∙ ap reverse (sym level);
}

pub opened : (t : Theory) (p : Pooled) (a b : KeptHistory) (k : KnownBox) → b.own.items ≡ a.own.items
    → b.places.items ≡ a.places.items ++ length a.events.items ∷ [] → b.events.items ≡ a.events.items ++ Opens k ∷ []
    → b.levels.items ≡ a.levels.items ++ length b.events.items ∷ []
    → k.number ≡ length a.places.items + 1 → IsPast t p a → IsBox p k → IsPast t p b
opened t p a b k own places events level is h w =
    let grown : suc (length (reverse a.events.items)) ≡ length b.events.items =
    omega (arith, length-reverse a.events.items, ap length events, length_push a.events.items (Opens k)) in
    record {
      own = ap (map (slice_get p.operators)) own ∙ h.own;
      within = subst (All (IsHappened p)) (sym events) (All-push (IsHappened p) a.events.items (Opens k) h.within w);
      index = subst (λ xs. IsIndexed xs (reverse b.events.items)) (sym places)
          (subst (λ es. IsIndexed (a.places.items ++ length a.events.items ∷ []) (reverse es)) (sym events)
          (index_push a.places.items a.events.items (Opens k) is h.index));
      levels = ap (λ es. open_levels (reverse es)) events ∙ open_push a.events.items (Opens k)
          ∙ (λ i. grown i ∷ h.levels i) ∙ sym (ap reverse level ∙ reverse_push a.levels.items (length b.events.items));
    }

-- the box that was opened last gets its hypotheses
pub supposed : (t : Theory) (p : Pooled) (a c : KeptHistory) (es : List KeptEvent) (b : KnownBox) (hs : List Equated)
    → a.events.items ≡ es ++ Opens b ∷ []
    → c.events.items ≡ es ++ Opens (record { number = b.number; parts = b.parts; hypotheses = hs }) ∷ []
    → c.own ≡ a.own → c.places ≡ a.places → c.levels ≡ a.levels
    → IsPast t p a → All (IsEquated p) hs → IsPast t p c
supposed t p a c es b hs q r o l v x h =
    let d : KnownBox = record { number = b.number; parts = b.parts; hypotheses = hs } in
    let front =
    All-pop (IsHappened p) (es ++ Opens b ∷ []) es (Some (Opens b)) refl (subst (All (IsHappened p)) q x.within) in
    let i : IsIndexed a.places.items (Opens b ∷ reverse es) =
    subst (IsIndexed a.places.items) (ap reverse q ∙ reverse_push es (Opens b)) x.index in
    let k : suc (length (reverse es)) ∷ open_levels (reverse es) ≡ reverse a.levels.items =
    sym (ap (λ e. open_levels (reverse e)) q ∙ ap open_levels (reverse_push es (Opens b))) ∙ x.levels in
    record {
      own = subst (λ w. map (slice_get p.operators) w.items ≡ map Some t.operators) (sym o) x.own;
      within =
          subst (All (IsHappened p)) (sym r) (All-push (IsHappened p) es (Opens d) front.0 h);
      index =
          subst (λ w. IsIndexed w.items (reverse c.events.items)) (sym l)
          (subst (IsIndexed a.places.items) (sym (ap reverse r ∙ reverse_push es (Opens d))) (i.0, i.1));
      levels =
          ap (λ e. open_levels (reverse e)) r ∙ ap open_levels (reverse_push es (Opens d)) ∙ k
          ∙ ap (λ w. reverse w.items) (sym v);
    }

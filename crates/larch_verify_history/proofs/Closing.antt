-- The innermost open box, and what had happened before it.
use Rattle.std.proofs.Common.{◌≡◌, ℕ, suc, List, [], ◌∷◌, ◌++◌, length, map, take, All, slice_get, Some, None, refl}
use Rattle.std.proofs.Common.{sym, ◌∙◌, ap, subst, arith}
use Rattle.std.specs.Prelude.{reverse}
use Rattle.std.specs.Option.{option_map}
use Rattle.std.proofs.lemmas.List.{reverse-append, reverse-reverse, length-reverse, take_at, length_push}
use Rattle.std.proofs.lemmas.List.Elements.{All-push, All-pop, All-take}
use Rattle.std.proofs.lemmas.Grind.{reverse_onto}
use Rattle.larch_term.specs.declared.statement.Theory.{Theory}
use Rattle.larch_verify_meaning.specs.Context.{innermost}
use Rattle.larch_verify_meaning.specs.Events.{Closed}
use Rattle.larch_verify_meaning.specs.Run.{done_closes}
use Rattle.larch_verify_pool.specs.Pooled.{Pooled}
use Rattle.larch_verify_history.specs.Past.{IsPast, IsHappened, IsIndexed, stated_in, box_in, event_in, history_in}
use Rattle.larch_verify_history.specs.Past.{open_levels}
use Rattle.larch_verify_history.proofs.OneMore.{index_more, open_push}
use Rattle.larch_verify_history.specs.declared.event.KeptEvent.{KeptEvent}
use Rattle.larch_verify_history.specs.declared.event.KeptEvent.TheVariants.{Says, Opens, Closes}
use Rattle.larch_verify_history.specs.declared.event.KnownBox.{KnownBox}
use Rattle.larch_verify_history.specs.declared.past.KeptHistory.{KeptHistory}
use Rattle.larch_verify_history.specs.declared.stated.Stated.{Stated}

-- the innermost open box of what has happened
pub record Inner (h : List KeptEvent) (i : ℕ) (js : List ℕ) : Type 0 where
  pub box : KnownBox
  pub front : List KeptEvent
  pub before : List KeptEvent
  pub parts : h ≡ front ++ Opens box ∷ before
  pub long : suc (length before) ≡ i
  pub places : open_levels before ≡ js
  pub is : (p : Pooled) → innermost (map (event_in p) h) ≡ Some (box_in p box, map (event_in p) before)

further : (e : KeptEvent) (h : List KeptEvent) (i : ℕ) (is : List ℕ) (x : Inner h i is)
    → ((p : Pooled) → innermost (map (event_in p) (e ∷ h)) ≡ innermost (map (event_in p) h)) → Inner (e ∷ h) i is
further e h i is x s = record {
  box = x.box;
  front = e ∷ x.front;
  before = x.before;
  parts = ap (λ xs. e ∷ xs) x.parts;
  long = x.long;
  places = x.places;
  is = λ p. s p ∙ x.is p;
}

pub inner : (h : List KeptEvent) (i : ℕ) (is : List ℕ) → open_levels h ≡ i ∷ is → Inner h i is
inner [] i is e = absurd cc
inner (Says n s ∷ h) i is e = further (Says n s) h i is (inner h i is e) (λ p. refl)
inner (Opens b ∷ h) i is e =
    record { box = b; front = []; before = h; parts = refl; long = cc; places = cc; is = λ p. refl }
inner (Closes b s ∷ h) i is e = further (Closes b s) h i is (inner h i is e) (λ p. refl)

pub no_inner : (p : Pooled) (h : List KeptEvent) → open_levels h ≡ [] → innermost (map (event_in p) h) ≡ None
no_inner p [] e = refl
no_inner p (Says n s ∷ h) e = no_inner p h e
no_inner p (Opens b ∷ h) e = absurd cc
no_inner p (Closes b s ∷ h) e = no_inner p h e

reverse_parts : (xs ys : List KeptEvent) (e : KeptEvent) → reverse (xs ++ e ∷ ys) ≡ (reverse ys ++ e ∷ []) ++ reverse xs
reverse_parts xs ys e = reverse-append xs (e ∷ ys) ∙ ap (λ zs. zs ++ reverse xs) (reverse_onto ys e [])

-- what is left up to the innermost box
pub cut : (es : List KeptEvent) (i : ℕ) (is : List ℕ) (x : Inner (reverse es) i is)
    → take i es ≡ reverse x.before ++ Opens x.box ∷ []
cut es i is x =
    let a : es ≡ (reverse x.before ++ Opens x.box ∷ []) ++ reverse x.front =
    sym (reverse-reverse es) ∙ ap reverse x.parts ∙ reverse_parts x.front x.before (Opens x.box) in
    let l : length (reverse x.before ++ Opens x.box ∷ []) ≡ i =
    omega (arith, length_push (reverse x.before) (Opens x.box), length-reverse x.before, x.long) in
    ap (take i) a ∙ take_at (reverse x.before ++ Opens x.box ∷ []) (reverse x.front) i l

index_tail : (places : List ℕ) (xs ys : List KeptEvent) → IsIndexed places (xs ++ ys) → IsIndexed places ys
index_tail places [] ys h = h
index_tail places (x ∷ xs) ys h = index_tail places xs ys h.1

snoc_parts : {X : Type 0} (xs ys : List X) (x y : X) → xs ++ x ∷ [] ≡ ys ++ y ∷ [] → (xs ≡ ys) × (x ≡ y)
snoc_parts xs ys x y e =
    let r : x ∷ reverse xs ≡ y ∷ reverse ys =
    sym (reverse-append xs (x ∷ [])) ∙ ap reverse e ∙ reverse-append ys (y ∷ []) in
    let q : reverse xs ≡ reverse ys = cc in
    (sym (reverse-reverse xs) ∙ ap reverse q ∙ reverse-reverse ys, cc)

same_box : (k b : KnownBox) → Opens k ≡ Opens b → k ≡ b
same_box k b e = cc

-- what is known when the innermost box is found
pub record Cut (t : Theory) (p : Pooled) (a : KeptHistory) (n : ℕ) (s : Stated) (keep : List KeptEvent) (k : KnownBox)
    (os : List ℕ) : Type 0 where
  pub history : done_closes (history_in p a.events.items)
      ≡ Some (Closed (box_in p k) (stated_in p s) ∷ history_in p keep)
  pub index : IsIndexed a.places.items (Closes k s ∷ reverse keep)
  pub places : open_levels (reverse keep) ≡ reverse os
  pub within : All (IsHappened p) (keep ++ Closes k s ∷ [])

pub cut_known : (t : Theory) (p : Pooled) (a : KeptHistory) (es : List KeptEvent) (n : ℕ) (s : Stated) (os : List ℕ)
    (i : ℕ) (keep : List KeptEvent) (k : KnownBox) → IsPast t p a
    → a.events.items ≡ es ++ Says n s ∷ [] → a.levels.items ≡ os ++ i ∷ [] → take i es ≡ keep ++ Opens k ∷ []
    → Cut t p a n s keep k os
cut_known t p a es n s os i keep k h ev op tk =
    let r : reverse a.events.items ≡ Says n s ∷ reverse es = ap reverse ev ∙ reverse-append es (Says n s ∷ []) in
    let o : open_levels (reverse es) ≡ i ∷ reverse os =
    sym (ap open_levels r) ∙ h.levels ∙ ap reverse op ∙ reverse-append os (i ∷ []) in
    let x : Inner (reverse es) i (reverse os) = inner (reverse es) i (reverse os) o in
    let c = snoc_parts keep (reverse x.before) (Opens k) (Opens x.box) (sym tk ∙ cut es i (reverse os) x) in
    let kb : k ≡ x.box = same_box k x.box c.1 in
    let rk : reverse keep ≡ x.before = ap reverse c.0 ∙ reverse-reverse x.before in
    let ix : IsIndexed a.places.items (Says n s ∷ reverse es) = subst (IsIndexed a.places.items) r h.index in
    let iy : IsIndexed a.places.items (Opens x.box ∷ x.before) =
    index_tail a.places.items x.front (Opens x.box ∷ x.before) (subst (IsIndexed a.places.items) x.parts ix.1) in
    let ae : All (IsHappened p) (es ++ Says n s ∷ []) = subst (All (IsHappened p)) ev h.within in
    let ap2 = All-pop (IsHappened p) (es ++ Says n s ∷ []) es (Some (Says n s)) refl ae in
    let at : All (IsHappened p) (keep ++ Opens k ∷ []) =
    subst (All (IsHappened p)) tk (All-take (IsHappened p) i es ap2.0) in
    let ap3 = All-pop (IsHappened p) (keep ++ Opens k ∷ []) keep (Some (Opens k)) refl at in
    record {
      history =
          ap (λ xs. done_closes (map (event_in p) xs)) r
          ∙ ap (option_map (λ q. Closed q.0 (stated_in p s) ∷ q.1)) (x.is p)
          ∙ (λ j. Some (Closed (box_in p (sym kb j)) (stated_in p s) ∷ map (event_in p) (sym rk j)));
      index = subst (λ b. IsIndexed a.places.items (Closes b s ∷ reverse keep)) (sym kb)
          (subst (λ xs. IsIndexed a.places.items (Closes x.box s ∷ xs)) (sym rk) iy);
      places = ap open_levels rk ∙ x.places;
      within = All-push (IsHappened p) keep (Closes k s) ap3.0 (ap3.1, ap2.1);
    }

-- no box is open, or the line directly before says nothing
pub uncut : (t : Theory) (p : Pooled) (a : KeptHistory) (es : List KeptEvent) (n : ℕ) (s : Stated) → IsPast t p a
    → a.events.items ≡ es ++ Says n s ∷ [] → a.levels.items ≡ [] → done_closes (history_in p a.events.items) ≡ None
uncut t p a es n s h ev op =
    let r : reverse a.events.items ≡ Says n s ∷ reverse es = ap reverse ev ∙ reverse-append es (Says n s ∷ []) in
    let o : open_levels (reverse es) ≡ [] = sym (ap open_levels r) ∙ h.levels ∙ ap reverse op in
    ap (λ xs. done_closes (map (event_in p) xs)) r
    ∙ ap (option_map (λ q. Closed q.0 (stated_in p s) ∷ q.1)) (no_inner p (reverse es) o)

-- what is kept behind a closed box
pub ended : (t : Theory) (p : Pooled) (a b : KeptHistory) (n : ℕ) (s : Stated) (keep : List KeptEvent) (k : KnownBox)
    (os : List ℕ) (l : ℕ)
    → Cut t p a n s keep k os → b.own.items ≡ a.own.items → b.places.items ≡ a.places.items ++ l ∷ []
    → b.events.items ≡ keep ++ Closes k s ∷ [] → b.levels.items ≡ os
    → IsPast t p a → IsPast t p b
ended t p a b n s keep k os l x own places events level h = record {
  own = ap (map (slice_get p.operators)) own ∙ h.own;
  within = subst (All (IsHappened p)) (sym events) x.within;
  index = subst (λ xs. IsIndexed xs (reverse b.events.items)) (sym places)
      (subst (λ es. IsIndexed (a.places.items ++ l ∷ []) (reverse es)) (sym events)
      (subst (IsIndexed (a.places.items ++ l ∷ [])) (sym (reverse-append keep (Closes k s ∷ [])))
      (index_more a.places.items l (Closes k s ∷ reverse keep) x.index)));
  levels = ap (λ es. open_levels (reverse es)) events ∙ open_push keep (Closes k s) ∙ x.places ∙ ap reverse (sym level);
}

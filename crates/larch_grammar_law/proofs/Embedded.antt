-- A language whose trees are part of another type: what is claimed of it and of its embedding is the same, so a
-- machine that ends in the other type answers for it.
use Rattle.std.proofs.Common.{◌≡◌, ℕ, suc, Bool, Option, Some, None, Result, Ok, Err, List, [], ◌∷◌, ◌++◌, refl, sym}
use Rattle.std.proofs.Common.{ap, subst, ◌∙◌, ◌↔◌}
use Rattle.larch_grammar_law.specs.Claims.{AllFree, Begins, Counted, EndsBefore, Free, Means, MeansFront, Spells}
use Rattle.larch_grammar_law.specs.Claims.{Stands, StandsBehind}
use Rattle.larch_grammar_law.specs.Mark.{admission}
use Rattle.larch_grammar_law.specs.Answer.{at_end, at_front, at_mark, at_step, front, front_at, front_on, go_on, look}
use Rattle.larch_grammar_law.specs.declared.mark.Flaw.{Flaw}
use Rattle.larch_grammar_law.specs.declared.mark.Flaw.TheVariants.{Mixed, Syntax, Deep, Large}
use Rattle.larch_grammar_law.specs.declared.mark.Mark.{Mark}

module _ {Token T W Position : Type 0} (L : Bool → List (Token × Mark) → T → Type 0) (c : T → W)
    (position : Token → Position) (end : Position) where
  -- the language in the other type
  abbrev pub Through : Bool → List (Token × Mark) → W → Type 0
  Through s ms w = (t : T) × L s ms t × (c t ≡ w)

  abbrev pub outward : Result T (Flaw × Position) → Result W (Flaw × Position)
  outward (Ok t) = Ok (c t)
  outward (Err f) = Err f

  abbrev pub outward_front : Result (T × ℕ) (Flaw × Position) → Result (W × ℕ) (Flaw × Position)
  outward_front (Ok t) = Ok (c t.0, t.1)
  outward_front (Err f) = Err f

  spells_in : (us : List Token) (t : T) → Spells L us t → Spells Through us (c t)
  spells_in us t s = (s.0, (t, s.1, refl), s.2)

  pub spells_out : (us : List Token) (w : W) → Spells Through us w → (t : T) × Spells L us t × (c t ≡ w)
  spells_out us w s = (s.1.0, (s.0, s.1.1, s.2), s.1.2)

  begins_in : (us : List Token) → Begins L us → Begins Through us
  begins_in us b = (b.0, c b.1, spells_in (us ++ b.0) b.1 b.2)

  begins_out : (us : List Token) → Begins Through us → Begins L us
  begins_out us b = let s = spells_out (us ++ b.0) b.1 b.2 in (b.0, s.0, s.1)

  counted_in : (f : Flaw) (us : List Token) (t : Token) → Counted L f us t → Counted Through f us t
  counted_in f us t k = (k.0, k.1, k.2, c k.3, (k.3, k.4, refl), k.5, k.6)

  counted_out : (f : Flaw) (us : List Token) (t : Token) → Counted Through f us t → Counted L f us t
  counted_out f us t k = (k.0, k.1, k.2, k.4.0, k.4.1, k.5, k.6)

  free_in : (us : List Token) (t : Token) → Free L us t → Free Through us t
  free_in us t k = (
    λ d. k.0 (counted_out Mixed us t d),
    begins_in (us ++ t ∷ []) k.1,
    λ d. k.2 (counted_out Deep us t d),
    λ d. k.3 (counted_out Large us t d),
  )

  free_out : (us : List Token) (t : Token) → Free Through us t → Free L us t
  free_out us t k = (
    λ d. k.0 (counted_in Mixed us t d),
    begins_out (us ++ t ∷ []) k.1,
    λ d. k.2 (counted_in Deep us t d),
    λ d. k.3 (counted_in Large us t d),
  )

  all_free_in : (ts us : List Token) → AllFree L us ts → AllFree Through us ts
  all_free_in [] us k = tt
  all_free_in (t ∷ ts) us k = (free_in us t k.0, all_free_in ts (us ++ t ∷ []) k.1)

  all_free_out : (ts us : List Token) → AllFree Through us ts → AllFree L us ts
  all_free_out [] us k = tt
  all_free_out (t ∷ ts) us k = (free_out us t k.0, all_free_out ts (us ++ t ∷ []) k.1)

  none_in : (us : List Token) → ((t : T) → Spells L us t → ⊥) → (w : W) → Spells Through us w → ⊥
  none_in us k w s = let o = spells_out us w s in k o.0 o.1

  none_out : (us : List Token) → ((w : W) → Spells Through us w → ⊥) → (t : T) → Spells L us t → ⊥
  none_out us k t s = k (c t) (spells_in us t s)

  stands_in : (f : Flaw) (us ts : List Token) → Stands L f us ts → Stands Through f us ts
  stands_in Mixed us [] k = absurd k
  stands_in Syntax us [] k = (begins_in us k.0, none_in us k.1)
  stands_in Deep us [] k = absurd k
  stands_in Large us [] k = absurd k
  stands_in Mixed us (t ∷ ts) k = counted_in Mixed us t k
  stands_in Syntax us (t ∷ ts) k =
      (λ d. k.0 (counted_out Mixed us t d), begins_in us k.1, λ b. k.2 (begins_out (us ++ t ∷ []) b))
  stands_in Deep us (t ∷ ts) k =
      (λ d. k.0 (counted_out Mixed us t d), begins_in (us ++ t ∷ []) k.1, counted_in Deep us t k.2)
  stands_in Large us (t ∷ ts) k = (
    λ d. k.0 (counted_out Mixed us t d),
    begins_in (us ++ t ∷ []) k.1,
    λ d. k.2 (counted_out Deep us t d),
    counted_in Large us t k.3,
  )

  stands_out : (f : Flaw) (us ts : List Token) → Stands Through f us ts → Stands L f us ts
  stands_out Mixed us [] k = absurd k
  stands_out Syntax us [] k = (begins_out us k.0, none_out us k.1)
  stands_out Deep us [] k = absurd k
  stands_out Large us [] k = absurd k
  stands_out Mixed us (t ∷ ts) k = counted_out Mixed us t k
  stands_out Syntax us (t ∷ ts) k =
      (λ d. k.0 (counted_in Mixed us t d), begins_out us k.1, λ b. k.2 (begins_in (us ++ t ∷ []) b))
  stands_out Deep us (t ∷ ts) k =
      (λ d. k.0 (counted_in Mixed us t d), begins_out (us ++ t ∷ []) k.1, counted_out Deep us t k.2)
  stands_out Large us (t ∷ ts) k = (
    λ d. k.0 (counted_in Mixed us t d),
    begins_out (us ++ t ∷ []) k.1,
    λ d. k.2 (counted_in Deep us t d),
    counted_out Large us t k.3,
  )

  ends_in : (us ts : List Token) → EndsBefore L us ts → EndsBefore Through us ts
  ends_in us [] k = tt
  ends_in us (t ∷ ts) k = (λ b. k.0 (begins_out (us ++ t ∷ []) b), λ d. k.1 (counted_out Mixed us t d))

  ends_out : (us ts : List Token) → EndsBefore Through us ts → EndsBefore L us ts
  ends_out us [] k = tt
  ends_out us (t ∷ ts) k = (λ b. k.0 (begins_in (us ++ t ∷ []) b), λ d. k.1 (counted_in Mixed us t d))

  behind_in : (f : Flaw) (us ts : List Token) → StandsBehind L f us ts → StandsBehind Through f us ts
  behind_in Mixed us ts k = stands_in Mixed us ts k
  behind_in Syntax us ts k = (begins_in us k.0, ends_in us ts k.1, none_in us k.2)
  behind_in Deep us ts k = stands_in Deep us ts k
  behind_in Large us ts k = stands_in Large us ts k

  behind_out : (f : Flaw) (us ts : List Token) → StandsBehind Through f us ts → StandsBehind L f us ts
  behind_out Mixed us ts k = stands_out Mixed us ts k
  behind_out Syntax us ts k = (begins_out us k.0, ends_out us ts k.1, none_out us k.2)
  behind_out Deep us ts k = stands_out Deep us ts k
  behind_out Large us ts k = stands_out Large us ts k

  means_in : (ts : List Token) (a : Result T (Flaw × Position)) → Means L position end ts a
      → Means Through position end ts (outward a)
  means_in ts (Ok t) m = (all_free_in ts [] m.0, spells_in ts t m.1)
  means_in ts (Err f) m = (m.0, m.1, m.2, all_free_in m.0 [] m.3, stands_in f.0 m.0 m.1 m.4, m.5)

  means_fault : (ts : List Token) (f : Flaw × Position) → Means Through position end ts (Err f)
      → Means L position end ts (Err f)
  means_fault ts f m = (m.0, m.1, m.2, all_free_out m.0 [] m.3, stands_out f.0 m.0 m.1 m.4, m.5)

  front_in : (ts : List Token) (a : Result (T × ℕ) (Flaw × Position)) → MeansFront L position end ts a
      → MeansFront Through position end ts (outward_front a)
  front_in ts (Ok t) m = (m.0, m.1, m.2, all_free_in m.0 [] m.3, spells_in m.0 t.0 m.4, ends_in m.0 m.1 m.5, m.6)
  front_in ts (Err f) m = (m.0, m.1, m.2, all_free_in m.0 [] m.3, behind_in f.0 m.0 m.1 m.4, m.5)

  front_fault : (ts : List Token) (f : Flaw × Position) → MeansFront Through position end ts (Err f)
      → MeansFront L position end ts (Err f)
  front_fault ts f m = (m.0, m.1, m.2, all_free_out m.0 [] m.3, behind_out f.0 m.0 m.1 m.4, m.5)

  module _ {State : Type 0} (step : State → Token → Option (Mark × State)) (final : State → Option W)
      (part : Option W → Option T)
      (as_none : part None ≡ None) (as_some : (t : T) → part (Some (c t)) ≡ Some t) where
    abbrev narrow_look : ℕ → State → List Token → Result T (Flaw × Position)
    narrow_look h n ts = look step (λ k. part (final k)) position end h n ts

    abbrev wide_look : ℕ → State → List Token → Result W (Flaw × Position)
    wide_look h n ts = look step final position end h n ts

    abbrev narrow_front : ℕ → ℕ → State → List Token → Result (T × ℕ) (Flaw × Position)
    narrow_front h m n ts = front step (λ k. part (final k)) position end h m n ts

    abbrev wide_front : ℕ → ℕ → State → List Token → Result (W × ℕ) (Flaw × Position)
    wide_front h m n ts = front step final position end h m n ts

    -- an answer in the other type is the answer
    abbrev Narrows : Result W (Flaw × Position) → Result T (Flaw × Position) → Type 0
    Narrows (Ok w) a = (t : T) → c t ≡ w → a ≡ Ok t
    Narrows (Err f) a = a ≡ Err f

    abbrev NarrowsFront : Result (W × ℕ) (Flaw × Position) → Result (T × ℕ) (Flaw × Position) → Type 0
    NarrowsFront (Ok w) a = (t : T) → c t ≡ w.0 → a ≡ Ok (t, w.1)
    NarrowsFront (Err f) a = a ≡ Err f

    at_end_narrows : (o : Option W) → Narrows (at_end end o) (at_end end (part o))
    at_end_narrows None = ap (at_end end) as_none
    at_end_narrows (Some w) = λ t e. ap (λ x. at_end end (part (Some x))) (sym e) ∙ ap (at_end end) (as_some t)

    go_narrows : (o : Result (ℕ × State) (Flaw × Position)) (f : ℕ → State → Result W (Flaw × Position))
        (g : ℕ → State → Result T (Flaw × Position))
        → ((h : ℕ) (n : State) → Narrows (f h n) (g h n)) → Narrows (go_on o f) (go_on o g)
    go_narrows (Ok p) f g k = k p.0 p.1
    go_narrows (Err e) f g k = refl

    look_narrows : (ts : List Token) (h : ℕ) (n : State) → Narrows (wide_look h n ts) (narrow_look h n ts)
    look_narrows [] h n = at_end_narrows (final n)
    look_narrows (t ∷ ts) h n =
        go_narrows (at_step (position t) h (step n t)) (λ g k. wide_look g k ts) (λ g k. narrow_look g k ts)
        (λ g k. look_narrows ts g k)

    at_front_narrows : (p : Position) (m : ℕ) (o : Option W) → NarrowsFront (at_front p m o) (at_front p m (part o))
    at_front_narrows p m None = ap (at_front p m) as_none
    at_front_narrows p m (Some w) =
        λ t e. ap (λ x. at_front p m (part (Some x))) (sym e) ∙ ap (at_front p m) (as_some t)

    front_on_narrows : (o : Result (ℕ × State) (Flaw × Position)) (f : ℕ → State → Result (W × ℕ) (Flaw × Position))
        (g : ℕ → State → Result (T × ℕ) (Flaw × Position))
        → ((h : ℕ) (n : State) → NarrowsFront (f h n) (g h n)) → NarrowsFront (front_on o f) (front_on o g)
    front_on_narrows (Ok p) f g k = k p.0 p.1
    front_on_narrows (Err e) f g k = refl

    front_at_narrows : (p : Position) (h m : ℕ) (w : Option W) (o : Option (Mark × State))
        (f : ℕ → State → Result (W × ℕ) (Flaw × Position)) (g : ℕ → State → Result (T × ℕ) (Flaw × Position))
        → ((h : ℕ) (n : State) → NarrowsFront (f h n) (g h n))
        → NarrowsFront (front_at p h m w o f) (front_at p h m (part w) o g)
    front_at_narrows p h m w None f g k = at_front_narrows p m w
    front_at_narrows p h m w (Some q) f g k = front_on_narrows (at_mark p q.1 (admission h q.0)) f g k

    front_narrows : (ts : List Token) (h m : ℕ) (n : State) → NarrowsFront (wide_front h m n ts) (narrow_front h m n ts)
    front_narrows [] h m n = at_front_narrows end m (final n)
    front_narrows (t ∷ ts) h m n =
        front_at_narrows (position t) h m (final n) (step n t) (λ g k. wide_front g (suc m) k ts)
        (λ g k. narrow_front g (suc m) k ts) (λ g k. front_narrows ts g (suc m) k)

    law_out : (ts : List Token) (h : ℕ) (n : State) (w : Result W (Flaw × Position)) (a : Result T (Flaw × Position))
        → Narrows w (narrow_look h n ts) → Means Through position end ts w → narrow_look h n ts ≡ a
        → Means L position end ts a
    law_out ts h n (Ok w) a k m e =
        let o = spells_out ts w m.1 in
        subst (λ x. Means L position end ts x) (sym (k o.0 o.2) ∙ e) (all_free_out ts [] m.0, o.1)
    law_out ts h n (Err f) a k m e = subst (λ x. Means L position end ts x) (sym k ∙ e) (means_fault ts f m)

    law_in : (ts : List Token) (h : ℕ) (n : State) (a : Result T (Flaw × Position))
        → Narrows (outward a) (narrow_look h n ts) → narrow_look h n ts ≡ a
    law_in ts h n (Ok t) k = k t refl
    law_in ts h n (Err f) k = k

    -- where the machine's answer in the other type is what the embedded language says, its answer is what the language
    -- says
    pub embedded_verdict : (ts : List Token) (h : ℕ) (n : State)
        → ((b : Result W (Flaw × Position)) → (wide_look h n ts ≡ b) ↔ Means Through position end ts b)
        → (a : Result T (Flaw × Position)) → (narrow_look h n ts ≡ a) ↔ Means L position end ts a
    embedded_verdict ts h n v a = (
      λ e. law_out ts h n (wide_look h n ts) a (look_narrows ts h n) ((v (wide_look h n ts)).0 refl) e,
      λ m. law_in ts h n a (subst (λ x. Narrows x (narrow_look h n ts)) ((v (outward a)).1 (means_in ts a m))
          (look_narrows ts h n)),
    )

    front_out : (ts : List Token) (h l : ℕ) (n : State) (w : Result (W × ℕ) (Flaw × Position))
        (a : Result (T × ℕ) (Flaw × Position)) → NarrowsFront w (narrow_front h l n ts)
        → MeansFront Through position end ts w → narrow_front h l n ts ≡ a → MeansFront L position end ts a
    front_out ts h l n (Ok w) a k m e =
        let o = spells_out m.0 w.0 m.4 in
        subst (λ x. MeansFront L position end ts x) (sym (k o.0 o.2) ∙ e)
        (m.0, m.1, m.2, all_free_out m.0 [] m.3, o.1, ends_out m.0 m.1 m.5, m.6)
    front_out ts h l n (Err f) a k m e = subst (λ x. MeansFront L position end ts x) (sym k ∙ e) (front_fault ts f m)

    front_back : (ts : List Token) (h l : ℕ) (n : State) (a : Result (T × ℕ) (Flaw × Position))
        → NarrowsFront (outward_front a) (narrow_front h l n ts) → narrow_front h l n ts ≡ a
    front_back ts h l n (Ok t) k = k t.0 refl
    front_back ts h l n (Err f) k = k

    -- the same for the longest front
    pub embedded_front : (ts : List Token) (h l : ℕ) (n : State)
        → ((b : Result (W × ℕ) (Flaw × Position)) → (wide_front h l n ts ≡ b) ↔ MeansFront Through position end ts b)
        → (a : Result (T × ℕ) (Flaw × Position)) → (narrow_front h l n ts ≡ a) ↔ MeansFront L position end ts a
    embedded_front ts h l n v a = (
      λ e. front_out ts h l n (wide_front h l n ts) a (front_narrows ts h l n) ((v (wide_front h l n ts)).0 refl) e,
      λ m. front_back ts h l n a (subst (λ x. NarrowsFront x (narrow_front h l n ts))
          ((v (outward_front a)).1 (front_in ts a m)) (front_narrows ts h l n)),
    )

-- The answer of a machine means what the language says, for any machine that takes one token at a time, whose
-- steps can be taken back, and whose every state can be completed.
use Rattle.std.proofs.Common.{◌≡◌, ℕ, suc, length, Bool, true, false, IsTrue, Option, Some, None, Result, Ok, Err, inl}
use Rattle.std.proofs.Common.{inr, List, [], ◌∷◌, ◌++◌, cond, refl, sym, ap, subst, ◌∙◌, ◌↔◌, append_assoc}
use Rattle.std.proofs.Math.Path.{ap₂}
use Rattle.std.proofs.lemmas.List.{append-nil, map-append}
use Rattle.larch_grammar_law.specs.Claims.{Begins, Counted, Means, MeansFront, Spells, tokens_of}
use Rattle.larch_grammar_law.specs.Mark.{counts, heads_behind, heads_of, is_deep, is_large, is_mixed}
use Rattle.larch_grammar_law.specs.Answer.{at_end, at_front, at_mark, at_step, front, front_at, front_on, go_on, look}
use Rattle.larch_grammar_law.specs.Walks.{Accepts, Taken, Walk}
use Rattle.larch_grammar_law.specs.declared.mark.Flaw.{Flaw}
use Rattle.larch_grammar_law.specs.declared.mark.Flaw.TheVariants.{Mixed, Syntax, Deep, Large}
use Rattle.larch_grammar_law.specs.declared.mark.Mark.{Mark}
use Rattle.larch_grammar_law.proofs.Fronts.{Ends, SaidFront, from_front, one_front, to_front}
use Rattle.larch_grammar_law.proofs.Meanings.{Said, from_said, one_answer, to_said}
use Rattle.larch_grammar_law.proofs.Walking.{cut, cut_tokens, head_equal, heads_of-append, nil_cons, none_some}
use Rattle.larch_grammar_law.proofs.Walking.{same_walk, some_equal, taken, walk_of, walk_on}

true_false : (b : Bool) → b ≡ true → b ≡ false → ⊥
true_false b e f = let q : true ≡ false = sym e ∙ f in cc

length_more : {A : Type 0} (xs : List A) (x : A) → length (xs ++ x ∷ []) ≡ suc (length xs)
length_more [] x = refl
length_more (y ∷ xs) x = ap suc (length_more xs x)

module _ {Token State Tree Position : Type 0}
    (L : Bool → List (Token × Mark) → Tree → Type 0)
    (step : Bool → State → Token → Option (Mark × State))
    (final : State → Option Tree)
    (start : State)
    (Fits : Bool → State → List (Token × Mark) → Tree → Type 0)
    (step_back : (s : Bool) (n : State) (t : Token)
    → Taken (step s n t) (λ m k. (i : List (Token × Mark)) (z : Tree) → Fits s k i z → Fits s n ((t, m) ∷ i) z))
    (final_fits : (s : Bool) (n : State) (z : Tree) → final n ≡ Some z → Fits s n [] z)
    (over : (s : Bool) (i : List (Token × Mark)) (z : Tree) → Fits s start i z → L s i z)
    (some_fit : (s : Bool) (n : State) → (i : List (Token × Mark)) × (z : Tree) × Fits s n i z)
    (complete : (s : Bool) (i : List (Token × Mark)) (z : Tree) → L s i z → Accepts (step s) final start i z)
    (agree : (n : State) (t : Token) (m : Mark) (k : State) → step true n t ≡ Some (m, k) → is_mixed m ≡ false
    → step false n t ≡ Some (m, k))
    (stray : (n : State) (t : Token) (m : Mark) (k : State) → step false n t ≡ Some (m, k)
    → step true n t ≡ Some (m, k))
    (position : Token → Position)
    (end : Position)
  where
    -- the machine is here behind these tokens, with so many head tokens
    abbrev Reached : List Token → ℕ → State → Type 0
    Reached us h n =
        (ms : List (Token × Mark)) × Walk (step false) start ms n × (tokens_of ms ≡ us) × (heads_of 0 ms ≡ h)

    step_fits : (s : Bool) (n k : State) (t : Token) (m : Mark) (i : List (Token × Mark)) (z : Tree)
        → step s n t ≡ Some (m, k) → Fits s k i z → Fits s n ((t, m) ∷ i) z
    step_fits s n k t m i z e f =
        taken (λ m k. (i : List (Token × Mark)) (z : Tree) → Fits s k i z → Fits s n ((t, m) ∷ i) z) (step s n t) m k e
        (step_back s n t) i z f

    walk_fits : (s : Bool) (ms i : List (Token × Mark)) (n k : State) (z : Tree) → Walk (step s) n ms k → Fits s k i z
        → Fits s n (ms ++ i) z
    walk_fits s [] i n k z w f = subst (λ x. Fits s x i z) (sym w) f
    walk_fits s (m ∷ ms) i n k z w f = step_fits s n w.0 m.0 m.1 (ms ++ i) z w.1 (walk_fits s ms i w.0 k z w.2 f)

    with_strays : (ms : List (Token × Mark)) (n k : State) → Walk (step false) n ms k → Walk (step true) n ms k
    with_strays [] n k w = w
    with_strays (m ∷ ms) n k w = (w.0, stray n m.0 m.1 w.0 w.1, with_strays ms w.0 k w.2)

    -- a token list has one tree
    pub one_tree : (us : List Token) (y z : Tree) → Spells L us y → Spells L us z → y ≡ z
    one_tree us y z c d =
        let v = walk_of (step false) final c.0 start y (complete false c.0 y c.1) in
        let w = walk_of (step false) final d.0 start z (complete false d.0 z d.1) in
        let s = same_walk (step false) final c.0 d.0 start v.0 w.0 v.1 w.1 (c.2 ∙ sym d.2) in
        some_equal (sym v.2 ∙ ap final s.1 ∙ w.2)

    begun : (us : List Token) (h : ℕ) (n : State) → Reached us h n → Begins L us
    begun us h n r =
        let f = some_fit false n in (
          tokens_of f.0,
          f.1,
          (
            r.0 ++ f.0,
            over false (r.0 ++ f.0) f.1 (walk_fits false r.0 f.0 start n f.1 r.1 f.2),
            map-append (λ (m : Token × Mark). m.0) r.0 f.0 ∙ ap (λ ts. ts ++ tokens_of f.0) r.2,
          ),
        )

    spelled : (us : List Token) (h : ℕ) (n : State) (z : Tree) → Reached us h n → final n ≡ Some z → Spells L us z
    spelled us h n z r e = (
      r.0,
      over false r.0 z (subst (λ ms. Fits false start ms z) (append-nil r.0)
          (walk_fits false r.0 [] start n z r.1 (final_fits false n z e))),
      r.2,
    )

    ended : (us : List Token) (h : ℕ) (n : State) (z : Tree) → Reached us h n → Spells L us z → final n ≡ Some z
    ended us h n z r c =
        let w = walk_of (step false) final c.0 start z (complete false c.0 z c.1) in
        let s = same_walk (step false) final r.0 c.0 start n w.0 r.1 w.1 (r.2 ∙ sym c.2) in
        ap final s.1 ∙ w.2

    stepped : (us : List Token) (h : ℕ) (n k : State) (t : Token) (m : Mark) → Reached us h n
        → step false n t ≡ Some (m, k) → Reached (us ++ t ∷ []) (heads_behind h m) k
    stepped us h n k t m r e = (
      r.0 ++ (t, m) ∷ [],
      walk_on (step false) final r.0 start n k t m r.1 e,
      map-append (λ (p : Token × Mark). p.0) r.0 ((t, m) ∷ []) ∙ ap (λ ts. ts ++ t ∷ []) r.2,
      heads_of-append r.0 (t, m) 0 ∙ ap (λ x. heads_behind x m) r.3,
    )

    first_step : (n k : State) (t : Token) (rest : List Token) (bs : List (Token × Mark)) (z : Tree) → n ≡ k
        → Accepts (step false) final k bs z → tokens_of bs ≡ t ∷ rest
        → (m : Mark) × (l : State) × (step false n t ≡ Some (m, l))
    first_step n k t rest [] z e r q = absurd (nil_cons q)
    first_step n k t rest (b ∷ bs) z e r q = (b.1, r.0, ap₂ (step false) e (sym (head_equal q)) ∙ r.1)

    -- where the tokens up to one begin a text, there is a step
    goes_on : (us : List Token) (h : ℕ) (n : State) (t : Token) → Reached us h n → Begins L (us ++ t ∷ [])
        → (m : Mark) × (k : State) × (step false n t ≡ Some (m, k))
    goes_on us h n t r b =
        let c = cut_tokens (step false) final us (t ∷ b.0) b.2.0 start b.1 (b.2.2 ∙ append_assoc us (t ∷ []) b.0)
        (complete false b.2.0 b.1 b.2.1) in
        let s = same_walk (step false) final r.0 c.0 start n c.2 r.1 c.3 (r.2 ∙ sym c.4) in
        first_step n c.2 t b.0 c.1 b.1 s.1 c.5 c.6

    -- what is counted at a token is counted at the step
    counted_step : (f : Flaw) (us : List Token) (h : ℕ) (n : State) (t : Token) → Reached us h n → Counted L f us t
        → (m : Mark) × (k : State) × (step true n t ≡ Some (m, k)) × IsTrue (counts f h m)
    counted_step f us h n t r c =
        let d = cut (step true) final c.0 ((t, c.1) ∷ c.2) start c.3 (complete true (c.0 ++ (t, c.1) ∷ c.2) c.3 c.4) in
        let s = same_walk (step true) final r.0 c.0 start n d.0 (with_strays r.0 start n r.1) d.1 (r.2 ∙ sym c.5) in (
          c.1,
          d.2.0,
          ap (λ x. step true x t) s.1 ∙ d.2.1,
          subst (λ x. IsTrue (counts f x c.1)) (sym (ap (heads_of 0) s.0) ∙ r.3) c.6,
        )

    step_counted : (f : Flaw) (us : List Token) (h : ℕ) (n k : State) (t : Token) (m : Mark) → Reached us h n
        → step true n t ≡ Some (m, k) → counts f h m ≡ true → Counted L f us t
    step_counted f us h n k t m r e q =
        let g = some_fit true k in
        let w = with_strays r.0 start n r.1 in (
          r.0,
          m,
          g.0,
          g.1,
          over true (r.0 ++ (t, m) ∷ g.0) g.1
              (walk_fits true r.0 ((t, m) ∷ g.0) start n g.1 w (step_fits true n k t m g.0 g.1 e g.2)),
          r.2,
          subst (λ x. IsTrue (counts f x m)) (sym r.3) q,
        )

    uncounted : (f : Flaw) (us : List Token) (h : ℕ) (n k : State) (t : Token) (m : Mark) → Reached us h n
        → step true n t ≡ Some (m, k) → counts f h m ≡ false → Counted L f us t → ⊥
    uncounted f us h n k t m r e q c =
        let d = counted_step f us h n t r c in
        let same : (m, k) ≡ (d.0, d.1) = some_equal (sym e ∙ d.2) in
        true_false (counts f h m) (ap (λ p. counts f h p.0) same ∙ d.3) q

    -- the answer behind these tokens, at one with this step and mark, where what follows is answered
    abbrev Goes : List Token → Token → List Token → Type 0
    Goes us t ts =
        (g : ℕ) (k : State) → Reached (us ++ t ∷ []) g k
        → Said L position end (us ++ t ∷ []) ts (look (step true) final position end g k ts)

    abbrev on : List Token → ℕ → State → Result Tree (Flaw × Position)
    on ts g k = look (step true) final position end g k ts

    module _ (us : List Token) (h : ℕ) (n k : State) (t : Token) (m : Mark) (ts : List Token) (r : Reached us h n)
        (e : step true n t ≡ Some (m, k)) (go : Goes us t ts) where
      said_large : is_mixed m ≡ false → is_deep m ≡ false → (large : Bool) → is_large h m ≡ large
          → Said L position end us (t ∷ ts)
          (go_on (at_mark (position t) k (cond large (Err Large) (Ok (heads_behind h m)))) (on ts))
      said_large p q true l =
          inr (
            Large,
            (
              uncounted Mixed us h n k t m r e p,
              begun (us ++ t ∷ []) (heads_behind h m) k (stepped us h n k t m r (agree n t m k e p)),
              uncounted Deep us h n k t m r e q,
              step_counted Large us h n k t m r e l,
            ),
            refl,
          )
      said_large p q false l =
          let s = stepped us h n k t m r (agree n t m k e p) in
          inl (
            (
              uncounted Mixed us h n k t m r e p,
              begun (us ++ t ∷ []) (heads_behind h m) k s,
              uncounted Deep us h n k t m r e q,
              uncounted Large us h n k t m r e l,
            ),
            go (heads_behind h m) k s,
          )

      said_deep : is_mixed m ≡ false → (deep : Bool) → is_deep m ≡ deep
          → Said L position end us (t ∷ ts)
          (go_on (at_mark (position t) k
          (cond deep (Err Deep) (cond (is_large h m) (Err Large) (Ok (heads_behind h m))))) (on ts))
      said_deep p true q =
          inr (
            Deep,
            (
              uncounted Mixed us h n k t m r e p,
              begun (us ++ t ∷ []) (heads_behind h m) k (stepped us h n k t m r (agree n t m k e p)),
              step_counted Deep us h n k t m r e q,
            ),
            refl,
          )
      said_deep p false q = said_large p q (is_large h m) refl

      said_mark : (mixed : Bool) → is_mixed m ≡ mixed
          → Said L position end us (t ∷ ts)
          (go_on (at_mark (position t) k
          (cond mixed (Err Mixed) (cond (is_deep m) (Err Deep)
          (cond (is_large h m) (Err Large) (Ok (heads_behind h m)))))) (on ts))
      said_mark true p = inr (Mixed, step_counted Mixed us h n k t m r e p, refl)
      said_mark false p = said_deep p (is_deep m) refl

    said_step : (us : List Token) (h : ℕ) (n : State) (t : Token) (ts : List Token) → Reached us h n → Goes us t ts
        → (o : Option (Mark × State)) → step true n t ≡ o
        → Said L position end us (t ∷ ts) (go_on (at_step (position t) h o) (on ts))
    said_step us h n t ts r go None e =
        inr (
          Syntax,
          (
            λ c. none_some (sym e ∙ (counted_step Mixed us h n t r c).2),
            begun us h n r,
            λ b. let d = goes_on us h n t r b in none_some (sym e ∙ stray n t d.0 d.1 d.2),
          ),
          refl,
        )
    said_step us h n t ts r go (Some p) e = said_mark us h n p.1 t p.0 ts r e go (is_mixed p.0) refl

    said_end : (us : List Token) (h : ℕ) (n : State) → Reached us h n → (o : Option Tree) → final n ≡ o
        → Said L position end us [] (at_end end o)
    said_end us h n r None e = ((begun us h n r, λ z s. none_some (sym e ∙ ended us h n z r s)), refl)
    said_end us h n r (Some z) e = spelled us h n z r e

    said : (ts us : List Token) (h : ℕ) (n : State) → Reached us h n
        → Said L position end us ts (look (step true) final position end h n ts)
    said [] us h n r = said_end us h n r (final n) refl
    said (t ∷ ts) us h n r = said_step us h n t ts r (λ g k s. said ts (us ++ t ∷ []) g k s) (step true n t) refl

    said_all : (ts : List Token) → Said L position end [] ts (look (step true) final position end 0 start ts)
    said_all ts = said ts [] 0 start ([], refl, refl, refl)

    -- the answer is exactly what the language says
    pub verdict : (ts : List Token) (a : Result Tree (Flaw × Position))
        → (look (step true) final position end 0 start ts ≡ a) ↔ Means L position end ts a
    verdict ts a = (
      λ e. from_said L position end ts [] a (subst (λ x. Said L position end [] ts x) e (said_all ts)),
      λ m. one_answer L position end one_tree ts [] (look (step true) final position end 0 start ts) a (said_all ts)
          (to_said L position end ts [] a m),
    )

    -- the same for the longest front

    abbrev front_from : List Token → ℕ → ℕ → State → Result (Tree × ℕ) (Flaw × Position)
    front_from ts c g k = front (step true) final position end g c k ts

    module _ (us : List Token) (h : ℕ) (n k : State) (t : Token) (m : Mark) (ts : List Token) (c : ℕ)
        (r : Reached us h n) (e : step true n t ≡ Some (m, k))
        (go : (g : ℕ) (l : State) → Reached (us ++ t ∷ []) g l
        → SaidFront L position end (us ++ t ∷ []) ts (front_from ts c g l)) where
      front_large : is_mixed m ≡ false → is_deep m ≡ false → (large : Bool) → is_large h m ≡ large
          → SaidFront L position end us (t ∷ ts)
          (front_on (at_mark (position t) k (cond large (Err Large) (Ok (heads_behind h m)))) (front_from ts c))
      front_large p q true l =
          inr
          (inl (
            Large,
            (
              uncounted Mixed us h n k t m r e p,
              begun (us ++ t ∷ []) (heads_behind h m) k (stepped us h n k t m r (agree n t m k e p)),
              uncounted Deep us h n k t m r e q,
              step_counted Large us h n k t m r e l,
            ),
            refl,
          ))
      front_large p q false l =
          let s = stepped us h n k t m r (agree n t m k e p) in
          inl (
            (
              uncounted Mixed us h n k t m r e p,
              begun (us ++ t ∷ []) (heads_behind h m) k s,
              uncounted Deep us h n k t m r e q,
              uncounted Large us h n k t m r e l,
            ),
            go (heads_behind h m) k s,
          )

      front_deep : is_mixed m ≡ false → (deep : Bool) → is_deep m ≡ deep
          → SaidFront L position end us (t ∷ ts)
          (front_on (at_mark (position t) k
          (cond deep (Err Deep) (cond (is_large h m) (Err Large) (Ok (heads_behind h m))))) (front_from ts c))
      front_deep p true q =
          inr
          (inl (
            Deep,
            (
              uncounted Mixed us h n k t m r e p,
              begun (us ++ t ∷ []) (heads_behind h m) k (stepped us h n k t m r (agree n t m k e p)),
              step_counted Deep us h n k t m r e q,
            ),
            refl,
          ))
      front_deep p false q = front_large p q (is_large h m) refl

      front_mark : (mixed : Bool) → is_mixed m ≡ mixed
          → SaidFront L position end us (t ∷ ts)
          (front_on (at_mark (position t) k
          (cond mixed (Err Mixed) (cond (is_deep m) (Err Deep)
          (cond (is_large h m) (Err Large) (Ok (heads_behind h m)))))) (front_from ts c))
      front_mark true p = inr (inl (Mixed, step_counted Mixed us h n k t m r e p, refl))
      front_mark false p = front_deep p (is_deep m) refl

    ends_here : (us : List Token) (h : ℕ) (n : State) (t : Token) → Reached us h n → step true n t ≡ None
        → Ends L position end us t
    ends_here us h n t r e = (
      λ b. let d = goes_on us h n t r b in
          none_some (sym e ∙ stray n t d.0 d.1 d.2),
      λ c. none_some (sym e ∙ (counted_step Mixed us h n t r c).2),
    )

    front_stop : (us : List Token) (h : ℕ) (n : State) (t : Token) (ts : List Token) → Reached us h n
        → step true n t ≡ None → (o : Option Tree) → final n ≡ o
        → SaidFront L position end us (t ∷ ts) (at_front (position t) (length us) o)
    front_stop us h n t ts r e None f =
        inr
        (inl (Syntax, (begun us h n r, ends_here us h n t r e, λ z s. none_some (sym f ∙ ended us h n z r s)), refl))
    front_stop us h n t ts r e (Some z) f = inr (inr (z, spelled us h n z r f, ends_here us h n t r e, refl))

    front_step : (us : List Token) (h : ℕ) (n : State) (t : Token) (ts : List Token) → Reached us h n
        → ((g : ℕ) (l : State) → Reached (us ++ t ∷ []) g l
        → SaidFront L position end (us ++ t ∷ []) ts (front_from ts (suc (length us)) g l))
        → (o : Option (Mark × State)) → step true n t ≡ o
        → SaidFront L position end us (t ∷ ts)
        (front_at (position t) h (length us) (final n) o (front_from ts (suc (length us))))
    front_step us h n t ts r go None e = front_stop us h n t ts r e (final n) refl
    front_step us h n t ts r go (Some p) e = front_mark us h n p.1 t p.0 ts (suc (length us)) r e go (is_mixed p.0) refl

    front_end : (us : List Token) (h : ℕ) (n : State) → Reached us h n → (o : Option Tree) → final n ≡ o
        → SaidFront L position end us [] (at_front end (length us) o)
    front_end us h n r None e = ((begun us h n r, tt, λ z s. none_some (sym e ∙ ended us h n z r s)), refl)
    front_end us h n r (Some z) e = (spelled us h n z r e, refl)

    front_said : (ts us : List Token) (h c : ℕ) (n : State) → c ≡ length us → Reached us h n
        → SaidFront L position end us ts (front_from ts c h n)
    front_said [] us h c n q r =
        subst (λ x. SaidFront L position end us [] (front_from [] x h n)) (sym q) (front_end us h n r (final n) refl)
    front_said (t ∷ ts) us h c n q r =
        subst (λ x. SaidFront L position end us (t ∷ ts) (front_from (t ∷ ts) x h n)) (sym q)
        (front_step us h n t ts r (λ g l s.
        front_said ts (us ++ t ∷ []) g (suc (length us)) l (sym (length_more us t)) s) (step true n t) refl)

    -- the answer for the longest front is exactly what the language says
    pub front_verdict : (ts : List Token) (a : Result (Tree × ℕ) (Flaw × Position))
        → (front (step true) final position end 0 0 start ts ≡ a) ↔ MeansFront L position end ts a
    front_verdict ts a =
        let s = front_said ts [] 0 0 start refl ([], refl, refl, refl) in (
          λ e. from_front L position end ts [] a (subst (λ x. SaidFront L position end [] ts x) e s),
          λ m. one_front L position end one_tree ts [] (front (step true) final position end 0 0 start ts) a s
              (to_front L position end ts [] a m),
        )

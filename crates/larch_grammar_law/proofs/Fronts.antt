-- The claim on the longest front, token by token: it comes to the same, and admits one answer.
use Rattle.std.proofs.Common.{◌≡◌, ℕ, Bool, Result, Ok, Err, ◌⊎◌, inl, inr, List, [], ◌∷◌, ◌++◌, length, refl, sym, ap}
use Rattle.std.proofs.Common.{subst, ◌∙◌, append_assoc}
use Rattle.std.proofs.lemmas.List.{append-nil}
use Rattle.larch_grammar_law.specs.Claims.{AllFree, Begins, Counted, EndsBefore, Free, Spells, StandsAt, StandsBehind}
use Rattle.larch_grammar_law.specs.Claims.{position_or}
use Rattle.larch_grammar_law.specs.declared.mark.Flaw.{Flaw}
use Rattle.larch_grammar_law.specs.declared.mark.Flaw.TheVariants.{Mixed, Syntax, Deep, Large}
use Rattle.larch_grammar_law.specs.declared.mark.Mark.{Mark}
use Rattle.larch_grammar_law.proofs.Meanings.{free_untrue, one_flaw}
use Rattle.larch_grammar_law.proofs.Walking.{pair_equal}

module _ {Token Tree Position : Type 0} (L : Bool → List (Token × Mark) → Tree → Type 0) (position : Token → Position)
    (end : Position) where
  -- behind these tokens, the front ends before this one
  abbrev pub Ends : List Token → Token → Type 0
  Ends us t = (¬ Begins L (us ++ t ∷ [])) × (¬ Counted L Mixed us t)

  -- behind these tokens, the answer for those
  abbrev pub SaidFront : List Token → List Token → Result (Tree × ℕ) (Flaw × Position) → Type 0
  SaidFront us [] (Ok z) = Spells L us z.0 × (z.1 ≡ length us)
  SaidFront us [] (Err f) = StandsBehind L f.0 us [] × (f.1 ≡ end)
  SaidFront us (t ∷ ts) a =
      (Free L us t × SaidFront (us ++ t ∷ []) ts a)
      ⊎ (((f : Flaw) × StandsBehind L f us (t ∷ ts) × (a ≡ Err (f, position t)))
      ⊎ ((z : Tree) × Spells L us z × Ends us t × (a ≡ Ok (z, length us))))

  -- the same in parts: what is free, and what stands behind it
  abbrev MeansFrom : List Token → List Token → Result (Tree × ℕ) (Flaw × Position) → Type 0
  MeansFrom us ts (Ok z) =
      (before rest : List Token) × (ts ≡ before ++ rest) × AllFree L us before × Spells L (us ++ before) z.0
      × EndsBefore L (us ++ before) rest × (z.1 ≡ length (us ++ before))
  MeansFrom us ts (Err f) =
      (before rest : List Token) × (ts ≡ before ++ rest) × AllFree L us before × StandsBehind L f.0 (us ++ before) rest
      × (f.1 ≡ position_or position end rest)

  front_free : (us : List Token) (t : Token) (ts : List Token) (a : Result (Tree × ℕ) (Flaw × Position)) → Free L us t
      → MeansFrom (us ++ t ∷ []) ts a → MeansFrom us (t ∷ ts) a
  front_free us t ts (Ok z) free m =
      let e = append_assoc us (t ∷ []) m.0 in (
        t ∷ m.0,
        m.1,
        ap (λ x. t ∷ x) m.2,
        (free, m.3),
        subst (λ x. Spells L x z.0) e m.4,
        subst (λ x. EndsBefore L x m.1) e m.5,
        m.6 ∙ ap length e,
      )
  front_free us t ts (Err f) free m = (
    t ∷ m.0,
    m.1,
    ap (λ x. t ∷ x) m.2,
    (free, m.3),
    subst (λ x. StandsBehind L f.0 x m.1) (append_assoc us (t ∷ []) m.0) m.4,
    m.5,
  )

  front_stands : (us : List Token) (t : Token) (ts : List Token) (f : Flaw) → StandsBehind L f us (t ∷ ts)
      → MeansFrom us (t ∷ ts) (Err (f, position t))
  front_stands us t ts f s =
      ([], t ∷ ts, refl, tt, subst (λ x. StandsBehind L f x (t ∷ ts)) (sym (append-nil us)) s, refl)

  front_ends : (us : List Token) (t : Token) (ts : List Token) (z : Tree) → Spells L us z → Ends us t
      → MeansFrom us (t ∷ ts) (Ok (z, length us))
  front_ends us t ts z s e =
      let n = sym (append-nil us) in
      ([], t ∷ ts, refl, tt, subst (λ x. Spells L x z) n s, subst (λ x. EndsBefore L x (t ∷ ts)) n e, ap length n)

  pub from_front : (ts us : List Token) (a : Result (Tree × ℕ) (Flaw × Position)) → SaidFront us ts a
      → MeansFrom us ts a
  from_front [] us (Ok z) s =
      let n = sym (append-nil us) in
      ([], [], refl, tt, subst (λ x. Spells L x z.0) n s.0, tt, s.1 ∙ ap length n)
  from_front [] us (Err f) s = ([], [], refl, tt, subst (λ x. StandsBehind L f.0 x []) (sym (append-nil us)) s.0, s.1)
  from_front (t ∷ ts) us a (inl s) = front_free us t ts a s.0 (from_front ts (us ++ t ∷ []) a s.1)
  from_front (t ∷ ts) us a (inr (inl s)) = subst (λ x. MeansFrom us (t ∷ ts) x) (sym s.2) (front_stands us t ts s.0 s.1)
  from_front (t ∷ ts) us a (inr (inr s)) =
      subst (λ x. MeansFrom us (t ∷ ts) x) (sym s.3) (front_ends us t ts s.0 s.1 s.2)

  tree_front : (before rest us : List Token) (z : Tree × ℕ) → AllFree L us before → Spells L (us ++ before) z.0
      → EndsBefore L (us ++ before) rest → z.1 ≡ length (us ++ before) → SaidFront us (before ++ rest) (Ok z)
  tree_front [] [] us z free spells ends n =
      (subst (λ x. Spells L x z.0) (append-nil us) spells, n ∙ ap length (append-nil us))
  tree_front [] (t ∷ rest) us z free spells ends n =
      let e = append-nil us in
      inr (inr (
        z.0,
        subst (λ x. Spells L x z.0) e spells,
        subst (λ x. EndsBefore L x (t ∷ rest)) e ends,
        ap Ok (pair_equal z (z.0, length us) refl (n ∙ ap length e)),
      ))
  tree_front (t ∷ before) rest us z free spells ends n =
      let e = sym (append_assoc us (t ∷ []) before) in
      inl (
        free.0,
        tree_front before rest (us ++ t ∷ []) z free.1 (subst (λ x. Spells L x z.0) e spells)
            (subst (λ x. EndsBefore L x rest) e ends) (n ∙ ap length e),
      )

  flaw_front : (before rest us : List Token) (f : Flaw × Position) → AllFree L us before
      → StandsBehind L f.0 (us ++ before) rest → f.1 ≡ position_or position end rest
      → SaidFront us (before ++ rest) (Err f)
  flaw_front [] [] us f free stands at = (subst (λ x. StandsBehind L f.0 x []) (append-nil us) stands, at)
  flaw_front [] (t ∷ rest) us f free stands at =
      inr (inl (
        f.0,
        subst (λ x. StandsBehind L f.0 x (t ∷ rest)) (append-nil us) stands,
        ap Err (pair_equal f (f.0, position t) refl at),
      ))
  flaw_front (t ∷ before) rest us f free stands at =
      inl (
        free.0,
        flaw_front before rest (us ++ t ∷ []) f free.1
            (subst (λ x. StandsBehind L f.0 x rest) (sym (append_assoc us (t ∷ []) before)) stands) at,
      )

  pub to_front : (ts us : List Token) (a : Result (Tree × ℕ) (Flaw × Position)) → MeansFrom us ts a → SaidFront us ts a
  to_front ts us (Ok z) m = subst (λ x. SaidFront us x (Ok z)) (sym m.2) (tree_front m.0 m.1 us z m.3 m.4 m.5 m.6)
  to_front ts us (Err f) m = subst (λ x. SaidFront us x (Err f)) (sym m.2) (flaw_front m.0 m.1 us f m.3 m.4 m.5)

  -- at the end stands SYNTAX or nothing
  behind_end : (f : Flaw) (us : List Token) → StandsBehind L f us [] → f ≡ Syntax
  behind_end Mixed us s = absurd s
  behind_end Syntax us s = refl
  behind_end Deep us s = absurd s
  behind_end Large us s = absurd s

  behind_untrue : (f : Flaw) (us : List Token) (z : Tree) → StandsBehind L f us [] → Spells L us z → ⊥
  behind_untrue Mixed us z s c = s
  behind_untrue Syntax us z s c = s.2 z c
  behind_untrue Deep us z s c = s
  behind_untrue Large us z s c = s

  -- what stands behind a front stands
  stands_at : (f : Flaw) (us : List Token) (t : Token) (ts : List Token) → StandsBehind L f us (t ∷ ts)
      → StandsAt L f us t
  stands_at Mixed us t ts s = s
  stands_at Syntax us t ts s = (s.1.1, s.0, s.1.0)
  stands_at Deep us t ts s = s
  stands_at Large us t ts s = s

  ends_untrue : (f : Flaw) (us : List Token) (t : Token) (ts : List Token) (z : Tree) → StandsBehind L f us (t ∷ ts)
      → Spells L us z → Ends us t → ⊥
  ends_untrue Mixed us t ts z s c e = e.1 s
  ends_untrue Syntax us t ts z s c e = s.2 z c
  ends_untrue Deep us t ts z s c e = e.0 s.1
  ends_untrue Large us t ts z s c e = e.0 s.1

  module _ (one_tree : (us : List Token) (y z : Tree) → Spells L us y → Spells L us z → y ≡ z) where
    -- one answer is said
    pub one_front : (ts us : List Token) (a b : Result (Tree × ℕ) (Flaw × Position)) → SaidFront us ts a
        → SaidFront us ts b → a ≡ b
    one_front [] us (Ok y) (Ok z) s c = ap Ok (pair_equal y z (one_tree us y.0 z.0 s.0 c.0) (s.1 ∙ sym c.1))
    one_front [] us (Ok y) (Err g) s c = absurd (behind_untrue g.0 us y.0 c.0 s.0)
    one_front [] us (Err f) (Ok z) s c = absurd (behind_untrue f.0 us z.0 s.0 c.0)
    one_front [] us (Err f) (Err g) s c =
        ap Err (pair_equal f g (behind_end f.0 us s.0 ∙ sym (behind_end g.0 us c.0)) (s.1 ∙ sym c.1))
    one_front (t ∷ ts) us a b (inl s) (inl c) = one_front ts (us ++ t ∷ []) a b s.1 c.1
    one_front (t ∷ ts) us a b (inl s) (inr (inl c)) =
        absurd (free_untrue L position end c.0 us t (stands_at c.0 us t ts c.1) s.0)
    one_front (t ∷ ts) us a b (inl s) (inr (inr c)) = absurd (c.2.0 s.0.1)
    one_front (t ∷ ts) us a b (inr (inl s)) (inl c) =
        absurd (free_untrue L position end s.0 us t (stands_at s.0 us t ts s.1) c.0)
    one_front (t ∷ ts) us a b (inr (inl s)) (inr (inl c)) =
        s.2 ∙ ap (λ f. Err (f, position t))
        (one_flaw L position end s.0 c.0 us t (stands_at s.0 us t ts s.1) (stands_at c.0 us t ts c.1)) ∙ sym c.2
    one_front (t ∷ ts) us a b (inr (inl s)) (inr (inr c)) = absurd (ends_untrue s.0 us t ts c.0 s.1 c.1 c.2)
    one_front (t ∷ ts) us a b (inr (inr s)) (inl c) = absurd (s.2.0 c.0.1)
    one_front (t ∷ ts) us a b (inr (inr s)) (inr (inl c)) = absurd (ends_untrue c.0 us t ts s.0 c.1 s.1 s.2)
    one_front (t ∷ ts) us a b (inr (inr s)) (inr (inr c)) =
        s.3 ∙ ap (λ z. Ok (z, length us)) (one_tree us s.0 c.0 s.1 c.1) ∙ sym c.3

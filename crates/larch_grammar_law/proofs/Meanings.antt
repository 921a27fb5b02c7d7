-- The claim on an answer, token by token: it comes to the same, and admits one answer.
use Rattle.std.proofs.Common.{◌≡◌, Bool, Result, Ok, Err, ◌⊎◌, inl, inr, List, [], ◌∷◌, ◌++◌, refl, sym, ap, subst, ◌∙◌}
use Rattle.std.proofs.Common.{append_assoc}
use Rattle.std.proofs.lemmas.List.{append-nil}
use Rattle.larch_grammar_law.specs.Claims.{AllFree, Free, Spells, Stands, StandsAt, StandsAtEnd, position_or}
use Rattle.larch_grammar_law.specs.declared.mark.Flaw.{Flaw}
use Rattle.larch_grammar_law.specs.declared.mark.Flaw.TheVariants.{Mixed, Syntax, Deep, Large}
use Rattle.larch_grammar_law.specs.declared.mark.Mark.{Mark}
use Rattle.larch_grammar_law.proofs.Walking.{pair_equal}

module _ {Token Tree Position : Type 0} (L : Bool → List (Token × Mark) → Tree → Type 0) (position : Token → Position)
    (end : Position) where
  -- behind these tokens, the answer for those
  abbrev pub Said : List Token → List Token → Result Tree (Flaw × Position) → Type 0
  Said us [] (Ok z) = Spells L us z
  Said us [] (Err f) = StandsAtEnd L f.0 us × (f.1 ≡ end)
  Said us (t ∷ ts) a =
      (Free L us t × Said (us ++ t ∷ []) ts a) ⊎ ((f : Flaw) × StandsAt L f us t × (a ≡ Err (f, position t)))

  -- the same in two parts: what is free, and what stands behind it
  abbrev pub MeansFrom : List Token → List Token → Result Tree (Flaw × Position) → Type 0
  MeansFrom us ts (Ok z) = AllFree L us ts × Spells L (us ++ ts) z
  MeansFrom us ts (Err f) =
      (before rest : List Token) × (ts ≡ before ++ rest) × AllFree L us before × Stands L f.0 (us ++ before) rest
      × (f.1 ≡ position_or position end rest)

  said_free : (us : List Token) (t : Token) (ts : List Token) (a : Result Tree (Flaw × Position)) → Free L us t
      → MeansFrom (us ++ t ∷ []) ts a → MeansFrom us (t ∷ ts) a
  said_free us t ts (Ok z) free m = ((free, m.0), subst (λ x. Spells L x z) (append_assoc us (t ∷ []) ts) m.1)
  said_free us t ts (Err f) free m = (
    t ∷ m.0,
    m.1,
    ap (λ x. t ∷ x) m.2,
    (free, m.3),
    subst (λ x. Stands L f.0 x m.1) (append_assoc us (t ∷ []) m.0) m.4,
    m.5,
  )

  said_here : (us : List Token) (t : Token) (ts : List Token) (f : Flaw) → StandsAt L f us t
      → MeansFrom us (t ∷ ts) (Err (f, position t))
  said_here us t ts f stands = ([], t ∷ ts, refl, tt, subst (λ x. StandsAt L f x t) (sym (append-nil us)) stands, refl)

  pub from_said : (ts us : List Token) (a : Result Tree (Flaw × Position)) → Said us ts a → MeansFrom us ts a
  from_said [] us (Ok z) s = (tt, subst (λ x. Spells L x z) (sym (append-nil us)) s)
  from_said [] us (Err f) s = ([], [], refl, tt, subst (λ x. StandsAtEnd L f.0 x) (sym (append-nil us)) s.0, s.1)
  from_said (t ∷ ts) us a (inl s) = said_free us t ts a s.0 (from_said ts (us ++ t ∷ []) a s.1)
  from_said (t ∷ ts) us a (inr s) = subst (λ x. MeansFrom us (t ∷ ts) x) (sym s.2) (said_here us t ts s.0 s.1)

  tree_said : (ts us : List Token) (z : Tree) → AllFree L us ts → Spells L (us ++ ts) z → Said us ts (Ok z)
  tree_said [] us z free spells = subst (λ x. Spells L x z) (append-nil us) spells
  tree_said (t ∷ ts) us z free spells =
      inl (
        free.0,
        tree_said ts (us ++ t ∷ []) z free.1
            (subst (λ x. Spells L x z) (sym (append_assoc us (t ∷ []) ts)) spells),
      )

  flaw_said : (before rest us : List Token) (f : Flaw × Position) → AllFree L us before
      → Stands L f.0 (us ++ before) rest → f.1 ≡ position_or position end rest → Said us (before ++ rest) (Err f)
  flaw_said [] [] us f free stands at = (subst (λ x. StandsAtEnd L f.0 x) (append-nil us) stands, at)
  flaw_said [] (t ∷ rest) us f free stands at =
      inr (f.0, subst (λ x. StandsAt L f.0 x t) (append-nil us) stands, ap Err (pair_equal f (f.0, position t) refl at))
  flaw_said (t ∷ before) rest us f free stands at =
      inl (
        free.0,
        flaw_said before rest (us ++ t ∷ []) f free.1
            (subst (λ x. Stands L f.0 x rest) (sym (append_assoc us (t ∷ []) before)) stands) at,
      )

  pub to_said : (ts us : List Token) (a : Result Tree (Flaw × Position)) → MeansFrom us ts a → Said us ts a
  to_said ts us (Ok z) m = tree_said ts us z m.0 m.1
  to_said ts us (Err f) m = subst (λ x. Said us x (Err f)) (sym m.2) (flaw_said m.0 m.1 us f m.3 m.4 m.5)

  -- at the end stands SYNTAX or nothing
  pub end_flaw : (f : Flaw) (us : List Token) → StandsAtEnd L f us → f ≡ Syntax
  end_flaw Mixed us s = absurd s
  end_flaw Syntax us s = refl
  end_flaw Deep us s = absurd s
  end_flaw Large us s = absurd s

  end_untrue : (f : Flaw) (us : List Token) (z : Tree) → StandsAtEnd L f us → Spells L us z → ⊥
  end_untrue Mixed us z s c = s
  end_untrue Syntax us z s c = s.1 z c
  end_untrue Deep us z s c = s
  end_untrue Large us z s c = s

  -- where something stands, the token isn't free
  pub free_untrue : (f : Flaw) (us : List Token) (t : Token) → StandsAt L f us t → Free L us t → ⊥
  free_untrue Mixed us t s c = c.0 s
  free_untrue Syntax us t s c = s.2 c.1
  free_untrue Deep us t s c = c.2 s.2
  free_untrue Large us t s c = c.3 s.3

  -- at one token stands one flaw
  pub one_flaw : (f g : Flaw) (us : List Token) (t : Token) → StandsAt L f us t → StandsAt L g us t → f ≡ g
  one_flaw Mixed Mixed us t s c = refl
  one_flaw Mixed Syntax us t s c = absurd (c.0 s)
  one_flaw Mixed Deep us t s c = absurd (c.0 s)
  one_flaw Mixed Large us t s c = absurd (c.0 s)
  one_flaw Syntax Mixed us t s c = absurd (s.0 c)
  one_flaw Syntax Syntax us t s c = refl
  one_flaw Syntax Deep us t s c = absurd (s.2 c.1)
  one_flaw Syntax Large us t s c = absurd (s.2 c.1)
  one_flaw Deep Mixed us t s c = absurd (s.0 c)
  one_flaw Deep Syntax us t s c = absurd (c.2 s.1)
  one_flaw Deep Deep us t s c = refl
  one_flaw Deep Large us t s c = absurd (c.2 s.2)
  one_flaw Large Mixed us t s c = absurd (s.0 c)
  one_flaw Large Syntax us t s c = absurd (c.2 s.1)
  one_flaw Large Deep us t s c = absurd (s.2 c.2)
  one_flaw Large Large us t s c = refl

  module _ (one_tree : (us : List Token) (y z : Tree) → Spells L us y → Spells L us z → y ≡ z) where
    -- one answer is said
    pub one_answer : (ts us : List Token) (a b : Result Tree (Flaw × Position)) → Said us ts a → Said us ts b → a ≡ b
    one_answer [] us (Ok y) (Ok z) s c = ap Ok (one_tree us y z s c)
    one_answer [] us (Ok y) (Err g) s c = absurd (end_untrue g.0 us y c.0 s)
    one_answer [] us (Err f) (Ok z) s c = absurd (end_untrue f.0 us z s.0 c)
    one_answer [] us (Err f) (Err g) s c =
        ap Err (pair_equal f g (end_flaw f.0 us s.0 ∙ sym (end_flaw g.0 us c.0)) (s.1 ∙ sym c.1))
    one_answer (t ∷ ts) us a b (inl s) (inl c) = one_answer ts (us ++ t ∷ []) a b s.1 c.1
    one_answer (t ∷ ts) us a b (inl s) (inr c) = absurd (free_untrue c.0 us t c.1 s.0)
    one_answer (t ∷ ts) us a b (inr s) (inl c) = absurd (free_untrue s.0 us t s.1 c.0)
    one_answer (t ∷ ts) us a b (inr s) (inr c) =
        s.2 ∙ ap (λ f. Err (f, position t)) (one_flaw s.0 c.0 us t s.1 c.1) ∙ sym c.2

-- Walks of one machine: a reading is cut in two, and equal tokens lead to one state.
use Rattle.std.proofs.Common.{◌≡◌, ℕ, Option, Some, None, List, [], ◌∷◌, ◌++◌, refl, sym, ap, subst, ◌∙◌}
use Rattle.std.proofs.Math.Path.{ap₂}
use Rattle.larch_grammar_law.specs.Claims.{tokens_of}
use Rattle.larch_grammar_law.specs.Mark.{heads_behind, heads_of}
use Rattle.larch_grammar_law.specs.Walks.{Accepts, Taken, Walk}
use Rattle.larch_grammar_law.specs.declared.mark.Mark.{Mark}

pub some_equal : {A : Type 0} {a b : A} → Some a ≡ Some b → a ≡ b
some_equal e = cc

pub none_some : {A : Type 0} {a : A} → None ≡ Some a → ⊥
none_some e = cc

pub head_equal : {A : Type 0} {a b : A} {cs bs : List A} → a ∷ cs ≡ b ∷ bs → a ≡ b
head_equal e = cc

pub tail_equal : {A : Type 0} {a b : A} {cs bs : List A} → a ∷ cs ≡ b ∷ bs → cs ≡ bs
tail_equal e = cc

pub nil_cons : {A : Type 0} {a : A} {cs : List A} → [] ≡ a ∷ cs → ⊥
nil_cons e = cc

pub pair_equal : {A B : Type 0} (x y : A × B) → x.0 ≡ y.0 → x.1 ≡ y.1 → x ≡ y
pair_equal x y e f = λ i. (e i, f i)

-- what is claimed of a step, where it is known
pub taken : {State : Type 0} (P : Mark → State → Type 0) (o : Option (Mark × State)) (m : Mark) (k : State)
    → o ≡ Some (m, k) → Taken o P → P m k
taken P o m k e h = subst (λ x. Taken x P) e h

pub heads_of-append : {Token : Type 0} (ms : List (Token × Mark)) (m : Token × Mark) (h : ℕ)
    → heads_of h (ms ++ m ∷ []) ≡ heads_behind (heads_of h ms) m.1
heads_of-append [] m h = refl
heads_of-append (x ∷ ms) m h = heads_of-append ms m (heads_behind h x.1)

module _ {Token State Tree : Type 0} (step : State → Token → Option (Mark × State)) (final : State → Option Tree) where
  -- a reading is cut in two
  pub cut : (ms rest : List (Token × Mark)) (n : State) (z : Tree) → Accepts step final n (ms ++ rest) z
      → (k : State) × Walk step n ms k × Accepts step final k rest z
  cut [] rest n z r = (n, refl, r)
  cut (m ∷ ms) rest n z r = let c = cut ms rest r.0 z r.2 in (c.0, (r.0, r.1, c.1), c.2)

  -- where tokens are cut in two, so is their reading
  pub cut_tokens : (us ts : List Token) (ms : List (Token × Mark)) (n : State) (z : Tree) → tokens_of ms ≡ us ++ ts
      → Accepts step final n ms z
      → (cs bs : List (Token × Mark)) × (k : State) × Walk step n cs k × (tokens_of cs ≡ us) × Accepts step final k bs z
      × (tokens_of bs ≡ ts)
  cut_tokens [] ts ms n z e r = ([], ms, n, refl, refl, r, e)
  cut_tokens (u ∷ us) ts [] n z e r = absurd (nil_cons e)
  cut_tokens (u ∷ us) ts (m ∷ ms) n z e r =
      let c = cut_tokens us ts ms r.0 z (tail_equal e) r.2 in
      (m ∷ c.0, c.1, c.2, (r.0, r.1, c.3), ap₂ ◌∷◌ (head_equal e) c.4, c.5, c.6)

  -- the whole of a reading is a walk to a state where the tokens may end
  pub walk_of : (ms : List (Token × Mark)) (n : State) (z : Tree) → Accepts step final n ms z
      → (k : State) × Walk step n ms k × (final k ≡ Some z)
  walk_of [] n z r = (n, refl, r)
  walk_of (m ∷ ms) n z r = let c = walk_of ms r.0 z r.2 in (c.0, (r.0, r.1, c.1), c.2)

  -- two walks over equal tokens have equal marks and ends
  pub same_walk : (cs bs : List (Token × Mark)) (n k l : State) → Walk step n cs k → Walk step n bs l
      → tokens_of cs ≡ tokens_of bs → (cs ≡ bs) × (k ≡ l)
  same_walk [] [] n k l v w e = (refl, sym v ∙ w)
  same_walk [] (b ∷ bs) n k l v w e = absurd (nil_cons e)
  same_walk (a ∷ cs) [] n k l v w e = absurd (nil_cons (sym e))
  same_walk (a ∷ cs) (b ∷ bs) n k l v w e =
      let token : a.0 ≡ b.0 = head_equal e in
      let both : (a.1, v.0) ≡ (b.1, w.0) = some_equal (sym v.1 ∙ ap (step n) token ∙ w.1) in
      let after : v.0 ≡ w.0 = ap (λ p. p.1) both in
      let rest = same_walk cs bs v.0 k l v.2 (subst (λ s. Walk step s bs l) (sym after) w.2) (tail_equal e) in
      (ap₂ ◌∷◌ (pair_equal a b token (ap (λ p. p.0) both)) rest.0, rest.1)

  -- a walk with a step more
  pub walk_on : (ms : List (Token × Mark)) (n k l : State) (t : Token) (m : Mark) → Walk step n ms k
      → step k t ≡ Some (m, l) → Walk step n (ms ++ (t, m) ∷ []) l
  walk_on [] n k l t m w e = (l, ap (λ s. step s t) w ∙ e, refl)
  walk_on (x ∷ ms) n k l t m w e = (w.0, w.1, walk_on ms w.0 k l t m w.2 e)

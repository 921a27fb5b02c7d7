-- The places of an observer's arguments, and the words at them.
use Rattle.std.specs.Prelude.{◌≡◌, ◌<◌, ◌+◌, ◌-◌, ◌==◌, ℕ, zero, suc, nat_lt, true, false, cond, List, [], ◌∷◌, map}
use Rattle.std.specs.Prelude.{refl}
use Rattle.std.proofs.Common.{arith, ap, ap₂, sym, ◌∙◌}
use Rattle.larch_term.specs.Operator.{PlainOperator}
use Rattle.larch_term.specs.Substitution.{image, instance_of, substituted_all}
use Rattle.larch_term.specs.Tree.{Tree, Forest, app, var, none, more}
use Rattle.larch_term.specs.declared.substitution.Entry.{Entry}
use Rattle.larch_term.specs.declared.variable.Variable.{Variable}
use Rattle.larch_calculus.specs.Formula.{constant}
use Rattle.larch_calculus.specs.Freed.{constants_for}
use Rattle.larch_calculus.specs.Observation.{Observation, arguments_with, observer_term, other_variables}
use Rattle.larch_calculus.specs.Observation.{variables_beside}
use Rattle.larch_prove_plans.specs.ProveMeaningPlans.{arguments_around, other_sorts, shown}
use Rattle.larch_methods.specs.Observers.{HasShorterNames, variables_for, word_of}
use Rattle.larch_methods.proofs.Words.{AreImages, constants_are_images, term_stays}

-- how many arguments other than the one at a place stand before a number
abbrev pub taken : ℕ → ℕ
taken zero = 0
taken (suc p) = 1

abbrev pub before : ℕ → ℕ → ℕ
before p k = cond (nat_lt p k) (k - 1 - taken p) (k - 1)

abbrev pub word_at : ℕ → ℕ → ℕ → List ℕ
word_at n p k = word_of (n + before p k)

before_at : (p k : ℕ) → 0 < k → (k == p) ≡ true → before p (suc k) ≡ before p k
before_at zero k pos e = grind (arith, pos, e)
before_at (suc p) k pos e = grind (arith, pos, e)

before_beside : (p k : ℕ) → 0 < k → (k == p) ≡ false → before p (suc k) ≡ suc (before p k)
before_beside zero k pos e = grind (arith, pos, e)
before_beside (suc p) k pos e = grind (arith, pos, e)

first_before : (p : ℕ) → before p 1 ≡ 0
first_before zero = refl
first_before (suc p) = grind arith

heads : (s r : List ℕ) (ss rs : List (List ℕ)) → s ∷ ss ≡ r ∷ rs → (s ≡ r) × (ss ≡ rs)
heads s r ss rs e = (cc, cc)

nothing : (s : List ℕ) (ss : List (List ℕ)) → [] ≡ s ∷ ss → ⊥
nothing s ss e = cc

-- the sorts beside a place, where the next argument stands there, and where it doesn't
sorts_at : (p k : ℕ) (s : List ℕ) (ss : List (List ℕ)) → (k == p) ≡ true
    → other_sorts p k (s ∷ ss) ≡ other_sorts p (suc k) ss
sorts_at p k s ss h = ap (λ b. cond b (other_sorts p (suc k) ss) (s ∷ other_sorts p (suc k) ss)) h

sorts_beside : (p k : ℕ) (s : List ℕ) (ss : List (List ℕ)) → (k == p) ≡ false
    → other_sorts p k (s ∷ ss) ≡ s ∷ other_sorts p (suc k) ss
sorts_beside p k s ss h = ap (λ b. cond b (other_sorts p (suc k) ss) (s ∷ other_sorts p (suc k) ss)) h

next_at : (n m p k : ℕ) → 0 < k → (k == p) ≡ true → m ≡ n + before p k → m ≡ n + before p (suc k)
next_at n m p k pos h e = e ∙ ap (λ i. n + i) (sym (before_at p k pos h))

next_beside : (n m p k : ℕ) → 0 < k → (k == p) ≡ false → m ≡ n + before p k → suc m ≡ n + before p (suc k)
next_beside n m p k pos h e = let q = before_beside p k pos h in omega (arith, e, q)

-- ---- the variables at the other places

pub variables_are : (n p k m : ℕ) (ss : List (List ℕ)) (cs : List PlainOperator) → 0 < k → m ≡ n + before p k
    → map (λ c. c.range) cs ≡ other_sorts p k ss
    → variables_beside (word_at n p) p k ss ≡ variables_for m cs
variables_are n p k m [] [] pos e q = refl
variables_are n p k m [] (c ∷ cs) pos e q = absurd (nothing c.range (map (λ d. d.range) cs) (sym q))
variables_are n p k m (s ∷ ss) [] pos e q =
    let rest = variables_beside (word_at n p) p (suc k) ss in
    elim (k == p) as (λ b. (k == p) ≡ b → variables_beside (word_at n p) p k (s ∷ ss) ≡ []) [
      | true ↦ λ h. ap (λ b. cond b rest (record { name = word_at n p k; sort = s } ∷ rest)) h
          ∙ variables_are n p (suc k) m ss [] (omega arith) (next_at n m p k pos h e) (q ∙ sorts_at p k s ss h)
      | false ↦ λ h. absurd (nothing s (other_sorts p (suc k) ss) (q ∙ sorts_beside p k s ss h))
    ] refl
variables_are n p k m (s ∷ ss) (c ∷ cs) pos e q =
    let rest = variables_beside (word_at n p) p (suc k) ss in
    elim (k == p) as (λ b. (k == p) ≡ b → variables_beside (word_at n p) p k (s ∷ ss) ≡ variables_for m (c ∷ cs)) [
      | true ↦ λ h. ap (λ b. cond b rest (record { name = word_at n p k; sort = s } ∷ rest)) h
          ∙ variables_are n p (suc k) m ss (c ∷ cs) (omega arith) (next_at n m p k pos h e) (q ∙ sorts_at p k s ss h)
      | false ↦ λ h.
          let r = heads c.range s (map (λ d. d.range) cs) (other_sorts p (suc k) ss) (q ∙ sorts_beside p k s ss h) in
          ap (λ b. cond b rest (record { name = word_at n p k; sort = s } ∷ rest)) h
          ∙ one (word_at n p k) (word_of m) s c.range rest (variables_for (suc m) cs) (ap word_of (sym e)) (sym r.0)
          (variables_are n p (suc k) (suc m) ss cs (omega arith) (next_beside n m p k pos h e) r.1)
    ] refl
  where
    one : (a b s r : List ℕ) (vs ws : List Variable) → a ≡ b → s ≡ r → vs ≡ ws
        → record { name = a; sort = s } ∷ vs ≡ record { name = b; sort = r } ∷ ws
    one a b s r vs ws e f g = λ i. record { name = e i; sort = f i } ∷ g i

-- ---- the arguments

pub closed_arguments : (es : List Entry) (n p k m : ℕ) (ss : List (List ℕ)) (cs : List PlainOperator) (t u : Tree)
    → 0 < k → m ≡ n + before p k → map (λ c. c.range) cs ≡ other_sorts p k ss → instance_of es t ≡ u
    → AreImages es m cs
    → substituted_all es (arguments_with (word_at n p) p t k ss) ≡ arguments_around p u k ss cs
closed_arguments es n p k m [] cs t u pos e q f i = refl
closed_arguments es n p k m (s ∷ ss) [] t u pos e q f i =
    let rest = arguments_with (word_at n p) p t (suc k) ss in
    let others = arguments_around p u (suc k) ss [] in
    elim (k == p) as (λ b. (k == p) ≡ b
    → substituted_all es (arguments_with (word_at n p) p t k (s ∷ ss)) ≡ arguments_around p u k (s ∷ ss) []) [
      | true ↦ λ h. ap (λ b. more (instance_of es (cond b t (var (word_at n p k) s))) (substituted_all es rest)) h
          ∙ (two (instance_of es t) u (substituted_all es rest) others f
          (closed_arguments es n p (suc k) m ss [] t u (omega arith) (next_at n m p k pos h e)
          (q ∙ sorts_at p k s ss h) f i)
          ∙ sym (ap (λ b. elim b [ true ↦ more u others | false ↦ none ]) h))
      | false ↦ λ h. absurd (nothing s (other_sorts p (suc k) ss) (q ∙ sorts_beside p k s ss h))
    ] refl
  where
    two : (t u : Tree) (ts us : Forest) → t ≡ u → ts ≡ us → more t ts ≡ more u us
    two t u ts us e f = ap₂ more e f
closed_arguments es n p k m (s ∷ ss) (c ∷ cs) t u pos e q f i =
    let rest = arguments_with (word_at n p) p t (suc k) ss in
    let here = arguments_around p u (suc k) ss (c ∷ cs) in
    let behind = arguments_around p u (suc k) ss cs in
    elim (k == p) as (λ b. (k == p) ≡ b
    → substituted_all es (arguments_with (word_at n p) p t k (s ∷ ss)) ≡ arguments_around p u k (s ∷ ss) (c ∷ cs)) [
      | true ↦ λ h. ap (λ b. more (instance_of es (cond b t (var (word_at n p k) s))) (substituted_all es rest)) h
          ∙ (ap₂ more f
          (closed_arguments es n p (suc k) m ss (c ∷ cs) t u (omega arith) (next_at n m p k pos h e)
          (q ∙ sorts_at p k s ss h) f i)
          ∙ sym (ap (λ b. elim b [ true ↦ more u here | false ↦ more (constant c) behind ]) h))
      | false ↦ λ h.
          let r = heads c.range s (map (λ d. d.range) cs) (other_sorts p (suc k) ss) (q ∙ sorts_beside p k s ss h) in
          ap (λ b. more (instance_of es (cond b t (var (word_at n p k) s))) (substituted_all es rest)) h
          ∙ (ap₂ more (ap₂ (λ a z. image es (word_of a) z) (sym e) (sym r.0) ∙ i.0)
          (closed_arguments es n p (suc k) (suc m) ss cs t u (omega arith) (next_beside n m p k pos h e) r.1 f i.1)
          ∙ sym (ap (λ b. elim b [ true ↦ more u here | false ↦ more (constant c) behind ]) h))
    ] refl

-- ---- observations

pub others_are : (n : ℕ) (w : Observation) (cs : List PlainOperator)
    → map (λ c. c.range) cs ≡ other_sorts w.place 1 w.observer.domain
    → other_variables (word_at n w.place) w ≡ variables_for n cs
others_are n w cs q =
    let z = first_before w.place in
    variables_are n w.place 1 n w.observer.domain cs (omega arith) (omega (arith, z)) q

pub closed_observed : (n : ℕ) (w : Observation) (cs : List PlainOperator) (t : Tree)
    → map (λ c. c.range) cs ≡ other_sorts w.place 1 w.observer.domain → HasShorterNames n t
    → instance_of (constants_for (variables_for n cs) cs) (observer_term (word_at n w.place) w t) ≡ shown w cs t
closed_observed n w cs t q h =
    let z = first_before w.place in
    ap (app w.observer)
    (closed_arguments (constants_for (variables_for n cs) cs) n w.place 1 n w.observer.domain cs t t (omega arith)
    (omega (arith, z)) q (term_stays n cs t h) (constants_are_images n cs))

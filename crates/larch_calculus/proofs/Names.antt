-- Names of operators, and the places of constants by their names.
use Rattle.std.proofs.Common.{◌≡◌, ◌≢◌, ℕ, zero, suc, ◌+◌, ◌<◌, inl, inr, false, cond, List, [], ◌∷◌, map, Option, Some}
use Rattle.std.proofs.Common.{None, option_map, option_and_then, All, Contains, refl, sym, ◌∙◌, ap, arith}
use Rattle.std.specs.List.{slice_get, AllPairs}
use Rattle.std.proofs.lemmas.List.Elements.{All-head, All-tail, All-contains}
use Rattle.std.proofs.lemmas.Option.{slice_get-map}
use Rattle.larch_term.proofs.BaseBools.{true_or_false, same_truth}
use Rattle.larch_term.proofs.BaseLists.{pairs_tail}
use Rattle.larch_term.proofs.BaseMembers.{contains_cases, contains_here, got_contains, contains_got}
use Rattle.larch_term.specs.Operator.{OperatorName, PlainOperator, plain, boxed}
use Rattle.larch_term.specs.OperatorKey.{same_name, name_Decides}
use Rattle.larch_term.specs.Sorts.{IsKnown}
use Rattle.larch_term.specs.declared.variable.Variable.{Variable}
use Rattle.larch_calculus.specs.Freed.{place_of, variable_for}

pub names_apart : (n m : OperatorName) → n ≢ m → same_name n m ≡ false
names_apart n m h = elim (true_or_false (same_name n m)) [ inl e ↦ absurd (h ((name_Decides n m).0 e)) | inr e ↦ e ]

-- whether two names are one is told alike of two others, if the ones are one exactly where the others are
pub same_alike : (n m a b : OperatorName) → (n ≡ m → a ≡ b) → (a ≡ b → n ≡ m) → same_name a b ≡ same_name n m
same_alike n m a b f g =
    same_truth (same_name a b) (same_name n m) (λ e. (name_Decides n m).1 (g ((name_Decides a b).0 e)))
    (λ e. (name_Decides a b).1 (f ((name_Decides n m).0 e)))

pub not_placed : (cs : List PlainOperator) (n : OperatorName) → All (λ c. c.name ≢ n) cs → place_of cs n ≡ None
not_placed [] n h = refl
not_placed (c ∷ cs) n h =
    let a = names_apart c.name n (All-head (λ d. d.name ≢ n) c cs h) in
    ap (λ b. cond b (Some 0) (option_map suc (place_of cs n))) a ∙ ap (option_map suc)
    (not_placed cs n (All-tail (λ d. d.name ≢ n) c cs h))

different_from : (c f : PlainOperator) (cs : List PlainOperator) → AllPairs (λ f g. f.name ≢ g.name) (c ∷ cs)
    → Contains cs f → c.name ≢ f.name
different_from c f cs d h =
    All-contains (λ g. c.name ≢ g.name) cs f (λ k e lt. d 0 (suc k) e (omega arith) (omega arith)) h

-- an operator among some with different names stands at the place of its name
pub placed_at : (cs : List PlainOperator) (k : ℕ) (f : PlainOperator) → AllPairs (λ f g. f.name ≢ g.name) cs
    → slice_get cs k ≡ Some f
    → place_of cs f.name ≡ Some k
placed_at [] k f d e = cc
placed_at (c ∷ cs) zero f d e =
    let p : c ≡ f = cc in
    ap (λ b. cond b (Some 0) (option_map suc (place_of cs f.name)))
    ((name_Decides c.name f.name).1 (ap (λ g. g.name) p))
placed_at (c ∷ cs) (suc k) f d e =
    let apart = different_from c f cs d (got_contains cs k f e) in
    ap (λ b. cond b (Some 0) (option_map suc (place_of cs f.name))) (names_apart c.name f.name apart)
    ∙ ap (option_map suc) (placed_at cs k f (pairs_tail (λ f g. f.name ≢ g.name) c cs d) e)

pub placed : (cs : List PlainOperator) (f : PlainOperator) → AllPairs (λ f g. f.name ≢ g.name) cs → Contains cs f
    → (k : ℕ) × (place_of cs f.name ≡ Some k) × (slice_get cs k ≡ Some f)
placed cs f d h = let r = contains_got cs f h in (r.0, placed_at cs r.0 f d r.1, r.1)

-- the places of some names among some constants are as those of others among others
pub place_alike : (new : PlainOperator → PlainOperator) (cs : List PlainOperator) (n m : OperatorName)
    → ((c : PlainOperator) → Contains cs c → same_name (new c).name m ≡ same_name c.name n)
    → place_of (map new cs) m ≡ place_of cs n
place_alike new [] n m h = refl
place_alike new (c ∷ cs) n m h =
    ap (λ b. cond b (Some 0) (option_map suc (place_of (map new cs) m))) (h c (contains_here c cs))
    ∙ ap (λ o. cond (same_name c.name n) (Some 0) (option_map suc o))
    (place_alike new cs n m (λ d t. let lt = t.1 in h d (suc t.0, omega arith, t.2)))

-- the variable for a constant, which has the constant's sort
pub has_variable : (cs : List PlainOperator) (vs : List Variable) (f : PlainOperator)
    → AllPairs (λ f g. f.name ≢ g.name) cs
    → map (λ c. c.range) cs ≡ map (λ v. v.sort) vs → Contains cs f
    → (v : Variable) × (variable_for cs vs f.name ≡ Some v) × (v.sort ≡ f.range)
has_variable cs vs f d e h =
    let p = placed cs f d h in
    let o : option_map (λ v. v.sort) (slice_get vs p.0) ≡ Some f.range =
    sym (slice_get-map (λ v. v.sort) vs p.0) ∙ ap (λ ss. slice_get ss p.0) (sym e) ∙ slice_get-map
    (λ c. c.range) cs p.0 ∙ ap (option_map (λ c. c.range)) p.2 in
    let r = mapped (slice_get vs p.0) f.range o in
    (r.0, ap (option_and_then (slice_get vs)) p.1 ∙ r.1, r.2)
  where
    mapped : (o : Option Variable) (s : List ℕ) → option_map (λ v. v.sort) o ≡ Some s
        → (v : Variable) × (o ≡ Some v) × (v.sort ≡ s)
    mapped None s e = cc
    mapped (Some v) s e = (v, refl, cc)

abbrev above_name : OperatorName → ℕ
above_name (plain n) = 0
above_name (boxed b k) = suc b

-- a number above those of all boxes that the operators' names tell
abbrev pub next_box : List PlainOperator → ℕ
next_box [] = 0
next_box (f ∷ fs) = above_name f.name + next_box fs

below_next : (fs : List PlainOperator) (f : PlainOperator) (b k : ℕ) → Contains fs f → f.name ≡ boxed b k
    → b < next_box fs
below_next [] f b k h e = let lt = h.1 in absurd (omega arith)
below_next (g ∷ fs) f b k h e =
    elim (contains_cases g f fs h) [
      | inl i ↦ let a : above_name g.name ≡ suc b = ap (λ x. above_name x.name) i ∙ ap above_name e in omega arith
      | inr t ↦ let lt = below_next fs f b k t e in omega arith
    ]

-- a constant of that box is known under no name
pub box_is_new : (fs : List PlainOperator) (k : ℕ) (f : PlainOperator) → IsKnown fs f → f.name ≢ boxed (next_box fs) k
box_is_new fs k f (inl c) = λ e. let lt = below_next fs f (next_box fs) k c e in omega arith
box_is_new fs k f (inr (b, (s, e))) = λ n. plain_apart (ap (λ g. g.name) (sym e) ∙ n)
  where
    plain_apart : {n : List ℕ} {b k : ℕ} → plain n ≡ boxed b k → ⊥
    plain_apart e = cc

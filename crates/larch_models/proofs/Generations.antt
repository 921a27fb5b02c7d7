-- What is made step by step is what the definition makes in so many steps.
use Rattle.std.proofs.Common.{◌≡◌, ◌≤◌, ◌<◌, ◌+◌, ◌==◌, ◌&&◌, ◌||◌, not, ℕ, zero, suc, Bool, true, false}
use Rattle.std.proofs.Common.{List}
use Rattle.std.proofs.Common.{[], ◌∷◌, bytes_eq, drop, get_or, length, min, refl, sym, ◌∙◌, ap, subst, arith}
use Rattle.std.specs.Prelude.{map}
use Rattle.std.specs.List.{list_all}
use Rattle.std.proofs.lemmas.List.Folds.{list_all-map}
use Rattle.std.proofs.lemmas.List.{length-drop}
use Rattle.std.proofs.lemmas.Slice.Eq.{bytes_eq-Decides}
use Rattle.larch_base.proofs.Bools.{and_left, and_right, and_both, same_truth}
use Rattle.larch_term.specs.Operator.{PlainOperator}
use Rattle.larch_models_meaning.specs.Computed.{all_arguments, all_up_to, arguments_in, holds_generated, is_unmade}
use Rattle.larch_models_meaning.specs.Computed.{made_in}
use Rattle.larch_models_meaning.specs.Interpretation.{Interpretation}
use Rattle.larch_models.specs.Clauses.{IsNextMade, PlainOperation, arguments_among, is_unmade_among}
use Rattle.larch_models.specs.Clauses.{is_unmade_by, operation_at}
use Rattle.larch_models.proofs.Every.{Within, arguments_are_lists, lists_same}
use Rattle.larch_models.proofs.Rests.{drop_item}
use Rattle.larch_soundness.proofs.Assignments.{up_to_at, up_to_if}

-- a list says of each value up to the last one whether it is in a set
pub record Agrees (n : ℕ) (made : List Bool) (p : ℕ → Bool) : Type 0 where
  pub many : length made ≡ suc n
  pub each : (v : ℕ) → v ≤ n → get_or made v false ≡ p v

argument_same : (b : Bool) (x y : Bool) → (b ≡ true → x ≡ y) → (not b || x) ≡ (not b || y)
argument_same true x y h = h refl
argument_same false x y h = refl

arguments_same : (m : Interpretation) (s : List ℕ) (made : List Bool) (p : ℕ → Bool) → Agrees (m.last s) made p
    → (rs : List (List ℕ)) (vs : List ℕ) → Within (map m.last rs) vs
    → arguments_among (map (λ r. bytes_eq r s) rs) made vs ≡ arguments_in p s rs vs
arguments_same m s made p k [] vs w = refl
arguments_same m s made p k (r ∷ rs) [] w = refl
arguments_same m s made p k (r ∷ rs) (v ∷ vs) w =
    ap (λ b. b && arguments_among (map (λ r. bytes_eq r s) rs) made vs)
    (argument_same (bytes_eq r s) (get_or made v false) (p v) (λ e.
    k.each v (subst (λ t. v ≤ m.last t) ((bytes_eq-Decides r s).0 e) w.0)))
    ∙ ap (λ b. (not (bytes_eq r s) || p v) && b) (arguments_same m s made p k rs vs w.1)

unmade_by_same : (m : Interpretation) (s : List ℕ) (made : List Bool) (p : ℕ → Bool) → Agrees (m.last s) made p
    → (v : ℕ) (f : PlainOperator) → is_unmade_by made v (operation_at m s f)
    ≡ all_arguments m.last f.domain (λ vs. not (arguments_in p s f.domain vs && m.table f vs == v))
unmade_by_same m s made p k v f =
    let own = map (λ r. bytes_eq r s) f.domain in
    lists_same (map m.last f.domain) (λ vs. not (arguments_among own made vs && m.table f vs == v))
    (λ vs. not (arguments_in p s f.domain vs && m.table f vs == v))
    (λ vs w. ap (λ b. not (b && m.table f vs == v)) (arguments_same m s made p k f.domain vs w))
    ∙ sym (arguments_are_lists m.last f.domain (λ vs. not (arguments_in p s f.domain vs && m.table f vs == v)))

all_same : {X : Type 0} (p q : X → Bool) (xs : List X) → ((x : X) → p x ≡ q x) → list_all p xs ≡ list_all q xs
all_same p q xs h = ap (λ r. list_all r xs) (λ i x. h x i)

unmade_same : (m : Interpretation) (s : List ℕ) (fs : List PlainOperator) (made : List Bool) (p : ℕ → Bool)
    → Agrees (m.last s) made p → (v : ℕ)
    → is_unmade_among (map (operation_at m s) fs) made v ≡ is_unmade m s fs p v
unmade_same m s fs made p k v =
    list_all-map (is_unmade_by made v) (operation_at m s) fs
    ∙ all_same (λ f. is_unmade_by made v (operation_at m s f))
    (λ f. all_arguments m.last f.domain (λ vs. not (arguments_in p s f.domain vs && m.table f vs == v))) fs
    (unmade_by_same m s made p k v)

pub made_first : (m : Interpretation) (s : List ℕ) (fs : List PlainOperator) (n : ℕ) (made : List Bool)
    → n ≡ m.last s → length made ≡ suc n → ((v : ℕ) → get_or made v false ≡ false)
    → Agrees (m.last s) made (made_in m s fs 0)
made_first m s fs n made e l h = record { many = l ∙ ap suc e; each = λ v le. h v }

pub made_further : (m : Interpretation) (s : List ℕ) (fs : List PlainOperator) (os : List PlainOperation) (k : ℕ)
    (made next : List Bool) → os ≡ map (operation_at m s) fs → Agrees (m.last s) made (made_in m s fs k)
    → IsNextMade os made next → Agrees (m.last s) next (made_in m s fs (k + 1))
made_further m s fs os k made next e h n =
    let p = made_in m s fs k in
    subst (λ j. Agrees (m.last s) next (made_in m s fs j)) (one_more k) (record {
      many = n.many ∙ h.many;
      each = λ v le.
          let lt : v < length made = let i = h.many in omega (arith, le, i) in
          n.each v lt ∙ ap (λ us. get_or made v false || not (is_unmade_among us made v)) e
          ∙ ap (λ b. b || not (is_unmade_among (map (operation_at m s) fs) made v)) (h.each v le)
          ∙ ap (λ b. p v || not b) (unmade_same m s fs made p h v);
    })
  where
    one_more : (k : ℕ) → suc k ≡ k + 1
    one_more k = omega arith

-- ---- whether all are made

all_at_place : (bs : List Bool) (v : ℕ) → list_all (λ b. b) bs ≡ true → v < length bs → get_or bs v false ≡ true
all_at_place [] v h l = absurd (omega (arith, l))
all_at_place (b ∷ bs) zero h l = and_left b (list_all (λ b. b) bs) h
all_at_place (b ∷ bs) (suc v) h l = all_at_place bs v (and_right b (list_all (λ b. b) bs) h) (omega (arith, l))

all_if_each : (bs : List Bool) → ((v : ℕ) → v < length bs → get_or bs v false ≡ true) → list_all (λ b. b) bs ≡ true
all_if_each [] h = refl
all_if_each (b ∷ bs) h =
    and_both b (list_all (λ b. b) bs) (h 0 (omega arith)) (all_if_each bs (λ v l. h (suc v) (omega (arith, l))))

pub all_made : (m : Interpretation) (s : List ℕ) (fs : List PlainOperator) (n : ℕ) (made : List Bool)
    → n ≡ suc (m.last s) → Agrees (m.last s) made (made_in m s fs n)
    → list_all (λ b. b) made ≡ holds_generated m s fs
all_made m s fs n made e h =
    let p = made_in m s fs n in
    let l = h.many in
    same_truth (list_all (λ b. b) made) (all_up_to (m.last s) p)
    (λ t. up_to_if (m.last s) p (λ v le. sym (h.each v le) ∙ all_at_place made v t (omega (arith, l, le))))
    (λ t. all_if_each made (λ v lt.
    let le : v ≤ m.last s = omega (arith, l, lt) in
    h.each v le ∙ up_to_at (m.last s) p t v le))
    ∙ ap (λ k. all_up_to (m.last s) (made_in m s fs k)) e

-- ---- argument by argument

pub may_stand_further : (own made : List Bool) (vs : List ℕ) (i : ℕ) → i < length own → i < length vs
    → (not (get_or own i false) || get_or made (get_or vs i 0) false) ≡ true
    → arguments_among (drop (i + 1) own) made (drop (i + 1) vs) ≡ arguments_among (drop i own) made (drop i vs)
may_stand_further own made vs i l m h =
    sym (ap (λ os. arguments_among os made (drop i vs)) (drop_item own i false l)
    ∙ ap (λ us. arguments_among (get_or own i false ∷ drop (i + 1) own) made us) (drop_item vs i 0 m)
    ∙ ap (λ b. b && arguments_among (drop (i + 1) own) made (drop (i + 1) vs)) h)

pub may_not_stand : (own made : List Bool) (vs : List ℕ) (i : ℕ) → i < length own → i < length vs
    → (not (get_or own i false) || get_or made (get_or vs i 0) false) ≡ false
    → false ≡ arguments_among (drop i own) made (drop i vs)
may_not_stand own made vs i l m h =
    sym (ap (λ os. arguments_among os made (drop i vs)) (drop_item own i false l)
    ∙ ap (λ us. arguments_among (get_or own i false ∷ drop (i + 1) own) made us) (drop_item vs i 0 m)
    ∙ ap (λ b. b && arguments_among (drop (i + 1) own) made (drop (i + 1) vs)) h)

no_more : (own made : List Bool) (vs : List ℕ) → min (length own) (length vs) ≡ 0
    → arguments_among own made vs ≡ true
no_more [] made vs e = refl
no_more (o ∷ own) made [] e = refl
no_more (o ∷ own) made (v ∷ vs) e = absurd (omega (arith, e))

pub arguments_end : (own made : List Bool) (vs : List ℕ) (i : ℕ) → min (length own) (length vs) ≤ i
    → arguments_among (drop i own) made (drop i vs) ≡ true
arguments_end own made vs i l =
    no_more (drop i own) made (drop i vs) (omega (arith, length-drop i own, length-drop i vs, l))

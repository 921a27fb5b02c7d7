-- Observations, listed by operator and then by place.
use Rattle.std.proofs.Common.{◌≡◌, ℕ, suc, ◌+◌, ◌<◌, ◌≤◌, true, false, if◌then◌else◌, List, [], ◌∷◌, ◌++◌, length, map}
use Rattle.std.proofs.Common.{drop, get_or, slice_get, Some, All, bytes_eq, sym, ◌∙◌, ap, subst, arith}
use Rattle.std.proofs.lemmas.List.{append-nil, append_assoc, drop_more, drop_all, map_push}
use Rattle.std.proofs.lemmas.List.Elements.{All-push}
use Rattle.larch_term.specs.Operator.{PlainOperator}
use Rattle.larch_calculus.specs.Observation.{Observation, places_of_sort, observations_of}
use Rattle.larch_verify_pool.specs.Pooled.{Pooled}
use Rattle.larch_verify_clause_rules.specs.Observers.{observation_of, IsObserver}
use Rattle.larch_verify_clause_rules.specs.Operators.{operators_in}
use Rattle.larch_verify_clause_rules.specs.declared.known.Known.{Known}
use Rattle.larch_verify_clause_rules.specs.declared.observers.Observer.{Observer}

abbrev pub with_place : PlainOperator → ℕ → Observation
with_place f k = record { observer = f; place = k }

-- the next sort is the wanted one
pub place_yes : (s : List ℕ) (ds : List (List ℕ)) (i : ℕ) (f : PlainOperator) (ws : List Observation)
    (os : List Observer) (o : Observer) (ps : List Observer)
    → i < length ds → bytes_eq (get_or ds i []) s ≡ true → observation_of o ≡ with_place f (i + 1) → ps ≡ os ++ o ∷ []
    → map observation_of os ++ map (with_place f) (places_of_sort s (i + 1) (drop i ds)) ≡ ws
    → map observation_of ps ++ map (with_place f) (places_of_sort s (i + 1 + 1) (drop (i + 1) ds)) ≡ ws
place_yes s ds i f ws os o ps l y a p e =
    let k : i + 1 + 1 ≡ suc (i + 1) = omega arith in
    (λ j. (ap (map observation_of) p ∙ map_push observation_of os o ∙ ap (λ w. map observation_of os ++ w ∷ []) a) j
    ++ map (with_place f) (places_of_sort s (k j) (drop (i + 1) ds)))
    ∙ append_assoc (map observation_of os) (with_place f (i + 1) ∷ [])
    (map (with_place f) (places_of_sort s (suc (i + 1)) (drop (i + 1) ds)))
    ∙ (λ j. map observation_of os ++ map (with_place f)
    (if sym y j then (i + 1) ∷ places_of_sort s (suc (i + 1)) (drop (i + 1) ds) else places_of_sort s (suc (i + 1))
    (drop (i + 1) ds)))
    ∙ (λ j. map observation_of os ++ map (with_place f) (places_of_sort s (i + 1) (sym (drop_more ds i [] l) j)))
    ∙ e

-- it isn't
pub place_no : (s : List ℕ) (ds : List (List ℕ)) (i : ℕ) (f : PlainOperator) (ws : List Observation)
    (os : List Observer)
    → i < length ds → bytes_eq (get_or ds i []) s ≡ false
    → map observation_of os ++ map (with_place f) (places_of_sort s (i + 1) (drop i ds)) ≡ ws
    → map observation_of os ++ map (with_place f) (places_of_sort s (i + 1 + 1) (drop (i + 1) ds)) ≡ ws
place_no s ds i f ws os l y e =
    let k : i + 1 + 1 ≡ suc (i + 1) = omega arith in
    (λ j. map observation_of os ++ map (with_place f) (places_of_sort s (k j) (drop (i + 1) ds)))
    ∙ (λ j. map observation_of os ++ map (with_place f)
    (if sym y j then (i + 1) ∷ places_of_sort s (suc (i + 1)) (drop (i + 1) ds) else places_of_sort s (suc (i + 1))
    (drop (i + 1) ds)))
    ∙ (λ j. map observation_of os ++ map (with_place f) (places_of_sort s (i + 1) (sym (drop_more ds i [] l) j)))
    ∙ e

-- no sort is left
pub places_done : (s : List ℕ) (ds : List (List ℕ)) (i k : ℕ) (f : PlainOperator) (us ws : List Observation)
    → length ds ≤ i
    → us ++ map (with_place f) (places_of_sort s k (drop i ds)) ≡ ws → us ≡ ws
places_done s ds i k f us ws l e =
    sym (append-nil us) ∙ (λ j. us ++ map (with_place f) (places_of_sort s k (sym (drop_all i ds l) j))) ∙ e

-- the places of one operator more
pub observers_more : (s : List ℕ) (ks : List Known) (i : ℕ) (k : Known) (us vs ws : List Observation) → i < length ks
    → k ≡ get_or ks i k
    → vs ≡ us ++ map (with_place k.operator) (places_of_sort s 1 k.operator.domain)
    → us ++ observations_of s (operators_in (drop i ks)) ≡ ws
    → vs ++ observations_of s (operators_in (drop (i + 1) ks)) ≡ ws
observers_more s ks i k us vs ws l a v e =
    ap (λ xs. xs ++ observations_of s (operators_in (drop (i + 1) ks))) v
    ∙ append_assoc us (map (with_place k.operator) (places_of_sort s 1 k.operator.domain))
    (observations_of s (operators_in (drop (i + 1) ks)))
    ∙ ap (λ x. us ++ observations_of s (operators_in (x ∷ drop (i + 1) ks))) a
    ∙ ap (λ xs. us ++ observations_of s (operators_in xs)) (sym (drop_more ks i k l))
    ∙ e

pub observers_done : (s : List ℕ) (ks : List Known) (i : ℕ) (us ws : List Observation) → length ks ≤ i
    → us ++ observations_of s (operators_in (drop i ks)) ≡ ws → us ≡ ws
observers_done s ks i us ws l e =
    sym (append-nil us) ∙ (λ j. us ++ observations_of s (operators_in (sym (drop_all i ks l) j))) ∙ e

pub observer_pushed : (p : Pooled) (os ps : List Observer) (f : PlainOperator) (o : Observer)
    → slice_get p.operators o.number ≡ Some f → o.operator ≡ f
    → o.index < length f.domain → All (IsObserver p) os → ps ≡ os ++ o ∷ [] → All (IsObserver p) ps
observer_pushed p os ps f o k e l a w =
    subst (λ (xs : List Observer). All (IsObserver p) xs) (sym w)
    (All-push (IsObserver p) os o a (k ∙ ap Some (sym e), subst (λ g. o.index < length g.domain) (sym e) l))

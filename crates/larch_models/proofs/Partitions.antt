-- What operators show of two values, place by place, is what all observations show.
use Rattle.std.proofs.Common.{◌≡◌, ◌==◌, ◌&&◌, ◌||◌, not, ℕ, suc, Bool, true, false, cond, List, [], ◌∷◌}
use Rattle.std.proofs.Common.{◌++◌}
use Rattle.std.proofs.Common.{◌+◌, ◌<◌, append_assoc, bytes_eq, drop, get_or, length, refl, sym, ◌∙◌, ap, arith}
use Rattle.std.specs.Prelude.{if◌then◌else◌, map}
use Rattle.std.specs.List.{list_all}
use Rattle.std.proofs.lemmas.List.Folds.{list_all-append}
use Rattle.larch_calculus.specs.Observation.{Observation, observations_of, places_of_sort}
use Rattle.larch_term.specs.Operator.{PlainOperator}
use Rattle.larch_models_meaning.specs.Computed.{all_up_to, holds_partitioned, shows_same}
use Rattle.larch_models_meaning.specs.Interpretation.{Interpretation}
use Rattle.larch_models_meaning.specs.Models.{with_value}
use Rattle.larch_models.specs.Every.{all_lists}
use Rattle.larch_models.specs.Clauses.{PlainOperation, is_told_apart, operation_at, shows_from, shows_same_among}
use Rattle.larch_models.proofs.Every.{arguments_are_lists, up_to_same}
use Rattle.larch_models.proofs.Rests.{drop_item}

-- an operator with a place
abbrev at_place : PlainOperator → ℕ → Observation
at_place f k = record { observer = f; place = k }

shown_at : (m : Interpretation) (s : List ℕ) (f : PlainOperator) (u v k : ℕ)
    → shows_same m u v (at_place f k) ≡ all_lists (map m.last f.domain)
    (λ vs. m.table f (with_value k u 1 vs) == m.table f (with_value k v 1 vs))
shown_at m s f u v k =
    arguments_are_lists m.last f.domain
    (λ vs. m.table f (with_value k u 1 vs) == m.table f (with_value k v 1 vs))

shown_here : (m : Interpretation) (s : List ℕ) (f : PlainOperator) (u v k : ℕ) (more : List ℕ) (b rest : Bool)
    → rest ≡ list_all (shows_same m u v) (map (at_place f) more)
    → ((not b || all_lists (map m.last f.domain)
    (λ vs. m.table f (with_value k u 1 vs) == m.table f (with_value k v 1 vs))) && rest)
    ≡ list_all (shows_same m u v) (map (at_place f) (cond b (k ∷ more) more))
shown_here m s f u v k more true rest e =
    ap (λ b. b && rest) (sym (shown_at m s f u v k)) ∙ ap (λ b. shows_same m u v (at_place f k) && b) e
shown_here m s f u v k more false rest e = e

shown_from : (m : Interpretation) (s : List ℕ) (f : PlainOperator) (u v k : ℕ) (rs : List (List ℕ))
    → shows_from (operation_at m s f) u v k (map (λ r. bytes_eq r s) rs)
    ≡ list_all (shows_same m u v) (map (at_place f) (places_of_sort s k rs))
shown_from m s f u v k [] = refl
shown_from m s f u v k (r ∷ rs) =
    shown_here m s f u v k (places_of_sort s (suc k) rs) (bytes_eq r s)
    (shows_from (operation_at m s f) u v (suc k) (map (λ r. bytes_eq r s) rs)) (shown_from m s f u v (suc k) rs)

shown_among : (m : Interpretation) (s : List ℕ) (u v : ℕ) (fs : List PlainOperator)
    → shows_same_among (map (operation_at m s) fs) u v ≡ list_all (shows_same m u v) (observations_of s fs)
shown_among m s u v [] = refl
shown_among m s u v (f ∷ fs) =
    ap (λ b. b && shows_same_among (map (operation_at m s) fs) u v) (shown_from m s f u v 1 f.domain)
    ∙ ap (λ b. list_all (shows_same m u v) (map (at_place f) (places_of_sort s 1 f.domain)) && b)
    (shown_among m s u v fs)
    ∙ sym (list_all-append (shows_same m u v) (map (at_place f) (places_of_sort s 1 f.domain)) (observations_of s fs))

pub partition_holds : (m : Interpretation) (s : List ℕ) (fs : List PlainOperator) (os : List PlainOperation) (n : ℕ)
    (answer : Bool) → os ≡ map (operation_at m s) fs → n ≡ m.last s
    → answer ≡ all_lists (n ∷ n ∷ []) (is_told_apart os) → answer ≡ holds_partitioned m s fs
partition_holds m s fs os n answer e l a =
    a ∙ ap (λ us. all_lists (n ∷ n ∷ []) (is_told_apart us)) e
    ∙ ap (λ k. all_lists (k ∷ k ∷ []) (is_told_apart (map (operation_at m s) fs))) l
    ∙ up_to_same (m.last s)
    (λ u. all_up_to (m.last s) (λ v. not (shows_same_among (map (operation_at m s) fs) u v) || u == v))
    (λ u. all_up_to (m.last s) (λ v. not (list_all (shows_same m u v) (observations_of s fs)) || u == v))
    (λ u lu. up_to_same (m.last s)
    (λ v. not (shows_same_among (map (operation_at m s) fs) u v) || u == v)
    (λ v. not (list_all (shows_same m u v) (observations_of s fs)) || u == v)
    (λ v lv. ap (λ b. not b || u == v) (shown_among m s u v fs)))

-- a value more of those that an observation is given
pub value_further : (place u i v : ℕ) (vs into : List ℕ) → i < length vs
    → v ≡ (if i + 1 == place then u else get_or vs i 0)
    → (into ++ v ∷ []) ++ with_value place u (i + 1 + 1) (drop (i + 1) vs)
    ≡ into ++ with_value place u (i + 1) (drop i vs)
value_further place u i v vs into l e =
    append_assoc into (v ∷ []) (with_value place u (i + 1 + 1) (drop (i + 1) vs))
    ∙ ap (λ k. into ++ v ∷ with_value place u k (drop (i + 1) vs)) (one_more (i + 1))
    ∙ ap (λ w. into ++ w ∷ with_value place u (suc (i + 1)) (drop (i + 1) vs)) e
    ∙ ap (λ us. into ++ with_value place u (i + 1) us) (sym (drop_item vs i 0 l))
  where
    one_more : (k : ℕ) → k + 1 ≡ suc k
    one_more k = omega arith

-- a place more at which an operator shows the same
pub shows_further : (o : PlainOperation) (u v i : ℕ) (own : List Bool) → i < length own
    → (get_or own i false ≡ true
    → all_lists o.lasts (λ vs. o.value (with_value (i + 1) u 1 vs) == o.value (with_value (i + 1) v 1 vs)) ≡ true)
    → shows_from o u v (i + 1 + 1) (drop (i + 1) own) ≡ shows_from o u v (i + 1) (drop i own)
shows_further o u v i own l h =
    ap (λ k. shows_from o u v k (drop (i + 1) own)) (one_more (i + 1))
    ∙ sym (ap (shows_from o u v (i + 1)) (drop_item own i false l)
    ∙ ap (λ b. b && shows_from o u v (suc (i + 1)) (drop (i + 1) own)) (implied (get_or own i false) _ h))
  where
    one_more : (k : ℕ) → k + 1 ≡ suc k
    one_more k = omega arith

    implied : (b c : Bool) → (b ≡ true → c ≡ true) → (not b || c) ≡ true
    implied true c h = h refl
    implied false c h = refl

pub shows_not : (o : PlainOperation) (u v i : ℕ) (own : List Bool) → i < length own → get_or own i false ≡ true
    → all_lists o.lasts (λ vs. o.value (with_value (i + 1) u 1 vs) == o.value (with_value (i + 1) v 1 vs)) ≡ false
    → false ≡ shows_from o u v (i + 1) (drop i own)
shows_not o u v i own l h f =
    let c = all_lists o.lasts (λ vs. o.value (with_value (i + 1) u 1 vs) == o.value (with_value (i + 1) v 1 vs)) in
    sym (ap (shows_from o u v (i + 1)) (drop_item own i false l)
    ∙ ap (λ b. (not b || c) && shows_from o u v (suc (i + 1)) (drop (i + 1) own)) h
    ∙ ap (λ b. b && shows_from o u v (suc (i + 1)) (drop (i + 1) own)) f)

-- What an index sees is what goes through all operators.
use Rattle.std.proofs.Common.{◌≡◌, ℕ, ◌+◌, ◌<◌, Bool, true, false, not, cond, ◌&&◌, ◌||◌, List, [], ◌∷◌, ◌++◌, Option}
use Rattle.std.proofs.Common.{Some, None, bytes_eq, find, take, length, get_or, refl, sym, ◌∙◌, ap}
use Rattle.std.specs.List.{list_any}
use Rattle.std.specs.Option.{option_and_then, option_map, option_or}
use Rattle.std.proofs.lemmas.List.{take_more}
use Rattle.std.proofs.lemmas.List.Folds.{find-append, list_all-append, list_any-append}
use Rattle.std.proofs.lemmas.Slice.Eq.{bytes_eq-Decides}
use Rattle.larch_term.specs.Operator.{OperatorName, PlainOperator, plain, boxed}
use Rattle.larch_term.specs.OperatorKey.{operator_Decides, same_operator}
use Rattle.larch_raw.specs.declared.equation.ClauseKind.{ClauseKind}
use Rattle.larch_raw.specs.declared.equation.ClauseKind.TheVariants.{Generated, Partitioned}
use Rattle.larch_traits_items.specs.Index.{IsSeen, is_itself, is_made, is_taking, only_seen, seen_among, seen_at}
use Rattle.larch_traits_items.specs.Index.{with_seen, with_sort}
use Rattle.larch_traits_items.specs.References.{all_same, is_named, is_wanted, only_operator, suits, takes}
use Rattle.larch_traits_items.specs.declared.index.Seen.{Seen}

and_true : (a : Bool) → (a && true) ≡ a
and_true true = refl
and_true false = refl

or_true : (a : Bool) → ((a || true) && true) ≡ true
or_true true = refl
or_true false = refl

and_twice : (a b : Bool) → ((a && b) && b) ≡ (a && b)
and_twice true true = refl
and_twice true false = refl
and_twice false b = refl

same_itself : (f : PlainOperator) → same_operator f f ≡ true
same_itself f = (operator_Decides f f).1 refl

none_by : (p : PlainOperator → Bool) (g x : PlainOperator) (xs : List PlainOperator) (b : Bool)
    → cond b (Some x) (find p xs) ≡ None → (find p xs ≡ None → all_same p g xs ≡ true)
    → ((not b || same_operator g x) && all_same p g xs) ≡ true
none_by p g x xs true e later = cc
none_by p g x xs false e later = later e

-- where none is so, all that are so are equal
none_same : (p : PlainOperator → Bool) (g : PlainOperator) (xs : List PlainOperator) → find p xs ≡ None
    → all_same p g xs ≡ true
none_same p g [] e = refl
none_same p g (x ∷ xs) e = none_by p g x xs (p x) e (none_same p g xs)

module _ (p : PlainOperator → Bool) (xs : List PlainOperator) (f : PlainOperator) where
  grown_by : (o : Option PlainOperator) (b : Bool) → find p xs ≡ o → p f ≡ b
      → option_map (λ g. record { first = g; same = all_same p g (xs ++ f ∷ []) }) (option_or o (cond b (Some f) None))
      ≡ cond b (Some (with_seen (option_map (λ g. record { first = g; same = all_same p g xs }) o) f))
      (option_map (λ g. record { first = g; same = all_same p g xs }) o)
  grown_by None true e q =
      ap (λ s. Some (record { first = f; same = s }))
      (list_all-append (λ h. not (p h) || same_operator f h) xs (f ∷ [])
      ∙ ap (λ a. a && ((not (p f) || same_operator f f) && true)) (none_same p f xs e)
      ∙ ap (λ z. (not (p f) || z) && true) (same_itself f) ∙ or_true (not (p f)))
  grown_by None false e q = refl
  grown_by (Some g) true e q =
      ap (λ s. Some (record { first = g; same = s }))
      (list_all-append (λ h. not (p h) || same_operator g h) xs (f ∷ [])
      ∙ ap (λ z. all_same p g xs && ((not z || same_operator g f) && true)) q
      ∙ ap (λ z. all_same p g xs && z) (and_true (same_operator g f)))
  grown_by (Some g) false e q =
      ap (λ s. Some (record { first = g; same = s }))
      (list_all-append (λ h. not (p h) || same_operator g h) xs (f ∷ [])
      ∙ ap (λ z. all_same p g xs && ((not z || same_operator g f) && true)) q
      ∙ and_true (all_same p g xs))

  -- what is seen among operators with one more behind them
  grown : seen_among p (xs ++ f ∷ []) ≡ cond (p f) (Some (with_seen (seen_among p xs) f)) (seen_among p xs)
  grown =
      ap (option_map (λ g. record { first = g; same = all_same p g (xs ++ f ∷ []) })) (find-append p xs (f ∷ []))
      ∙ grown_by (find p xs) (p f) refl refl

-- one operator more is noted
pub next_seen : (p : PlainOperator → Bool) (fs : List PlainOperator) (i : ℕ) (f : PlainOperator) (was now : Option Seen)
    (b : Bool) → i < length fs → f ≡ get_or fs i f
    → was ≡ seen_among p (take i fs) → now ≡ cond b (Some (with_seen was f)) was → b ≡ p f
    → now ≡ seen_among p (take (i + 1) fs)
next_seen p fs i f was now b lt at before put e =
    put ∙ ap (λ c. cond c (Some (with_seen was f)) was) e ∙ ap (λ w. cond (p f) (Some (with_seen w f)) w) before
    ∙ sym (grown p (take i fs) f)
    ∙ ap (seen_among p) (sym (take_more fs i f lt ∙ ap (λ x. take i fs ++ x ∷ []) (sym at)))

noted_twice : (o : Option Seen) (f : PlainOperator) → with_seen (Some (with_seen o f)) f ≡ with_seen o f
noted_twice None f = ap (λ b. record { first = f; same = b }) (same_itself f)
noted_twice (Some seen) f =
    ap (λ b. record { first = seen.first; same = b }) (and_twice seen.same (same_operator seen.first f))

noted_by : (o : Option Seen) (f : PlainOperator) (a b : Bool)
    → cond b (Some (with_seen (cond a (Some (with_seen o f)) o) f)) (cond a (Some (with_seen o f)) o)
    ≡ cond (a || (b || false)) (Some (with_seen o f)) o
noted_by o f false false = refl
noted_by o f false true = refl
noted_by o f true false = refl
noted_by o f true true = ap Some (noted_twice o f)

-- an operator is noted at one sort more
pub next_noted : (key f : PlainOperator) (ds ss : List (List ℕ)) (i : ℕ) (s : List ℕ) (o was now : Option Seen)
    (b : Bool) → ss ≡ ds → i < length ss → s ≡ get_or ss i s
    → was ≡ cond (list_any (λ z. same_operator (with_sort f z) key) (take i ds)) (Some (with_seen o f)) o
    → now ≡ cond b (Some (with_seen was f)) was → b ≡ same_operator (with_sort f s) key
    → now ≡ cond (list_any (λ z. same_operator (with_sort f z) key) (take (i + 1) ds)) (Some (with_seen o f)) o
next_noted key f ds ss i s o was now b same lt at before put e =
    put ∙ ap (λ w. cond b (Some (with_seen w f)) w) before
    ∙ ap
    (λ c.
    cond c
    (Some (with_seen (cond (list_any (λ z. same_operator (with_sort f z) key) (take i ds)) (Some (with_seen o f)) o) f))
    (cond (list_any (λ z. same_operator (with_sort f z) key) (take i ds)) (Some (with_seen o f)) o)) e
    ∙ noted_by o f (list_any (λ z. same_operator (with_sort f z) key) (take i ds)) (same_operator (with_sort f s) key)
    ∙ sym (ap (λ c. cond c (Some (with_seen o f)) o)
    (ap (λ zs. list_any (λ z. same_operator (with_sort f z) key) (take (i + 1) zs)) (sym same)
    ∙ ap (list_any (λ z. same_operator (with_sort f z) key))
    (take_more ss i s lt ∙ ap (λ x. take i ss ++ x ∷ []) (sym at))
    ∙ list_any-append (λ z. same_operator (with_sort f z) key) (take i ss) (s ∷ [])
    ∙ ap (λ zs. list_any (λ z. same_operator (with_sort f z) key) (take i zs)
    || (same_operator (with_sort f s) key || false)) same))

only_by : (p : PlainOperator → Bool) (fs : List PlainOperator) (o : Option PlainOperator)
    → only_seen (option_map (λ g. record { first = g; same = all_same p g fs }) o)
    ≡ option_and_then (λ g. cond (all_same p g fs) (Some g) None) o
only_by p fs None = refl
only_by p fs (Some g) = refl

-- what is seen tells the one operator
only_among : (p : PlainOperator → Bool) (fs : List PlainOperator) → only_seen (seen_among p fs) ≡ only_operator p fs
only_among p fs = only_by p fs (find p fs)

only_alike : (p q : PlainOperator → Bool) (fs : List PlainOperator) → ((f : PlainOperator) → p f ≡ q f)
    → only_operator p fs ≡ only_operator q fs
only_alike p q fs e = ap (λ r. only_operator r fs) (λ i f. e f i)

found_never : (fs : List PlainOperator) → find (λ _. false) fs ≡ None
found_never [] = refl
found_never (f ∷ fs) = found_never fs

only_never : (p : PlainOperator → Bool) (fs : List PlainOperator) → ((f : PlainOperator) → p f ≡ false)
    → only_operator p fs ≡ None
only_never p fs e =
    only_alike p (λ _. false) fs e
    ∙ ap (option_and_then (λ g. cond (all_same (λ _. false) g fs) (Some g) None)) (found_never fs)

suited_by : (kind : ClauseKind) (sort : List ℕ) (exact f : PlainOperator) (b c : Bool) → same_operator f exact ≡ b
    → suits kind sort exact ≡ c → (b && suits kind sort f) ≡ (c && b)
suited_by kind sort exact f true true q h = ap (suits kind sort) ((operator_Decides f exact).0 q) ∙ h
suited_by kind sort exact f true false q h = ap (suits kind sort) ((operator_Decides f exact).0 q) ∙ h
suited_by kind sort exact f false true q h = refl
suited_by kind sort exact f false false q h = refl

-- what a reference with a signature means, where its operator suits, and where it doesn't
pub exact_suits : (entries : List (PlainOperator × Seen)) (kind : ClauseKind) (sort name : List ℕ)
    (exact : PlainOperator) (fs : List PlainOperator) → IsSeen is_itself entries fs → suits kind sort exact ≡ true
    → only_seen (seen_at entries exact)
    ≡ only_operator (is_wanted (record { kind = kind; sort = sort; name = name; exact = Some exact })) fs
exact_suits entries kind sort name exact fs seen h =
    ap only_seen (seen exact) ∙ only_among (is_itself exact) fs
    ∙ only_alike (is_itself exact) (λ f. same_operator f exact && suits kind sort f) fs
    (λ f. sym (suited_by kind sort exact f (same_operator f exact) true refl h))

pub exact_unsuited : (kind : ClauseKind) (sort name : List ℕ) (exact : PlainOperator) (fs : List PlainOperator)
    → suits kind sort exact ≡ false
    → None ≡ only_operator (is_wanted (record { kind = kind; sort = sort; name = name; exact = Some exact })) fs
exact_unsuited kind sort name exact fs h =
    sym (only_never (λ f. same_operator f exact && suits kind sort f) fs
    (λ f. suited_by kind sort exact f (same_operator f exact) false refl h))

swapped_by : (a b : List ℕ) (p q : Bool) → bytes_eq a b ≡ p → bytes_eq b a ≡ q → p ≡ q
swapped_by a b true true e d = refl
swapped_by a b false false e d = refl
swapped_by a b true false e d = sym ((bytes_eq-Decides b a).1 (sym ((bytes_eq-Decides a b).0 e))) ∙ d
swapped_by a b false true e d = sym e ∙ (bytes_eq-Decides a b).1 (sym ((bytes_eq-Decides b a).0 d))

swapped : (a b : List ℕ) → bytes_eq a b ≡ bytes_eq b a
swapped a b = swapped_by a b (bytes_eq a b) (bytes_eq b a) refl refl

-- the key of a name with a sort
abbrev key_of : List ℕ → List ℕ → PlainOperator
key_of name sort = record { name = plain name; domain = []; range = sort }

keyed_by : (n : OperatorName) (name s sort : List ℕ)
    → same_operator (record { name = n; domain = []; range = s }) (key_of name sort)
    ≡ (is_named n name && bytes_eq s sort)
unfolding same_operator
keyed_by (plain n) name s sort = refl
keyed_by (boxed b k) name s sort = refl

made_is : (name sort : List ℕ) (f : PlainOperator)
    → is_made (key_of name sort) f ≡ (is_named f.name name && bytes_eq f.range sort)
made_is name sort f = keyed_by f.name name f.range sort

and_or : (a b c : Bool) → ((a && b) || (a && c)) ≡ (a && (b || c))
and_or true b c = refl
and_or false b c = refl

and_false : (a : Bool) → false ≡ (a && false)
and_false true = refl
and_false false = refl

taking_is : (n : OperatorName) (name sort : List ℕ) (ss : List (List ℕ))
    → list_any (λ s. same_operator (record { name = n; domain = []; range = s }) (key_of name sort)) ss
    ≡ (is_named n name && list_any (bytes_eq sort) ss)
taking_is n name sort [] = and_false (is_named n name)
taking_is n name sort (s ∷ ss) =
    ap (λ b. b || list_any (λ z. same_operator (record { name = n; domain = []; range = z }) (key_of name sort)) ss)
    (keyed_by n name s sort ∙ ap (λ b. is_named n name && b) (swapped s sort))
    ∙ ap (λ b. (is_named n name && bytes_eq sort s) || b) (taking_is n name sort ss)
    ∙ and_or (is_named n name) (bytes_eq sort s) (list_any (bytes_eq sort) ss)

-- what a reference without a signature means
pub made_wanted : (entries : List (PlainOperator × Seen)) (sort name : List ℕ) (fs : List PlainOperator)
    → IsSeen is_made entries fs
    → only_seen (seen_at entries (record { name = plain name; domain = []; range = sort }))
    ≡ only_operator (is_wanted (record { kind = Generated; sort = sort; name = name; exact = None })) fs
made_wanted entries sort name fs seen =
    ap only_seen (seen (key_of name sort)) ∙ only_among (is_made (key_of name sort)) fs
    ∙ only_alike (is_made (key_of name sort)) (λ f. is_named f.name name && bytes_eq f.range sort) fs
    (made_is name sort)

pub taking_wanted : (entries : List (PlainOperator × Seen)) (sort name : List ℕ) (fs : List PlainOperator)
    → IsSeen is_taking entries fs
    → only_seen (seen_at entries (record { name = plain name; domain = []; range = sort }))
    ≡ only_operator (is_wanted (record { kind = Partitioned; sort = sort; name = name; exact = None })) fs
taking_wanted entries sort name fs seen =
    ap only_seen (seen (key_of name sort)) ∙ only_among (is_taking (key_of name sort)) fs
    ∙ only_alike (is_taking (key_of name sort)) (λ f. is_named f.name name && takes sort f) fs
    (λ f. taking_is f.name name sort f.domain)

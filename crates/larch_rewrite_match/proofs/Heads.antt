-- Rules that are found by their heads do what all rules do.
use Rattle.std.specs.Prelude.{◌≡◌, ℕ, Bool, true, false, cond, if◌then◌else◌, filter, List, [], ◌∷◌, ◌++◌, All}
use Rattle.std.specs.Prelude.{Contains, Some, None}
use Rattle.std.specs.Prelude.{option_and_then, refl}
use Rattle.std.proofs.Common.{ap, ap₂, sym, subst, ◌∙◌}
use Rattle.std.proofs.lemmas.List.{append-nil}
use Rattle.std.proofs.lemmas.List.Elements.{All-cons, All-filter, All-head, All-nil, All-push, All-tail, filter-append}
use Rattle.std.specs.List.{flat_map}
use Rattle.std.specs.Map.{lookup}
use Rattle.larch_base.proofs.Members.{contains_here, contains_later}
use Rattle.larch_rewrite_meaning.specs.Matching.{match_term, matched_all}
use Rattle.larch_rewrite_meaning.specs.Rewriting.{rewrite_of, tries_of}
use Rattle.larch_term.specs.BuiltIn.{is_built_in_as}
use Rattle.larch_term.specs.Equality.{same_operator}
use Rattle.larch_term.specs.Operator.{PlainOperator}
use Rattle.larch_term.specs.OperatorKey.{operator_Decides}
use Rattle.larch_term.specs.Tree.{Tree, Forest, var, app, none, more}
use Rattle.larch_term.specs.declared.built_in.BuiltIn.TheVariants.{Equal}
use Rattle.larch_term.specs.declared.substitution.Entry.{Entry}
use Rattle.larch_rewrite_match.specs.Exchanged.{exchange_equality}
use Rattle.larch_rewrite_match.specs.Heads.{IsApplication, IsApplied, IsIndexed, Suffice, found, found_under, has_head}
use Rattle.larch_rewrite_match.specs.Heads.{is_head}
use Rattle.larch_rewrite_match.specs.Rule.{IsRule, all_sides, left_of, sides_of_rule}
use Rattle.larch_rewrite_match.specs.declared.rule.RewriteRule.{RewriteRule}
use Rattle.larch_rewrite_match.proofs.Searching.{by_left, here_none, or_further, rewritten_further, tried_by}

-- ---- a rule with another head doesn't apply: not as it stands

other_matched : (f g : PlainOperator) (ps ts : Forest) (es : List Entry) → same_operator g f ≡ false
    → match_term (app g ps) (app f ts) es ≡ None
other_matched f g ps ts es h = ap (λ b. elim b [ true ↦ matched_all ps ts es | false ↦ None ]) h

left_unmatched : (f : PlainOperator) (l : Tree) (ts : Forest) → IsApplication l → is_head f l ≡ false
    → match_term l (app f ts) [] ≡ None
left_unmatched f (var n s) ts a h = absurd a
left_unmatched f (app g ps) ts a h = other_matched f g ps ts [] h

-- nor exchanged

if_turned : (f g : PlainOperator) (s t : Tree) (ts : Forest) (b : Bool) → same_operator g f ≡ false
    → option_and_then (λ l. match_term l (app f ts) []) (if b then Some (app g (more t (more s none))) else None) ≡ None
if_turned f g s t ts true h = other_matched f g (more t (more s none)) ts [] h
if_turned f g s t ts false h = refl

turned_unmatched : (f : PlainOperator) (l : Tree) (ts : Forest) → IsApplication l → is_head f l ≡ false
    → option_and_then (λ x. match_term x (app f ts) []) (exchange_equality l) ≡ None
turned_unmatched f (var n s) ts a h = absurd a
turned_unmatched f (app g none) ts a h = refl
turned_unmatched f (app g (more s none)) ts a h = refl
turned_unmatched f (app g (more s (more t none))) ts a h = if_turned f g s t ts (is_built_in_as g Equal) h
turned_unmatched f (app g (more s (more t (more u us)))) ts a h = refl

rule_unapplied : (f : PlainOperator) (r : RewriteRule) (ts : Forest) → IsApplied r → has_head f r ≡ false
    → rewrite_of (tries_of (sides_of_rule r)) (app f ts) ≡ None
rule_unapplied f r ts a h =
    tried_by r (app f ts)
    ∙ ap₂ (by_left r (app f ts)) (left_unmatched f (left_of r) ts a h) (turned_unmatched f (left_of r) ts a h)

-- ---- so those with the head suffice

one_chosen : (f : PlainOperator) (r : RewriteRule) (few rs : List RewriteRule) (ts : Forest) (b : Bool) → IsApplied r
    → has_head f r ≡ b
    → Suffice few rs (app f ts) → Suffice (cond b (r ∷ few) few) (r ∷ rs) (app f ts)
one_chosen f r few rs ts true a h go =
    rewritten_further (tries_of (sides_of_rule r)) (flat_map tries_of (all_sides few)) (app f ts)
    ∙ ap (or_further (rewrite_of (tries_of (sides_of_rule r)) (app f ts))) go
    ∙ sym (rewritten_further (tries_of (sides_of_rule r)) (flat_map tries_of (all_sides rs)) (app f ts))
one_chosen f r few rs ts false a h go = go ∙ sym (here_none r rs (app f ts) (rule_unapplied f r ts a h))

chosen_suffice : (f : PlainOperator) (rs : List RewriteRule) (ts : Forest) → All IsApplied rs
    → Suffice (filter (has_head f) rs) rs (app f ts)
chosen_suffice f [] ts h = refl
chosen_suffice f (r ∷ rs) ts h =
    one_chosen f r (filter (has_head f) rs) rs ts (has_head f r) (All-head IsApplied r rs h) refl
    (chosen_suffice f rs ts (All-tail IsApplied r rs h))

pub found_suffice : (heads : List (PlainOperator × List RewriteRule)) (b : Bool) (rs few : List RewriteRule)
    (f : PlainOperator)
    (ts : Forest) → IsIndexed heads b rs → b ≡ false → few ≡ found_under heads f → Suffice few rs (app f ts)
found_suffice heads true rs few f ts i e q = cc
found_suffice heads false rs few f ts i e q =
    subst (λ xs. Suffice xs rs (app f ts)) (sym (q ∙ i.1 f)) (chosen_suffice f rs ts i.0)

members : {X : Type 0} (P : X → Type 0) (ys : List X) → ((y : X) → Contains ys y → P y) → All P ys
members P [] h = All-nil P
members P (y ∷ ys) h = All-cons P y ys (h y (contains_here y ys)) (members P ys (λ z c. h z (contains_later y z ys c)))

pub all_among : (rs few : List RewriteRule) → few ≡ rs → All (Contains rs) few
all_among rs few e = subst (All (Contains rs)) (sym e) (members (Contains rs) rs (λ r c. c))

pub none_among : (rs : List RewriteRule) → All (Contains rs) []
none_among rs = All-nil (Contains rs)

pub found_among : (heads : List (PlainOperator × List RewriteRule)) (b : Bool) (rs few : List RewriteRule)
    (f : PlainOperator)
    → IsIndexed heads b rs → b ≡ false → few ≡ found_under heads f → All (Contains rs) few
found_among heads true rs few f i e q = cc
found_among heads false rs few f i e q =
    subst (All (Contains rs)) (sym (q ∙ i.1 f)) (All-filter (has_head f) (Contains rs) rs (all_among rs rs refl))

pub found_are : (heads : List (PlainOperator × List RewriteRule)) (b : Bool) (rs few : List RewriteRule)
    (f : PlainOperator)
    → IsIndexed heads b rs → b ≡ false → few ≡ found_under heads f → All IsRule rs → All IsRule few
found_are heads true rs few f i e q h = cc
found_are heads false rs few f i e q h =
    subst (All IsRule) (sym (q ∙ i.1 f)) (All-filter (has_head f) IsRule rs h)

-- ---- at a variable none applies whose left side is an application

left_apart : (l : Tree) (n s : List ℕ) → IsApplication l → match_term l (var n s) [] ≡ None
left_apart (var m z) n s a = absurd a
left_apart (app g ps) n s a = refl

if_apart : (g : PlainOperator) (v t : Tree) (n s : List ℕ) (b : Bool)
    → option_and_then (λ l. match_term l (var n s) []) (if b then Some (app g (more t (more v none))) else None) ≡ None
if_apart g v t n s true = refl
if_apart g v t n s false = refl

turned_apart : (l : Tree) (n s : List ℕ) → option_and_then (λ x. match_term x (var n s) []) (exchange_equality l) ≡ None
turned_apart (var m z) n s = refl
turned_apart (app g none) n s = refl
turned_apart (app g (more v none)) n s = refl
turned_apart (app g (more v (more t none))) n s = if_apart g v t n s (is_built_in_as g Equal)
turned_apart (app g (more v (more t (more u us)))) n s = refl

rules_apart : (rs : List RewriteRule) (n s : List ℕ) → All IsApplied rs → Suffice [] rs (var n s)
rules_apart [] n s h = refl
rules_apart (r ∷ rs) n s h =
    rules_apart rs n s (All-tail IsApplied r rs h)
    ∙ sym (here_none r rs (var n s) (tried_by r (var n s)
    ∙ ap₂ (by_left r (var n s)) (left_apart (left_of r) n s (All-head IsApplied r rs h))
    (turned_apart (left_of r) n s)))

pub none_suffice : (heads : List (PlainOperator × List RewriteRule)) (b : Bool) (rs : List RewriteRule) (n s : List ℕ)
    → IsIndexed heads b rs → b ≡ false → Suffice [] rs (var n s)
none_suffice heads true rs n s i e = cc
none_suffice heads false rs n s i e = rules_apart rs n s i.0

-- ---- how the index grows

pub none_indexed : (heads : List (PlainOperator × List RewriteRule)) (rs : List RewriteRule) → heads ≡ [] → rs ≡ []
    → IsIndexed heads false rs
none_indexed heads rs e q = (
  subst (All IsApplied) (sym q) (All-nil IsApplied),
  λ f. ap (λ es. found_under es f) e ∙ ap (filter (has_head f)) (sym q),
)

same_head : (f : PlainOperator) (r : RewriteRule) (g : PlainOperator) (ts : Forest) → app g ts ≡ left_of r
    → cond (same_operator g f) (r ∷ []) [] ≡ filter (has_head f) (r ∷ [])
same_head f r g ts e = ap (λ l. cond (is_head f l) (r ∷ []) []) e

pub one_indexed : (old new : List (PlainOperator × List RewriteRule)) (b : Bool) (rs : List RewriteRule)
    (r : RewriteRule) (g : PlainOperator)
    (ts : Forest) → app g ts ≡ left_of r
    → ((f : PlainOperator) → found_under new f ≡ found_under old f ++ cond (same_operator g f) (r ∷ []) [])
    → IsIndexed old b rs → IsIndexed new b (rs ++ r ∷ [])
one_indexed old new true rs r g ts e h i = tt
one_indexed old new false rs r g ts e h i = (
  All-push IsApplied rs r i.0 (subst IsApplication e tt),
  λ f. h f ∙ ap₂ (λ xs ys. xs ++ ys) (i.1 f) (same_head f r g ts e) ∙ sym (filter-append (has_head f) rs (r ∷ [])),
)

-- the same are found
pub same_indexed : (old new : List (PlainOperator × List RewriteRule)) (b : Bool) (rs : List RewriteRule)
    → ((f : PlainOperator) → found_under new f ≡ found_under old f) → IsIndexed old b rs → IsIndexed new b rs
same_indexed old new true rs e i = tt
same_indexed old new false rs e i = (i.0, λ f. e f ∙ i.1 f)

-- what is found where rules stand, and where none do
pub found_some : (heads : List (PlainOperator × List RewriteRule)) (g : PlainOperator) (rs : List RewriteRule)
    → Some rs ≡ lookup (same_operator g) heads → rs ≡ found_under heads g
found_some heads g rs e = ap found e

pub found_none : (heads : List (PlainOperator × List RewriteRule)) (g : PlainOperator)
    → None ≡ lookup (same_operator g) heads
    → [] ≡ found_under heads g
found_none heads g e = ap found e

-- rules that stood under an operator are put there again
pub put_same : (old new : List (PlainOperator × List RewriteRule)) (g f : PlainOperator) (rs : List RewriteRule)
    → Some rs ≡ lookup (same_operator g) old
    → lookup (same_operator f) new ≡ cond (same_operator g f) (Some rs) (lookup (same_operator f) old)
    → found_under new f ≡ found_under old f
put_same old new g f rs e put = put_by (same_operator g f) refl
  where
    put_by : (b : Bool) → same_operator g f ≡ b → found_under new f ≡ found_under old f
    put_by true q =
        ap found put ∙ ap (λ b. found (cond b (Some rs) (lookup (same_operator f) old))) q ∙ ap found e
        ∙ ap (found_under old) ((operator_Decides g f).0 q)
    put_by false q = ap found put ∙ ap (λ b. found (cond b (Some rs) (lookup (same_operator f) old))) q

module _ (old new : List (PlainOperator × List RewriteRule)) (g f : PlainOperator) (more : List RewriteRule)
    (r : RewriteRule)
    (is : more ≡ found_under old g ++ r ∷ [])
    (put : lookup (same_operator f) new ≡ cond (same_operator g f) (Some more) (lookup (same_operator f) old)) where
  put_by : (b : Bool) → same_operator g f ≡ b → found_under new f ≡ found_under old f ++ cond b (r ∷ []) []
  put_by true q =
      ap found put ∙ ap (λ b. found (cond b (Some more) (lookup (same_operator f) old))) q ∙ is
      ∙ ap (λ xs. xs ++ r ∷ []) (ap (found_under old) ((operator_Decides g f).0 q))
  put_by false q =
      ap found put ∙ ap (λ b. found (cond b (Some more) (lookup (same_operator f) old))) q
      ∙ sym (append-nil (found_under old f))

  -- a rule is put behind those of one head
  pub put_behind : found_under new f ≡ found_under old f ++ cond (same_operator g f) (r ∷ []) []
  put_behind = put_by (same_operator g f) refl

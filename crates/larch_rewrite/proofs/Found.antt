-- What is found among rows and rules.
use Rattle.std.specs.Prelude.{◌≡◌, ◌+◌, ◌<◌, ◌∷◌, ◌++◌, [], ℕ, List, All, Contains, Option, Some, None, length, map}
use Rattle.std.specs.Prelude.{take, drop, get_or, IfOk, refl}
use Rattle.std.specs.List.{flat_map}
use Rattle.std.proofs.Common.{Result, Ok, Err, ap, sym, subst, ◌∙◌}
use Rattle.std.proofs.lemmas.Grind.{flat_map-append}
use Rattle.std.proofs.lemmas.List.{map-append}
use Rattle.std.proofs.lemmas.List.Elements.{All-cons, All-nil}
use Rattle.larch_base.proofs.Members.{contains_left, contains_right}
use Rattle.larch_rewrite_meaning.specs.Rewriting.{rewrite_of, rewritten_once, rows_for, tries_of}
use Rattle.larch_rewrite_step.specs.RewriteMatchBound.{entries_of}
use Rattle.larch_rewrite_step.specs.RewriteMatchRule.{IsRule, all_sides, right_of, sides_of_rule}
use Rattle.larch_rewrite_step.specs.RewriteMatchSearch.{AreRowsFor, IsFirst}
use Rattle.larch_rewrite_step.specs.RewriteMatchRuleRewriteRule.{RewriteRule}
use Rattle.larch_rewrite_step.specs.RewriteMatchSearchMatch.{Match}
use Rattle.larch_rewrite_step.proofs.RewriteMatchSearching.{or_further, rewritten_further}
use Rattle.larch_store.specs.Layers.{join_layers}
use Rattle.larch_store.proofs.Layered.{joined_more, joined_parts}
use Rattle.larch_term.specs.Substitution.{instance_of}
use Rattle.larch_term.specs.Tree.{Tree}
use Rattle.larch_rewrite.specs.RuleSet.{PlainRule, rule_of, sides_in, sides_of_plain}
use Rattle.larch_rewrite.specs.Search.{IsRedex}

each_is : (rules : List PlainRule) → All IsRule (map rule_of rules)
each_is [] = All-nil IsRule
each_is (r ∷ rs) = All-cons IsRule (rule_of r) (map rule_of rs) refl (each_is rs)

pub are_rules : (rules : List PlainRule) (rs : List RewriteRule) → rs ≡ map rule_of rules → All IsRule rs
are_rules rules rs e = subst (All IsRule) (sym e) (each_is rules)

sides_same : (rules : List PlainRule) → all_sides (map rule_of rules) ≡ sides_in rules
sides_same [] = refl
sides_same (r ∷ rs) = ap (λ xs. sides_of_plain r ∷ xs) (sides_same rs)

-- a row that applies
pub row_first : (rows : List RewriteRule) (rules : List PlainRule) (t : Tree) (m : Match) → AreRowsFor rows t
    → IsFirst rows t (Some m) → IsRedex rows rules t (Some m)
row_first rows rules t m e f = (
  contains_left rows (map rule_of rules) m.rule.now f.0,
  f.1,
  rewritten_further (rows_for t) (flat_map tries_of (sides_in rules)) t
      ∙ ap (λ o. or_further o (rewrite_of (flat_map tries_of (sides_in rules)) t)) (sym e ∙ f.2),
)

-- no row applies, so the rules decide
then_rules : (rows : List RewriteRule) (rules : List PlainRule) (t : Tree) (o : Option Tree) → AreRowsFor rows t
    → rewrite_of (flat_map tries_of (all_sides rows)) t ≡ None
    → rewrite_of (flat_map tries_of (all_sides (map rule_of rules))) t ≡ o → rewritten_once (sides_in rules) t ≡ o
then_rules rows rules t o e h k =
    rewritten_further (rows_for t) (flat_map tries_of (sides_in rules)) t
    ∙ ap (λ p. or_further p (rewrite_of (flat_map tries_of (sides_in rules)) t)) (sym e ∙ h)
    ∙ (ap (λ ss. rewrite_of (flat_map tries_of ss) t) (sym (sides_same rules)) ∙ k)

first_once : (rows : List RewriteRule) (rules : List PlainRule) (t : Tree) (o : Option Match) → AreRowsFor rows t
    → rewrite_of (flat_map tries_of (all_sides rows)) t ≡ None → IsFirst (map rule_of rules) t o
    → IsRedex rows rules t o
first_once rows rules t None e h f = then_rules rows rules t None e h f
first_once rows rules t (Some m) e h f = (
  contains_right rows (map rule_of rules) m.rule.now f.0,
  f.1,
  then_rules rows rules t (Some (instance_of (entries_of m.by) (right_of m.rule.now))) e h f.2,
)

pub rules_decide : {E : Type 0} (rows : List RewriteRule) (rules : List PlainRule) (t : Tree)
    (r : Result (Option Match) E)
    → AreRowsFor rows t → rewrite_of (flat_map tries_of (all_sides rows)) t ≡ None
    → IfOk r (IsFirst (map rule_of rules) t) → IfOk r (IsRedex rows rules t)
rules_decide rows rules t (Ok o) e h f = first_once rows rules t o e h f
rules_decide rows rules t (Err m) e h f = tt

-- ---- rules one behind the other

abbrev pub tried : List PlainRule → Tree → Option Tree
tried rules t = rewrite_of (flat_map tries_of (all_sides (map rule_of rules))) t

tried_parts : (xs ys : List PlainRule) (t : Tree) → tried (xs ++ ys) t ≡ or_further (tried xs t) (tried ys t)
tried_parts xs ys t =
    ap (λ rs. rewrite_of (flat_map tries_of (all_sides rs)) t) (map-append rule_of xs ys)
    ∙ ap (λ ss. rewrite_of (flat_map tries_of ss) t) (map-append sides_of_rule (map rule_of xs) (map rule_of ys))
    ∙ ap (λ ss. rewrite_of ss t)
    (flat_map-append tries_of (all_sides (map rule_of xs)) (all_sides (map rule_of ys)))
    ∙ rewritten_further (flat_map tries_of (all_sides (map rule_of xs)))
    (flat_map tries_of (all_sides (map rule_of ys))) t

-- what is found among the first rules is found
pub found_left : (xs ys : List PlainRule) (t : Tree) (m : Match) → IsFirst (map rule_of xs) t (Some m)
    → IsFirst (map rule_of (xs ++ ys)) t (Some m)
found_left xs ys t m f = (
  subst (λ rs. Contains rs m.rule.now) (sym (map-append rule_of xs ys))
      (contains_left (map rule_of xs) (map rule_of ys) m.rule.now f.0),
  f.1,
  tried_parts xs ys t ∙ ap (λ o. or_further o (tried ys t)) f.2,
)

-- where none of the first rules applies the others decide
pub found_right : (xs ys : List PlainRule) (t : Tree) (o : Option Match) → tried xs t ≡ None
    → IsFirst (map rule_of ys) t o → IsFirst (map rule_of (xs ++ ys)) t o
found_right xs ys t None h f = tried_parts xs ys t ∙ ap (λ o. or_further o (tried ys t)) h ∙ f
found_right xs ys t (Some m) h f = (
  subst (λ rs. Contains rs m.rule.now) (sym (map-append rule_of xs ys))
      (contains_right (map rule_of xs) (map rule_of ys) m.rule.now f.0),
  f.1,
  tried_parts xs ys t ∙ ap (λ o. or_further o (tried ys t)) h ∙ f.2,
)

-- the last layer, by its table
then_last : (xs ys : List PlainRule) (rs : List RewriteRule) (t : Tree) (o : Option Match) → tried xs t ≡ None
    → rs ≡ map rule_of ys → IsFirst rs t o → IsFirst (map rule_of (xs ++ ys)) t o
then_last xs ys rs t o h e f = found_right xs ys t o h (subst (λ ws. IsFirst ws t o) e f)

pub last_decides : {E : Type 0} (xs ys : List PlainRule) (rs : List RewriteRule) (t : Tree)
    (r : Result (Option Match) E)
    → tried xs t ≡ None → rs ≡ map rule_of ys → IfOk r (IsFirst rs t) → IfOk r (IsFirst (map rule_of (xs ++ ys)) t)
last_decides xs ys rs t (Ok o) h e f = then_last xs ys rs t o h e f
last_decides xs ys rs t (Err m) h e f = tt

-- a layer that has one, and one that has none
pub found_here : {R : Type 0} (v : R → List PlainRule) (rs : List R) (i : ℕ) (r : R) (t : Tree) (m : Match)
    → r ≡ get_or rs i r → i < length rs → tried (join_layers (map v (take i rs))) t ≡ None
    → IsFirst (map rule_of (v r)) t (Some m) → IsFirst (map rule_of (join_layers (map v rs))) t (Some m)
found_here v rs i r t m is lt h f =
    let before = join_layers (map v (take i rs)) in
    let behind = join_layers (map v (drop (i + 1) rs)) in
    subst (λ es. IsFirst (map rule_of es) t (Some m))
    (sym (joined_parts v rs (i + 1) ∙ ap (λ es. es ++ behind) (joined_more v rs i r is lt)))
    (found_left (before ++ v r) behind t m (found_right before (v r) t (Some m) h f))

pub found_later : {R : Type 0} (v : R → List PlainRule) (rs : List R) (i : ℕ) (r : R) (t : Tree)
    (next : List PlainRule) (ws : List RewriteRule) → r ≡ get_or rs i r → i < length rs
    → tried (join_layers (map v (take i rs))) t ≡ None → next ≡ v r → ws ≡ map rule_of next
    → rewrite_of (flat_map tries_of (all_sides ws)) t ≡ None
    → tried (join_layers (map v (take (i + 1) rs))) t ≡ None
found_later v rs i r t next ws is lt h q e f =
    ap (λ es. tried es t) (joined_more v rs i r is lt) ∙ tried_parts (join_layers (map v (take i rs))) (v r) t
    ∙ ap (λ o. or_further o (tried (v r) t)) h
    ∙ (ap (λ ps. rewrite_of (flat_map tries_of (all_sides ps)) t) (ap (map rule_of) (sym q) ∙ sym e) ∙ f)

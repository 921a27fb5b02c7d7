-- Rules that are tried one behind the other.
use Rattle.std.specs.Prelude.{◌≡◌, Bool, true, false, cond, All, Contains, List, [], ◌∷◌, ◌++◌, Option, Some}
use Rattle.std.specs.Prelude.{None, option_map, option_and_then, refl}
use Rattle.std.proofs.Common.{ap, sym, ◌∙◌}
use Rattle.std.specs.List.{flat_map}
use Rattle.std.proofs.lemmas.List.Elements.{All-contains}
use Rattle.larch_term.specs.Tree.{Tree, var, app, none, more}
use Rattle.larch_term.specs.Operator.{PlainOperator}
use Rattle.larch_term.specs.BuiltIn.{is_built_in_as}
use Rattle.larch_term.specs.Substitution.{instance_of}
use Rattle.larch_term.specs.declared.built_in.BuiltIn.TheVariants.{Equal}
use Rattle.larch_term.specs.declared.substitution.Entry.{Entry}
use Rattle.larch_rewrite_meaning.specs.Matching.{match_term}
use Rattle.larch_rewrite_meaning.specs.Rewriting.{tries_of, exchange_rule, rewrite_of, rewritten_by}
use Rattle.larch_rewrite_meaning.specs.Sides.{Sides}
use Rattle.larch_rewrite_match.specs.Exchanged.{exchange_equality}
use Rattle.larch_rewrite_match.specs.Heads.{Suffice}
use Rattle.larch_rewrite_match.specs.Rule.{sides_of_rule, all_sides}
use Rattle.larch_rewrite_match.specs.Search.{IsFirst}
use Rattle.larch_rewrite_match.specs.declared.search.Match.{Match}
use Rattle.larch_rewrite_match.specs.declared.rule.RewriteRule.{RewriteRule}

-- the first that some rules make of a term, or else what further ones make
abbrev pub or_further : Option Tree → Option Tree → Option Tree
or_further None o = o
or_further (Some u) o = Some u

one_more : (o : Option Tree) (x y z : Option Tree) → z ≡ or_further x y
    → (elim o [ None ↦ z | Some u ↦ Some u ]) ≡ or_further (elim o [ None ↦ x | Some u ↦ Some u ]) y
one_more None x y z e = e
one_more (Some u) x y z e = refl

pub rewritten_further : (xs ys : List Sides) (t : Tree)
    → rewrite_of (xs ++ ys) t ≡ or_further (rewrite_of xs t) (rewrite_of ys t)
rewritten_further [] ys t = refl
rewritten_further (x ∷ xs) ys t =
    one_more (rewritten_by x t) (rewrite_of xs t) (rewrite_of ys t) (rewrite_of (xs ++ ys) t)
    (rewritten_further xs ys t)

-- where a rule doesn't apply the further ones decide
pub here_none : (r : RewriteRule) (rs : List RewriteRule) (t : Tree) → rewrite_of (tries_of (sides_of_rule r)) t ≡ None
    → rewrite_of (flat_map tries_of (all_sides (r ∷ rs))) t ≡ rewrite_of (flat_map tries_of (all_sides rs)) t
here_none r rs t h =
    rewritten_further (tries_of (sides_of_rule r)) (flat_map tries_of (all_sides rs)) t
    ∙ ap (λ o. or_further o (rewrite_of (flat_map tries_of (all_sides rs)) t)) h

pub here_some : (r : RewriteRule) (rs : List RewriteRule) (t u : Tree)
    → rewrite_of (tries_of (sides_of_rule r)) t ≡ Some u
    → rewrite_of (flat_map tries_of (all_sides (r ∷ rs))) t ≡ Some u
here_some r rs t u h =
    rewritten_further (tries_of (sides_of_rule r)) (flat_map tries_of (all_sides rs)) t
    ∙ ap (λ o. or_further o (rewrite_of (flat_map tries_of (all_sides rs)) t)) h

-- a rule as it is tried, by what its left side matches
abbrev pub by_left : RewriteRule → Tree → Option (List Entry) → Option (List Entry) → Option Tree
by_left r t None o = option_map (λ es. instance_of es r.right) o
by_left r t (Some es) o = Some (instance_of es r.right)

then_turned : (r : RewriteRule) (f : PlainOperator) (s v t : Tree) (b : Bool)
    → rewrite_of (cond b (record { left = app f (more v (more s none)); right = r.right } ∷ []) []) t
    ≡ option_map (λ es. instance_of es r.right)
    (option_and_then (λ l. match_term l t []) (cond b (Some (app f (more v (more s none)))) None))
then_turned r f s v t true = only (match_term (app f (more v (more s none))) t [])
  where
    only : (o : Option (List Entry))
        → (elim (option_map (λ es. instance_of es r.right) o) [ None ↦ None | Some u ↦ Some u ])
        ≡ option_map (λ es. instance_of es r.right) o
    only None = refl
    only (Some es) = refl
then_turned r f s v t false = refl

turned_tried : (r : RewriteRule) (l t : Tree)
    → rewrite_of (exchange_rule (record { left = l; right = r.right })) t
    ≡ option_map (λ es. instance_of es r.right) (option_and_then (λ x. match_term x t []) (exchange_equality l))
turned_tried r (var n s) t = refl
turned_tried r (app f none) t = refl
turned_tried r (app f (more s none)) t = refl
turned_tried r (app f (more s (more v none))) t = then_turned r f s v t (is_built_in_as f Equal)
turned_tried r (app f (more s (more v (more w ws)))) t = refl

by_match : (r : RewriteRule) (t : Tree) (o p : Option (List Entry)) (z : Option Tree)
    → z ≡ option_map (λ es. instance_of es r.right) p
    → (elim (option_map (λ es. instance_of es r.right) o) [ None ↦ z | Some u ↦ Some u ]) ≡ by_left r t o p
by_match r t None p z e = e
by_match r t (Some es) p z e = refl

pub tried_by : (r : RewriteRule) (t : Tree)
    → rewrite_of (tries_of (sides_of_rule r)) t
    ≡ by_left r t (match_term r.left t []) (option_and_then (λ l. match_term l t []) (exchange_equality r.left))
tried_by r t =
    by_match r t (match_term r.left t []) (option_and_then (λ l. match_term l t []) (exchange_equality r.left))
    (rewrite_of (exchange_rule (sides_of_rule r)) t) (turned_tried r r.left t)

-- ---- rules that suffice

-- what is first among rules that suffice is first among all
pub first_among : (few rs : List RewriteRule) (t : Tree) (o : Option Match) → Suffice few rs t → All (Contains rs) few
    → IsFirst few t o → IsFirst rs t o
first_among few rs t None s a f = sym s ∙ f
first_among few rs t (Some m) s a f = (All-contains (Contains rs) few m.rule.now a f.0, f.1, sym s ∙ f.2)

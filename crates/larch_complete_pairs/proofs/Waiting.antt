-- The line of a critical pair, and equations that wait.
use Rattle.std.specs.Prelude.{◌≡◌, ◌+◌, ◌<◌, ℕ, List, [], ◌∷◌, ◌++◌, All, Some, get_or, length, map, take}
use Rattle.std.proofs.Common.{ap, subst, sym, ◌∙◌}
use Rattle.std.proofs.lemmas.List.{append_assoc, map-append, take_more}
use Rattle.std.proofs.lemmas.List.Elements.{All-append, All-cons, All-nil, All-weaker}
use Rattle.larch_complete_meaning.specs.Pairs.{as_equation, as_rule}
use Rattle.larch_complete_pairs.specs.Said.{IsSaid, sides_in}
use Rattle.larch_complete_pairs.specs.declared.said.SaidEquation.{SaidEquation}
use Rattle.larch_derive.specs.Predicates.{Extends, HasEquation}
use Rattle.larch_derive.specs.declared.builder.Builder.{Builder}
use Rattle.larch_derive.proofs.Growth.{stays_said}
use Rattle.larch_pairs_critical.specs.Overlap.{Overlaps}
use Rattle.larch_pairs_critical.specs.declared.pair.Pair.{Pair}
use Rattle.larch_complete_meaning.specs.RewriteMeaningSides.{Sides}
use Rattle.larch_term.specs.Place.{at, put}
use Rattle.larch_term.specs.Substitution.{instance_of}

-- where the second rule's left side stands, by the place as lines write it
pub stands_written : (r q : Sides) (p : Pair) (place : List ℕ) → Overlaps (as_rule r) (as_rule q) p → place ≡ p.place
    → at (instance_of p.first r.left) place ≡ Some (instance_of p.second q.left)
stands_written r q p place o e = ap (at (instance_of p.first r.left)) e ∙ o.stands

-- a line with both sides of a pair says its equation
pub pair_said : (b : Builder) (n : ℕ) (r q : Sides) (p : Pair) (place : List ℕ) → Overlaps (as_rule r) (as_rule q) p
    → place ≡ p.place
    → HasEquation b n (put (instance_of p.first r.left) place (instance_of p.second q.right))
    (instance_of p.first r.right) → HasEquation b n p.left p.right
pair_said b n r q p place o e h =
    subst (λ t. HasEquation b n p.left t) (sym o.right)
    (subst (λ t. HasEquation b n t (instance_of p.first r.right))
    (ap (λ k. put (instance_of p.first r.left) k (instance_of p.second q.right)) e ∙ sym o.left) h)

-- the equation of one more pair waits
pub waits_more : (old now new : List SaidEquation) (pairs : List Pair) (i : ℕ) (p : Pair) (e : SaidEquation)
    → map sides_in now ≡ map sides_in old ++ map as_equation (take i pairs) → new ≡ now ++ e ∷ []
    → sides_in e ≡ as_equation p → i < length pairs → p ≡ get_or pairs i p
    → map sides_in new ≡ map sides_in old ++ map as_equation (take (i + 1) pairs)
waits_more old now new pairs i p e w n s l g =
    ap (map sides_in) n
    ∙ (map-append sides_in now (e ∷ [])
    ∙ (ap (λ es. es ++ sides_in e ∷ []) w
    ∙ (append_assoc (map sides_in old) (map as_equation (take i pairs)) (sides_in e ∷ [])
    ∙ ap (λ es. map sides_in old ++ es)
    (ap (λ d. map as_equation (take i pairs) ++ d ∷ []) s
    ∙ (sym (map-append as_equation (take i pairs) (p ∷ []))
    ∙ ap (map as_equation)
    (ap (λ q. take i pairs ++ q ∷ []) g ∙ sym (take_more pairs i p l)))))))

-- what waits is said, with one equation more
pub all_said : (a b : Builder) (now new : List SaidEquation) (e : SaidEquation) → Extends a b → All (IsSaid a) now
    → IsSaid b e → new ≡ now ++ e ∷ [] → All (IsSaid b) new
all_said a b now new e x h k n =
    subst (All (IsSaid b)) (sym n)
    (All-append (IsSaid b) now (e ∷ [])
    (All-weaker (IsSaid a) (IsSaid b) (λ d p. stays_said a b d.line _ x p) now h)
    (All-cons (IsSaid b) e [] k (All-nil (IsSaid b))))

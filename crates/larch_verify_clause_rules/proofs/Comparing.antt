-- What an equation says, compared by numbers.
use Rattle.std.proofs.Common.{◌≡◌, ◌↔◌, IsTrue, ℕ, ◌+◌, ◌<◌, Bool, ◌&&◌, List, length, map, drop, get_or, All, sym, ◌∙◌}
use Rattle.std.proofs.Common.{ap}
use Rattle.std.specs.List.{slice_set}
use Rattle.larch_base.proofs.Lists.{map_map}
use Rattle.larch_term.proofs.Decided.{statements_told}
use Rattle.larch_term.specs.Equality.{same_statement}
use Rattle.larch_term.specs.Tree.{app, forest_of}
use Rattle.larch_term.specs.declared.statement.Statement.{Statement}
use Rattle.larch_term.specs.declared.statement.Statement.TheVariants.{Equation}
use Rattle.larch_calculus.specs.Generation.{place_name}
use Rattle.larch_calculus.specs.Observation.{Observation, observer_term}
use Rattle.larch_verify_meaning.specs.Matching.{same_statements}
use Rattle.larch_verify_pool.specs.Pooled.{Pooled, tree_in, Grows, HasTree}
use Rattle.larch_verify_pool.proofs.Front.{grows_trans, trees_stay}
use Rattle.larch_verify_history.specs.Past.{IsEquated, equated_in}
use Rattle.larch_verify_history.specs.declared.stated.Equated.{Equated}
use Rattle.larch_verify_history.proofs.Staying.{equated_same}
use Rattle.larch_verify_parts.proofs.Numbers.{tree_later, has_tree, has_tree_later}
use Rattle.larch_verify_clause_rules.specs.Naming.{variables_named, variable_term}
use Rattle.larch_verify_clause_rules.specs.Observers.{observation_of}
use Rattle.larch_verify_clause_rules.specs.declared.observers.Observer.{Observer}
use Rattle.larch_verify_clause_rules.proofs.Placed.{observed_arguments}
use Rattle.larch_verify_clause_rules.proofs.Paired.{paired}

-- the same where both are written otherwise
pub told_as : (x y v w : Statement) (b : Bool) → (IsTrue b ↔ (x ≡ y)) → x ≡ v → y ≡ w → b ≡ same_statement v w
told_as x y v w b h e f = statements_told v w b (λ c. sym e ∙ h.0 c ∙ f, λ d. h.1 (e ∙ d ∙ sym f))

-- an equation compared with what an observer shows of two terms
pub told_observed : (p q r : Pooled) (said sides : Equated) (o : Observer) (vs : List ℕ) (m n : ℕ) (b : Bool)
    (names : ℕ → List ℕ)
    → Grows p q → Grows q r → IsEquated p said → IsEquated p sides → All (λ v. v < length p.trees) vs
    → o.index < length o.operator.domain
    → map (tree_in p.trees) vs ≡ map variable_term (variables_named names 1 o.operator.domain)
    → HasTree q m (app o.operator (forest_of (map (tree_in p.trees) (slice_set vs o.index sides.left))))
    → HasTree r n (app o.operator (forest_of (map (tree_in q.trees) (slice_set vs o.index sides.right))))
    → (IsTrue b ↔ (equated_in r said ≡ Equation (tree_in r.trees m) (tree_in r.trees n)))
    → b ≡ same_statement (equated_in p said)
    (Equation (observer_term names (observation_of o) (tree_in p.trees sides.left))
    (observer_term names (observation_of o) (tree_in p.trees sides.right)))
told_observed p q r said sides o vs m n b names g h ws es a l e t u d =
    let x : tree_in r.trees m ≡ observer_term names (observation_of o) (tree_in p.trees sides.left) =
    has_tree_later q r m (app o.operator (forest_of (map (tree_in p.trees) (slice_set vs o.index sides.left)))) h t
    ∙ ap (app o.operator) (observed_arguments p.trees vs sides.left o.index names o.operator.domain l e) in
    let y : tree_in r.trees n ≡ observer_term names (observation_of o) (tree_in q.trees sides.right) =
    has_tree r n (app o.operator (forest_of (map (tree_in q.trees) (slice_set vs o.index sides.right)))) u
    ∙ ap (app o.operator) (observed_arguments q.trees vs sides.right o.index names o.operator.domain l
    (trees_stay p.trees q.trees vs g.1 a ∙ e)) in
    let z : observer_term names (observation_of o) (tree_in q.trees sides.right)
    ≡ observer_term names (observation_of o) (tree_in p.trees sides.right) =
    ap (observer_term names (observation_of o)) (tree_later p q sides.right g es.1) in
    told_as (equated_in r said) (Equation (tree_in r.trees m) (tree_in r.trees n)) (equated_in p said)
    (Equation (observer_term names (observation_of o) (tree_in p.trees sides.left))
    (observer_term names (observation_of o) (tree_in p.trees sides.right))) b d
    (equated_same p r said (grows_trans p q r g h) ws) (λ i. Equation (x i) ((y ∙ z) i))

-- what an observer shows of the sides of an equation, with variables named by places
abbrev pub shown_at : Pooled → Equated → Observation → Statement
shown_at p e w =
    Equation (observer_term place_name w (tree_in p.trees e.left))
    (observer_term place_name w (tree_in p.trees e.right))

-- the same where the pool has grown
pub said_later : (p q : Pooled) (said sides : Equated) (w : Observation) (names : ℕ → List ℕ) (b : Bool) → Grows p q
    → IsEquated p said → IsEquated p sides
    → b ≡ same_statement (equated_in q said)
    (Equation (observer_term names w (tree_in q.trees sides.left))
    (observer_term names w (tree_in q.trees sides.right)))
    → b ≡ same_statement (equated_in p said)
    (Equation (observer_term names w (tree_in p.trees sides.left))
    (observer_term names w (tree_in p.trees sides.right)))
said_later p q said sides w names b g s t e =
    e ∙ (λ i. same_statement (equated_same p q said g s i)
    (Equation (observer_term names w (tree_later p q sides.left g t.0 i))
    (observer_term names w (tree_later p q sides.right g t.1 i))))

pub shown_later : (p q : Pooled) (said sides : Equated) (w : Observation) (b : Bool) → Grows p q → IsEquated p said
    → IsEquated p sides
    → b ≡ same_statement (equated_in q said) (shown_at q sides w)
    → b ≡ same_statement (equated_in p said) (shown_at p sides w)
shown_later p q said sides w b g s t e = said_later p q said sides w place_name b g s t e

-- the next hypothesis, and those behind it
pub shown_next : (p : Pooled) (sides : Equated) (hs : List Equated) (os : List Observer) (i : ℕ) (e : Equated)
    (o : Observer) (b : Bool)
    → i < length hs → i < length os → o ≡ get_or os i o
    → b ≡ same_statement (equated_in p (get_or hs i e)) (shown_at p sides (observation_of o))
    → same_statements (map (equated_in p) (drop i hs)) (map (shown_at p sides) (map observation_of (drop i os)))
    ≡ (b && same_statements (map (equated_in p) (drop (i + 1) hs))
    (map (shown_at p sides) (map observation_of (drop (i + 1) os))))
shown_next p sides hs os i e o b lh lo w h =
    ap (same_statements (map (equated_in p) (drop i hs))) (map_map (shown_at p sides) observation_of (drop i os))
    ∙ paired (equated_in p) (λ x. shown_at p sides (observation_of x)) hs os i e o lh lo
    ∙ (λ j. sym (h ∙ ap (λ x. same_statement (equated_in p (get_or hs i e)) (shown_at p sides (observation_of x))) w) j
    && same_statements (map (equated_in p) (drop (i + 1) hs))
    (sym (map_map (shown_at p sides) observation_of (drop (i + 1) os)) j))

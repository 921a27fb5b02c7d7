-- What lines say of observations, one after the other.
use Rattle.std.proofs.Common.{◌≡◌, ◌≢◌, ℕ, suc, ◌+◌, ◌<◌, ◌≤◌, Bool, true, false, not, ◌&&◌, if◌then◌else◌, List, []}
use Rattle.std.proofs.Common.{◌∷◌, ◌++◌, length, map, drop, get_or, Option, Some, None, refl, sym, ◌∙◌, ap, subst}
use Rattle.std.proofs.Common.{arith}
use Rattle.std.specs.List.{list_all}
use Rattle.std.specs.Option.{option_map_or, option_and_then}
use Rattle.std.proofs.lemmas.List.{drop_more, drop_all, length-map, map-append}
use Rattle.std.proofs.lemmas.List.Elements.{All-append}
use Rattle.std.proofs.lemmas.List.Folds.{list_all-append}
use Rattle.larch_base.proofs.Bools.{and_not_right}
use Rattle.larch_term.specs.Equality.{same_statement}
use Rattle.larch_term.specs.Tree.{Tree}
use Rattle.larch_term.specs.declared.statement.Statement.{Statement}
use Rattle.larch_term.specs.declared.statement.Statement.TheVariants.{Equation, Generated, Partitioned}
use Rattle.larch_term.specs.declared.variable.Variable.{Variable}
use Rattle.larch_calculus.specs.Observation.{Observation, observer_term, other_variables}
use Rattle.larch_verify_meaning.specs.BoxRules.{equation_alone}
use Rattle.larch_verify_meaning.specs.ClauseRules.{shows_same, show_same}
use Rattle.larch_verify_meaning.specs.Context.{find_line}
use Rattle.larch_verify_meaning.specs.Events.{Event}
use Rattle.larch_verify_meaning.specs.Matching.{all_different, occurs_in, are_apart, argument_name}
use Rattle.larch_verify_pool.specs.Pooled.{Pooled, tree_in, Grows}
use Rattle.larch_verify_pool.specs.Substitution.{IsVar, AreVariables, variable_of}
use Rattle.larch_verify_history.specs.Past.{IsEquated, equated_in}
use Rattle.larch_verify_history.specs.declared.stated.Equated.{Equated}
use Rattle.larch_verify_history.proofs.Staying.{equated_same}
use Rattle.larch_verify_parts.proofs.Numbers.{tree_later}
use Rattle.larch_verify_clause_rules.specs.Observers.{observation_of, unbound, some_unbound, if_different, none_occurs}
use Rattle.larch_verify_clause_rules.specs.Observers.{variables_in}
use Rattle.larch_verify_clause_rules.specs.declared.observers.Observer.{Observer}
use Rattle.larch_verify_clause_rules.proofs.Staying.{variables_later, variables_within}

-- lists of different lengths are no answer
show_none : (h : List Event) (l r : Tree) (ws : List Observation) (ns : List ℕ) → length ws ≢ length ns
    → show_same h l r ws ns ≡ false
show_none h l r [] [] d = absurd (d refl)
show_none h l r [] (n ∷ ns) d = refl
show_none h l r (w ∷ ws) [] d = refl
show_none h l r (w ∷ ws) (n ∷ ns) d =
    and_not_right (option_map_or (shows_same l r w) (find_line h n) false) (show_same h l r ws ns)
    (show_none h l r ws ns (λ e. d (ap suc e)))

pub show_unpaired : (h : List Event) (l r : Tree) (os : List Observer) (ns : List ℕ) → length os ≢ length ns
    → false ≡ show_same h l r (map observation_of os) ns
show_unpaired h l r os ns d =
    sym (show_none h l r (map observation_of os) ns (λ e. d (sym (length-map os observation_of) ∙ e)))

-- the first observation that is left, and those behind it
show_next : (h : List Event) (l r : Tree) (os : List Observer) (ns : List ℕ) (i : ℕ) (o : Observer) → i < length os
    → i < length ns
    → show_same h l r (map observation_of (drop i os)) (drop i ns)
    ≡ (option_map_or (shows_same l r (observation_of (get_or os i o))) (find_line h (get_or ns i 0)) false
    && show_same h l r (map observation_of (drop (i + 1) os)) (drop (i + 1) ns))
show_next h l r os ns i o lo ln =
    λ j. show_same h l r (map observation_of (drop_more os i o lo j)) (drop_more ns i 0 ln j)

unsaid : (l r : Tree) (w : Observation) (o : Option Statement) → None ≡ option_and_then equation_alone o
    → option_map_or (shows_same l r w) o false ≡ false
unsaid l r w None e = refl
unsaid l r w (Some (Equation a b)) e = absurd cc
unsaid l r w (Some (Generated s fs)) e = refl
unsaid l r w (Some (Partitioned s fs)) e = refl

said : (l r : Tree) (w : Observation) (o : Option Statement) (s : Statement) → Some s ≡ option_and_then equation_alone o
    → option_map_or (shows_same l r w) o false ≡ shows_same l r w s
said l r w None s e = absurd cc
said l r w (Some (Equation a b)) s e = let x : Equation a b ≡ s = cc in ap (shows_same l r w) x
said l r w (Some (Generated z fs)) s e = absurd cc
said l r w (Some (Partitioned z fs)) s e = absurd cc

nothing_left : (u m s t : Bool) → s ≡ (m && t) → m ≡ false → (u && s) ≡ false
nothing_left true m s t e f = e ∙ ap (λ b. b && t) f
nothing_left false m s t e f = refl

-- a line says no equation
pub show_unsaid : (h : List Event) (l r : Tree) (os : List Observer) (ns : List ℕ) (i : ℕ) (o : Observer)
    (vs : List Variable) → i < length os → i < length ns
    → show_same h l r (map observation_of os) ns
    ≡ (unbound l r vs && show_same h l r (map observation_of (drop i os)) (drop i ns))
    → None ≡ option_and_then equation_alone (find_line h (get_or ns i 0))
    → false ≡ show_same h l r (map observation_of os) ns
show_unsaid h l r os ns i o vs lo ln e f =
    sym (e ∙ nothing_left (unbound l r vs)
    (option_map_or (shows_same l r (observation_of (get_or os i o))) (find_line h (get_or ns i 0)) false)
    (show_same h l r (map observation_of (drop i os)) (drop i ns))
    (show_same h l r (map observation_of (drop (i + 1) os)) (drop (i + 1) ns))
    (show_next h l r os ns i o lo ln) (unsaid l r (observation_of (get_or os i o)) (find_line h (get_or ns i 0)) f))

-- a line says another equation
pub show_unlike : (h : List Event) (l r : Tree) (os : List Observer) (ns : List ℕ) (i : ℕ) (o : Observer)
    (vs : List Variable) (s : Statement) → i < length os → i < length ns
    → show_same h l r (map observation_of os) ns
    ≡ (unbound l r vs && show_same h l r (map observation_of (drop i os)) (drop i ns))
    → Some s ≡ option_and_then equation_alone (find_line h (get_or ns i 0))
    → shows_same l r (observation_of (get_or os i o)) s ≡ false
    → false ≡ show_same h l r (map observation_of os) ns
show_unlike h l r os ns i o vs s lo ln e f g =
    sym (e ∙ nothing_left (unbound l r vs)
    (option_map_or (shows_same l r (observation_of (get_or os i o))) (find_line h (get_or ns i 0)) false)
    (show_same h l r (map observation_of (drop i os)) (drop i ns))
    (show_same h l r (map observation_of (drop (i + 1) os)) (drop (i + 1) ns))
    (show_next h l r os ns i o lo ln) (said l r (observation_of (get_or os i o)) (find_line h (get_or ns i 0)) s f ∙ g))

four : (a b c d s : Bool) → ((a && b) && ((c && d) && s)) ≡ (((a && c) && (b && d)) && s)
four true true c d s = refl
four true false true d s = refl
four true false false d s = refl
four false b c d s = refl

more_unbound : (l r : Tree) (vs us : List Variable) (s : Bool)
    → (unbound l r vs && (unbound l r us && s)) ≡ (unbound l r (vs ++ us) && s)
more_unbound l r vs us s =
    four (none_occurs l vs) (none_occurs r vs) (none_occurs l us) (none_occurs r us) s
    ∙
    (λ i. (sym (list_all-append (λ v. not (occurs_in l v)) vs us) i
    && sym (list_all-append (λ v. not (occurs_in r v)) vs us) i) && s)

abbrev variables_one : Pooled → ℕ → Variable
variables_one q v = variable_of (tree_in q.trees v)

-- a line says it, with these variables
pub show_said : (p q : Pooled) (h : List Event) (l r : Tree) (os : List Observer) (ns : List ℕ) (i : ℕ) (o : Observer)
    (vs us ws : List ℕ) (s : Statement) → i < length os → i < length ns
    → Grows p q → AreVariables p.trees vs → ws ≡ vs ++ us
    → show_same h l r (map observation_of os) ns
    ≡ (unbound l r (variables_in p.trees vs) && show_same h l r (map observation_of (drop i os)) (drop i ns))
    → Some s ≡ option_and_then equation_alone (find_line h (get_or ns i 0))
    → shows_same l r (observation_of (get_or os i o)) s ≡ unbound l r (variables_in q.trees us)
    → show_same h l r (map observation_of os) ns
    ≡ (unbound l r (variables_in q.trees ws)
    && show_same h l r (map observation_of (drop (i + 1) os)) (drop (i + 1) ns))
show_said p q h l r os ns i o vs us ws s lo ln g a w e f k =
    e
    ∙ (λ j. unbound l r (sym (variables_later p q vs g a) j) && show_next h l r os ns i o lo ln j)
    ∙ (λ j. unbound l r (variables_in q.trees vs)
    && ((said l r (observation_of (get_or os i o)) (find_line h (get_or ns i 0)) s f ∙ k) j
    && show_same h l r (map observation_of (drop (i + 1) os)) (drop (i + 1) ns)))
    ∙ more_unbound l r (variables_in q.trees vs) (variables_in q.trees us)
    (show_same h l r (map observation_of (drop (i + 1) os)) (drop (i + 1) ns))
    ∙ (λ j. unbound l r ((sym (map-append (variables_one q) vs us) ∙ ap (variables_in q.trees) (sym w)) j)
    && show_same h l r (map observation_of (drop (i + 1) os)) (drop (i + 1) ns))

and_true : (b : Bool) → (b && true) ≡ b
and_true true = refl
and_true false = refl

-- all is said
pub show_done : (h : List Event) (l r : Tree) (os : List Observer) (ns : List ℕ) (i : ℕ) (vs : List Variable)
    → length os ≡ length ns → length os ≤ i
    → show_same h l r (map observation_of os) ns
    ≡ (unbound l r vs && show_same h l r (map observation_of (drop i os)) (drop i ns))
    → unbound l r vs ≡ show_same h l r (map observation_of os) ns
show_done h l r os ns i vs n k e =
    let m : length ns ≤ i = omega (arith, n, k) in
    sym (e ∙ (λ j. unbound l r vs && show_same h l r (map observation_of (drop_all i os k j)) (drop_all i ns m j))
    ∙ and_true (unbound l r vs))

two : (a b c d : Bool) → ((a && b) && (c && d)) ≡ ((a && c) && (b && d))
two true true c d = refl
two true false true d = refl
two true false false d = refl
two false b c d = refl

both_all : {X : Type 0} (f g : X → Bool) (xs : List X)
    → list_all (λ x. f x && g x) xs ≡ (list_all f xs && list_all g xs)
both_all f g [] = refl
both_all f g (x ∷ xs) = ap (λ b. (f x && g x) && b) (both_all f g xs) ∙ two (f x) (g x) (list_all f xs) (list_all g xs)

found_by : (l r : Tree) (vs : List Variable) (b : Bool)
    → (b && unbound l r vs) ≡ some_unbound l r (if b then Some vs else None)
found_by l r vs true = refl
found_by l r vs false = refl

-- variables are apart if they differ and occur in none of the terms
apart_found : (l r : Tree) (vs : List Variable) → are_apart vs l r ≡ some_unbound l r (if_different vs)
apart_found l r vs =
    ap (λ b. all_different vs && b) (both_all (λ v. not (occurs_in l v)) (λ v. not (occurs_in r v)) vs)
    ∙ found_by l r vs (all_different vs)

-- an equation says it with the variables at the other places
pub shows_found : (l r a b : Tree) (w : Observation) (us : List Variable) (o : Option (List Variable))
    → true ≡ same_statement (Equation a b)
    (Equation (observer_term (argument_name a) w l) (observer_term (argument_name a) w r))
    → us ≡ other_variables (argument_name a) w → o ≡ if_different us
    → shows_same l r w (Equation a b) ≡ some_unbound l r o
shows_found l r a b w us o e f g =
    ap (λ c. c && are_apart (other_variables (argument_name a) w) l r) (sym e)
    ∙ apart_found l r (other_variables (argument_name a) w) ∙ ap (some_unbound l r) (sym (g ∙ ap if_different f))

-- it says something else
pub shows_none : (l r a b : Tree) (w : Observation)
    → false ≡ same_statement (Equation a b)
    (Equation (observer_term (argument_name a) w l) (observer_term (argument_name a) w r))
    → shows_same l r w (Equation a b) ≡ false
shows_none l r a b w e = ap (λ c. c && are_apart (other_variables (argument_name a) w) l r) (sym e)

-- what is found where the pool has grown
pub shows_later : (p o : Pooled) (sides said : Equated) (x y : Observer) (found : Option (List Variable)) → Grows p o
    → IsEquated p sides → IsEquated p said → y ≡ x
    → shows_same (tree_in o.trees sides.left) (tree_in o.trees sides.right) (observation_of y) (equated_in o said)
    ≡ some_unbound (tree_in o.trees sides.left) (tree_in o.trees sides.right) found
    → shows_same (tree_in p.trees sides.left) (tree_in p.trees sides.right) (observation_of x) (equated_in p said)
    ≡ some_unbound (tree_in p.trees sides.left) (tree_in p.trees sides.right) found
shows_later p o sides said x y found g s t e k =
    (λ i. shows_same (sym (tree_later p o sides.left g s.0) i) (sym (tree_later p o sides.right g s.1) i)
    (observation_of (sym e i)) (sym (equated_same p o said g t) i))
    ∙ k
    ∙ (λ i. some_unbound (tree_later p o sides.left g s.0 i) (tree_later p o sides.right g s.1 i) found)

pub unbound_later : (p o : Pooled) (sides : Equated) (vs : List Variable) → Grows p o → IsEquated p sides
    → unbound (tree_in o.trees sides.left) (tree_in o.trees sides.right) vs
    ≡ unbound (tree_in p.trees sides.left) (tree_in p.trees sides.right) vs
unbound_later p o sides vs g s =
    λ i. unbound (tree_later p o sides.left g s.0 i) (tree_later p o sides.right g s.1 i) vs

abbrev IsVariable : List Tree → ℕ → Type 0
IsVariable us v = (v < length us) × IsVar (tree_in us v)

pub variables_more : (p q : Pooled) (vs us ws : List ℕ) → Grows p q → AreVariables p.trees vs → AreVariables q.trees us
    → ws ≡ vs ++ us → AreVariables q.trees ws
variables_more p q vs us ws g a b e =
    subst (λ (xs : List ℕ). AreVariables q.trees xs) (sym e)
    (All-append (IsVariable q.trees) vs us (variables_within p q vs g a) b)

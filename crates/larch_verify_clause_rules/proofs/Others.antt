-- Variables without one of them, and the answer of an observe line.
use Rattle.std.proofs.Common.{◌≡◌, ℕ, suc, ◌<◌, Bool, true, false, ◌&&◌, if◌then◌else◌, List, length, map, take, drop}
use Rattle.std.proofs.Common.{◌++◌, bytes_eq, Some, None, sym, ◌∙◌, ap, subst}
use Rattle.std.specs.List.{remove}
use Rattle.std.proofs.lemmas.List.{map-append, take-map, drop-map}
use Rattle.std.proofs.lemmas.List.Elements.{All-append, All-take, All-drop}
use Rattle.larch_term.specs.Operator.{PlainOperator}
use Rattle.larch_term.specs.Sorts.{sort_of}
use Rattle.larch_term.specs.Tree.{Tree}
use Rattle.larch_term.specs.declared.statement.Statement.TheVariants.{Equation, Partitioned}
use Rattle.larch_calculus.specs.Observation.{Observation, observations_of}
use Rattle.larch_verify_meaning.specs.ClauseRules.{show_same, observed_equal}
use Rattle.larch_verify_meaning.specs.Events.{Event}
use Rattle.larch_verify_pool.specs.Pooled.{tree_in}
use Rattle.larch_verify_pool.specs.Substitution.{IsVar, AreVariables, variable_of}
use Rattle.larch_verify_parts.specs.Apart.{all_apart}
use Rattle.larch_verify_parts.proofs.Seen.{Apart, apart_same}
use Rattle.larch_verify_clause_rules.specs.Observers.{variables_in, if_different}
use Rattle.larch_verify_clause_rules.proofs.Clauses.{not_all}

abbrev IsVariable : List Tree → ℕ → Type 0
IsVariable us v = (v < length us) × IsVar (tree_in us v)

map_removed : {X Y : Type 0} (f : X → Y) (xs : List X) (i : ℕ) → map f (remove xs i) ≡ remove (map f xs) i
map_removed f xs i =
    map-append f (take i xs) (drop (suc i) xs) ∙ (λ j. sym (take-map f i xs) j ++ sym (drop-map f (suc i) xs) j)

pub others_are : (us : List Tree) (ns ms : List ℕ) (i : ℕ) → AreVariables us ns → ms ≡ remove ns i → AreVariables us ms
others_are us ns ms i a e =
    subst (λ (xs : List ℕ). AreVariables us xs) (sym e)
    (All-append (IsVariable us) (take i ns) (drop (suc i) ns) (All-take (IsVariable us) i ns a)
    (All-drop (IsVariable us) (suc i) ns a))

-- they are what is left, if none stands twice
others_found : (us : List Tree) (ns ms : List ℕ) (i : ℕ) (b : Bool) → Apart us → AreVariables us ns → ms ≡ remove ns i
    → b ≡ all_apart ms
    → if_different (remove (variables_in us ns) i) ≡ (if b then Some (variables_in us ms) else None)
others_found us ns ms i b d a e h =
    let v : remove (variables_in us ns) i ≡ variables_in us ms =
    sym (map_removed (λ n. variable_of (tree_in us n)) ns i) ∙ ap (variables_in us) (sym e) in
    ap if_different v
    ∙ ap (λ c. if c then Some (variables_in us ms) else None) (sym (h ∙ apart_same us ms d (others_are us ns ms i a e)))

pub others_none : (us : List Tree) (ns ms : List ℕ) (i : ℕ) (b : Bool) → Apart us → AreVariables us ns
    → ms ≡ remove ns i → b ≡ all_apart ms → b ≡ false
    → None ≡ if_different (remove (variables_in us ns) i)
others_none us ns ms i b d a e h f =
    sym (others_found us ns ms i b d a e h ∙ ap (λ c. if c then Some (variables_in us ms) else None) f)

pub others_some : (us : List Tree) (ns ms : List ℕ) (i : ℕ) (b : Bool) → Apart us → AreVariables us ns
    → ms ≡ remove ns i → b ≡ all_apart ms → b ≡ true
    → Some (variables_in us ms) ≡ if_different (remove (variables_in us ns) i)
others_some us ns ms i b d a e h f =
    sym (others_found us ns ms i b d a e h ∙ ap (λ c. if c then Some (variables_in us ms) else None) f)

-- the clause is of another sort
pub observed_not : (h : List Event) (ns : List ℕ) (l r : Tree) (s : List ℕ) (os : List PlainOperator)
    → bytes_eq (sort_of l) s ≡ false
    → observed_equal h ns (Equation l r) (Partitioned s os) ≡ None
observed_not h ns l r s os e =
    sym (not_all (bytes_eq (sort_of l) s) (show_same h l r (observations_of s os) ns) (Equation l r) e)

-- the lines tell
pub observed_told : (h : List Event) (ns : List ℕ) (l r : Tree) (s : List ℕ) (os : List PlainOperator)
    (ws : List Observation) (b : Bool) → bytes_eq (sort_of l) s ≡ true
    → ws ≡ observations_of s os → b ≡ show_same h l r ws ns
    → observed_equal h ns (Equation l r) (Partitioned s os) ≡ (if b then Some (Equation l r) else None)
observed_told h ns l r s os ws b e w k =
    λ i. if e i && sym (k ∙ ap (λ vs. show_same h l r vs ns) w) i then Some (Equation l r) else None

-- What closed boxes show of clauses.
use Rattle.std.proofs.Common.{◌≡◌, ◌↔◌, IsTrue, ℕ, ◌<◌, Bool, true, false, ◌&&◌, if◌then◌else◌, List, [], ◌∷◌, length}
use Rattle.std.proofs.Common.{map, slice_get, Option, Some, None, refl, sym, ◌∙◌, ap}
use Rattle.std.specs.Option.{option_and_then}
use Rattle.larch_base.proofs.Bools.{and_not_right}
use Rattle.larch_term.specs.Equality.{same_statement}
use Rattle.larch_term.specs.Operator.{PlainOperator}
use Rattle.larch_term.specs.declared.statement.Statement.{Statement}
use Rattle.larch_term.specs.declared.statement.Statement.TheVariants.{Equation, Generated, Partitioned}
use Rattle.larch_term.specs.Tree.{var}
use Rattle.larch_term.specs.Truth.{truth}
use Rattle.larch_calculus.specs.Formula.{apply_one, constant}
use Rattle.larch_calculus.specs.Generation.{place_name, generation_hypotheses}
use Rattle.larch_calculus.specs.Observation.{observations}
use Rattle.larch_verify_meaning.specs.BoxRules.{equation_alone}
use Rattle.larch_verify_meaning.specs.ClauseRules.{shows_generated, holds_of_variable, shows_partitioned}
use Rattle.larch_verify_meaning.specs.Events.{PlainBox, box_constant, box_predicate}
use Rattle.larch_verify_meaning.specs.Matching.{argument_name, same_statements, has_constants, is_predicate_on}
use Rattle.larch_verify_pool.specs.Pooled.{Pooled, operator_in, tree_in, Grows, HasTree}
use Rattle.larch_verify_pool.proofs.Front.{grows_trans}
use Rattle.larch_verify_history.specs.Past.{IsBox, IsEquated, IsStated, box_in, equated_in, stated_in}
use Rattle.larch_verify_history.specs.declared.event.KnownBox.{KnownBox}
use Rattle.larch_verify_history.specs.declared.stated.Equated.{Equated}
use Rattle.larch_verify_history.specs.declared.stated.Stated.{Stated}
use Rattle.larch_verify_history.proofs.Staying.{equated_same, hypotheses_same, stated_same}
use Rattle.larch_verify_parts.proofs.Numbers.{has_tree, has_tree_later}
use Rattle.larch_verify_clause_rules.proofs.Comparing.{told_as}
use Rattle.larch_verify_clause_rules.proofs.Staying.{found_is, found_within, operator_later}

-- no predicate on the sort is the only part
pub generated_no_part : (s : List ℕ) (fs : List PlainOperator) (b : PlainBox) (r : Statement)
    → false ≡ is_predicate_on s b.parts → false ≡ shows_generated s fs b r
generated_no_part s fs b r e =
    ap
    (λ c. c && (same_statements b.hypotheses (generation_hypotheses (box_predicate b.number 1 s) s fs)
    && holds_of_variable (box_predicate b.number 1 s) s r)) e

three : (a b c d : Bool) → a ≡ true → d ≡ b → d ≡ false → false ≡ (a && (b && c))
three true b c d e f g = sym (ap (λ x. x && c) (sym f ∙ g))
three false b c d e f g = refl

-- the hypotheses are others
pub generated_not : (p q : Pooled) (s : List ℕ) (fs : List PlainOperator) (b : KnownBox) (r : Statement) (n : ℕ)
    (d : Bool) → Grows p q → IsBox p b
    → true ≡ is_predicate_on s b.parts → slice_get q.operators n ≡ Some (box_predicate b.number 1 s)
    → d ≡ same_statements (map (equated_in q) b.hypotheses) (generation_hypotheses (operator_in q.operators n) s fs)
    → d ≡ false
    → false ≡ shows_generated s fs (box_in p b) r
generated_not p q s fs b r n d g h e f k z =
    three (is_predicate_on s b.parts)
    (same_statements (map (equated_in p) b.hypotheses) (generation_hypotheses (box_predicate b.number 1 s) s fs))
    (holds_of_variable (box_predicate b.number 1 s) s r) d (sym e)
    (k ∙ (λ i. same_statements (hypotheses_same p q b.hypotheses g h i)
    (generation_hypotheses (found_is q n (box_predicate b.number 1 s) f i) s fs))) z

rest_of : (a b c d e : Bool) → a ≡ true → d ≡ b → d ≡ true → e ≡ c → e ≡ (a && (b && c))
rest_of a b c d e f g h k = k ∙ (λ i. sym f i && ((sym h ∙ g) i && c))

-- what is left is the result
pub generated_yes : (p q r : Pooled) (s : List ℕ) (fs : List PlainOperator) (b : KnownBox) (t : Stated) (n : ℕ)
    (d e : Bool) → Grows p q → Grows q r → IsBox p b → IsStated p t
    → true ≡ is_predicate_on s b.parts → slice_get q.operators n ≡ Some (box_predicate b.number 1 s)
    → d ≡ same_statements (map (equated_in q) b.hypotheses) (generation_hypotheses (operator_in q.operators n) s fs)
    → d ≡ true
    → e ≡ holds_of_variable (operator_in r.operators n) s (stated_in r t)
    → e ≡ shows_generated s fs (box_in p b) (stated_in p t)
generated_yes p q r s fs b t n d e g k h w x f y z v =
    rest_of (is_predicate_on s b.parts)
    (same_statements (map (equated_in p) b.hypotheses) (generation_hypotheses (box_predicate b.number 1 s) s fs))
    (holds_of_variable (box_predicate b.number 1 s) s (stated_in p t)) d e (sym x)
    (y ∙ (λ i. same_statements (hypotheses_same p q b.hypotheses g h i)
    (generation_hypotheses (found_is q n (box_predicate b.number 1 s) f i) s fs))) z
    (v
    ∙
    (λ i.
    holds_of_variable
    ((operator_later q r n k (found_within q n (box_predicate b.number 1 s) f)
    ∙ found_is q n (box_predicate b.number 1 s) f) i) s (stated_same p r t (grows_trans p q r g k) w i)))

-- not two constants of the sort
pub partitioned_no_part : (s : List ℕ) (os : List PlainOperator) (b : PlainBox) (r : Statement)
    → false ≡ has_constants b (s ∷ s ∷ []) → false ≡ shows_partitioned s os b r
partitioned_no_part s os b r e =
    ap
    (λ c. c && (same_statements b.hypotheses
    (observations place_name s os (constant (box_constant b.number 1 s)) (constant (box_constant b.number 2 s)))
    && same_statement r (Equation (constant (box_constant b.number 1 s)) (constant (box_constant b.number 2 s))))) e

-- the observations that two terms of an equation have
abbrev observations_at : List ℕ → List PlainOperator → Statement → List Statement
observations_at s os (Equation t u) = observations place_name s os t u
observations_at s os (Generated z fs) = []
observations_at s os (Partitioned z fs) = []

abbrev pub the_constants : ℕ → List ℕ → Statement
the_constants n s = Equation (constant (box_constant n 1 s)) (constant (box_constant n 2 s))

-- the hypotheses are others
pub partitioned_not : (p q : Pooled) (s : List ℕ) (os : List PlainOperator) (b : KnownBox) (r : Statement) (e : Equated)
    (d : Bool) → Grows p q → IsBox p b
    → true ≡ has_constants (box_in p b) (s ∷ s ∷ []) → equated_in q e ≡ the_constants b.number s
    → d ≡ same_statements (map (equated_in q) b.hypotheses)
    (observations place_name s os (tree_in q.trees e.left) (tree_in q.trees e.right)) → d ≡ false
    → false ≡ shows_partitioned s os (box_in p b) r
partitioned_not p q s os b r e d g h x f k z =
    three (has_constants (box_in p b) (s ∷ s ∷ []))
    (same_statements (map (equated_in p) b.hypotheses) (observations_at s os (the_constants b.number s)))
    (same_statement r (the_constants b.number s)) d (sym x)
    (k ∙ (λ i. same_statements (hypotheses_same p q b.hypotheses g h i) (observations_at s os (f i)))) z

-- what is left is the result
pub partitioned_yes : (p q r : Pooled) (s : List ℕ) (os : List PlainOperator) (b : KnownBox) (t : Stated) (e : Equated)
    (d c : Bool) → Grows p q → Grows q r → IsBox p b → IsStated p t → IsEquated q e
    → true ≡ has_constants (box_in p b) (s ∷ s ∷ []) → equated_in q e ≡ the_constants b.number s
    → d ≡ same_statements (map (equated_in q) b.hypotheses)
    (observations place_name s os (tree_in q.trees e.left) (tree_in q.trees e.right)) → d ≡ true
    → (IsTrue c ↔ (stated_in r t ≡ equated_in r e)) → c ≡ shows_partitioned s os (box_in p b) (stated_in p t)
partitioned_yes p q r s os b t e d c g k h w u x f y z v =
    rest_of (has_constants (box_in p b) (s ∷ s ∷ []))
    (same_statements (map (equated_in p) b.hypotheses) (observations_at s os (the_constants b.number s)))
    (same_statement (stated_in p t) (the_constants b.number s)) d c (sym x)
    (y ∙ (λ i. same_statements (hypotheses_same p q b.hypotheses g h i) (observations_at s os (f i)))) z
    (told_as (stated_in r t) (equated_in r e) (stated_in p t) (the_constants b.number s) c v
    (stated_same p r t (grows_trans p q r g k) w) (equated_same q r e k u ∙ f))

-- an answer by what was found: no box, no operator, another range, nothing shown, or the clause
pub after_box : {B F S : Type 0} (by : B → F → Option S) (o : Option B) (fs : Option F) → None ≡ o
    → None ≡ option_and_then (λ c. option_and_then (by c) fs) o
after_box by o fs e = ap (option_and_then (λ c. option_and_then (by c) fs)) e

pub after_operators : {B F S : Type 0} (by : B → F → Option S) (o : Option B) (c : B) (fs : Option F)
    → Some c ≡ o → None ≡ fs
    → None ≡ option_and_then (λ d. option_and_then (by d) fs) o
after_operators by o c fs e f = ap (option_and_then (by c)) f ∙ ap (option_and_then (λ d. option_and_then (by d) fs)) e

pub after_both : {B F S : Type 0} (by : B → F → Option S) (o : Option B) (c : B) (fs : Option F) (f : F) (r : Option S)
    → Some c ≡ o → Some f ≡ fs → r ≡ by c f
    → r ≡ option_and_then (λ d. option_and_then (by d) fs) o
after_both by o c fs f r e g h =
    h ∙ ap (option_and_then (by c)) g ∙ ap (option_and_then (λ d. option_and_then (by d) fs)) e

-- the sort isn't that of all, nothing is shown, or both
pub not_all : {S : Type 0} (a b : Bool) (x : S) → a ≡ false → None ≡ (if a && b then Some x else None)
not_all a b x e = ap (λ c. if c && b then Some x else None) (sym e)

pub not_shown : {S : Type 0} (a b : Bool) (x : S) → b ≡ false → None ≡ (if a && b then Some x else None)
not_shown a b x e = ap (λ c. if c then Some x else None) (sym (and_not_right a b e))

pub all_shown : {S : Type 0} (a b : Bool) (x : S) → a ≡ true → b ≡ true → Some x ≡ (if a && b then Some x else None)
all_shown a b x e f = λ i. if sym e i && sym f i then Some x else None

-- only an equation says that a predicate holds
pub not_equation : (f : PlainOperator) (s : List ℕ) (o : Statement) → None ≡ equation_alone o
    → false ≡ holds_of_variable f s o
not_equation f s (Equation l r) e = absurd cc
not_equation f s (Generated z fs) e = refl
not_equation f s (Partitioned z fs) e = refl

pub is_equation : (o e : Statement) → Some e ≡ equation_alone o → e ≡ o
is_equation (Equation l r) e h = cc
is_equation (Generated z fs) e h = absurd cc
is_equation (Partitioned z fs) e h = absurd cc

-- an equation compared with that a predicate holds of a variable
pub holds_told : (p q r t : Pooled) (predicate : ℕ) (name s : List ℕ) (sides : Equated) (variable left right : ℕ)
    (b : Bool) → Grows p q → Grows q r → Grows r t
    → predicate < length p.operators → IsEquated p sides → name ≡ argument_name (tree_in p.trees sides.left) 1
    → HasTree q variable (var name s)
    → HasTree r left (apply_one (operator_in q.operators predicate) (tree_in q.trees variable)) → HasTree t right truth
    → (IsTrue b ↔ (equated_in t sides ≡ Equation (tree_in t.trees left) (tree_in t.trees right)))
    → b ≡ holds_of_variable (operator_in p.operators predicate) s (equated_in p sides)
holds_told p q r t predicate name s sides variable left right b g h k l w n v m u d =
    let x : tree_in t.trees left ≡ apply_one (operator_in p.operators predicate)
    (var (argument_name (tree_in p.trees sides.left) 1) s) =
    has_tree_later r t left (apply_one (operator_in q.operators predicate) (tree_in q.trees variable)) k m
    ∙ (λ i. apply_one (operator_later p q predicate g l i)
    ((has_tree q variable (var name s) v ∙ ap (λ z. var z s) n) i)) in
    told_as (equated_in t sides) (Equation (tree_in t.trees left) (tree_in t.trees right)) (equated_in p sides)
    (Equation (apply_one (operator_in p.operators predicate) (var (argument_name (tree_in p.trees sides.left) 1) s))
    truth) b d
    (equated_same p t sides (grows_trans p r t (grows_trans p q r g h) k) w)
    (λ i. Equation (x i) (has_tree t right truth u i))

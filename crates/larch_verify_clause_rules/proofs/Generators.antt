-- What is supposed of generators, built and compared.
use Rattle.std.proofs.Common.{◌≡◌, ◌↔◌, IsTrue, ℕ, ◌+◌, ◌<◌, Bool, ◌&&◌, List, length, map, drop, get_or, All, Option}
use Rattle.std.proofs.Common.{Some, None, refl, sym, ◌∙◌, ap, subst}
use Rattle.std.specs.Prelude.{IfSome}
use Rattle.std.specs.Option.{option_map}
use Rattle.larch_base.proofs.Lists.{map_map}
use Rattle.larch_term.specs.Equality.{same_statement}
use Rattle.larch_term.specs.Operator.{PlainOperator}
use Rattle.larch_term.specs.Tree.{app, forest_of}
use Rattle.larch_term.specs.Truth.{truth}
use Rattle.larch_term.specs.declared.statement.Statement.{Statement}
use Rattle.larch_term.specs.declared.statement.Statement.TheVariants.{Equation}
use Rattle.larch_calculus.specs.Formula.{apply_one}
use Rattle.larch_calculus.specs.Generation.{place_name, generation_formula, generation_hypotheses}
use Rattle.larch_verify_meaning.specs.Matching.{same_statements}
use Rattle.larch_verify_pool.specs.Pooled.{Pooled, operator_in, tree_in, Grows, HasTree}
use Rattle.larch_verify_pool.proofs.Front.{grows_trans, trees_stay}
use Rattle.larch_verify_history.specs.Past.{IsEquated, equated_in}
use Rattle.larch_verify_history.specs.declared.stated.Equated.{Equated}
use Rattle.larch_verify_history.proofs.Staying.{equated_same}
use Rattle.larch_verify_parts.proofs.Numbers.{tree_later, has_tree, has_later}
use Rattle.larch_verify_clause_rules.specs.Inheriting.{holding_of, with_terms, following}
use Rattle.larch_verify_clause_rules.specs.Naming.{variables_named, variable_term}
use Rattle.larch_verify_clause_rules.specs.Operators.{IsKnown, operators_in}
use Rattle.larch_verify_clause_rules.specs.declared.known.Known.{Known}
use Rattle.larch_verify_clause_rules.proofs.Comparing.{told_as}
use Rattle.larch_verify_clause_rules.proofs.Paired.{paired}
use Rattle.larch_verify_clause_rules.proofs.Premises.{formula_of}
use Rattle.larch_verify_clause_rules.proofs.Staying.{found_is, found_later, operator_later}

pub option_later : (p q : Pooled) (o : Option ℕ) → Grows p q → IfSome o (λ n. n < length p.trees)
    → option_map (tree_in q.trees) o ≡ option_map (tree_in p.trees) o
option_later p q None g l = refl
option_later p q (Some n) g l = ap Some (tree_later p q n g l)

-- what is built of a generator is its formula
pub formula_made : (p0 p1 p2 p3 p4 p5 : Pooled) (predicate : ℕ) (s : List ℕ) (k : Known) (vs : List ℕ)
    (premise : Option ℕ) (made holds formula : ℕ)
    → Grows p0 p1 → Grows p1 p2 → Grows p2 p3 → Grows p3 p4 → predicate < length p0.operators → IsKnown p0 k
    → All (λ v. v < length p1.trees) vs
    → map (tree_in p1.trees) vs ≡ map variable_term (variables_named place_name 1 k.operator.domain)
    → IfSome premise (λ n. n < length p2.trees)
    → option_map (tree_in p2.trees) premise
    ≡ with_terms None (holding_of (operator_in p1.operators predicate) s (map (tree_in p1.trees) vs))
    → HasTree p3 made (app (operator_in p2.operators k.number) (forest_of (map (tree_in p2.trees) vs)))
    → HasTree p4 holds (apply_one (operator_in p3.operators predicate) (tree_in p3.trees made))
    → HasTree p5 formula (following (option_map (tree_in p4.trees) premise) (tree_in p4.trees holds))
    → HasTree p5 formula (generation_formula (operator_in p0.operators predicate) s k.operator)
formula_made p0 p1 p2 p3 p4 p5 predicate s k vs premise made holds formula g1 g2 g3 g4 l known a e within says m h t =
    let g12 : Grows p0 p2 = grows_trans p0 p1 p2 g1 g2 in
    let g13 : Grows p0 p3 = grows_trans p0 p2 p3 g12 g3 in
    let x : option_map (tree_in p4.trees) premise
    ≡ with_terms None (holding_of (operator_in p0.operators predicate) s (map (tree_in p1.trees) vs)) =
    option_later p2 p4 premise (grows_trans p2 p3 p4 g3 g4) within ∙ says
    ∙ ap (λ f. with_terms None (holding_of f s (map (tree_in p1.trees) vs))) (operator_later p0 p1 predicate g1 l) in
    let f : operator_in p2.operators k.number ≡ k.operator =
    found_is p2 k.number k.operator (found_later p0 p2 k.number k.operator g12 known) in
    let y : tree_in p3.trees made ≡ app k.operator (forest_of (map (tree_in p1.trees) vs)) =
    has_tree p3 made (app (operator_in p2.operators k.number) (forest_of (map (tree_in p2.trees) vs))) m
    ∙ (λ i. app (f i) (forest_of (trees_stay p1.trees p2.trees vs g2.1 a i))) in
    let z : tree_in p4.trees holds
    ≡ apply_one (operator_in p0.operators predicate) (app k.operator (forest_of (map (tree_in p1.trees) vs))) =
    has_tree p4 holds (apply_one (operator_in p3.operators predicate) (tree_in p3.trees made)) h
    ∙ (λ i. apply_one (operator_later p0 p3 predicate g13 l i) (y i)) in
    subst (HasTree p5 formula) ((λ i. following (x i) (z i))
    ∙ formula_of (operator_in p0.operators predicate) s k.operator (map (tree_in p1.trees) vs) e) t

-- what is supposed of a generator
abbrev pub supposition : PlainOperator → List ℕ → Known → Statement
supposition p s k = Equation (generation_formula p s k.operator) truth

supposed : (p : PlainOperator) (s : List ℕ) (ks : List Known)
    → generation_hypotheses p s (operators_in ks) ≡ map (supposition p s) ks
supposed p s ks = map_map (λ f. Equation (generation_formula p s f) truth) (λ k. k.operator) ks

-- a hypothesis compared with it
pub told_supposed : (p q : Pooled) (predicate : PlainOperator) (s : List ℕ) (k : Known) (e : Equated) (m n : ℕ)
    (b : Bool) → Grows p q → IsEquated p e
    → HasTree q m (generation_formula predicate s k.operator) → HasTree q n truth
    → (IsTrue b ↔ (equated_in q e ≡ Equation (tree_in q.trees m) (tree_in q.trees n)))
    → b ≡ same_statement (equated_in p e) (supposition predicate s k)
told_supposed p q predicate s k e m n b g h t u d =
    told_as (equated_in q e) (Equation (tree_in q.trees m) (tree_in q.trees n)) (equated_in p e)
    (supposition predicate s k) b d
    (equated_same p q e g h) (λ i.
    Equation (has_tree q m (generation_formula predicate s k.operator) t i) (has_tree q n truth u i))

-- the next hypothesis, and those behind it
pub supposed_next : (pool : Pooled) (p : PlainOperator) (s : List ℕ) (hs : List Equated) (ks : List Known) (i : ℕ)
    (e : Equated) (k : Known) (b : Bool)
    → i < length hs → i < length ks
    → b ≡ same_statement (equated_in pool (get_or hs i e)) (supposition p s (get_or ks i k))
    → same_statements (map (equated_in pool) (drop i hs)) (generation_hypotheses p s (operators_in (drop i ks)))
    ≡ (b && same_statements (map (equated_in pool) (drop (i + 1) hs))
    (generation_hypotheses p s (operators_in (drop (i + 1) ks))))
supposed_next pool p s hs ks i e k b lh lk h =
    ap (same_statements (map (equated_in pool) (drop i hs))) (supposed p s (drop i ks))
    ∙ paired (equated_in pool) (supposition p s) hs ks i e k lh lk
    ∙ (λ j. sym h j && same_statements (map (equated_in pool) (drop (i + 1) hs))
    (sym (supposed p s (drop (i + 1) ks)) j))

-- the same where it has just been built
pub supposed_at : (p o q : Pooled) (predicate : ℕ) (s : List ℕ) (hs : List Equated) (ks : List Known) (i : ℕ)
    (e : Equated) (k : Known) (m n : ℕ) (b : Bool)
    → Grows p o → Grows o q → predicate < length p.operators → All (IsEquated p) hs → i < length hs → i < length ks
    → k ≡ get_or ks i k
    → HasTree q m (generation_formula (operator_in o.operators predicate) s k.operator) → HasTree o n truth
    → (IsTrue b ↔ (equated_in q (get_or hs i e) ≡ Equation (tree_in q.trees m) (tree_in q.trees n)))
    → same_statements (map (equated_in p) (drop i hs))
    (generation_hypotheses (operator_in p.operators predicate) s (operators_in (drop i ks)))
    ≡ (b && same_statements (map (equated_in p) (drop (i + 1) hs))
    (generation_hypotheses (operator_in p.operators predicate) s (operators_in (drop (i + 1) ks))))
supposed_at p o q predicate s hs ks i e k m n b g h l a lh lk w t u d =
    supposed_next p (operator_in p.operators predicate) s hs ks i e k b lh lk
    (told_supposed p q (operator_in p.operators predicate) s k (get_or hs i e) m n b (grows_trans p o q g h) (a i e lh)
    (subst (λ f. HasTree q m (generation_formula f s k.operator)) (operator_later p o predicate g l) t)
    (has_later o q n truth h u) d
    ∙ ap (λ x. same_statement (equated_in p (get_or hs i e)) (supposition (operator_in p.operators predicate) s x)) w)

-- What a box of constants supposes in an induction, one hypothesis after the other.
use Rattle.std.proofs.Common.{◌≡◌, ℕ, suc, ◌+◌, ◌<◌, Bool, true, false, not, ◌&&◌, if◌then◌else◌, IsTrue, ◌↔◌, List, []}
use Rattle.std.proofs.Common.{◌∷◌, length, map, drop, get_or, All, bytes_eq, slice_get, Some, None, refl, sym, ◌∙◌, ap}
use Rattle.std.proofs.Common.{subst, arith}
use Rattle.std.proofs.lemmas.List.{drop_more}
use Rattle.std.proofs.lemmas.Option.{get_or_from_slice_get}
use Rattle.larch_base.proofs.Options.{some_inj}
use Rattle.larch_term.proofs.Decided.{statements_told}
use Rattle.larch_term.specs.Equality.{same_statement}
use Rattle.larch_term.specs.Operator.{PlainOperator}
use Rattle.larch_term.specs.Substitution.{instance_of}
use Rattle.larch_term.specs.Tree.{Tree, var, app, forest_of}
use Rattle.larch_term.specs.declared.statement.Statement.{Statement}
use Rattle.larch_term.specs.declared.statement.Statement.TheVariants.{Equation, Generated, Partitioned}
use Rattle.larch_calculus.specs.Formula.{constant}
use Rattle.larch_calculus.specs.Generation.{constant_terms, equation_at, induction_hypotheses, only}
use Rattle.larch_certificate.specs.declared.line.BoxPart.{BoxPart}
use Rattle.larch_certificate.specs.declared.line.CodedVar.{CodedVar}
use Rattle.larch_verify_meaning.specs.BoxRules.{equation_alone}
use Rattle.larch_verify_meaning.specs.Events.{box_constant, box_predicate, part_operator, operators_from}
use Rattle.larch_verify_meaning.specs.Matching.{same_statements}
use Rattle.larch_verify_pool.specs.Pooled.{Pooled, tree_in, operator_in, no_operator, Grows, HasTree}
use Rattle.larch_verify_pool.specs.Substitution.{entry_from, entries_of}
use Rattle.larch_verify_pool.proofs.Front.{grows_trans}
use Rattle.larch_verify_history.specs.Past.{IsEquated, equated_in}
use Rattle.larch_verify_history.specs.declared.stated.Equated.{Equated}
use Rattle.larch_verify_history.proofs.Staying.{equated_same, equated_stays}
use Rattle.larch_verify_parts.proofs.Numbers.{has_later, has_tree, has_tree_later, tree_later}
use Rattle.larch_verify_box_rules.proofs.Boxes.{constant_forest}
use Rattle.larch_verify_box_rules.specs.Inductions.{IsInductive, equation_with, hypotheses_from}
use Rattle.larch_verify_box_rules.specs.declared.showing.Inductive.{Inductive}

-- what is shown stays while the pool grows
pub inductive_later : (p q : Pooled) (i : Inductive) → Grows p q → IsInductive p i → IsInductive q i
inductive_later p q i g h =
    (has_later p q i.number (var i.variable.now.name i.variable.now.sort) g h.0, equated_stays p q i.sides g h.1)

pub with_same : (p q : Pooled) (i : Inductive) (t : Tree) → Grows p q → IsInductive p i
    → equation_with q i t ≡ equation_with p i t
with_same p q i t g h =
    λ k. equation_at i.variable.now.name i.variable.now.sort (tree_later p q i.sides.left g h.1.0 k)
    (tree_later p q i.sides.right g h.1.1 k) t

-- the binding of the variable is its substitution
pub binds_only : (p : Pooled) (x : CodedVar) (n m : ℕ) → HasTree p n (var x.name x.sort)
    → entries_of p.trees (record { variable = n; image = m } ∷ []) ≡ only x.name x.sort (tree_in p.trees m)
binds_only p x n m h = ap (λ v. entry_from v (tree_in p.trees m) ∷ []) (has_tree p n (var x.name x.sort) h)

as_constant : (b k : ℕ) (p : BoxPart) → p.predicate ≡ false → part_operator b k p ≡ box_constant b k p.sort
as_constant b k p e = ap (λ c. if c then box_predicate b k p.sort else box_constant b k p.sort) e

-- the first constant has the variable's sort
pub with_first : (x s : List ℕ) (l r : Tree) (b k : ℕ) (p : BoxPart) (ps : List BoxPart) → p.predicate ≡ false
    → bytes_eq p.sort s ≡ true
    → induction_hypotheses x s l r (operators_from b k (p ∷ ps))
    ≡ equation_at x s l r (constant (part_operator b k p)) ∷ induction_hypotheses x s l r (operators_from b (suc k) ps)
with_first x s l r b k p ps e h =
    ap (λ o. induction_hypotheses x s l r (o ∷ operators_from b (suc k) ps)) (as_constant b k p e)
    ∙ ap (λ c. if c
    then equation_at x s l r (constant (box_constant b k p.sort))
    ∷ induction_hypotheses x s l r (operators_from b (suc k) ps)
    else induction_hypotheses x s l r (operators_from b (suc k) ps)) h
    ∙ ap (λ o. equation_at x s l r (constant o) ∷ induction_hypotheses x s l r (operators_from b (suc k) ps))
    (sym (as_constant b k p e))

-- what is left to compare: these hypotheses with those of these parts, the first of which has a number
abbrev pub left_same : Pooled → Inductive → ℕ → ℕ → List BoxPart → List Statement → Bool
left_same p i b k ps hs = same_statements hs (hypotheses_from p i b k ps)

-- a hypothesis is compared
pub compares : (p : Pooled) (i : Inductive) (b k : ℕ) (c : BoxPart) (ps : List BoxPart) (h : Statement)
    (hs : List Statement) (r : Bool)
    → c.predicate ≡ false → bytes_eq c.sort i.variable.now.sort ≡ true
    → r ≡ same_statement h (equation_with p i (constant (part_operator b k c)))
    → left_same p i b k (c ∷ ps) (h ∷ hs) ≡ (r && left_same p i b (suc k) ps hs)
compares p i b k c ps h hs r e z s =
    ap (same_statements (h ∷ hs))
    (with_first i.variable.now.name i.variable.now.sort (tree_in p.trees i.sides.left)
    (tree_in p.trees i.sides.right) b k c ps e z)
    ∙ ap (λ y. y && left_same p i b (suc k) ps hs) (sym s)

-- what is told by a pool that has grown
pub told_at : (p q : Pooled) (i : Inductive) (e : Equated) (t : Tree) (n : ℕ) (r : Bool) → Grows p q → IsInductive p i
    → IsEquated p e → HasTree q n t → r ≡ same_statement (equated_in q e) (equation_with q i (tree_in q.trees n))
    → r ≡ same_statement (equated_in p e) (equation_with p i t)
told_at p q i e t n r g h w z k =
    k ∙ (λ j. same_statement (equated_same p q e g w j)
    ((with_same p q i (tree_in q.trees n) g h ∙ ap (equation_with p i) (has_tree q n t z)) j))

-- both sides with a term for the variable
pub instance_told : (p q r : Pooled) (i : Inductive) (m : ℕ) (e : Equated) (l k : ℕ) (b : Bool) → Grows p q → Grows q r
    → IsInductive p i → m < length p.trees → IsEquated p e
    → HasTree q l (instance_of (entries_of p.trees (record { variable = i.number; image = m } ∷ []))
    (tree_in p.trees i.sides.left))
    → HasTree r k (instance_of (entries_of q.trees (record { variable = i.number; image = m } ∷ []))
    (tree_in q.trees i.sides.right))
    → (IsTrue b ↔ (equated_in r e ≡ equated_in r (record { left = l; right = k })))
    → b ≡ same_statement (equated_in p e) (equation_with p i (tree_in p.trees m))
instance_told p q r i m e l k b g f h n w s t c =
    let at_right : entries_of q.trees (record { variable = i.number; image = m } ∷ [])
    ≡ only i.variable.now.name i.variable.now.sort (tree_in p.trees m) =
    binds_only q i.variable.now i.number m (has_later p q i.number (var i.variable.now.name i.variable.now.sort) g h.0)
    ∙ ap (only i.variable.now.name i.variable.now.sort) (tree_later p q m g n) in
    let left : tree_in r.trees l ≡ instance_of (only i.variable.now.name i.variable.now.sort (tree_in p.trees m))
    (tree_in p.trees i.sides.left) =
    has_tree_later q r l (instance_of (entries_of p.trees (record { variable = i.number; image = m } ∷ []))
    (tree_in p.trees i.sides.left)) f s
    ∙ ap (λ es. instance_of es (tree_in p.trees i.sides.left)) (binds_only p i.variable.now i.number m h.0) in
    let right : tree_in r.trees k ≡ instance_of (only i.variable.now.name i.variable.now.sort (tree_in p.trees m))
    (tree_in p.trees i.sides.right) =
    has_tree r k (instance_of (entries_of q.trees (record { variable = i.number; image = m } ∷ []))
    (tree_in q.trees i.sides.right)) t
    ∙ (λ j. instance_of (at_right j) (tree_later p q i.sides.right g h.1.1 j)) in
    statements_told (equated_in r e) (equated_in r (record { left = l; right = k })) b c
    ∙ (λ j. same_statement (equated_same p r e (grows_trans p q r g f) w j) (Equation (left j) (right j)))

-- what a generator makes of constants
pub made_told : (fs : List PlainOperator) (us ws vs : List Tree) (o n : ℕ) (f : PlainOperator) (ns : List ℕ)
    (cs : List PlainOperator)
    → slice_get fs o ≡ Some f → ws ≡ us → map (tree_in us) ns ≡ map constant cs
    → slice_get vs n ≡ Some (app (operator_in fs o) (forest_of (map (tree_in ws) ns)))
    → slice_get vs n ≡ Some (app f (constant_terms cs))
made_told fs us ws vs o n f ns cs e w h k =
    k ∙ (λ j. Some (app (get_or_from_slice_get fs o f no_operator e j) (forest_of (map (tree_in (w j)) ns))))
    ∙ ap (λ ts. Some (app f (forest_of ts))) h ∙ ap (λ ts. Some (app f ts)) (sym (constant_forest cs))

pub alone_is : (s e : Statement) → Some e ≡ equation_alone s → e ≡ s
alone_is (Equation l r) e h = some_inj h
alone_is (Generated z fs) e h = absurd cc
alone_is (Partitioned z fs) e h = absurd cc

pub never_same : (s : Statement) (l r : Tree) → None ≡ equation_alone s → false ≡ same_statement s (Equation l r)
unfolding same_statement
never_same (Equation k q) l r e = absurd cc
never_same (Generated z fs) l r e = refl
never_same (Partitioned z fs) l r e = refl

-- one constant's hypothesis is compared
pub step_met : (p : Pooled) (v : Inductive) (b : ℕ) (ps : List BoxPart) (hs : List Equated) (i m : ℕ) (c : BoxPart)
    (d : Equated) (r : Bool)
    → i < length ps → m < length hs → c ≡ get_or ps i c → All (λ q. q.predicate ≡ false) ps
    → bytes_eq c.sort v.variable.now.sort ≡ true
    → r ≡ same_statement (equated_in p (get_or hs m d)) (equation_with p v (constant (part_operator b (i + 1) c)))
    → left_same p v b (i + 1) (drop i ps) (map (equated_in p) (drop m hs))
    ≡ (r && left_same p v b (i + 1 + 1) (drop (i + 1) ps) (map (equated_in p) (drop (m + 1) hs)))
step_met p v b ps hs i m c d r l k s a z e =
    let n : suc (i + 1) ≡ i + 1 + 1 = omega arith in
    (λ j. left_same p v b (i + 1) ((drop_more ps i c l ∙ ap (λ y. y ∷ drop (i + 1) ps) (sym s)) j)
    (map (equated_in p) (drop_more hs m d k j)))
    ∙ compares p v b (i + 1) c (drop (i + 1) ps) (equated_in p (get_or hs m d)) (map (equated_in p) (drop (m + 1) hs)) r
    (ap (λ y. y.predicate) s ∙ a i c l) z e
    ∙ ap (λ y. r && left_same p v b y (drop (i + 1) ps) (map (equated_in p) (drop (m + 1) hs))) n

pub same_sort : (c s : List ℕ) (r : Bool) → r ≡ not (bytes_eq c s) → r ≡ false → bytes_eq c s ≡ true
same_sort c s r e h = not_false (bytes_eq c s) (sym e ∙ h)
  where
    not_false : (b : Bool) → not b ≡ false → b ≡ true
    not_false true q = refl
    not_false false q = cc

-- the next constant's hypothesis is compared, while the pool has grown
pub next_met : (p l q : Pooled) (v : Inductive) (b : ℕ) (ps us : List BoxPart) (hs ks : List Equated) (i m n : ℕ)
    (c : BoxPart) (d : Equated) (r t : Bool)
    → Grows p l → Grows l q → IsInductive p v → All (IsEquated p) ks → hs ≡ ks
    → All (λ u. u.predicate ≡ false) us → ps ≡ us
    → i < length ps → m < length hs → c ≡ get_or ps i c → t ≡ not (bytes_eq c.sort v.variable.now.sort) → t ≡ false
    → HasTree q n (constant (part_operator b (i + 1) c))
    → r ≡ same_statement (equated_in q (get_or hs m d)) (equation_with q v (tree_in q.trees n))
    → left_same p v b (i + 1) (drop i ps) (map (equated_in p) (drop m hs))
    ≡ (r && left_same p v b (i + 1 + 1) (drop (i + 1) ps) (map (equated_in p) (drop (m + 1) hs)))
next_met p l q v b ps us hs ks i m n c d r t f g h w e a o k z s u y tr j =
    step_met p v b ps hs i m c d r k z s (subst (All (λ u. u.predicate ≡ false)) (sym o) a)
    (same_sort c.sort v.variable.now.sort t u y)
    (told_at p q v (get_or hs m d) (constant (part_operator b (i + 1) c)) n r (grows_trans p l q f g) h
    ((subst (All (IsEquated p)) (sym e) w) m d z) tr j)

-- Variables in the places of a box's constants, by numbers.
use Rattle.std.proofs.Common.{◌≡◌, ◌==◌, arith, ℕ, suc, ◌+◌, ◌<◌, Bool, true, false, ◌&&◌, if◌then◌else◌, List, [], ◌∷◌}
use Rattle.std.proofs.Common.{◌++◌, length, map, take, get_or, All, Option, Some, None, refl, sym, ◌∙◌, ap}
use Rattle.std.specs.Prelude.{unwrap_or}
use Rattle.std.specs.List.{slice_get}
use Rattle.std.proofs.lemmas.Bool.Decides.{Decides-eqb}
use Rattle.std.proofs.lemmas.List.{map_push, take_more}
use Rattle.std.specs.Option.{option_map, option_and_then}
use Rattle.larch_base.proofs.Bools.{and_not_right}
use Rattle.larch_term.specs.Operator.{OperatorName, PlainOperator, boxed}
use Rattle.larch_term.specs.OperatorKey.{same_name}
use Rattle.larch_term.specs.Tree.{Tree, Forest, var, app, none, more}
use Rattle.larch_term.specs.declared.statement.Statement.{Statement}
use Rattle.larch_term.specs.declared.statement.Statement.TheVariants.{Equation, Generated, Partitioned}
use Rattle.larch_term.specs.declared.variable.Variable.{Variable}
use Rattle.larch_calculus.specs.Freed.{place_of, variable_for, free_constants, freed_all}
use Rattle.larch_certificate.specs.declared.line.BoxPart.{BoxPart}
use Rattle.larch_certificate.specs.declared.line.CodedVar.{CodedVar}
use Rattle.larch_verify_meaning.specs.BoxRules.{equation_alone, freed_equation, freed_result}
use Rattle.larch_verify_meaning.specs.Events.{PlainBox, box_constant, box_predicate, part_operator, operators_from}
use Rattle.larch_verify_meaning.specs.Events.{operators_of}
use Rattle.larch_verify_meaning.specs.Matching.{is_empty, has_constants, variable_of}
use Rattle.larch_verify_pool.specs.Exchanging.{constant_image}
use Rattle.larch_verify_pool.specs.Freeing.{freed_by, freed_all_by}
use Rattle.larch_verify_pool.specs.Pooled.{tree_in}
use Rattle.larch_verify_pool.proofs.Front.{numbers_more}
use Rattle.larch_verify_box_rules.specs.Variables.{term_of}

part_name : (b k : ℕ) (p : BoxPart) → (part_operator b k p).name ≡ boxed b k
part_name b k p = by p.predicate
  where
    by : (c : Bool) → (if c then box_predicate b k p.sort else box_constant b k p.sort).name ≡ boxed b k
    by true = refl
    by false = refl

later : (v : Variable) (vs : List Variable) (o : Option ℕ)
    → option_and_then (slice_get (v ∷ vs)) (option_map suc o) ≡ option_and_then (slice_get vs) o
later v vs None = refl
later v vs (Some i) = refl

variable_image : (us : List Tree) (b k : ℕ) (ps : List BoxPart) (vs : List Variable) (ns : List ℕ) (n : OperatorName)
    → length ps ≡ length vs → map (tree_in us) ns ≡ map term_of vs
    → option_map term_of (variable_for (operators_from b k ps) vs n) ≡ option_map (tree_in us) (constant_image b k ns n)
variable_image us b k [] [] [] n l e = refl
variable_image us b k [] [] (m ∷ ns) n l e = absurd cc
variable_image us b k [] (v ∷ vs) ns n l e = absurd cc
variable_image us b k (p ∷ ps) [] ns n l e = absurd cc
variable_image us b k (p ∷ ps) (v ∷ vs) [] n l e = absurd cc
variable_image us b k (p ∷ ps) (v ∷ vs) (m ∷ ns) n l e =
    let lp : length ps ≡ length vs = cc in
    let rest : map (tree_in us) ns ≡ map term_of vs = cc in
    let first : tree_in us m ≡ term_of v = cc in
    ap
    (λ x. option_map term_of (option_and_then (slice_get (v ∷ vs))
    (if same_name x n then Some 0 else option_map suc (place_of (operators_from b (suc k) ps) n))))
    (part_name b k p)
    ∙ by (same_name (boxed b k) n) (variable_image us b (suc k) ps vs ns n lp rest) first
  where
    by : (c : Bool)
        → option_map term_of (variable_for (operators_from b (suc k) ps) vs n)
        ≡ option_map (tree_in us) (constant_image b (suc k) ns n)
        → tree_in us m ≡ term_of v
        → option_map term_of (option_and_then (slice_get (v ∷ vs))
        (if c then Some 0 else option_map suc (place_of (operators_from b (suc k) ps) n)))
        ≡ option_map (tree_in us) (if c then Some m else constant_image b (suc k) ns n)
    by true others first = ap Some (sym first)
    by false others first = ap (option_map term_of) (later v vs (place_of (operators_from b (suc k) ps) n)) ∙ others

mutual
  pub freed_same : (us : List Tree) (b k : ℕ) (ps : List BoxPart) (vs : List Variable) (ns : List ℕ) (t : Tree)
      → length ps ≡ length vs → map (tree_in us) ns ≡ map term_of vs
      → free_constants (operators_from b k ps) vs t ≡ freed_by us b k ns t
  freed_same us b k ps vs ns (var n s) l e = refl
  freed_same us b k ps vs ns (app f ts) l e =
      ap (λ o. unwrap_or o (app f (freed_all (operators_from b k ps) vs ts)))
      (variable_image us b k ps vs ns f.name l e)
      ∙ ap (λ xs. unwrap_or (option_map (tree_in us) (constant_image b k ns f.name)) (app f xs))
      (freed_all_same us b k ps vs ns ts l e)

  freed_all_same : (us : List Tree) (b k : ℕ) (ps : List BoxPart) (vs : List Variable) (ns : List ℕ) (ts : Forest)
      → length ps ≡ length vs → map (tree_in us) ns ≡ map term_of vs
      → freed_all (operators_from b k ps) vs ts ≡ freed_all_by us b k ns ts
  freed_all_same us b k ps vs ns none l e = refl
  freed_all_same us b k ps vs ns (more t ts) l e =
      λ i. more (freed_same us b k ps vs ns t l e i) (freed_all_same us b k ps vs ns ts l e i)

-- only equations are freed
pub freed_alone : (cs : List PlainOperator) (vs : List Variable) (s : Statement)
    → option_and_then (freed_equation cs vs) (equation_alone s) ≡ freed_equation cs vs s
freed_alone cs vs (Equation l r) = refl
freed_alone cs vs (Generated z fs) = refl
freed_alone cs vs (Partitioned z fs) = refl

pub freed_none : (cs : List PlainOperator) (vs : List Variable) (s : Statement) → None ≡ equation_alone s
    → None ≡ freed_equation cs vs s
freed_none cs vs s e = ap (option_and_then (freed_equation cs vs)) e ∙ freed_alone cs vs s

pub freed_some : (cs : List PlainOperator) (vs : List Variable) (s e : Statement) (r : Option Statement)
    → Some e ≡ equation_alone s
    → r ≡ freed_equation cs vs e → r ≡ freed_equation cs vs s
freed_some cs vs s e r p q = q ∙ ap (option_and_then (freed_equation cs vs)) p ∙ freed_alone cs vs s

-- a box with hypotheses has no freed result
pub with_hypotheses : (b : PlainBox) (s : Statement) (vs : List Variable) → (b.hypotheses ≡ [] → ⊥)
    → None ≡ freed_result b s vs
with_hypotheses b s vs n = by (is_empty b.hypotheses) (empty_told b.hypotheses)
  where
    empty_told : (ss : List Statement) → is_empty ss ≡ true → ss ≡ []
    empty_told [] e = refl
    empty_told (z ∷ zs) e = absurd cc

    by : (c : Bool) → (c ≡ true → b.hypotheses ≡ [])
        → None ≡ (if c && has_constants b (map (λ v. v.sort) vs) then freed_equation (operators_of b) vs s else None)
    by true h = absurd (n (h refl))
    by false h = refl

-- nor has one with other parts
pub with_others : (b : PlainBox) (s : Statement) (vs : List Variable) → has_constants b (map (λ v. v.sort) vs) ≡ false
    → None ≡ freed_result b s vs
with_others b s vs e =
    ap (λ c. if c then freed_equation (operators_of b) vs s else None)
    (sym (and_not_right (is_empty b.hypotheses) (has_constants b (map (λ v. v.sort) vs)) e))

pub without_hypotheses : (b : PlainBox) (s : Statement) (vs : List Variable) (r : Option Statement) → b.hypotheses ≡ []
    → has_constants b (map (λ v. v.sort) vs) ≡ true → r ≡ freed_equation (operators_of b) vs s → r ≡ freed_result b s vs
without_hypotheses b s vs r h e k =
    k ∙ ap (λ c. if c then freed_equation (operators_of b) vs s else None)
    (sym (ap (λ hs. is_empty hs && has_constants b (map (λ v. v.sort) vs)) h ∙ e))

-- no box, no result
pub no_box : (o : Option (PlainBox × Statement)) (vs : List Variable) → None ≡ o
    → None ≡ option_and_then (λ c. freed_result c.0 c.1 vs) o
no_box o vs e = ap (option_and_then (λ c. freed_result c.0 c.1 vs)) e

pub of_box : (o : Option (PlainBox × Statement)) (vs : List Variable) (c : PlainBox × Statement) (r : Option Statement)
    → Some c ≡ o
    → r ≡ freed_result c.0 c.1 vs → r ≡ option_and_then (λ c. freed_result c.0 c.1 vs) o
of_box o vs c r e k = k ∙ ap (option_and_then (λ c. freed_result c.0 c.1 vs)) e

-- both sides, the second where the trees have grown
pub sides_freed : (us ws : List Tree) (b : ℕ) (ps : List BoxPart) (vs : List Variable) (ns : List ℕ) (l r t u : Tree)
    → length ps ≡ length vs → map (tree_in us) ns ≡ map term_of vs → map (tree_in ws) ns ≡ map term_of vs
    → t ≡ freed_by us b 1 ns l → u ≡ freed_by ws b 1 ns r
    → Some (Equation t u) ≡ freed_equation (operators_from b 1 ps) vs (Equation l r)
sides_freed us ws b ps vs ns l r t u n e f p q =
    λ i. Some (Equation ((p ∙ sym (freed_same us b 1 ps vs ns l n e)) i)
    ((q ∙ sym (freed_same ws b 1 ps vs ns r n f)) i))

-- one variable more, with its number
pub terms_more : (us ws : List Tree) (vs : List CodedVar) (i : ℕ) (v : CodedVar) (ns ms : List ℕ) (n : ℕ)
    → take (length us) ws ≡ us → All (λ m. m < length us) ns
    → map (tree_in us) ns ≡ map term_of (map variable_of (take i vs)) → i < length vs → v ≡ get_or vs i v
    → slice_get ws n ≡ Some (var v.name v.sort) → ms ≡ ns ++ n ∷ []
    → map (tree_in ws) ms ≡ map term_of (map variable_of (take (i + 1) vs))
terms_more us ws vs i v ns ms n f a h l t e m =
    ap (map (tree_in ws)) m
    ∙ numbers_more us ws (map term_of (map variable_of (take i vs))) ns n (var v.name v.sort) f a h e
    ∙ sym (map_push term_of (map variable_of (take i vs)) (variable_of v))
    ∙ ap (map term_of) (sym (map_push variable_of (take i vs) v))
    ∙ ap (λ x. map term_of (map variable_of (take i vs ++ x ∷ []))) t
    ∙ ap (λ xs. map term_of (map variable_of xs)) (sym (take_more vs i v l))

pub no_hypotheses : {X Y : Type 0} (f : X → Y) (xs ys : List X) (r : Bool) → r ≡ (length ys == 0) → r ≡ true → ys ≡ xs
    → map f xs ≡ []
no_hypotheses f [] ys r e h k = refl
no_hypotheses f (x ∷ xs) ys r e h k =
    let z : length ys ≡ 0 = (Decides-eqb (length ys) 0).0 (sym e ∙ h) in
    let n : length (x ∷ xs) ≡ 0 = ap length (sym k) ∙ z in
    absurd (omega (arith, n))

-- The number that an adding counts down never comes to 0.
use Rattle.std.specs.Prelude.{◌≡◌, ◌<◌, ◌≤◌, ◌+◌, ◌-◌, ◌*◌, ◌&&◌, ◌||◌, ℕ, zero, suc, Bool, true, false, not, cond}
use Rattle.std.specs.Prelude.{List, [], ◌∷◌, ◌++◌, map, Option, Some, None, option_map, option_and_then, refl}
use Rattle.std.specs.List.{flat_map}
use Rattle.std.proofs.Common.{inl, inr, ap, arith, sym, subst, ◌∙◌}
use Rattle.std.proofs.lemmas.Bool.Decides.{leb_tells}
use Rattle.larch_term.specs.Operator.{PlainOperator}
use Rattle.larch_term.specs.BuiltIn.{bool_sort, built_in}
use Rattle.larch_term.specs.Tree.{Tree, var, app, none, more, nodes}
use Rattle.larch_term.specs.Equality.{same_operator, same_tree}
use Rattle.larch_term.specs.Substitution.{instance_of}
use Rattle.larch_term.specs.declared.built_in.BuiltIn.TheVariants.{True, False}
use Rattle.larch_term.specs.declared.substitution.Entry.{Entry}
use Rattle.larch_rewrite_meaning.specs.TablesRow.{PlainRow}
use Rattle.larch_rewrite_meaning.specs.TablesSpelling.{a, b, x, y}
use Rattle.larch_rewrite_meaning.specs.TablesTables.{deduction_rows}
use Rattle.larch_order.specs.declared.precedence.Ranked.{Ranked}
use Rattle.larch_rewrite_meaning.specs.Matching.{match_term}
use Rattle.larch_rewrite_meaning.specs.Sides.{Sides, flip, sides_of, sides_under}
use Rattle.larch_rewrite_meaning.specs.Work.{Work, Made, OverLimit, OverSize, is_large, then_work, within_size}
use Rattle.larch_rewrite_meaning.proofs.Matches.{match_is_right}
use Rattle.larch_prove_meaning.specs.Facts.{Facts, Manner, Treatment, Drop, Contradict, Replace, Keep, add_waiting}
use Rattle.larch_prove_meaning.specs.Facts.{by_treatment, consequences_by, deduce, first_consequences, is_full}
use Rattle.larch_prove_meaning.specs.Facts.{is_value}
use Rattle.larch_prove_meaning.specs.Facts.{matched_sides, most_taken, normal_sides, replaced_or_kept, serving}
use Rattle.larch_prove_meaning.specs.Facts.{sort_within, treatment, treatment_of, truth_to_right, with_contradiction}
use Rattle.larch_prove_meaning.specs.Facts.{with_rule}
use Rattle.larch_prove_meaning.specs.Taking.{enough, weight, weights}
use Rattle.larch_prove_meaning.proofs.NormalSides.{Found, sides_found}

-- ---- what equations weigh

nodes_some : (t : Tree) → 1 ≤ nodes t
nodes_some (var n s) = omega arith
nodes_some (app f ts) = omega arith

weight_some : (e : Sides) → 1 ≤ weight e
weight_some e = let h = nodes_some e.left in let k = nodes_some e.right in omega (arith, h, k)

weights_append : (es ds : List Sides) → weights (es ++ ds) ≡ weights es + weights ds
weights_append [] ds = omega arith
weights_append (e ∷ es) ds = let h = weights_append es ds in omega (arith, h)

-- ---- what follows weighs less

-- what is given has a constant on its right, and whatever it matches outweighs what follows
abbrev AreLighter : List Sides → List Sides → Type 0
AreLighter cs [] = Unit {0}
AreLighter cs (given ∷ others) = (f : PlainOperator) × ((given.right ≡ app f none) × ((es : List Entry)
    → weights (map (sides_under es) cs) < 2 * (nodes (instance_of es given.left) + 1) - 3))

abbrev AllLighten : List PlainRow → Type 0
AllLighten [] = Unit {0}
AllLighten (row ∷ rows) = AreLighter (flat_map sides_of row.consequences) (sides_of row.given) × AllLighten rows

rows_lighten : (s : List ℕ) → AllLighten (deduction_rows s)
rows_lighten s =
    let t = built_in True bool_sort in
    let f = built_in False bool_sort in (
      (
        t,
        (
          refl,
          λ es. let h = nodes_some (instance_of es x) in let k = nodes_some (instance_of es y) in
              omega (arith, h, k),
        ),
      ),
      (
        (
          f,
          (
            refl,
            λ es. let h = nodes_some (instance_of es x) in let k = nodes_some (instance_of es y) in
                omega (arith, h, k),
          ),
        ),
        (
          (t, (refl, λ es. let h = nodes_some (instance_of es x) in omega (arith, h))),
          (
            (f, (refl, λ es. let h = nodes_some (instance_of es x) in omega (arith, h))),
            (
              (
                f,
                (
                  refl,
                  λ es. let h = nodes_some (instance_of es x) in let k = nodes_some (instance_of es y) in
                      omega (arith, h, k),
                ),
              ),
              (
                (
                  t,
                  (
                    refl,
                    λ es. let h = nodes_some (instance_of es (a s)) in
                        let k = nodes_some (instance_of es (b s)) in omega (arith, h, k),
                  ),
                ),
                (
                  (
                    t,
                    (
                      refl,
                      λ es. let h = nodes_some (instance_of es x) in
                          let k = nodes_some (instance_of es y) in omega (arith, h, k),
                    ),
                  ),
                  tt,
                ),
              ),
            ),
          ),
        ),
      ),
    )

some_same : {A : Type 0} {p q : A} → Some p ≡ Some q → p ≡ q
some_same e = cc

-- a constant binds nothing
constant_binds : (f : PlainOperator) (u : Tree) (ds es : List Entry) → match_term (app f none) u ds ≡ Some es
    → es ≡ ds
constant_binds f (var n s) ds es e = cc
constant_binds f (app g none) ds es e = by_test (same_operator f g) e
  where
    by_test : (q : Bool) → elim q [ true ↦ Some ds | false ↦ None ] ≡ Some es → es ≡ ds
    by_test true k = sym (some_same k)
    by_test false k = cc
constant_binds f (app g (more t ts)) ds es e = by_test (same_operator f g) e
  where
    by_test : (q : Bool) → elim q [ true ↦ None | false ↦ None ] ≡ Some es → es ≡ ds
    by_test true k = cc
    by_test false k = cc

left_matched : (given e : Sides) (f : PlainOperator) (es : List Entry) → given.right ≡ app f none
    → matched_sides given e ≡ Some es → instance_of es given.left ≡ e.left
left_matched given e f es q k = by_first (match_term given.left e.left []) refl k
  where
    by_first : (o : Option (List Entry)) → match_term given.left e.left [] ≡ o
        → option_and_then (λ ds. match_term given.right e.right ds) o ≡ Some es → instance_of es given.left ≡ e.left
    by_first None h i = cc
    by_first (Some ds) h i =
        let same = constant_binds f e.right ds es (sym (ap (λ t. match_term t e.right ds) q) ∙ i) in
        ap (λ cs. instance_of cs given.left) same ∙ match_is_right given.left e.left ds h

given_lightens : (givens cs : List Sides) (e : Sides) (found : List Sides) → AreLighter cs givens
    → (elim givens [ [] ↦ None | given ∷ others ↦ option_map (λ es. map (sides_under es) cs) (matched_sides given e) ])
    ≡ Some found → weights found < weight e
given_lightens [] cs e found h q = cc
given_lightens (given ∷ others) cs e found h q = by_match (matched_sides given e) refl q
  where
    by_match : (o : Option (List Entry)) → matched_sides given e ≡ o
        → option_map (λ es. map (sides_under es) cs) o ≡ Some found → weights found < weight e
    by_match None i k = cc
    by_match (Some es) i k =
        let n = ap nodes (left_matched given e h.0 es h.1.0 i) in
        let w = h.1.1 es in
        let r = nodes_some e.right in
        subst (λ ds. weights ds < weight e) (some_same k) (omega (arith, n, w, r))

first_lightens : (o next : Option (List Sides)) (e : Sides) (found : List Sides)
    → (o ≡ Some found → weights found < weight e) → (next ≡ Some found → weights found < weight e)
    → (elim o [ None ↦ next | Some cs ↦ Some cs ]) ≡ Some found → weights found < weight e
first_lightens None next e found one others h = others h
first_lightens (Some cs) next e found one others h = one h

consequences_lighten : (rows : List PlainRow) (e : Sides) (found : List Sides) → AllLighten rows
    → first_consequences rows e ≡ Some found → weights found < weight e
consequences_lighten [] e found h q = cc
consequences_lighten (row ∷ rows) e found h q =
    first_lightens (consequences_by row e) (first_consequences rows e) e found
    (λ k. given_lightens (sides_of row.given) (flat_map sides_of row.consequences) e found h.0 k)
    (λ k. consequences_lighten rows e found h.1 k) q

-- what takes an equation's place weighs less
abbrev Lightens : Sides → Treatment → Type 0
Lightens e Drop = Unit {0}
Lightens e Contradict = Unit {0}
Lightens e (Replace others) = weights others < weight e
Lightens e (Keep rule) = Unit {0}

kept_lightens : (ranks : List Ranked) (e : Sides) (o : Option (List Sides))
    → ((found : List Sides) → o ≡ Some found → weights found < weight e) → Lightens e (replaced_or_kept ranks e o)
kept_lightens ranks e None h = tt
kept_lightens ranks e (Some found) h = h found refl

treated_lightens : (ranks : List Ranked) (e : Sides) → Lightens e (treatment_of ranks e)
treated_lightens ranks e = by_value (is_value e.left)
  where
    by_value : (v : Bool) → Lightens e (elim v [ true ↦ Contradict | false ↦ replaced_or_kept ranks e (deduce e) ])
    by_value true = tt
    by_value false =
        kept_lightens ranks e (deduce e)
        (λ found q.
        let rows = deduction_rows (sort_within e.left) in
        consequences_lighten rows e found (rows_lighten (sort_within e.left)) q)

turned_weighs : (e : Sides) → weight (truth_to_right e) ≡ weight e
turned_weighs e = by_test (is_value e.left && not (is_value e.right))
  where
    by_test : (q : Bool) → weight (cond q (flip e) e) ≡ weight e
    by_test true = omega arith
    by_test false = refl

carried : (d e : Sides) (t : Treatment) → weight d ≡ weight e → Lightens d t → Lightens e t
carried d e Drop q h = tt
carried d e Contradict q h = tt
carried d e (Replace others) q h = omega (arith, q, h)
carried d e (Keep rule) q h = tt

treatment_lightens : (ranks : List Ranked) (e : Sides) → Lightens e (treatment ranks e)
treatment_lightens ranks e = by_test (same_tree e.left e.right)
  where
    by_test : (q : Bool)
        → Lightens e (elim q [ true ↦ Drop | false ↦ treatment_of ranks (truth_to_right e) ])
    by_test true = tt
    by_test false =
        carried (truth_to_right e) e (treatment_of ranks (truth_to_right e)) (turned_weighs e)
        (treated_lightens ranks (truth_to_right e))

-- ---- what is enough stays enough

-- less is enough behind an equation that was dropped or made a rule
pub enough_without : (e d : Sides) (b c : ℕ) (waiting : List Sides) → Found e d b c
    → enough waiting c < enough (e ∷ waiting) b
enough_without e d b c waiting f =
    let h = weight_some e in
    let k = f.left in
    omega (arith, h, k)

-- and behind one in whose place others came
pub enough_instead : (e d : Sides) (b c : ℕ) (others waiting : List Sides) → Found e d b c
    → weights others < weight d → enough (others ++ waiting) c < enough (e ∷ waiting) b
enough_instead e d b c others waiting f h =
    let w = weights_append others waiting in
    let k = f.left in
    let l = f.small_left in
    let r = f.small_right in
    elim (leb_tells (suc c) b) [
      | inl i ↦ let j = i.1 in omega (arith, h, w, j, l, r)
      | inr i ↦
          let j = i.1 in
          let p : c ≡ b = omega (arith, j, k) in
          let v = ap weight (f.same p) in
          omega (arith, h, w, v, p)
    ]

-- ---- the number doesn't matter where it is enough

abbrev Adds : Type 0
Adds = ℕ → List Sides → Facts → ℕ → Work Facts

-- adding goes on by what becomes of the equation
abbrev arm : Adds → Manner → ℕ → List Sides → Facts → ℕ → Treatment → Work Facts
arm f manner made waiting facts c t = elim t [
  | Drop ↦ f made waiting facts c
  | Contradict ↦ f made waiting (with_contradiction facts) c
  | Replace others ↦ f made (others ++ waiting) facts c
  | Keep rule ↦ within_size (is_large rule.left || is_full facts)
      (f (suc made) waiting (with_rule manner.name (suc made) rule facts) c)
]

arms_same : (f g : Adds) (manner : Manner) (made : ℕ) (waiting : List Sides) (facts : Facts) (d : Sides) (c : ℕ)
    → ((k : ℕ) (fs : Facts) → f k waiting fs c ≡ g k waiting fs c)
    → ((others : List Sides) → weights others < weight d → (k : ℕ) (fs : Facts)
    → f k (others ++ waiting) fs c ≡ g k (others ++ waiting) fs c)
    → by_treatment f manner made waiting facts d c ≡ by_treatment g manner made waiting facts d c
arms_same f g manner made waiting facts d c without instead =
    by_cases (treatment manner.ranks d) (treatment_lightens manner.ranks d)
  where
    by_cases : (t : Treatment) → Lightens d t
        → arm f manner made waiting facts c t ≡ arm g manner made waiting facts c t
    by_cases Drop h = without made facts
    by_cases Contradict h = without made (with_contradiction facts)
    by_cases (Replace others) h = instead others h made facts
    by_cases (Keep rule) h =
        ap (within_size (is_large rule.left || is_full facts))
        (without (suc made) (with_rule manner.name (suc made) rule facts))

work_same : (w : Work Sides) (f g : Sides → ℕ → Work Facts) → ((d : Sides) (c : ℕ) → w ≡ Made d c → f d c ≡ g d c)
    → then_work w f ≡ then_work w g
work_same (Made d c) f g h = h d c refl
work_same OverLimit f g h = refl
work_same OverSize f g h = refl

-- two numbers give the same where both are enough
abbrev Agree : ℕ → ℕ → Manner → Type 0
Agree n m manner = (k : ℕ) (es : List Sides) (fs : Facts) (r : ℕ) → enough es r ≤ n → enough es r ≤ m
    → add_waiting n manner k es fs r ≡ add_waiting m manner k es fs r

step_same : (n m : ℕ) (manner : Manner) → Agree n m manner → (made : ℕ) (e : Sides) (waiting : List Sides)
    (facts : Facts) (b : ℕ)
    → ((d : Sides) (c : ℕ) → Found e d b c → (enough waiting c ≤ n) × (enough waiting c ≤ m))
    → ((d : Sides) (c : ℕ) (others : List Sides) → Found e d b c → weights others < weight d
    → (enough (others ++ waiting) c ≤ n) × (enough (others ++ waiting) c ≤ m))
    → then_work (normal_sides (serving manner facts) e b)
    (λ found c. by_treatment (λ k es fs r. add_waiting n manner k es fs r) manner made waiting facts found c)
    ≡ then_work (normal_sides (serving manner facts) e b)
    (λ found c. by_treatment (λ k es fs r. add_waiting m manner k es fs r) manner made waiting facts found c)
step_same n m manner go made e waiting facts b without instead =
    let f : Adds = λ k es fs r. add_waiting n manner k es fs r in
    let g : Adds = λ k es fs r. add_waiting m manner k es fs r in
    work_same (normal_sides (serving manner facts) e b)
    (λ found c. by_treatment f manner made waiting facts found c)
    (λ found c. by_treatment g manner made waiting facts found c) (λ d c q.
    let found = sides_found (serving manner facts) e d b c q in
    arms_same f g manner made waiting facts d c
    (λ k fs. let h = without d c found in go k waiting fs c h.0 h.1)
    (λ others l k fs. let h = instead d c others found l in go k (others ++ waiting) fs c h.0 h.1))

agree : (n m : ℕ) (manner : Manner) → Agree n m manner
agree zero m manner k es fs r h i = absurd (omega (arith, h))
agree (suc n) zero manner k es fs r h i = absurd (omega (arith, i))
agree (suc n) (suc m) manner k [] fs r h i = refl
agree (suc n) (suc m) manner k (e ∷ es) fs r h i =
    step_same n m manner (agree n m manner) k e es fs r
    (λ d c f. let l = enough_without e d r c es f in (omega (arith, l, h), omega (arith, l, i)))
    (λ d c others f w. let l = enough_instead e d r c others es f w in (omega (arith, l, h), omega (arith, l, i)))

-- where the number is enough, adding goes on with the same number
pub goes_on : (n : ℕ) (manner : Manner) (made : ℕ) (e : Sides) (waiting : List Sides) (facts : Facts) (b : ℕ)
    → enough (e ∷ waiting) b ≤ n → add_waiting n manner made (e ∷ waiting) facts b
    ≡ then_work (normal_sides (serving manner facts) e b)
    (λ found c. by_treatment (λ k es fs r. add_waiting n manner k es fs r) manner made waiting facts found c)
goes_on zero manner made e waiting facts b h = absurd (omega (arith, h))
goes_on (suc n) manner made e waiting facts b h =
    step_same n (suc n) manner (agree n (suc n) manner) made e waiting facts b
    (λ d c f. let l = enough_without e d b c waiting f in (omega (arith, l, h), omega (arith, l, h)))
    (λ d c others f w. let l = enough_instead e d b c others waiting f w in (omega (arith, l, h), omega (arith, l, h)))

-- so it does at the start, where the equation may be large
pub starts : (n : ℕ) (manner : Manner) (e : Sides) (facts : Facts) (b : ℕ) → most_taken b ≤ n
    → add_waiting n manner 0 (e ∷ []) facts b
    ≡ then_work (normal_sides (serving manner facts) e b)
    (λ found c. by_treatment (λ k es fs r. add_waiting n manner k es fs r) manner 0 [] facts found c)
starts zero manner e facts b h = absurd (omega (arith, h))
starts (suc n) manner e facts b h =
    step_same n (suc n) manner (agree n (suc n) manner) 0 e [] facts b
    (λ d c f. let l = f.left in (omega (arith, l, h), omega (arith, l, h)))
    (λ d c others f w.
    let l = f.left in
    let v = weights_append others [] in
    let p = f.small_left in
    let q = f.small_right in
    (omega (arith, l, h, w, v, p, q), omega (arith, l, h, w, v, p, q)))

-- what becomes of what waits, as the law says it
pub lighter : (rules : List Sides) (e d : Sides) (b c : ℕ) (waiting : List Sides) → normal_sides rules e b ≡ Made d c
    → enough waiting c < enough (e ∷ waiting) b
lighter rules e d b c waiting q = enough_without e d b c waiting (sides_found rules e d b c q)

pub lighter_instead : (rules : List Sides) (ranks : List Ranked) (e d : Sides) (b c : ℕ) (others waiting : List Sides)
    → normal_sides rules e b ≡ Made d c → treatment ranks d ≡ Replace others
    → enough (others ++ waiting) c < enough (e ∷ waiting) b
lighter_instead rules ranks e d b c others waiting q t =
    enough_instead e d b c others waiting (sides_found rules e d b c q)
    (subst (Lightens d) t (treatment_lightens ranks d))

pub first_enough : (rules : List Sides) (ranks : List Ranked) (e d : Sides) (b c : ℕ) (others : List Sides)
    → normal_sides rules e b ≡ Made d c → treatment ranks d ≡ Replace others → enough others c ≤ most_taken b
first_enough rules ranks e d b c others q t =
    let f = sides_found rules e d b c q in
    let w = subst (Lightens d) t (treatment_lightens ranks d) in
    let l = f.left in
    let p = f.small_left in
    let r = f.small_right in
    omega (arith, l, w, p, r)

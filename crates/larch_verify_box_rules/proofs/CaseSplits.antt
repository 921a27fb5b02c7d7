-- What two boxes show together.
use Rattle.std.proofs.Common.{◌≡◌, ◌==◌, length, arith, Bool, true, false, ◌&&◌, if◌then◌else◌, IsTrue, ◌↔◌, List, []}
use Rattle.std.proofs.Common.{◌∷◌, Option, Some, None, refl, sym, ◌∙◌, ap}
use Rattle.std.specs.Option.{option_and_then}
use Rattle.std.proofs.lemmas.Bool.Decides.{Decides-eqb}
use Rattle.larch_base.proofs.Bools.{and_not_left, and_not_right, and_both}
use Rattle.larch_term.proofs.Decided.{statements_told}
use Rattle.larch_term.specs.Equality.{same_statement}
use Rattle.larch_term.specs.Tree.{Tree}
use Rattle.larch_term.specs.Truth.{truth}
use Rattle.larch_term.specs.Variable.{occurrences}
use Rattle.larch_term.specs.declared.statement.Statement.{Statement}
use Rattle.larch_term.specs.declared.statement.Statement.TheVariants.{Equation}
use Rattle.larch_calculus.specs.Formula.{falsity}
use Rattle.larch_verify_meaning.specs.BoxRules.{equation_alone, only_left_side, supposes, common_result, cases_of}
use Rattle.larch_verify_meaning.specs.Events.{PlainBox}
use Rattle.larch_verify_meaning.specs.Matching.{is_empty, same_statements}
use Rattle.larch_verify_box_rules.specs.Cases.{are_cases}
use Rattle.larch_verify_box_rules.proofs.Boxes.{empty_same, statements_same}

-- the formula is the left side of the only hypothesis
pub by_formula : (c d : PlainBox × Statement) (f : Tree) (r : Option Statement) → Some f ≡ only_left_side c.0.hypotheses
    → r ≡ common_result c d f → r ≡ cases_of c d
by_formula c d f r p q = q ∙ ap (option_and_then (common_result c d)) p

pub no_formula : (c d : PlainBox × Statement) → None ≡ only_left_side c.0.hypotheses → None ≡ cases_of c d
no_formula c d p = ap (option_and_then (common_result c d)) p

if_nothing : (b : Bool) (o : Option Statement) → None ≡ o → None ≡ (if b then o else None)
if_nothing true o e = e
if_nothing false o e = refl

if_not : (b : Bool) (o : Option Statement) → b ≡ false → None ≡ (if b then o else None)
if_not true o e = absurd cc
if_not false o e = refl

if_so : (b : Bool) (o r : Option Statement) → b ≡ true → r ≡ o → r ≡ (if b then o else None)
if_so true o r e q = q
if_so false o r e q = absurd cc

-- the first box's result is no equation
pub no_equation : (c d : PlainBox × Statement) (f : Tree) → None ≡ equation_alone c.1 → None ≡ common_result c d f
no_equation c d f e =
    if_nothing (supposes c.0 f truth
    && (supposes d.0 f falsity && (is_empty (occurrences f) && same_statement c.1 d.1)))
    (equation_alone c.1) e

last_not : (a b c : Bool) → c ≡ false → (a && (b && c)) ≡ false
last_not a b c e = and_not_right a (b && c) (and_not_right b c e)

-- the results differ
pub results_differ : (c d : PlainBox × Statement) (f : Tree) (r : Bool) → (IsTrue r ↔ (c.1 ≡ d.1)) → r ≡ false
    → None ≡ common_result c d f
results_differ c d f r h e =
    if_not (supposes c.0 f truth && (supposes d.0 f falsity && (is_empty (occurrences f) && same_statement c.1 d.1)))
    (equation_alone c.1)
    (last_not (supposes c.0 f truth) (supposes d.0 f falsity) (is_empty (occurrences f) && same_statement c.1 d.1)
    (and_not_right (is_empty (occurrences f)) (same_statement c.1 d.1) (sym (statements_told c.1 d.1 r h) ∙ e)))

-- the formula has a variable
pub has_variables : (c d : PlainBox × Statement) (f : Tree) (r : Bool) → (IsTrue r ↔ (occurrences f ≡ [])) → r ≡ false
    → None ≡ common_result c d f
has_variables c d f r h e =
    if_not (supposes c.0 f truth && (supposes d.0 f falsity && (is_empty (occurrences f) && same_statement c.1 d.1)))
    (equation_alone c.1)
    (last_not (supposes c.0 f truth) (supposes d.0 f falsity) (is_empty (occurrences f) && same_statement c.1 d.1)
    (and_not_left (is_empty (occurrences f)) (same_statement c.1 d.1) (sym (empty_same (occurrences f) r h) ∙ e)))

either_not : (a b c : Bool) → (a && b) ≡ false → (a && (b && c)) ≡ false
either_not true true c e = absurd cc
either_not true false c e = refl
either_not false b c e = refl

-- the boxes don't suppose both truth values
pub no_cases : (c d : PlainBox × Statement) (f : Tree) (b : Bool) → b ≡ are_cases c.0 d.0 f → b ≡ false
    → None ≡ common_result c d f
no_cases c d f b h e =
    if_not (supposes c.0 f truth && (supposes d.0 f falsity && (is_empty (occurrences f) && same_statement c.1 d.1)))
    (equation_alone c.1)
    (either_not (supposes c.0 f truth) (supposes d.0 f falsity) (is_empty (occurrences f) && same_statement c.1 d.1)
    (sym h ∙ e))

all_four : (a b c d : Bool) → (a && b) ≡ true → c ≡ true → d ≡ true → (a && (b && (c && d))) ≡ true
all_four true true c d e p q = and_both c d p q
all_four true false c d e p q = absurd cc
all_four false b c d e p q = absurd cc

-- all is as it should be
pub both_cases : (c d : PlainBox × Statement) (f : Tree) (b r q : Bool) (s : Option Statement)
    → b ≡ are_cases c.0 d.0 f → b ≡ true
    → (IsTrue r ↔ (c.1 ≡ d.1)) → r ≡ true → (IsTrue q ↔ (occurrences f ≡ [])) → q ≡ true → s ≡ equation_alone c.1
    → s ≡ common_result c d f
both_cases c d f b r q s h e k m v w z =
    if_so (supposes c.0 f truth && (supposes d.0 f falsity && (is_empty (occurrences f) && same_statement c.1 d.1)))
    (equation_alone c.1) s
    (all_four (supposes c.0 f truth) (supposes d.0 f falsity) (is_empty (occurrences f)) (same_statement c.1 d.1)
    (sym h ∙ e) (sym (empty_same (occurrences f) q v) ∙ w) (sym (statements_told c.1 d.1 r k) ∙ m)) z

-- one of the boxes isn't there
pub first_missing : (o q : Option (PlainBox × Statement)) → None ≡ o
    → None ≡ option_and_then (λ d. option_and_then (cases_of d) q) o
first_missing o q e = ap (option_and_then (λ d. option_and_then (cases_of d) q)) e

pub second_missing : (o q : Option (PlainBox × Statement)) (c : PlainBox × Statement) → Some c ≡ o → None ≡ q
    → None ≡ option_and_then (λ d. option_and_then (cases_of d) q) o
second_missing o q c e f =
    ap (option_and_then (cases_of c)) f ∙ ap (option_and_then (λ d. option_and_then (cases_of d) q)) e

-- both are
pub both_found : (o q : Option (PlainBox × Statement)) (c d : PlainBox × Statement) (r : Option Statement) → Some c ≡ o
    → Some d ≡ q
    → r ≡ cases_of c d → r ≡ option_and_then (λ d. option_and_then (cases_of d) q) o
both_found o q c d r e f k =
    k ∙ ap (option_and_then (cases_of c)) f ∙ ap (option_and_then (λ d. option_and_then (cases_of d) q)) e

-- what a box supposes, where the pool has grown
pub supposes_same : (b : PlainBox) (c : PlainBox) (f g v w : Tree) (r : Bool) → r ≡ supposes b f v → b ≡ c → f ≡ g
    → v ≡ w → r ≡ supposes c g w
supposes_same b c f g v w r e p q s = e ∙ (λ i. supposes (p i) (q i) (s i))

pub both_suppose : (b d : PlainBox) (f : Tree) (r q : Bool) → r ≡ supposes b f truth → r ≡ true
    → q ≡ supposes d f falsity
    → q ≡ are_cases b d f
both_suppose b d f r q e h k = k ∙ ap (λ c. c && supposes d f falsity) (sym (sym e ∙ h))

pub first_fails : (b d : PlainBox) (f : Tree) (r : Bool) → r ≡ supposes b f truth → r ≡ false → r ≡ are_cases b d f
first_fails b d f r e h = h ∙ sym (and_not_left (supposes b f truth) (supposes d f falsity) (sym e ∙ h))

empty_counted : {X : Type 0} (xs : List X) → length xs ≡ 0 → is_empty xs ≡ true
empty_counted [] e = refl
empty_counted (x ∷ xs) e = absurd (omega (arith, e))

-- no parts, and the same hypotheses
pub supposes_told : (b : PlainBox) (f v : Tree) (r q : Bool) → r ≡ true → r ≡ (length b.parts == 0)
    → (IsTrue q ↔ (b.hypotheses ≡ Equation f v ∷ [])) → q ≡ supposes b f v
supposes_told b f v r q e h k =
    statements_same b.hypotheses (Equation f v ∷ []) q k
    ∙ ap (λ c. c && same_statements b.hypotheses (Equation f v ∷ []))
    (sym (empty_counted b.parts ((Decides-eqb (length b.parts) 0).0 (sym h ∙ e))))

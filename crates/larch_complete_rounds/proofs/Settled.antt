-- The rule that an equation makes.
use Rattle.std.specs.Prelude.{◌≡◌, ◌↔◌, Bool, true, false, IsTrue, if◌then◌else◌, List, Option, Some, None, Ok, Err}
use Rattle.std.specs.Prelude.{refl}
use Rattle.std.proofs.Common.{ap, sym, ◌∙◌}
use Rattle.larch_complete_meaning.specs.Rounds.{Task, orient, reduce, settle}
use Rattle.larch_complete_meaning.specs.Steps.{Step, after}
use Rattle.larch_complete_meaning.specs.declared.answer.CompletionAnswer.{CompletionAnswer}
use Rattle.larch_complete_meaning.specs.declared.answer.CompletionAnswer.TheVariants.{Unoriented}
use Rattle.larch_complete_rounds.specs.Halt.{Tells}
use Rattle.larch_complete_rounds.specs.declared.halt.Halt.{Halt}
use Rattle.larch_complete_rounds.specs.declared.halt.Halt.TheVariants.{Ends, Memory}
use Rattle.larch_order.specs.Greater.{greater}
use Rattle.larch_order.specs.declared.precedence.Ranked.{Ranked}
use Rattle.larch_rewrite_meaning.specs.Sides.{Sides, flip}
use Rattle.larch_term.specs.Equality.{same_tree}
use Rattle.larch_term.specs.declared.statement.Statement.TheVariants.{Equation}
use Rattle.larch_term.proofs.Decided.{tree_Decides}

-- ---- the greater side

pub oriented_forward : (ranks : List Ranked) (e : Sides) → greater ranks e.left e.right ≡ true
    → orient ranks e ≡ Ok e
oriented_forward ranks e h =
    ap (λ b. if b then Ok e else if greater ranks e.right e.left then Ok (flip e)
    else Err (Unoriented (Equation e.left e.right))) h

pub oriented_back : (ranks : List Ranked) (e : Sides) → greater ranks e.left e.right ≡ false
    → greater ranks e.right e.left ≡ true → orient ranks e ≡ Ok (flip e)
oriented_back ranks e h k =
    ap (λ b. if b then Ok e else if greater ranks e.right e.left then Ok (flip e)
    else Err (Unoriented (Equation e.left e.right))) h
    ∙ ap (λ b. if b then Ok (flip e) else Err (Unoriented (Equation e.left e.right))) k

pub not_oriented : (ranks : List Ranked) (e : Sides) → greater ranks e.left e.right ≡ false
    → greater ranks e.right e.left ≡ false → orient ranks e ≡ Err (Unoriented (Equation e.left e.right))
not_oriented ranks e h k =
    ap (λ b. if b then Ok e else if greater ranks e.right e.left then Ok (flip e)
    else Err (Unoriented (Equation e.left e.right))) h
    ∙ ap (λ b. if b then Ok (flip e) else Err (Unoriented (Equation e.left e.right))) k

-- ---- the whole

abbrev further : Task → Sides → Step (Option Sides)
further task found = elim (same_tree found.left found.right) [
  | true ↦ Ok None
  | false ↦ after (orient task.ranks found) (λ rule. Ok (Some rule))
]

pub same_settled : (task : Task) (rules : List Sides) (e found : Sides) → reduce task rules e ≡ Ok found
    → found.left ≡ found.right → settle task rules e ≡ Ok None
same_settled task rules e found p q =
    ap (λ s. after s (further task)) p
    ∙ ap (λ b. elim b [ true ↦ Ok None | false ↦ after (orient task.ranks found) (λ rule. Ok (Some rule)) ])
    ((tree_Decides found.left found.right).1 q)

different : (task : Task) (rules : List Sides) (e found : Sides) → reduce task rules e ≡ Ok found
    → (found.left ≡ found.right → ⊥)
    → settle task rules e ≡ after (orient task.ranks found) (λ rule. Ok (Some rule))
different task rules e found p n =
    ap (λ s. after s (further task)) p
    ∙ by_test (same_tree found.left found.right) (tree_Decides found.left found.right).0
  where
    by_test : (b : Bool) → (b ≡ true → found.left ≡ found.right)
        → elim b [ true ↦ Ok None | false ↦ after (orient task.ranks found) (λ rule. Ok (Some rule)) ]
        ≡ after (orient task.ranks found) (λ rule. Ok (Some rule))
    by_test true h = absurd (n (h refl))
    by_test false h = refl

pub rule_settled : (task : Task) (rules : List Sides) (e found rule : Sides) → reduce task rules e ≡ Ok found
    → (found.left ≡ found.right → ⊥) → orient task.ranks found ≡ Ok rule → settle task rules e ≡ Ok (Some rule)
rule_settled task rules e found rule p n o =
    different task rules e found p n ∙ ap (λ s. after s (λ r. Ok (Some r))) o

pub first_halts : (task : Task) (rules : List Sides) (e : Sides) (h : Halt) → Tells (reduce task rules e) h
    → Tells (settle task rules e) h
first_halts task rules e (Ends answer) k = ap (λ s. after s (further task)) k
first_halts task rules e Memory k = tt

pub second_halts : (task : Task) (rules : List Sides) (e found : Sides) (h : Halt) → reduce task rules e ≡ Ok found
    → (found.left ≡ found.right → ⊥) → Tells (orient task.ranks found) h → Tells (settle task rules e) h
second_halts task rules e found (Ends answer) p n k =
    different task rules e found p n ∙ ap (λ s. after s (λ r. Ok (Some r))) k
second_halts task rules e found Memory p n k = tt

-- ---- what a test tells

pub told_not : (P : Type 0) (b : Bool) → b ≡ false → (IsTrue b ↔ P) → P → ⊥
told_not P b e k p = true_false (sym (k.1 p) ∙ e)
  where
    true_false : true ≡ false → ⊥
    true_false q = cc

-- The facts of a level, and how an equation is added to them.
use Rattle.std.specs.Prelude.{ℕ, zero, suc, ◌+◌, ◌*◌, ◌&&◌, ◌||◌, nat_lt, Bool, true, false, not, if◌then◌else◌, List}
use Rattle.std.specs.Prelude.{[], ◌∷◌, ◌++◌, map, length, filter, bytes_eq, Option, Some, None, option_map}
use Rattle.std.specs.Prelude.{option_and_then}
use Rattle.std.specs.List.{flat_map}
use Rattle.larch_base.specs.declared.fact_name.FactLetter.{FactLetter}
use Rattle.larch_base.specs.declared.fact_name.FactName.{FactName}
use Rattle.larch_base.specs.declared.limits.TheConstants.{MAX_FACTS, MAX_TERM_NODES}
use Rattle.larch_term.specs.Tree.{Tree, var, app}
use Rattle.larch_term.specs.BuiltIn.{bool_sort}
use Rattle.larch_term.specs.Equality.{same_tree}
use Rattle.larch_term.specs.Sorts.{sort_of}
use Rattle.larch_term.specs.Truth.{truth}
use Rattle.larch_term.specs.declared.substitution.Entry.{Entry}
use Rattle.larch_rewrite_meaning.specs.CalculusFormula.{falsity, equivalence, equality}
use Rattle.larch_rewrite_meaning.specs.TablesRow.{PlainRow}
use Rattle.larch_rewrite_meaning.specs.TablesTables.{deduction_rows}
use Rattle.larch_order.specs.Greater.{greater}
use Rattle.larch_order.specs.declared.precedence.Ranked.{Ranked}
use Rattle.larch_rewrite_meaning.specs.Work.{Work, Made, OverLimit, then_work, within_size, is_large}
use Rattle.larch_rewrite_meaning.specs.Sides.{Sides, sides_of, sides_under, flip}
use Rattle.larch_rewrite_meaning.specs.Matching.{match_term}
use Rattle.larch_rewrite_meaning.specs.Rewriting.{sort_at}
use Rattle.larch_rewrite_meaning.specs.NormalForm.{normal}

-- a fact: a rule with its name
pub record Fact : Type 0 where
  pub name : FactName
  pub sides : Sides

-- the facts of a level, in order, and whether they contradict each other
pub record Facts : Type 0 where
  pub rules : List Fact
  pub contradictory : Bool

-- no facts
abbrev pub no_facts : Facts
no_facts = record { rules = []; contradictory = false }

-- the rules of facts
abbrev pub rules_of : List Fact → List Sides
rules_of facts = map (λ fact. fact.sides) facts

-- what is added as a whole has a name's first part
abbrev pub whole_name : FactLetter → ℕ → FactName
whole_name letter number = record { letter = letter; number = number; part = 1 }

-- whether a term is true or false
abbrev pub is_value : Tree → Bool
is_value t = same_tree t truth || same_tree t falsity

-- a truth value on the left alone goes to the right
abbrev pub truth_to_right : Sides → Sides
truth_to_right e = if is_value e.left && not (is_value e.right) then flip e else e

-- the sort at which a term's head stands
abbrev pub sort_within : Tree → List ℕ
sort_within (var n s) = s
sort_within (app f ts) = sort_at f

-- the substitution under which one equation is another, the left sides being looked at first
abbrev pub matched_sides : Sides → Sides → Option (List Entry)
matched_sides given e = option_and_then (λ es. match_term given.right e.right es) (match_term given.left e.left [])

-- the consequences of a deduction row, where its equation matches
abbrev pub consequences_by : PlainRow → Sides → Option (List Sides)
consequences_by row e = elim (sides_of row.given) [
  | [] ↦ None
  | given ∷ others ↦
      option_map (λ es. map (sides_under es) (flat_map sides_of row.consequences)) (matched_sides given e)
]

-- those of the first row whose equation matches
abbrev pub first_consequences : List PlainRow → Sides → Option (List Sides)
first_consequences [] e = None
first_consequences (row ∷ rows) e = elim (consequences_by row e) [
  | None ↦ first_consequences rows e
  | Some found ↦ Some found
]

-- what follows from an equation by the first deduction row that matches
abbrev pub deduce : Sides → Option (List Sides)
deduce e = first_consequences (deduction_rows (sort_within e.left)) e

-- that two terms are equal, or at Bool equivalent
abbrev pub equality_term : Sides → Tree
equality_term e =
    if bytes_eq (sort_of e.left) bool_sort then equivalence e.left e.right
    else equality (sort_of e.left) e.left e.right

-- the rule that an equation makes: from the greater side to the other; where none is, that their equality is true
abbrev pub orient : List Ranked → Sides → Sides
orient ranks e =
    if greater ranks e.left e.right then e else
    if greater ranks e.right e.left then flip e else
    record { left = equality_term e; right = truth }

-- what becomes of an equation whose sides are normal: it is dropped, or contradicts; or others take its place, or it is
-- a rule
pub data Treatment : Type 0 where
  Drop : Treatment
  Contradict : Treatment
  Replace : List Sides → Treatment
  Keep : Sides → Treatment

-- other equations in place of one, where they follow from it, or else its rule
abbrev pub replaced_or_kept : List Ranked → Sides → Option (List Sides) → Treatment
replaced_or_kept ranks e None = Keep (orient ranks e)
replaced_or_kept ranks e (Some found) = Replace found

-- of two truth values one is the other's opposite; else what follows, or the rule
abbrev pub treatment_of : List Ranked → Sides → Treatment
treatment_of ranks e = elim (is_value e.left) [
  | true ↦ Contradict
  | false ↦ replaced_or_kept ranks e (deduce e)
]

-- what becomes of an equation whose sides are normal
abbrev pub treatment : List Ranked → Sides → Treatment
treatment ranks e = elim (same_tree e.left e.right) [
  | true ↦ Drop
  | false ↦ treatment_of ranks (truth_to_right e)
]

-- the facts with a rule more, named by a part
abbrev pub with_rule : FactName → ℕ → Sides → Facts → Facts
with_rule name part rule facts = record facts {
  rules = facts.rules ++ record { name = record name { part = part }; sides = rule } ∷ [];
}

-- the facts, of which it is known that they contradict each other
abbrev pub with_contradiction : Facts → Facts
with_contradiction facts = record facts { contradictory = true }

-- whether there are as many facts as a level may have
abbrev pub is_full : Facts → Bool
is_full facts = not (nat_lt (length facts.rules) MAX_FACTS)

-- both sides in normal form, the left one first
abbrev pub normal_sides : List Sides → Sides → ℕ → Work Sides
normal_sides rules e b =
    then_work (normal rules e.left b) (λ l c.
    then_work (normal rules e.right c) (λ r d. Made (record { left = l; right = r }) d))

-- how equations are added: which facts serve as rules, by which precedence rules are oriented, and under which name
pub record Manner : Type 0 where
  pub serves : Fact → Bool
  pub ranks : List Ranked
  pub name : FactName

-- the rules that serve
abbrev pub serving : Manner → Facts → List Sides
serving manner facts = rules_of (filter manner.serves facts.rules)

-- How adding goes on where so many rules were made, these equations wait, and this one, with normal sides, is taken:
-- what follows from it is added in its place.
abbrev pub by_treatment : (ℕ → List Sides → Facts → ℕ → Work Facts) → Manner → ℕ → List Sides → Facts → Sides → ℕ
    → Work Facts
by_treatment next manner made waiting facts e b = elim (treatment manner.ranks e) [
  | Drop ↦ next made waiting facts b
  | Contradict ↦ next made waiting (with_contradiction facts) b
  | Replace others ↦ next made (others ++ waiting) facts b
  | Keep rule ↦ within_size (is_large rule.left || is_full facts)
      (next (suc made) waiting (with_rule manner.name (suc made) rule facts) b)
]

-- equations that wait are added in order; the first number falls at each one that is taken, and never comes to 0
abbrev pub add_waiting : ℕ → Manner → ℕ → List Sides → Facts → ℕ → Work Facts
add_waiting zero manner made waiting facts b = OverLimit
add_waiting (suc n) manner made [] facts b = Made facts b
add_waiting (suc n) manner made (e ∷ waiting) facts b =
    then_work (normal_sides (serving manner facts) e b)
    (λ found c. by_treatment (λ k es fs r. add_waiting n manner k es fs r) manner made waiting facts found c)

-- more equations than an adding takes
abbrev pub most_taken : ℕ → ℕ
most_taken b = (4 * MAX_TERM_NODES + 4) * (b + 1)

-- the greatest number in a fact's name
abbrev pub max_fact_number : ℕ
max_fact_number = 4_294_967_295

-- an equation is added to facts under a name, with a budget
unfoldable pub add : Manner → Sides → Facts → ℕ → Work Facts
add manner e facts b =
    within_size (nat_lt max_fact_number manner.name.number) (add_waiting (most_taken b) manner 0 (e ∷ []) facts b)

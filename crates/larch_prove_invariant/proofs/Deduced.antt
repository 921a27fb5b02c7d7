-- What the definition deduces from an equation follows by the number of a deduction row.
use Rattle.std.specs.Prelude.{◌≡◌, ◌<◌, ◌≤◌, ◌-◌, ◌==◌, ℕ, zero, suc, Bool, true, false, cond, List, [], ◌∷◌, length}
use Rattle.std.specs.Prelude.{map, slice_get, Option, Some, None, option_map, option_and_then, refl}
use Rattle.std.specs.List.{flat_map}
use Rattle.std.proofs.Common.{ap, ap₂, arith, subst, ◌∙◌}
use Rattle.std.proofs.lemmas.Bool.Decides.{Decides-eqb}
use Rattle.larch_base.proofs.Options.{some_inj}
use Rattle.larch_base.specs.ByNumber.{numbered}
use Rattle.larch_term.specs.BuiltIn.{bool_sort, built_in}
use Rattle.larch_term.specs.Operator.{PlainOperator}
use Rattle.larch_term.specs.OperatorKey.{operator_Decides, same_operator}
use Rattle.larch_term.specs.Substitution.{instance_of, substituted_statement}
use Rattle.larch_term.specs.Tree.{Tree, var, app, none, more}
use Rattle.larch_term.specs.declared.built_in.BuiltIn.TheVariants.{False, True}
use Rattle.larch_term.specs.declared.statement.Statement.{Statement}
use Rattle.larch_term.specs.declared.statement.Statement.TheVariants.{Equation, Generated, Partitioned}
use Rattle.larch_term.specs.declared.substitution.Entry.{Entry}
use Rattle.larch_calculus.specs.Formula.{conjunction, disjunction, equality, equivalence, implication, negation}
use Rattle.larch_derive.specs.TablesRow.{PlainRow}
use Rattle.larch_derive.specs.TablesSpelling.{a, b, x, y}
use Rattle.larch_derive.specs.TablesTables.{deduced_at_bool, deduced_at_each, deduction_rows}
use Rattle.larch_derive_formulas.specs.Consequences.{Follows}
use Rattle.larch_methods.specs.RewriteMeaningMatching.{match_term}
use Rattle.larch_methods.specs.RewriteMeaningSides.{Sides, sides_of, sides_under}
use Rattle.larch_methods.proofs.RewriteMeaningMatches.{match_is_right}
use Rattle.larch_methods.specs.ProveMeaningFacts.{consequences_by, deduce, first_consequences}
use Rattle.larch_methods.specs.ProveMeaningFacts.{matched_sides, sort_within}
use Rattle.larch_methods.specs.ProvePlansPlanning.{equate}

-- ---- what is deduced follows by a number

-- the right side of the row's equation is a constant, and all its consequences are equations
abbrev AreEquations : List Statement → Type 0
AreEquations [] = Unit {0}
AreEquations (Equation l r ∷ ss) = AreEquations ss
AreEquations (Generated s fs ∷ ss) = ⊥
AreEquations (Partitioned s fs ∷ ss) = ⊥

record IsDeduction (row : PlainRow) : Type 0 where
  left : Tree
  value : PlainOperator
  given : row.given ≡ Equation left (app value none)
  equations : AreEquations row.consequences

abbrev AreDeductions : List PlainRow → Type 0
AreDeductions [] = Unit {0}
AreDeductions (row ∷ rows) = IsDeduction row × AreDeductions rows

at_bool : (l : Tree) (c : PlainOperator) (cs : List Statement) → AreEquations cs
    → IsDeduction (deduced_at_bool (Equation l (app c none)) cs)
at_bool l c cs h = record { left = l; value = c; given = refl; equations = h }

at_each : (l : Tree) (c : PlainOperator) (cs : List Statement) → AreEquations cs
    → IsDeduction (deduced_at_each (Equation l (app c none)) cs)
at_each l c cs h = record { left = l; value = c; given = refl; equations = h }

rows_deduce : (s : List ℕ) → AreDeductions (deduction_rows s)
rows_deduce s =
    let yes = built_in True bool_sort in
    let no = built_in False bool_sort in (
      at_bool (conjunction x y) yes _ tt,
      (
        at_bool (disjunction x y) no _ tt,
        (
          at_bool (negation x) yes _ tt,
          (
            at_bool (negation x) no _ tt,
            (
              at_bool (implication x y) no _ tt,
              (at_each (equality s (a s) (b s)) yes _ tt, (at_bool (equivalence x y) yes _ tt, tt)),
            ),
          ),
        ),
      ),
    )

-- the row by which consequences are found, with its place
record FoundAt (rows : List PlainRow) (e : Sides) (found : List Sides) : Type 0 where
  index : ℕ
  row : PlainRow
  stands : slice_get rows index ≡ Some row
  within : index < length rows
  deduces : IsDeduction row
  by_it : consequences_by row e ≡ Some found

found_later : (row : PlainRow) (rows : List PlainRow) (e : Sides) (found : List Sides) → FoundAt rows e found
    → FoundAt (row ∷ rows) e found
found_later row rows e found f = record {
  index = suc f.index;
  row = f.row;
  stands = f.stands;
  within = omega (arith, f.within);
  deduces = f.deduces;
  by_it = f.by_it;
}

found_by : (o : Option (List Sides)) (row : PlainRow) (rows : List PlainRow) (e : Sides) (found : List Sides)
    → IsDeduction row → consequences_by row e ≡ o → (first_consequences rows e ≡ Some found → FoundAt rows e found)
    → (elim o [ None ↦ first_consequences rows e | Some cs ↦ Some cs ]) ≡ Some found → FoundAt (row ∷ rows) e found
found_by None row rows e found d q next h = found_later row rows e found (next h)
found_by (Some cs) row rows e found d q next h =
    record { index = zero; row = row; stands = refl; within = omega arith; deduces = d; by_it = q ∙ h }

found_at : (rows : List PlainRow) (e : Sides) (found : List Sides) → AreDeductions rows
    → first_consequences rows e ≡ Some found → FoundAt rows e found
found_at [] e found d h = cc
found_at (row ∷ rows) e found d h =
    found_by (consequences_by row e) row rows e found d.0 refl (λ k. found_at rows e found d.1 k) h

-- a constant matches itself alone, and binds nothing
constant_matches : (c : PlainOperator) (t : Tree) (ds es : List Entry) → match_term (app c none) t ds ≡ Some es
    → (ds ≡ es) × (app c none ≡ t)
constant_matches c (var n s) ds es h = cc
constant_matches c (app g none) ds es h = by_test (same_operator c g) (operator_Decides c g).0 h
  where
    by_test : (b : Bool) → (b ≡ true → c ≡ g) → (elim b [ true ↦ Some ds | false ↦ None ]) ≡ Some es
        → (ds ≡ es) × (app c none ≡ app g none)
    by_test true k q = (some_inj q, ap (λ f. app f none) (k refl))
    by_test false k q = cc
constant_matches c (app g (more t ts)) ds es h = by_test (same_operator c g) h
  where
    by_test : (b : Bool) → (elim b [ true ↦ None | false ↦ None ]) ≡ Some es
        → (ds ≡ es) × (app c none ≡ app g (more t ts))
    by_test true q = cc
    by_test false q = cc

-- the consequences, as statements and as sides
consequences_are : (es : List Entry) (ss : List Statement) → AreEquations ss
    → map (substituted_statement es) ss ≡ map equate (map (sides_under es) (flat_map sides_of ss))
consequences_are es [] h = refl
consequences_are es (Equation l r ∷ ss) h =
    ap (λ us. Equation (instance_of es l) (instance_of es r) ∷ us) (consequences_are es ss h)
consequences_are es (Generated s fs ∷ ss) h = absurd h
consequences_are es (Partitioned s fs ∷ ss) h = absurd h

-- terms for a row's variables make its equation the one that it matches, and its consequences those that are found
record Matched (row : PlainRow) (e : Sides) (found : List Sides) : Type 0 where
  by : List Entry
  equation_is : substituted_statement by row.given ≡ equate e
  found_are : map (substituted_statement by) row.consequences ≡ map equate found

matched_by : (row : PlainRow) (e : Sides) (found : List Sides) → IsDeduction row → consequences_by row e ≡ Some found
    → Matched row e found
matched_by row e found d h =
    by_left (match_term d.left e.left []) refl
    (subst (λ s. (elim (sides_of s) [
      | [] ↦ None
      | given ∷ others ↦
          option_map (λ es. map (sides_under es) (flat_map sides_of row.consequences)) (matched_sides given e)
    ]) ≡ Some found) d.given h)
  where
    by_right : (ds : List Entry) → match_term d.left e.left [] ≡ Some ds → (o : Option (List Entry))
        → match_term (app d.value none) e.right ds ≡ o
        → option_map (λ es. map (sides_under es) (flat_map sides_of row.consequences)) o ≡ Some found
        → Matched row e found
    by_right ds l None r q = cc
    by_right ds l (Some es) r q =
        let c = constant_matches d.value e.right ds es r in
        record {
          by = es;
          equation_is = ap (substituted_statement es) d.given
              ∙ ap₂ Equation (match_is_right d.left e.left es (l ∙ ap Some c.0)) c.1;
          found_are = consequences_are es row.consequences d.equations ∙ ap (map equate) (some_inj q);
        }

    by_left : (o : Option (List Entry)) → match_term d.left e.left [] ≡ o
        → option_map (λ es. map (sides_under es) (flat_map sides_of row.consequences))
        (option_and_then (λ es. match_term (app d.value none) e.right es) o) ≡ Some found → Matched row e found
    by_left None l q = cc
    by_left (Some ds) l q = by_right ds l (match_term (app d.value none) e.right ds) refl q

zero_test : (i : ℕ) → (suc i == 0) ≡ false
zero_test i =
    elim (suc i == 0) as (λ c. (suc i == 0) ≡ c → c ≡ false) [
      | true ↦ λ e. (let h = (Decides-eqb (suc i) 0).0 e in absurd (omega (arith, h)))
      | false ↦ λ e. refl
    ] refl

-- what stands at a place has the number behind it
numbered_at : {A : Type 0} (xs : List A) (i : ℕ) (x : A) → slice_get xs i ≡ Some x → numbered xs (suc i) ≡ Some x
numbered_at xs i x e =
    let p : suc i - 1 ≡ i = omega arith in
    ap (λ c. cond c None (slice_get xs (suc i - 1))) (zero_test i) ∙ (ap (slice_get xs) p ∙ e)

pub deduced_follows : (e : Sides) (found : List Sides) → deduce e ≡ Some found
    → (n : ℕ) × ((0 < n) × ((n ≤ 7) × Follows n (equate e) (map equate found)))
deduced_follows e found h =
    let s = sort_within e.left in
    let f = found_at (deduction_rows s) e found (rows_deduce s) h in
    let m = matched_by f.row e found f.deduces f.by_it in (
      suc f.index,
      (
        omega arith,
        (
          omega (arith, f.within),
          record {
            sort = s;
            by = m.by;
            row = f.row;
            has_number = numbered_at (deduction_rows s) f.index f.row f.stands;
            equation = m.equation_is;
            consequences = m.found_are;
          },
        ),
      ),
    )

-- where nothing follows by any number, nothing is deduced
pub nothing_deduced : (e : Sides)
    → ((n : ℕ) (es : List Statement) → 0 < n → n ≤ 7 → Follows n (equate e) es → ⊥) → deduce e ≡ None
nothing_deduced e h = by_found (deduce e) refl
  where
    by_found : (o : Option (List Sides)) → deduce e ≡ o → o ≡ None
    by_found None q = refl
    by_found (Some found) q =
        let f = deduced_follows e found q in absurd (h f.0 (map equate found) f.1.0 f.1.1.0 f.1.1.1)

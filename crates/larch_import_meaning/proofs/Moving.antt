-- The move from a theory to one that has it by new names.
use Rattle.std.proofs.Common.{◌≡◌, ℕ, zero, suc, ◌+◌, ◌-◌, Bool}
use Rattle.std.proofs.Common.{true, false, cond, inl, inr, List, [], ◌∷◌, Contains}
use Rattle.std.proofs.Common.{Option, Some, None, option_map, refl, sym, ◌∙◌, ap, arith}
use Rattle.std.specs.Prelude.{find, unwrap_or}
use Rattle.std.specs.List.{slice_get, position_from}
use Rattle.std.specs.Option.{option_map_or}
use Rattle.std.proofs.lemmas.Bool.{ne_eqb}
use Rattle.std.proofs.lemmas.Iterator.Adapters.{position_from-zero}
use Rattle.std.proofs.lemmas.List.Elements.{All-contains}
use Rattle.larch_base.proofs.Bools.{true_or_false}
use Rattle.larch_base.proofs.Members.{contains_cases, contains_none, got_contains}
use Rattle.larch_base.specs.ByNumber.{numbered}
use Rattle.larch_term.proofs.Decided.{operator_Decides}
use Rattle.larch_term.specs.BuiltIn.{is_built_in}
use Rattle.larch_term.specs.Equality.{same_operator}
use Rattle.larch_term.specs.Operator.{OperatorName, PlainOperator, plain, boxed}
use Rattle.larch_term.specs.Statement.{statement_zero}
use Rattle.larch_term.specs.declared.statement.Statement.{Statement}
use Rattle.larch_term.specs.declared.statement.Theory.{Theory}
use Rattle.larch_certificate.specs.declared.line.Line.{Line}
use Rattle.larch_certificate.specs.declared.line.Line.TheVariants.{Axiom, Hyp, Row, Refl, Sym, Inst, Repl, Equal}
use Rattle.larch_certificate.specs.declared.line.Line.TheVariants.{BoxLine, Done, Fresh, Cases, Induct, Observe}
use Rattle.larch_certificate.specs.declared.line.Line.TheVariants.{Generated, Partitioned}
use Rattle.larch_verify_meaning.specs.RenamingRenaming.{renamed_statement}
use Rattle.larch_verify_meaning.specs.Rules.{axiom_says}
use Rattle.larch_verify_law.proofs.MovedTests.{numbered_mapped}
use Rattle.larch_verify_law.proofs.RenamingRenamedStatements.{zero_renamed}
use Rattle.larch_verify_law.proofs.Told.{numbered_contains}
use Rattle.larch_verify_law.specs.Carrying.{IsMove, KeepsCited}
use Rattle.larch_import_names.proofs.Agreement.{same_operator_by, same_renamed}
use Rattle.larch_import_names.specs.Names.{IsNamed, name_by, operator_by, renaming}
use Rattle.larch_import_names.specs.Sorted.{OfOperator, OfStatement}
use Rattle.larch_import_names.specs.declared.pairs.OperatorPair.{OperatorPair}
use Rattle.larch_import_names.specs.declared.pairs.Renaming.{Renaming}
use Rattle.larch_import_meaning.specs.Fresh.{fresh_sort, renaming_into}
use Rattle.larch_import_meaning.specs.Imported.{number_among, number_in_place, new_numbers, import_move, HasRenamed}
use Rattle.larch_import_meaning.specs.Lengths.{longest}
use Rattle.larch_import_meaning.proofs.Fresh.{is_faithful}
use Rattle.larch_import_meaning.proofs.Rows.{rows_say}

-- ---- constants of boxes keep their names, and only they have such names

boxed_stays : (o : Option OperatorPair) (b k : ℕ) → name_by (boxed b k) o ≡ boxed b k
boxed_stays None b k = refl
boxed_stays (Some p) b k = refl

name_kept : (t : Bool) (n : OperatorName) (o : Option OperatorPair) (b k : ℕ) → n ≡ boxed b k
    → cond t n (name_by n o) ≡ boxed b k
name_kept true n o b k e = e
name_kept false n o b k e = ap (λ m. name_by m o) e ∙ boxed_stays o b k

name_back : (t : Bool) (n : OperatorName) (o : Option OperatorPair) (b k : ℕ) → cond t n (name_by n o) ≡ boxed b k
    → n ≡ boxed b k
name_back true n o b k e = e
name_back false (plain n) None b k e = e
name_back false (plain n) (Some p) b k e = cc
name_back false (boxed c l) None b k e = e
name_back false (boxed c l) (Some p) b k e = e

-- ---- an operator has its number

placed : (fs : List PlainOperator) (i : ℕ) (f : PlainOperator) → Contains fs f
    → (j : ℕ) × (position_from (λ g. same_operator g f) i fs ≡ Some (i + j)) × (slice_get fs j ≡ Some f)
placed [] i f c = absurd (contains_none f c)
placed (g ∷ gs) i f c =
    elim (true_or_false (same_operator g f)) [
      | inl y ↦ (
        0,
        ap (λ b. cond b (Some i) (position_from (λ h. same_operator h f) (i + 1) gs)) y ∙ ap Some (omega arith),
        ap Some ((operator_Decides g f).0 y),
      )
      | inr n ↦ elim (contains_cases g f gs c) [
        | inl e ↦ absurd (let y = (operator_Decides g f).1 e in let z = sym y ∙ n in cc)
        | inr d ↦
            let r = placed gs (i + 1) f d in
            let at : i + 1 + r.0 ≡ i + suc r.0 = omega arith in (
              suc r.0,
              ap (λ b. cond b (Some i) (position_from (λ h. same_operator h f) (i + 1) gs)) n ∙ r.1 ∙ ap Some at,
              r.2,
            )
      ]
    ]

pub at_suc : {X : Type 0} (xs : List X) (j : ℕ) → numbered xs (suc j) ≡ slice_get xs j
at_suc xs j =
    let one : suc j - 1 ≡ j = omega arith in
    ap (λ b. cond b None (slice_get xs (suc j - 1))) (ne_eqb (suc j) 0 (λ p. omega (arith, p))) ∙ ap (slice_get xs)
    one

-- what has a number has it behind something else that has the number 0
behind : {X : Type 0} (z : X) (xs : List X) (j : ℕ) (y : X) → numbered xs j ≡ Some y → slice_get (z ∷ xs) j ≡ Some y
behind z xs zero y e = cc
behind z xs (suc j) y e = sym (at_suc xs j) ∙ e

-- an operator that is among some has its number there
numbered_among : (fs : List PlainOperator) (f : PlainOperator) → Contains fs f
    → numbered fs (number_among fs f) ≡ Some f
numbered_among fs f c =
    let r = placed fs 0 f c in
    let at : 0 + r.0 ≡ r.0 = omega arith in
    ap (λ o. numbered fs (option_map_or suc o 0)) (position_from-zero (λ g. same_operator g f) fs ∙ r.1 ∙ ap Some at)
    ∙ at_suc fs r.0 ∙ r.2

-- ---- the move

module _ (by : Renaming) (t u : Theory) (places : List ℕ) (x : HasRenamed by t u places) where
  -- operators of the theory become what they become where other sorts stay
  alike : (f : PlainOperator) → Contains t.operators f → (renaming by).operator f ≡ (renaming_into by u).operator f
  alike f c =
      same_operator_by by (λ s. s) (fresh_sort (longest by u)) f
      (All-contains (OfOperator (IsNamed by)) t.operators f x.named.operators c)

  renumbered : (k : ℕ) (f : PlainOperator) → numbered t.operators k ≡ Some f
      → numbered u.operators (number_in_place (new_numbers by t u) k) ≡ Some ((renaming_into by u).operator f)
  renumbered k f e =
      let c = numbered_contains t.operators k f e in
      let g = (renaming by).operator f in
      let there : Contains u.operators g =
      All-contains (λ h. Contains u.operators ((renaming by).operator h)) t.operators f x.operators c in
      ap (λ o. numbered u.operators (unwrap_or o k))
      (numbered_mapped (λ h. number_among u.operators ((renaming by).operator h)) t.operators k f e)
      ∙ numbered_among u.operators g there ∙ ap Some (alike f c)

  pub is_move : IsMove (import_move by t u places) t u
  unfolding operator_by
  is_move =
      record {
        faithful = is_faithful by u x.sorts;
        no_sort = refl;
        operators = renumbered;
        boxes = λ f b k. (
          λ e. name_kept (is_built_in f) f.name (find (λ p. same_operator p.old f) by.operators) b k e,
          λ e. name_back (is_built_in f) f.name (find (λ p. same_operator p.old f) by.operators) b k e,
        );
        rows = rows_say (renaming_into by u) (is_faithful by u x.sorts).built_in;
      }

  -- a statement of the theory is cited by its place
  cited : (k : ℕ) (s : Statement) → axiom_says t k ≡ Some s
      → axiom_says u (number_in_place places k) ≡ Some (renamed_statement (renaming_into by u) s)
  cited zero s e =
      ap Some (sym (zero_renamed (renaming_into by u) (is_faithful by u x.sorts).built_in))
      ∙ ap (option_map (renamed_statement (renaming_into by u))) e
  cited (suc k) s e =
      let there = x.statements (suc k) s (at_suc t.statements k ∙ e) in
      let named = All-contains (OfStatement (IsNamed by)) t.statements s x.named.statements
      (got_contains t.statements k s e) in
      ap (λ o. axiom_says u (unwrap_or o (suc k))) there.1
      ∙ behind statement_zero u.statements there.0 (renamed_statement (renaming by) s) there.2
      ∙ ap Some (same_renamed by (λ z. z) (fresh_sort (longest by u)) s named)

  pub keeps_cited : (l : Line) → KeepsCited (import_move by t u places) t u l
  keeps_cited (Axiom k) = cited k
  keeps_cited (Hyp b k) = tt
  keeps_cited (Row k s) = tt
  keeps_cited (Refl c) = tt
  keeps_cited (Sym n) = tt
  keeps_cited (Inst n bs) = tt
  keeps_cited (Repl n q k) = tt
  keeps_cited (Equal n) = tt
  keeps_cited (BoxLine ps es) = tt
  keeps_cited Done = tt
  keeps_cited (Fresh b vs) = tt
  keeps_cited (Cases b c) = tt
  keeps_cited (Induct n y e bs) = tt
  keeps_cited (Observe n e ns) = tt
  keeps_cited (Generated b s ks) = tt
  keeps_cited (Partitioned b s ks) = tt

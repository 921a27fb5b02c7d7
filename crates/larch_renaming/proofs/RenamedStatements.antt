-- Renamed statements and theories.
use Rattle.std.proofs.Common.{◌≡◌, ℕ, inl, inr, List, [], ◌∷◌, map, All, Contains, refl, sym, ◌∙◌, ap, subst}
use Rattle.std.proofs.lemmas.List.Elements.{All-map, All-weaker, All-contains}
use Rattle.larch_term.proofs.BaseLists.{map_map, map_by}
use Rattle.larch_term.proofs.BaseMembers.{contains_map}
use Rattle.larch_term.specs.BuiltIn.{bool_sort, built_in, built_in_name, built_in_domain, built_in_range, IsBuiltIn}
use Rattle.larch_term.specs.Operator.{OperatorName, PlainOperator, plain}
use Rattle.larch_term.specs.Sorts.{IsKnown}
use Rattle.larch_term.specs.Statement.{IsStatementOver, IsWellSortedTheory, statement_zero}
use Rattle.larch_term.specs.declared.built_in.BuiltIn.{BuiltIn}
use Rattle.larch_term.specs.declared.built_in.BuiltIn.TheVariants.{True, False}
use Rattle.larch_term.specs.declared.statement.Statement.{Statement}
use Rattle.larch_term.specs.declared.statement.Statement.TheVariants.{Equation, Generated, Partitioned}
use Rattle.larch_term.specs.declared.statement.Theory.{Theory}
use Rattle.larch_renaming.specs.Renaming.{Renaming, rename_tree, renamed_statement, renamed_theory, no_renaming, after}
use Rattle.larch_renaming.specs.Renaming.{by_name, FitsSignatures, KeepsBuiltIns, Carries, AreAlike, AreAlikeOver}
use Rattle.larch_renaming.proofs.Renamed.{renamed_sort, renamed_term_over, renamed_unchanged, renamed_after}
use Rattle.larch_renaming.proofs.Renamed.{renamed_alike, renamed_alike_over}

map_itself : {X : Type 0} (xs : List X) → map (λ x. x) xs ≡ xs
map_itself [] = refl
map_itself (x ∷ xs) = ap (λ ys. x ∷ ys) (map_itself xs)

-- a renaming that gives operators other names fits their signatures
pub by_name_fits : (new : OperatorName → OperatorName) → FitsSignatures (by_name new)
by_name_fits new = record { domain = λ f. sym (map_itself f.domain); range = λ f. refl }

pub renamed_statement_over : (r : Renaming) (fs gs : List PlainOperator) → FitsSignatures r → Carries r fs gs
    → (s : Statement)
    → IsStatementOver fs s → IsStatementOver gs (renamed_statement r s)
renamed_statement_over r fs gs h k (Equation left right) w = (
  renamed_term_over r fs gs h k left w.0,
  renamed_term_over r fs gs h k right w.1,
  renamed_sort r h left ∙ ap r.sort w.2 ∙ sym (renamed_sort r h right),
)
renamed_statement_over r fs gs h k (Generated s os) w =
    All-map (λ g. IsKnown gs g × (g.range ≡ r.sort s)) r.operator os
    (All-weaker (λ g. IsKnown fs g × (g.range ≡ s)) (λ g. IsKnown gs (r.operator g) × ((r.operator g).range ≡ r.sort s))
    (λ g p. (k g p.0, h.range g ∙ ap r.sort p.1)) os w)
renamed_statement_over r fs gs h k (Partitioned s os) w =
    All-map (λ g. IsKnown gs g × Contains g.domain (r.sort s)) r.operator os
    (All-weaker (λ g. IsKnown fs g × Contains g.domain s)
    (λ g. IsKnown gs (r.operator g) × Contains (r.operator g).domain (r.sort s))
    (λ g p. (k g p.0, subst (λ ss. Contains ss (r.sort s)) (sym (h.domain g)) (contains_map r.sort g.domain s p.1))) os
    w)

pub built_in_renamed : (r : Renaming) → KeepsBuiltIns r → (f : PlainOperator) → IsBuiltIn f → IsBuiltIn (r.operator f)
built_in_renamed r b f (o, (s, e)) = (o, (r.sort s, ap r.operator e ∙ b.operators o s))

-- a theory's operators are known, renamed, in the renamed theory
pub theory_carries : (r : Renaming) → KeepsBuiltIns r → (fs : List PlainOperator) → Carries r fs (map r.operator fs)
theory_carries r b fs f (inl c) = inl (contains_map r.operator fs f c)
theory_carries r b fs f (inr i) = inr (built_in_renamed r b f i)

pub renamed_theory_well_sorted : (r : Renaming) → FitsSignatures r → KeepsBuiltIns r → (t : Theory)
    → IsWellSortedTheory t
    → IsWellSortedTheory (renamed_theory r t)
renamed_theory_well_sorted r h b t w =
    let gs = map r.operator t.operators in
    All-map (IsStatementOver gs) (renamed_statement r) t.statements
    (All-weaker (IsStatementOver t.operators) (λ s. IsStatementOver gs (renamed_statement r s))
    (renamed_statement_over r t.operators gs h (theory_carries r b t.operators)) t.statements w)

-- what every theory states of the truth values stays
pub zero_renamed : (r : Renaming) → KeepsBuiltIns r → renamed_statement r statement_zero ≡ statement_zero
zero_renamed r b =
    λ i. Generated (b.truth_values i)
    ((b.operators True bool_sort ∙ ap (built_in True) b.truth_values) i
    ∷ (b.operators False bool_sort ∙ ap (built_in False) b.truth_values) i ∷ [])

pub statement_unchanged : (s : Statement) → renamed_statement no_renaming s ≡ s
statement_unchanged (Equation left right) = λ i. Equation (renamed_unchanged left i) (renamed_unchanged right i)
statement_unchanged (Generated s os) = ap (Generated s) (map_itself os)
statement_unchanged (Partitioned s os) = ap (Partitioned s) (map_itself os)

map_each_itself : {X : Type 0} (f : X → X) → ((x : X) → f x ≡ x) → (xs : List X) → map f xs ≡ xs
map_each_itself f h [] = refl
map_each_itself f h (x ∷ xs) = λ i. h x i ∷ map_each_itself f h xs i

pub theory_unchanged : (t : Theory) → renamed_theory no_renaming t ≡ t
theory_unchanged t =
    λ i. record {
      operators = map_itself t.operators i;
      statements = map_each_itself (renamed_statement no_renaming) statement_unchanged t.statements i;
    }

pub statement_after : (r q : Renaming) (s : Statement)
    → renamed_statement (after r q) s ≡ renamed_statement r (renamed_statement q s)
statement_after r q (Equation left right) = λ i. Equation (renamed_after r q left i) (renamed_after r q right i)
statement_after r q (Generated s os) = ap (Generated (r.sort (q.sort s))) (sym (map_map r.operator q.operator os))
statement_after r q (Partitioned s os) = ap (Partitioned (r.sort (q.sort s))) (sym (map_map r.operator q.operator os))

pub theory_after : (r q : Renaming) (t : Theory) → renamed_theory (after r q) t ≡ renamed_theory r (renamed_theory q t)
theory_after r q t =
    let ss : map (renamed_statement (after r q)) t.statements
    ≡ map (renamed_statement r) (map (renamed_statement q) t.statements) =
    map_by (renamed_statement (after r q)) (λ s. renamed_statement r (renamed_statement q s)) t.statements
    (λ s c. statement_after r q s)
    ∙ sym (map_map (renamed_statement r) (renamed_statement q) t.statements) in
    λ i. record { operators = sym (map_map r.operator q.operator t.operators) i; statements = ss i }

pub statement_alike : (r q : Renaming) → AreAlike r q → (s : Statement) → renamed_statement r s ≡ renamed_statement q s
statement_alike r q h (Equation left right) = λ i. Equation (renamed_alike r q h left i) (renamed_alike r q h right i)
statement_alike r q h (Generated s os) =
    λ i. Generated (h.sorts s i) (map_by r.operator q.operator os (λ f c. h.operators f) i)
statement_alike r q h (Partitioned s os) =
    λ i. Partitioned (h.sorts s i) (map_by r.operator q.operator os (λ f c. h.operators f) i)

pub theory_alike : (r q : Renaming) → AreAlike r q → (t : Theory) → renamed_theory r t ≡ renamed_theory q t
theory_alike r q h t =
    λ i. record {
      operators = map_by r.operator q.operator t.operators (λ f c. h.operators f) i;
      statements = map_by (renamed_statement r) (renamed_statement q) t.statements (λ s c. statement_alike r q h s) i;
    }

pub statement_alike_over : (r q : Renaming) (fs : List PlainOperator) → AreAlikeOver r q fs → (s : Statement)
    → IsStatementOver fs s
    → renamed_statement r s ≡ renamed_statement q s
statement_alike_over r q fs h (Equation left right) w =
    λ i. Equation (renamed_alike_over r q fs h left w.0.1 i) (renamed_alike_over r q fs h right w.1.1 i)
statement_alike_over r q fs h (Generated s os) w =
    let same = map_by r.operator q.operator os
    (λ f c. h.operators f (All-contains (λ g. IsKnown fs g × (g.range ≡ s)) os f w c).0) in
    λ i. Generated (h.sorts s i) (same i)
statement_alike_over r q fs h (Partitioned s os) w =
    let same = map_by r.operator q.operator os
    (λ f c. h.operators f (All-contains (λ g. IsKnown fs g × Contains g.domain s) os f w c).0) in
    λ i. Partitioned (h.sorts s i) (same i)

pub theory_alike_over : (r q : Renaming) (t : Theory) → AreAlikeOver r q t.operators → IsWellSortedTheory t
    → renamed_theory r t ≡ renamed_theory q t
theory_alike_over r q t h w =
    λ i. record {
      operators = map_by r.operator q.operator t.operators (λ f c. h.operators f (inl c)) i;
      statements = map_by (renamed_statement r) (renamed_statement q) t.statements
          (λ s c. statement_alike_over r q t.operators h s
          (All-contains (IsStatementOver t.operators) t.statements s w c)) i;
    }

-- other names for operators keep the built-in ones where they keep their names
pub by_name_keeps : (new : OperatorName → OperatorName)
    → ((b : BuiltIn) → new (plain (built_in_name b)) ≡ plain (built_in_name b))
    → KeepsBuiltIns (by_name new)
by_name_keeps new h =
    record {
      truth_values = refl;
      operators = λ b s i. record { name = h b i; domain = built_in_domain b s; range = built_in_range b s };
    }

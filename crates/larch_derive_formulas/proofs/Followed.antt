-- Deduction rows by their numbers, and what follows by each.
use Rattle.std.specs.Prelude.{◌≡◌, ◌↔◌, ◌<◌, ◌-◌, ◌==◌, ℕ, zero, suc, Bool, true, false, List, [], ◌∷◌, length, map}
use Rattle.std.specs.Prelude.{codes, slice_get, Option, Some, None, refl}
use Rattle.std.proofs.Common.{ap, ap₂, arith, cond, sym, subst, ◌∙◌}
use Rattle.std.proofs.lemmas.Option.{slice_get_past}
use Rattle.larch_base.proofs.Options.{some_inj}
use Rattle.larch_base.specs.ByNumber.{numbered}
use Rattle.larch_term.specs.BuiltIn.{bool_sort}
use Rattle.larch_term.specs.Substitution.{image, substituted_statement}
use Rattle.larch_term.specs.Tree.{Tree}
use Rattle.larch_term.specs.Truth.{truth}
use Rattle.larch_term.specs.declared.statement.Statement.{Statement}
use Rattle.larch_term.specs.declared.statement.Statement.TheVariants.{Equation}
use Rattle.larch_derive_lines.specs.CalculusFormula.{equality}
use Rattle.larch_derive_lines.specs.TablesRow.{PlainRow}
use Rattle.larch_derive_formulas.specs.Consequences.{Follows, found_by, given_by}
use Rattle.larch_derive_formulas.specs.Instances.{truths, values}
use Rattle.larch_derive_formulas.specs.declared.consequences.Deduction.{Deduction}
use Rattle.larch_derive_formulas.specs.declared.consequences.TheConstants.{DEDUCTIONS}
use Rattle.larch_derive_formulas.proofs.Rows.{image_a, image_b}

-- ---- numbers

either : {X : Type 0} (b : Bool) (o : Option X) → o ≡ None → cond b None o ≡ None
either true o e = refl
either false o e = e

-- of seven the eighth and further ones are none
past : {X : Type 0} (xs : List X) (n : ℕ) → length xs ≡ 7 → 7 < n → numbered xs n ≡ None
past xs n k l = either (n == 0) (slice_get xs (n - 1)) (slice_get_past xs (n - 1) (omega (arith, k, l)))

many : (n : ℕ) → 7 < suc (suc (suc (suc (suc (suc (suc (suc n)))))))
many n = omega arith

none_some : {X : Type 0} (x : X) → None ≡ Some x → ⊥
none_some x e = cc

-- ---- rows

-- terms make the row's equation this statement, and its consequences those
pub record Read (d : Deduction) (e : Statement) (es : List Statement) : Type 0 where
  pub sort : List ℕ
  pub first : Tree
  pub second : Tree
  pub given : given_by d sort first second ≡ e
  pub found : found_by d first second ≡ es

row_is : (n : ℕ) (e : Statement) (es : List Statement) (h : Follows n e es) (r : PlainRow) → Some r ≡ Some h.row
    → (substituted_statement h.by r.given ≡ e) × (map (substituted_statement h.by) r.consequences ≡ es)
row_is n e es h r k = (
  ap (λ q. substituted_statement h.by q.given) (some_inj k) ∙ h.equation,
  ap (λ q. map (substituted_statement h.by) q.consequences) (some_inj k) ∙ h.consequences,
)

-- what takes the places of x and y, and of a and b
abbrev of_x : {n : ℕ} {e : Statement} {es : List Statement} → Follows n e es → Tree
of_x h = image h.by (codes "x") bool_sort

abbrev of_y : {n : ℕ} {e : Statement} {es : List Statement} → Follows n e es → Tree
of_y h = image h.by (codes "y") bool_sort

abbrev of_a : {n : ℕ} {e : Statement} {es : List Statement} → Follows n e es → Tree
of_a h = image h.by (codes "a") h.sort

abbrev of_b : {n : ℕ} {e : Statement} {es : List Statement} → Follows n e es → Tree
of_b h = image h.by (codes "b") h.sort

-- what follows by a number is read so by the row that has it
pub reads : (n : ℕ) (e : Statement) (es : List Statement) (d : Deduction) → numbered DEDUCTIONS n ≡ Some d
    → Follows n e es → Read d e es
reads zero e es d k h = cc
reads (suc zero) e es d k h =
    let w = row_is _ e es h _ h.has_number in
    subst (λ c. Read c e es) (some_inj k)
    (record { sort = bool_sort; first = of_x h; second = of_y h; given = w.0; found = w.1 })
reads (suc (suc zero)) e es d k h =
    let w = row_is _ e es h _ h.has_number in
    subst (λ c. Read c e es) (some_inj k)
    (record { sort = bool_sort; first = of_x h; second = of_y h; given = w.0; found = w.1 })
reads (suc (suc (suc zero))) e es d k h =
    let w = row_is _ e es h _ h.has_number in
    subst (λ c. Read c e es) (some_inj k)
    (record { sort = bool_sort; first = of_x h; second = of_x h; given = w.0; found = w.1 })
reads (suc (suc (suc (suc zero)))) e es d k h =
    let w = row_is _ e es h _ h.has_number in
    subst (λ c. Read c e es) (some_inj k)
    (record { sort = bool_sort; first = of_x h; second = of_x h; given = w.0; found = w.1 })
reads (suc (suc (suc (suc (suc zero))))) e es d k h =
    let w = row_is _ e es h _ h.has_number in
    subst (λ c. Read c e es) (some_inj k)
    (record { sort = bool_sort; first = of_x h; second = of_y h; given = w.0; found = w.1 })
reads (suc (suc (suc (suc (suc (suc zero)))))) e es d k h =
    let w = row_is _ e es h _ h.has_number in
    subst (λ c. Read c e es) (some_inj k)
    (record { sort = h.sort; first = of_a h; second = of_b h; given = w.0; found = w.1 })
reads (suc (suc (suc (suc (suc (suc (suc zero))))))) e es d k h =
    let w = row_is _ e es h _ h.has_number in
    subst (λ c. Read c e es) (some_inj k)
    (record { sort = bool_sort; first = of_x h; second = of_y h; given = w.0; found = w.1 })
reads (suc (suc (suc (suc (suc (suc (suc (suc n)))))))) e es d k h =
    absurd (none_some d (sym (past DEDUCTIONS _ refl (many n)) ∙ k))

-- a row with terms for x and y, and the one with terms for a and b
abbrev Makes : ℕ → List ℕ → Tree → Tree → Deduction → Type 0
Makes n s t u d = Follows n (given_by d s t u) (found_by d t u)

pub makes : (n : ℕ) (d : Deduction) (s : List ℕ) (t u : Tree) → numbered DEDUCTIONS n ≡ Some d
    → Follows n (given_by d s t u) (found_by d t u)
makes zero d s t u k = cc
makes (suc zero) d s t u k =
    subst (Makes 1 s t u) (some_inj k)
    (record { sort = s; by = truths t u; row = _; has_number = refl; equation = refl; consequences = refl })
makes (suc (suc zero)) d s t u k =
    subst (Makes 2 s t u) (some_inj k)
    (record { sort = s; by = truths t u; row = _; has_number = refl; equation = refl; consequences = refl })
makes (suc (suc (suc zero))) d s t u k =
    subst (Makes 3 s t u) (some_inj k)
    (record { sort = s; by = truths t u; row = _; has_number = refl; equation = refl; consequences = refl })
makes (suc (suc (suc (suc zero)))) d s t u k =
    subst (Makes 4 s t u) (some_inj k)
    (record { sort = s; by = truths t u; row = _; has_number = refl; equation = refl; consequences = refl })
makes (suc (suc (suc (suc (suc zero))))) d s t u k =
    subst (Makes 5 s t u) (some_inj k)
    (record { sort = s; by = truths t u; row = _; has_number = refl; equation = refl; consequences = refl })
makes (suc (suc (suc (suc (suc (suc zero)))))) d s t u k =
    subst (Makes 6 s t u) (some_inj k)
    (record {
      sort = s;
      by = values s t u;
      row = _;
      has_number = refl;
      equation = ap₂ (λ v w. Equation (equality s v w) truth) (image_a s t u) (image_b s t u);
      consequences = ap₂ (λ v w. Equation v w ∷ []) (image_a s t u) (image_b s t u);
    })
makes (suc (suc (suc (suc (suc (suc (suc zero))))))) d s t u k =
    subst (Makes 7 s t u) (some_inj k)
    (record { sort = s; by = truths t u; row = _; has_number = refl; equation = refl; consequences = refl })
makes (suc (suc (suc (suc (suc (suc (suc (suc n)))))))) d s t u k =
    absurd (none_some d (sym (past DEDUCTIONS _ refl (many n)) ∙ k))

-- ---- what a call that looks for consequences finds

-- an equation that is read in no way
pub unread : (n : ℕ) (d : Deduction) (e : Statement) → numbered DEDUCTIONS n ≡ Some d
    → ((s : List ℕ) (t u : Tree) → given_by d s t u ≡ e → ⊥) → (es : List Statement) → Follows n e es → ⊥
unread n d e k never es h = let r = reads n e es d k h in never r.sort r.first r.second r.given

pub nothing_follows : (n : ℕ) (e : Statement) → ((es : List Statement) → Follows n e es → ⊥)
    → (false ≡ true) ↔ ((es : List Statement) × Follows n e es)
nothing_follows n e never = (λ h. cc, λ w. absurd (never w.0 w.1))

pub something_follows : (n : ℕ) (d : Deduction) (e : Statement) (s : List ℕ) (t u : Tree)
    → numbered DEDUCTIONS n ≡ Some d → given_by d s t u ≡ e
    → (true ≡ true) ↔ ((es : List Statement) × Follows n e es)
something_follows n d e s t u k p =
    (λ h. (found_by d t u, subst (λ g. Follows n g (found_by d t u)) p (makes n d s t u k)), λ w. refl)

-- Consequences as equations that wait.
use Rattle.std.specs.Prelude.{◌≡◌, ◌+◌, ◌<◌, ℕ, suc, List, [], ◌∷◌, All, Some, None, length, refl}
use Rattle.std.specs.List.{AllZip, flat_map}
use Rattle.std.proofs.Common.{inl, inr, ap, arith, sym, subst, ◌∙◌}
use Rattle.std.proofs.lemmas.Bool.Decides.{leb_tells}
use Rattle.std.proofs.lemmas.List.Elements.{All-cons, All-nil}
use Rattle.larch_base.specs.ByNumber.{numbered}
use Rattle.larch_derive.specs.Predicates.{HasStatement}
use Rattle.larch_derive.specs.declared.builder.Builder.{Builder}
use Rattle.larch_prove_invariant.specs.DeriveFormulasConsequences.{Follows}
use Rattle.larch_prove_adding.specs.Deductions.{Deduction, deductions, first_right, found_by, left_by, only_right}
use Rattle.larch_prove_adding.specs.Deductions.{second_right}
use Rattle.larch_prove_adding.specs.Equation.{IsSaid, sides_in, waiting_in}
use Rattle.larch_prove_adding.specs.declared.equation.SaidEquation.{SaidEquation}
use Rattle.larch_prove_adding.proofs.Deductions.{nothing_deduced}
use Rattle.larch_prove_adding.proofs.Numbers.{both_found, follows_deduced, has_deduction, only_found, reads}
use Rattle.larch_prove_invariant.specs.ProveMeaningFacts.{deduce}
use Rattle.larch_rewrite_meaning.specs.Sides.{sides_of}
use Rattle.larch_term.specs.Sorts.{WellSorted}
use Rattle.larch_term.specs.Tree.{Tree}
use Rattle.larch_term.specs.declared.statement.Statement.{Statement}
use Rattle.larch_term.specs.declared.statement.Statement.TheVariants.{Equation}

-- as many lines as there are consequences
one_length : {X Y : Type 0} (R : X → Y → Type 0) (x : X) (ys : List Y) → AllZip R (x ∷ []) ys → length ys ≡ 1
one_length R x [] h = absurd h
one_length R x (y ∷ []) h = refl
one_length R x (y ∷ z ∷ ys) h = absurd h.1

both_length : {X Y : Type 0} (R : X → Y → Type 0) (x z : X) (ys : List Y) → AllZip R (x ∷ z ∷ []) ys
    → length ys ≡ 2
both_length R x z [] h = absurd h
both_length R x z (y ∷ []) h = absurd h.1
both_length R x z (y ∷ v ∷ []) h = refl
both_length R x z (y ∷ v ∷ w ∷ ys) h = absurd h.1.1

abbrev said : Tree → Tree → ℕ → SaidEquation
said l r n = record { left = l; right = r; line = n }

-- these equations are what follows, and their lines say them
abbrev AreFound : Builder → List SaidEquation → List Statement → Type 0
AreFound b es found = (waiting_in es ≡ flat_map sides_of found) × All (IsSaid b) es

pub only_stated : (b : Builder) (n : ℕ) (d : Deduction) (v w : Tree) (line : ℕ) (es : List SaidEquation)
    → es ≡ said v (only_right n w) line ∷ [] → numbered deductions n ≡ Some d
    → AllZip (HasStatement b) (line ∷ []) (found_by d v w) → AreFound b es (found_by d v w)
only_stated b n d v w line es p k z =
    let q = only_found n d v w k (one_length (HasStatement b) line (found_by d v w) z) in
    let e = said v (only_right n w) line in
    let h = subst (AllZip (HasStatement b) (line ∷ [])) q z in
    subst (λ ds. AreFound b ds (found_by d v w)) (sym p)
    (subst (AreFound b (e ∷ [])) (sym q) (refl, All-cons (IsSaid b) e [] h.0 (All-nil (IsSaid b))))

pub both_stated : (b : Builder) (n : ℕ) (d : Deduction) (v w : Tree) (first second : ℕ) (es : List SaidEquation)
    → es ≡ said w (second_right n) second ∷ said v (first_right n) first ∷ [] → numbered deductions n ≡ Some d
    → AllZip (HasStatement b) (first ∷ second ∷ []) (found_by d v w) → AreFound b es (found_by d v w)
both_stated b n d v w first second es p k z =
    let q = both_found n d v w k (both_length (HasStatement b) first second (found_by d v w) z) in
    let e = said v (first_right n) first in
    let f = said w (second_right n) second in
    let h = subst (AllZip (HasStatement b) (first ∷ second ∷ [])) q z in
    subst (λ ds. AreFound b ds (found_by d v w)) (sym p)
    (subst (AreFound b (f ∷ e ∷ [])) (sym q)
    (refl, All-cons (IsSaid b) f (e ∷ []) h.1.0 (All-cons (IsSaid b) e [] h.0 (All-nil (IsSaid b)))))

-- what follows by a row is what is deduced
pub some_deduced : (n : ℕ) (e : SaidEquation) (es : List Statement) (b : Builder) (lines : List ℕ) (v w : Tree)
    (found : List SaidEquation) → n < 7 → Follows (n + 1) (Equation e.left e.right) es
    → AllZip (HasStatement b) lines es → WellSorted e.left
    → ((d : Deduction) (s : List ℕ) (t u : Tree) → left_by d s t u ≡ e.left → found_by d v w ≡ found_by d t u)
    → ((d : Deduction) → numbered deductions (n + 1) ≡ Some d → AllZip (HasStatement b) lines (found_by d v w)
    → AreFound b found (found_by d v w))
    → (deduce (sides_in e) ≡ Some (waiting_in found)) × All (IsSaid b) found
some_deduced n e es b lines v w found h f z o p c =
    let d = has_deduction n h in
    let r = reads (n + 1) (Equation e.left e.right) es d.0 d.1 f in
    let q : found_by d.0 v w ≡ es = p d.0 r.sort r.first r.second (left_side _ _ _ _ r.given) ∙ r.found in
    let a = c d.0 d.1 (subst (AllZip (HasStatement b) lines) (sym q) z) in (
      follows_deduced (n + 1) (sides_in e) d.0 es d.1 f o
          ∙ ap (λ fs. Some (flat_map sides_of fs)) (sym q)
          ∙ ap Some (sym a.0),
      a.1,
    )
  where
    left_side : (l k r q : Tree) → Equation l r ≡ Equation k q → l ≡ k
    left_side l k r q i = cc

-- and what has no arguments has no consequences
pub none_deduced : (e : SaidEquation)
    → ((d : Deduction) (s : List ℕ) (t u : Tree) → left_by d s t u ≡ e.left → ⊥) → deduce (sides_in e) ≡ None
none_deduced e never =
    nothing_deduced (sides_in e) (λ n h es f.
    let d = has_deduction n h in
    let r = reads (n + 1) (Equation e.left e.right) es d.0 d.1 f in
    never d.0 r.sort r.first r.second (left_side _ _ _ _ r.given))
  where
    left_side : (l k r q : Tree) → Equation l r ≡ Equation k q → l ≡ k
    left_side l k r q i = cc

-- one number further
pub further_none : (n : ℕ) (e : SaidEquation)
    → ((m : ℕ) → m < n → (es : List Statement) → Follows (m + 1) (Equation e.left e.right) es → ⊥)
    → ((es : List Statement) → Follows (n + 1) (Equation e.left e.right) es → ⊥)
    → (m : ℕ) → m < n + 1 → (es : List Statement) → Follows (m + 1) (Equation e.left e.right) es → ⊥
further_none n e before here m h es f = elim (leb_tells (suc m) n) [
  | inl k ↦ before m k.1 es f
  | inr k ↦
      let l = k.1 in
      let p : m ≡ n = omega (arith, h, l) in
      here es (subst (λ j. Follows (j + 1) (Equation e.left e.right) es) p f)
]

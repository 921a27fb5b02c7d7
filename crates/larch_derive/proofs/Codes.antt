-- What is written of one term more.
use Rattle.std.proofs.Common.{◌≡◌, ◌≤◌, ◌<◌, ◌+◌, ◌-◌, ◌==◌, ◌⊎◌, inl, inr, ℕ, zero, suc, Bool, true, false, cond, List}
use Rattle.std.proofs.Common.{[], ◌∷◌, ◌++◌, length, take, get_or, Contains, Option, Some, None, refl, sym, ◌∙◌, ap}
use Rattle.std.proofs.Common.{subst, arith}
use Rattle.std.specs.List.{slice_get}
use Rattle.std.proofs.lemmas.List.{take_more}
use Rattle.std.proofs.lemmas.Bool.{cond-false}
use Rattle.larch_term.proofs.BaseMembers.{contains_cases, contains_none}
use Rattle.larch_term.proofs.BaseOptions.{some_inj}
use Rattle.larch_term.specs.BaseByNumber.{numbered}
use Rattle.larch_term.specs.BuiltIn.{IsBuiltIn}
use Rattle.larch_term.specs.OperatorKey.{same_operator, operator_Decides}
use Rattle.larch_certificate_text.specs.CertificateSymbolSymbol.TheVariants.{Own}
use Rattle.larch_derive.specs.OpenBox.{place_from, constant_of}
use Rattle.larch_term.specs.Operator.{PlainOperator}
use Rattle.larch_term.specs.Tree.{Tree, forest_of}
use Rattle.larch_term.specs.declared.statement.Statement.{Statement}
use Rattle.larch_term.specs.declared.statement.Statement.TheVariants.{Equation, Generated, Partitioned}
use Rattle.larch_certificate_text.specs.CertificateCoded.{CodedTree, coded_forest_of}
use Rattle.larch_certificate_text.specs.CertificateLineCodedEquation.{CodedEquation}
use Rattle.larch_derive.specs.Coding.{IsNameOf, IsCodeOf, AreCodesOf, AreCodesOfEquations}
use Rattle.larch_derive.specs.declared.open_box.OpenBox.{OpenBox}

pub codes_push : (bs : List OpenBox) (fs : List PlainOperator) (ts : List Tree) (cs : List CodedTree) (t : Tree)
    (c : CodedTree) → AreCodesOf bs fs (forest_of ts) (coded_forest_of cs) → IsCodeOf bs fs t c
    → AreCodesOf bs fs (forest_of (ts ++ t ∷ [])) (coded_forest_of (cs ++ c ∷ []))
codes_push bs fs [] [] t c h d = (d, tt)
codes_push bs fs [] (x ∷ cs) t c h d = absurd h
codes_push bs fs (u ∷ ts) [] t c h d = absurd h
codes_push bs fs (u ∷ ts) (x ∷ cs) t c h d = (h.0, codes_push bs fs ts cs t c h.1 d)

pub equation_codes_push : (bs : List OpenBox) (fs : List PlainOperator) (ss : List Statement) (es : List CodedEquation)
    (l r : Tree) (e : CodedEquation) → AreCodesOfEquations bs fs ss es → IsCodeOf bs fs l e.left
    → IsCodeOf bs fs r e.right → AreCodesOfEquations bs fs (ss ++ Equation l r ∷ []) (es ++ e ∷ [])
equation_codes_push bs fs [] [] l r e h p q = (p, q, tt)
equation_codes_push bs fs [] (x ∷ es) l r e h p q = absurd h
equation_codes_push bs fs (Equation k m ∷ ss) [] l r e h p q = absurd h
equation_codes_push bs fs (Equation k m ∷ ss) (x ∷ es) l r e h p q =
    (h.0, h.1, equation_codes_push bs fs ss es l r e h.2 p q)
equation_codes_push bs fs (Generated s gs ∷ ss) es l r e h p q = equation_codes_push bs fs ss es l r e h p q
equation_codes_push bs fs (Partitioned s gs ∷ ss) es l r e h p q = equation_codes_push bs fs ss es l r e h p q

pub generated_codes_push : (bs : List OpenBox) (fs : List PlainOperator) (ss : List Statement) (es : List CodedEquation)
    (s : List ℕ) (gs : List PlainOperator) → AreCodesOfEquations bs fs ss es
    → AreCodesOfEquations bs fs (ss ++ Generated s gs ∷ []) es
generated_codes_push bs fs [] [] s gs h = tt
generated_codes_push bs fs [] (x ∷ es) s gs h = absurd h
generated_codes_push bs fs (Equation k m ∷ ss) [] s gs h = absurd h
generated_codes_push bs fs (Equation k m ∷ ss) (x ∷ es) s gs h =
    (h.0, h.1, generated_codes_push bs fs ss es s gs h.2)
generated_codes_push bs fs (Generated z hs ∷ ss) es s gs h = generated_codes_push bs fs ss es s gs h
generated_codes_push bs fs (Partitioned z hs ∷ ss) es s gs h = generated_codes_push bs fs ss es s gs h

pub partitioned_codes_push : (bs : List OpenBox) (fs : List PlainOperator) (ss : List Statement)
    (es : List CodedEquation) (s : List ℕ) (gs : List PlainOperator) → AreCodesOfEquations bs fs ss es
    → AreCodesOfEquations bs fs (ss ++ Partitioned s gs ∷ []) es
partitioned_codes_push bs fs [] [] s gs h = tt
partitioned_codes_push bs fs [] (x ∷ es) s gs h = absurd h
partitioned_codes_push bs fs (Equation k m ∷ ss) [] s gs h = absurd h
partitioned_codes_push bs fs (Equation k m ∷ ss) (x ∷ es) s gs h =
    (h.0, h.1, partitioned_codes_push bs fs ss es s gs h.2)
partitioned_codes_push bs fs (Generated z hs ∷ ss) es s gs h = partitioned_codes_push bs fs ss es s gs h
partitioned_codes_push bs fs (Partitioned z hs ∷ ss) es s gs h = partitioned_codes_push bs fs ss es s gs h

-- ---- steps of loops

further : {X : Type 0} (xs : List X) (i : ℕ) (x : X) → i < length xs → x ≡ get_or xs i x
    → take (i + 1) xs ≡ take i xs ++ x ∷ []
further xs i x lt e = take_more xs i x lt ∙ ap (λ y. take i xs ++ y ∷ []) (sym e)

pub codes_step : (bs : List OpenBox) (fs : List PlainOperator) (ts : List Tree) (i : ℕ) (cs : List CodedTree) (t : Tree)
    (c : CodedTree) → i < length ts → t ≡ get_or ts i t → AreCodesOf bs fs (forest_of (take i ts)) (coded_forest_of cs)
    → IsCodeOf bs fs t c → AreCodesOf bs fs (forest_of (take (i + 1) ts)) (coded_forest_of (cs ++ c ∷ []))
codes_step bs fs ts i cs t c lt e h d =
    subst (λ us. AreCodesOf bs fs (forest_of us) (coded_forest_of (cs ++ c ∷ []))) (sym (further ts i t lt e))
    (codes_push bs fs (take i ts) cs t c h d)

pub equation_step : (bs : List OpenBox) (fs : List PlainOperator) (ss : List Statement) (i : ℕ)
    (es : List CodedEquation)
    (s : Statement) (e : CodedEquation) (l r : Tree) → i < length ss → s ≡ get_or ss i s → s ≡ Equation l r
    → AreCodesOfEquations bs fs (take i ss) es → IsCodeOf bs fs l e.left → IsCodeOf bs fs r e.right
    → AreCodesOfEquations bs fs (take (i + 1) ss) (es ++ e ∷ [])
equation_step bs fs ss i es s e l r lt q is h a b =
    subst (λ us. AreCodesOfEquations bs fs us (es ++ e ∷ []))
    (sym (further ss i s lt q ∙ ap (λ z. take i ss ++ z ∷ []) is))
    (equation_codes_push bs fs (take i ss) es l r e h a b)

pub generated_step : (bs : List OpenBox) (fs : List PlainOperator) (ss : List Statement) (i : ℕ)
    (es : List CodedEquation) (s : Statement) (z : List ℕ) (gs : List PlainOperator) → i < length ss → s ≡ get_or ss i s
    → s ≡ Generated z gs → AreCodesOfEquations bs fs (take i ss) es → AreCodesOfEquations bs fs (take (i + 1) ss) es
generated_step bs fs ss i es s z gs lt q is h =
    subst (λ us. AreCodesOfEquations bs fs us es) (sym (further ss i s lt q ∙ ap (λ y. take i ss ++ y ∷ []) is))
    (generated_codes_push bs fs (take i ss) es z gs h)

pub partitioned_step : (bs : List OpenBox) (fs : List PlainOperator) (ss : List Statement) (i : ℕ)
    (es : List CodedEquation) (s : Statement) (z : List ℕ) (gs : List PlainOperator) → i < length ss → s ≡ get_or ss i s
    → s ≡ Partitioned z gs → AreCodesOfEquations bs fs (take i ss) es → AreCodesOfEquations bs fs (take (i + 1) ss) es
partitioned_step bs fs ss i es s z gs lt q is h =
    subst (λ us. AreCodesOfEquations bs fs us es) (sym (further ss i s lt q ∙ ap (λ y. take i ss ++ y ∷ []) is))
    (partitioned_codes_push bs fs (take i ss) es z gs h)

-- ---- places of operators

same_here : (g f : PlainOperator) (k j : ℕ) (o : Option ℕ) (b : Bool) → same_operator g f ≡ b
    → cond b (Some k) o ≡ Some j → ((g ≡ f) × (k ≡ j)) ⊎ (o ≡ Some j)
same_here g f k j o true e h = inl ((operator_Decides g f).0 e, some_inj h)
same_here g f k j o false e h = inr h

pub place_got : (k : ℕ) (fs : List PlainOperator) (f : PlainOperator) (j : ℕ) → place_from k fs f ≡ Some j
    → (k ≤ j) × (slice_get fs (j - k) ≡ Some f)
place_got k [] f j h = cc
place_got k (g ∷ gs) f j h =
    elim (same_here g f k j (place_from (suc k) gs f) (same_operator g f) refl h) [
      | inl p ↦
          let q = p.1 in (
            omega (arith, q),
            subst (λ i. slice_get (g ∷ gs) i ≡ Some f) (let z : 0 ≡ j - k = omega (arith, q) in z)
                (ap Some p.0),
          )
      | inr later ↦
          let r = place_got (suc k) gs f j later in
          let le = r.0 in (
            omega (arith, le),
            subst (λ i. slice_get (g ∷ gs) i ≡ Some f)
                (let z : suc (j - suc k) ≡ j - k = omega (arith, le) in z) r.1,
          )
    ]

not_here : (g f : PlainOperator) (k : ℕ) (o : Option ℕ) (b : Bool) → same_operator g f ≡ b
    → cond b (Some k) o ≡ None → ((g ≡ f) → ⊥) × (o ≡ None)
not_here g f k o true e h = cc
not_here g f k o false e h = (λ p. let q : same_operator g f ≡ true = (operator_Decides g f).1 p in cc, h)

pub place_none : (k : ℕ) (fs : List PlainOperator) (f : PlainOperator) → place_from k fs f ≡ None → Contains fs f → ⊥
place_none k [] f h c = contains_none f c
place_none k (g ∷ gs) f h c =
    let n = not_here g f k (place_from (suc k) gs f) (same_operator g f) refl h in
    elim (contains_cases g f gs c) [ inl e ↦ n.0 e | inr d ↦ place_none (suc k) gs f n.1 d ]

pub numbered_at : {X : Type 0} (xs : List X) (k : ℕ) (x : X) → 1 ≤ k → slice_get xs (k - 1) ≡ Some x
    → numbered xs k ≡ Some x
numbered_at xs k x le e = cond-false (k == 0) None (slice_get xs (k - 1)) (not_zero k le) ∙ e
  where
    not_zero : (k : ℕ) → 1 ≤ k → (k == 0) ≡ false
    not_zero zero le = absurd (omega (arith, le))
    not_zero (suc k) le = grind arith

pub own_symbol : (bs : List OpenBox) (fs : List PlainOperator) (f : PlainOperator) (k : ℕ) → constant_of bs f ≡ None
    → (IsBuiltIn f → ⊥) → place_from 1 fs f ≡ Some k → IsNameOf bs fs f (Own k)
own_symbol bs fs f k a b e = let p = place_got 1 fs f k e in (a, b, λ c. numbered_at fs k f p.0 p.1)

pub no_symbol : (bs : List OpenBox) (fs : List PlainOperator) (f : PlainOperator) (k : ℕ) → constant_of bs f ≡ None
    → (IsBuiltIn f → ⊥) → place_from 1 fs f ≡ None → IsNameOf bs fs f (Own k)
no_symbol bs fs f k a b e = (a, b, λ c. absurd (place_none 1 fs f e c))

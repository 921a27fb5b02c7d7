-- Identities are well sorted, over any operators.
use Rattle.std.proofs.Common.{◌≡◌, ℕ, inr, List, [], ◌∷◌, refl, sym, ◌∙◌, subst}
use Rattle.larch_term.specs.Operator.{PlainOperator}
use Rattle.larch_term.specs.BuiltIn.{built_in, built_in_domain, built_in_range, bool_sort}
use Rattle.larch_term.specs.Tree.{Tree, Forest, var, app, none, more}
use Rattle.larch_term.specs.Sorts.{sort_of, sorts_of, AllWellSorted, AllOver, IsTermOver}
use Rattle.larch_term.specs.Statement.{IsStatementOver}
use Rattle.larch_term.specs.declared.built_in.BuiltIn.{BuiltIn}
use Rattle.larch_term.specs.declared.built_in.BuiltIn.TheVariants.{True, False, Not, And, Or, Implies, Iff, Equal}
use Rattle.larch_term.specs.declared.built_in.BuiltIn.TheVariants.{Unequal, If}
use Rattle.larch_term.specs.declared.statement.Statement.TheVariants.{Equation}
use Rattle.larch_calculus.specs.Formula.{falsity, negation, equality, inequality, choice}
use Rattle.larch_term.specs.Truth.{truth}
use Rattle.larch_calculus.specs.Identity.{Proposition, letter, always, never, denied, both, either, implied, equivalent}
use Rattle.larch_calculus.specs.Identity.{equal, unequal, chosen, term_of, IsIdentity, propositional, equal_itself}
use Rattle.larch_calculus.specs.Identity.{equal_exchanged, unequal_denied, chosen_first, chosen_second, chosen_same}
use Rattle.larch_calculus.specs.Theories.{IsTermOf}

-- a built-in operator over arguments of its domain's sorts
built : (fs : List PlainOperator) (b : BuiltIn) (s : List ℕ) (ts : Forest) → sorts_of ts ≡ built_in_domain b s
    → AllWellSorted ts → AllOver fs ts
    → IsTermOver fs (app (built_in b s) ts)
built fs b s ts e w o = ((e, w), (inr (b, (s, refl)), o))

pub variable_of : (fs : List PlainOperator) (n s : List ℕ) → IsTermOf fs s (var n s)
variable_of fs n s = ((tt, tt), refl)

pub built_of_none : (fs : List PlainOperator) (b : BuiltIn) (s : List ℕ) → [] ≡ built_in_domain b s
    → IsTermOf fs (built_in_range b s) (app (built_in b s) none)
built_of_none fs b s e = (built fs b s none e tt tt, refl)

pub built_of_one : (fs : List PlainOperator) (b : BuiltIn) (s r : List ℕ) (t : Tree) → r ∷ [] ≡ built_in_domain b s
    → IsTermOf fs r t
    → IsTermOf fs (built_in_range b s) (app (built_in b s) (more t none))
built_of_one fs b s r t e p =
    (built fs b s (more t none) (subst (λ x. x ∷ [] ≡ built_in_domain b s) (sym p.1) e) (p.0.0, tt) (p.0.1, tt), refl)

pub built_of_two : (fs : List PlainOperator) (b : BuiltIn) (s r q : List ℕ) (t u : Tree)
    → r ∷ q ∷ [] ≡ built_in_domain b s → IsTermOf fs r t → IsTermOf fs q u
    → IsTermOf fs (built_in_range b s) (app (built_in b s) (more t (more u none)))
built_of_two fs b s r q t u e p o = (
  built fs b s (more t (more u none))
      (subst (λ x. x ∷ sort_of u ∷ [] ≡ built_in_domain b s) (sym p.1)
      (subst (λ x. r ∷ x ∷ [] ≡ built_in_domain b s) (sym o.1) e))
      (p.0.0, (o.0.0, tt)) (p.0.1, (o.0.1, tt)),
  refl,
)

pub choice_of : (fs : List PlainOperator) (s : List ℕ) (c t u : Tree) → IsTermOf fs bool_sort c → IsTermOf fs s t
    → IsTermOf fs s u → IsTermOf fs s (choice s c t u)
choice_of fs s c t u p o q = (
  built fs If s (more c (more t (more u none))) (λ i. p.1 i ∷ o.1 i ∷ q.1 i ∷ []) (p.0.0, (o.0.0, (q.0.0, tt)))
      (p.0.1, (o.0.1, (q.0.1, tt))),
  refl,
)

pub equality_of : (fs : List PlainOperator) (s : List ℕ) (t u : Tree) → IsTermOf fs s t → IsTermOf fs s u
    → IsTermOf fs bool_sort (equality s t u)
equality_of fs s t u p o = built_of_two fs Equal s s s t u refl p o

pub truth_of : (fs : List PlainOperator) → IsTermOf fs bool_sort truth
truth_of fs = built_of_none fs True bool_sort refl

pub falsity_of : (fs : List PlainOperator) → IsTermOf fs bool_sort falsity
falsity_of fs = built_of_none fs False bool_sort refl

pub proposition_of : (fs : List PlainOperator) (p : Proposition) → IsTermOf fs bool_sort (term_of p)
proposition_of fs (letter n) = variable_of fs n bool_sort
proposition_of fs always = truth_of fs
proposition_of fs never = falsity_of fs
proposition_of fs (denied p) = built_of_one fs Not bool_sort bool_sort (term_of p) refl (proposition_of fs p)
proposition_of fs (both p q) =
    built_of_two fs And bool_sort bool_sort bool_sort (term_of p) (term_of q) refl (proposition_of fs p)
    (proposition_of fs q)
proposition_of fs (either p q) =
    built_of_two fs Or bool_sort bool_sort bool_sort (term_of p) (term_of q) refl (proposition_of fs p)
    (proposition_of fs q)
proposition_of fs (implied p q) =
    built_of_two fs Implies bool_sort bool_sort bool_sort (term_of p) (term_of q) refl (proposition_of fs p)
    (proposition_of fs q)
proposition_of fs (equivalent p q) =
    built_of_two fs Iff bool_sort bool_sort bool_sort (term_of p) (term_of q) refl (proposition_of fs p)
    (proposition_of fs q)
proposition_of fs (equal p q) =
    equality_of fs bool_sort (term_of p) (term_of q) (proposition_of fs p) (proposition_of fs q)
proposition_of fs (unequal p q) =
    built_of_two fs Unequal bool_sort bool_sort bool_sort (term_of p) (term_of q) refl (proposition_of fs p)
    (proposition_of fs q)
proposition_of fs (chosen p q r) =
    choice_of fs bool_sort (term_of p) (term_of q) (term_of r) (proposition_of fs p) (proposition_of fs q)
    (proposition_of fs r)

-- two terms of one sort as the sides of an equation, each written in another way
sides : (fs : List PlainOperator) (s : List ℕ) (a b t u : Tree) → a ≡ t → b ≡ u → IsTermOf fs s t → IsTermOf fs s u
    → IsStatementOver fs (Equation a b)
sides fs s a b t u e f p o =
    subst (λ x. IsStatementOver fs (Equation x b)) (sym e)
    (subst (λ x. IsStatementOver fs (Equation t x)) (sym f) (p.0, o.0, p.1 ∙ sym o.1))

pub identity_over : (fs : List PlainOperator) {a b : Tree} → IsIdentity a b → IsStatementOver fs (Equation a b)
identity_over fs {a} {b} (propositional p q l r v) =
    sides fs bool_sort a b (term_of p) (term_of q) l r (proposition_of fs p) (proposition_of fs q)
identity_over fs {a} {b} (equal_itself s x l r) =
    sides fs bool_sort a b (equality s (var x s) (var x s)) truth l r
    (equality_of fs s (var x s) (var x s) (variable_of fs x s) (variable_of fs x s)) (truth_of fs)
identity_over fs {a} {b} (equal_exchanged s x y l r) =
    sides fs bool_sort a b (equality s (var x s) (var y s)) (equality s (var y s) (var x s)) l r
    (equality_of fs s (var x s) (var y s) (variable_of fs x s) (variable_of fs y s))
    (equality_of fs s (var y s) (var x s) (variable_of fs y s) (variable_of fs x s))
identity_over fs {a} {b} (unequal_denied s x y l r) =
    sides fs bool_sort a b (inequality s (var x s) (var y s)) (negation (equality s (var x s) (var y s))) l r
    (built_of_two fs Unequal s s s (var x s) (var y s) refl (variable_of fs x s) (variable_of fs y s))
    (built_of_one fs Not bool_sort bool_sort (equality s (var x s) (var y s)) refl
    (equality_of fs s (var x s) (var y s) (variable_of fs x s) (variable_of fs y s)))
identity_over fs {a} {b} (chosen_first s x y l r) =
    sides fs s a b (choice s truth (var x s) (var y s)) (var x s) l r
    (choice_of fs s truth (var x s) (var y s) (truth_of fs) (variable_of fs x s) (variable_of fs y s))
    (variable_of fs x s)
identity_over fs {a} {b} (chosen_second s x y l r) =
    sides fs s a b (choice s falsity (var x s) (var y s)) (var y s) l r
    (choice_of fs s falsity (var x s) (var y s) (falsity_of fs) (variable_of fs x s) (variable_of fs y s))
    (variable_of fs y s)
identity_over fs {a} {b} (chosen_same s c x l r) =
    sides fs s a b (choice s (var c bool_sort) (var x s) (var x s)) (var x s) l r
    (choice_of fs s (var c bool_sort) (var x s) (var x s) (variable_of fs c bool_sort) (variable_of fs x s)
    (variable_of fs x s)) (variable_of fs x s)

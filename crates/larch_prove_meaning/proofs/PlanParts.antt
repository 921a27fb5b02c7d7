-- What plans are made of keeps sorts: new constants, hypotheses, subgoals.
use Rattle.std.specs.Prelude.{◌≡◌, ℕ, List, [], ◌∷◌, ◌++◌, map, All, Contains, Some, Result, Ok, refl}
use Rattle.std.proofs.Common.{inl, inr, ap, subst, ◌∙◌}
use Rattle.std.proofs.lemmas.List.Elements.{All-cons, All-nil}
use Rattle.larch_base.specs.declared.code.Code.{Code}
use Rattle.larch_base.proofs.Members.{contains_cases, contains_none, contains_left, contains_right}
use Rattle.larch_term.specs.Operator.{PlainOperator}
use Rattle.larch_term.specs.Tree.{Tree}
use Rattle.larch_term.specs.Sorts.{sort_of, IsTermOver}
use Rattle.larch_term.specs.Variable.{variables_of}
use Rattle.larch_term.specs.declared.variable.Variable.{Variable}
use Rattle.larch_pairs_critical.proofs.TermLawSubstitutions.{substituted_sort, substituted_well_sorted}
use Rattle.larch_pairs_critical.proofs.TermLawSubstitutions.{substituted_over}
use Rattle.larch_rewrite_meaning.specs.CalculusFreed.{constants_for}
use Rattle.larch_rewrite_meaning.specs.CalculusTheories.{AreConstants}
use Rattle.larch_rewrite_meaning.proofs.CalculusFreeing.{constants_fit, constants_over}
use Rattle.larch_rewrite_meaning.proofs.CalculusSorted.{Knows, over_more, knows_more}
use Rattle.larch_rewrite_meaning.specs.Sides.{Sides, AreSidesOver}
use Rattle.larch_prove_meaning.specs.NewNames.{constant_named, free_name, new_constants}
use Rattle.larch_prove_meaning.specs.Plans.{Subgoal, Plan, holds, fails, shared_subgoal, closed_by, IsFormulaOver}
use Rattle.larch_prove_meaning.specs.Plans.{IsSubgoalOver, IsPlanOver}
use Rattle.larch_prove_meaning.proofs.AddingSorts.{truth_over, falsity_over}

pub some_same : {A : Type 0} {p q : A} → Some p ≡ Some q → p ≡ q
some_same k = cc

-- a plan as an answer
abbrev planned : Plan → Result Plan Code
planned made = Ok made

pub ok_same : {x y : Plan} → planned x ≡ planned y → x ≡ y
ok_same q = cc

pub new_are_constants : (taken : List (List ℕ)) (vs : List Variable) → AreConstants (new_constants taken vs)
new_are_constants taken [] = All-nil (λ f. f.domain ≡ [])
new_are_constants taken (v ∷ vs) =
    let n = free_name taken _ in
    All-cons (λ f. f.domain ≡ []) (constant_named n v.sort) (new_constants (n ∷ taken) vs) refl
    (new_are_constants (n ∷ taken) vs)

pub new_have_sorts : (taken : List (List ℕ)) (vs : List Variable)
    → map (λ c. c.range) (new_constants taken vs) ≡ map (λ v. v.sort) vs
new_have_sorts taken [] = refl
new_have_sorts taken (v ∷ vs) = ap (λ ss. v.sort ∷ ss) (new_have_sorts (free_name taken _ ∷ taken) vs)

-- these are among operators
abbrev pub AreAmong : List PlainOperator → List PlainOperator → Type 0
AreAmong gs cs = (c : PlainOperator) → Contains cs c → Contains gs c

-- a term has become one over more operators, of the same sort
abbrev Stays : List PlainOperator → Tree → Tree → Type 0
Stays gs t u = IsTermOver gs u × (sort_of u ≡ sort_of t)

-- a term with new constants in the places of variables
closed_over : (fs gs : List PlainOperator) (t u : Tree) (taken : List (List ℕ)) → Knows fs gs
    → AreAmong gs (new_constants taken (variables_of t)) → IsTermOver fs u
    → Stays gs u (closed_by t (new_constants taken (variables_of t)) u)
closed_over fs gs t u taken k h w =
    let vs = variables_of t in
    let cs = new_constants taken vs in
    let fit = constants_fit vs cs (new_are_constants taken vs) (new_have_sorts taken vs) in (
      (
        substituted_well_sorted (constants_for vs cs) u fit w.0,
        substituted_over gs (constants_for vs cs) u (constants_over gs vs cs h) (over_more fs gs k u w.1),
      ),
      substituted_sort (constants_for vs cs) u fit,
    )

pub closed_formula : (fs gs : List PlainOperator) (t u : Tree) (taken : List (List ℕ)) → Knows fs gs
    → AreAmong gs (new_constants taken (variables_of t)) → IsFormulaOver fs u
    → IsFormulaOver gs (closed_by t (new_constants taken (variables_of t)) u)
closed_formula fs gs t u taken k h w =
    let c = closed_over fs gs t u taken k h w.0 in (c.0, c.1 ∙ w.1)

pub holds_over : (gs : List PlainOperator) (t : Tree) → IsFormulaOver gs t → AreSidesOver gs (holds t)
holds_over gs t w = (w.0, truth_over gs, w.1)

pub fails_over : (gs : List PlainOperator) (t : Tree) → IsFormulaOver gs t → AreSidesOver gs (fails t)
fails_over gs t w = (w.0, falsity_over gs, w.1)

pub one_hypothesis : (gs : List PlainOperator) (e : Sides) → AreSidesOver gs e → All (AreSidesOver gs) (e ∷ [])
one_hypothesis gs e h = All-cons (AreSidesOver gs) e [] h (All-nil (AreSidesOver gs))

-- operators behind which a plan's constants stand, and a subgoal's
pub knows_front : (fs cs ds : List PlainOperator) → Knows fs (fs ++ (cs ++ ds))
knows_front fs cs ds = knows_more fs (cs ++ ds)

pub among_first : (fs cs ds : List PlainOperator) → AreAmong (fs ++ (cs ++ ds)) cs
among_first fs cs ds c h = contains_right fs (cs ++ ds) c (contains_left cs ds c h)

pub among_last : (fs cs ds : List PlainOperator) → AreAmong (fs ++ (cs ++ ds)) ds
among_last fs cs ds c h = contains_right fs (cs ++ ds) c (contains_right cs ds c h)

-- a plan of one subgoal, or of two, without constants of their own
pub one_subgoal : (fs cs : List PlainOperator) (hs : List Sides) (g : Tree) → All (AreSidesOver (fs ++ (cs ++ []))) hs
    → IsFormulaOver (fs ++ (cs ++ [])) g
    → IsPlanOver fs (record { constants = cs; subgoals = shared_subgoal hs g ∷ [] })
one_subgoal fs cs hs g h w s c = elim (contains_cases (shared_subgoal hs g) s [] c) [
  | inl e ↦ subst (λ (x : Subgoal). IsSubgoalOver (fs ++ (cs ++ x.constants)) x) e (h, w)
  | inr n ↦ absurd (contains_none s n)
]

pub two_subgoals : (fs cs : List PlainOperator) (hs ks : List Sides) (g l : Tree)
    → All (AreSidesOver (fs ++ (cs ++ []))) hs → IsFormulaOver (fs ++ (cs ++ [])) g
    → All (AreSidesOver (fs ++ (cs ++ []))) ks → IsFormulaOver (fs ++ (cs ++ [])) l
    → IsPlanOver fs (record { constants = cs; subgoals = shared_subgoal hs g ∷ shared_subgoal ks l ∷ [] })
two_subgoals fs cs hs ks g l h w i v s c = elim (contains_cases (shared_subgoal hs g) s (shared_subgoal ks l ∷ []) c) [
  | inl e ↦ subst (λ (x : Subgoal). IsSubgoalOver (fs ++ (cs ++ x.constants)) x) e (h, w)
  | inr n ↦ one_subgoal fs cs ks l i v s n
]

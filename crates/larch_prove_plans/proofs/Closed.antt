-- Constants for different variables.
use Rattle.std.proofs.Common.{◌≡◌, ◌≢◌, inl, inr, arith, ap, sym, subst, ◌∙◌, false, List, [], ◌∷◌, All, AllPairs}
use Rattle.std.proofs.lemmas.List.Elements.{All-nil, All-cons, All-head, All-tail}
use Rattle.std.proofs.lemmas.List.Kept.{AllPairs-cons}
use Rattle.larch_base.proofs.Bools.{true_or_false}
use Rattle.larch_base.proofs.Lists.{pairs_head, pairs_tail}
use Rattle.larch_term.specs.Operator.{PlainOperator}
use Rattle.larch_term.specs.Substitution.{is_entry_of}
use Rattle.larch_term.specs.Tree.{Tree}
use Rattle.larch_term.specs.Variable.{same_variable, variables_of}
use Rattle.larch_term.specs.declared.substitution.Entry.{Entry}
use Rattle.larch_term.specs.declared.variable.Variable.{Variable}
use Rattle.larch_calculus.proofs.TermLawOccurring.{listed_once, variable_Decides}
use Rattle.larch_calculus.specs.Formula.{constant}
use Rattle.larch_calculus.specs.Freed.{constants_for}

-- an entry of another variable
abbrev Apart : Entry → Entry → Type 0
Apart d e = is_entry_of e.name e.sort d ≡ false

abbrev entry_of : Variable → PlainOperator → Entry
entry_of v c = record { name = v.name; sort = v.sort; term = constant c }

other : (v w : Variable) → v ≢ w → same_variable v w ≡ false
other v w h = elim (true_or_false (same_variable v w)) [ inl a ↦ absurd (h ((variable_Decides v w).0 a)) | inr b ↦ b ]

apart_from : (v : Variable) (c : PlainOperator) (vs : List Variable) (cs : List PlainOperator) → All (λ w. v ≢ w) vs
    → All (Apart (entry_of v c)) (constants_for vs cs)
apart_from v c [] cs h = All-nil (Apart (entry_of v c))
apart_from v c (w ∷ vs) [] h = All-nil (Apart (entry_of v c))
apart_from v c (w ∷ vs) (d ∷ cs) h =
    All-cons (Apart (entry_of v c)) (entry_of w d) (constants_for vs cs) (other v w (All-head (λ w. v ≢ w) w vs h))
    (apart_from v c vs cs (All-tail (λ w. v ≢ w) w vs h))

all_apart : (vs : List Variable) (cs : List PlainOperator) → AllPairs (λ v w. v ≢ w) vs
    → AllPairs Apart (constants_for vs cs)
all_apart [] cs h = λ i j d lt within. absurd (omega arith)
all_apart (v ∷ vs) [] h = λ i j d lt within. absurd (omega arith)
all_apart (v ∷ vs) (c ∷ cs) h =
    AllPairs-cons Apart (entry_of v c) (constants_for vs cs)
    (apart_from v c vs cs (pairs_head (λ v w. v ≢ w) v vs h)) (all_apart vs cs (pairs_tail (λ v w. v ≢ w) v vs h))

-- the constants for the variables of a term stand in entries of different variables
pub constants_apart : (t : Tree) (cs : List PlainOperator) (vs : List Variable) (es : List Entry) → vs ≡ variables_of t
    → es ≡ constants_for vs cs → AllPairs (λ d e. is_entry_of e.name e.sort d ≡ false) es
constants_apart t cs vs es v e =
    subst (AllPairs Apart) (sym (e ∙ ap (λ ws. constants_for ws cs) v)) (all_apart (variables_of t) cs (listed_once t))

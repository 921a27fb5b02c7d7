-- Built-in operators and the sorts that they are at.
use Rattle.std.proofs.Common.{◌≡◌, ℕ, ◌-◌, ◌<◌, ◌||◌, Bool, true, false, IsTrue, ◌↔◌, Some, List, [], ◌∷◌, length}
use Rattle.std.proofs.Common.{get_or, refl, sym, ◌∙◌, ap, arith}
use Rattle.std.specs.Bool.{Decides}
use Rattle.std.specs.List.{list_any}
use Rattle.std.proofs.lemmas.List.Folds.{list_any_at}
use Rattle.std.proofs.lemmas.Bool.Decides.{same_from_decides}
use Rattle.larch_term.specs.Operator.{PlainOperator, plain}
use Rattle.larch_term.specs.BuiltInNames.{built_in_named}
use Rattle.larch_term.specs.BuiltIn.{built_in, built_in_name, IsBuiltIn, IsBuiltInAs, built_ins, is_built_in}
use Rattle.larch_term.specs.BuiltIn.{is_built_in_as}
use Rattle.larch_term.specs.declared.built_in.BuiltIn.{BuiltIn}
use Rattle.larch_term.specs.declared.built_in.BuiltIn.TheVariants.{True, False, Not, And, Or, Implies, Iff, Equal}
use Rattle.larch_term.specs.declared.built_in.BuiltIn.TheVariants.{Unequal, If}
use Rattle.larch_term.proofs.Decided.{operator_Decides}

-- the last sort of the domain
abbrev pub last_sort : PlainOperator → List ℕ
last_sort f = get_or f.domain (length f.domain - 1) []

-- each built-in operator has a place in the list of all
place_of_each : (b : BuiltIn) → (i : ℕ) × (i < length built_ins) × (get_or built_ins i If ≡ b)
place_of_each True = (0, omega arith, refl)
place_of_each False = (1, omega arith, refl)
place_of_each Not = (2, omega arith, refl)
place_of_each And = (3, omega arith, refl)
place_of_each Or = (4, omega arith, refl)
place_of_each Implies = (5, omega arith, refl)
place_of_each Iff = (6, omega arith, refl)
place_of_each Equal = (7, omega arith, refl)
place_of_each Unequal = (8, omega arith, refl)
place_of_each If = (9, omega arith, refl)

named_built_in : (b : BuiltIn) → built_in_named (built_in_name b) ≡ Some b
named_built_in True = refl
named_built_in False = refl
named_built_in Not = refl
named_built_in And = refl
named_built_in Or = refl
named_built_in Implies = refl
named_built_in Iff = refl
named_built_in Equal = refl
named_built_in Unequal = refl
named_built_in If = refl

-- a built-in operator is found by its name
pub is_named : (b : BuiltIn) (f : PlainOperator) (n : List ℕ) → IsBuiltInAs b f → plain n ≡ f.name
    → built_in_named n ≡ Some b
is_named b f n h e =
    let same : n ≡ built_in_name b = cc (h.1, e) in
    ap built_in_named same ∙ named_built_in b

built_in_at_last : (b : BuiltIn) (s : List ℕ) → built_in b s ≡ built_in b (last_sort (built_in b s))
built_in_at_last True s = refl
built_in_at_last False s = refl
built_in_at_last Not s = refl
built_in_at_last And s = refl
built_in_at_last Or s = refl
built_in_at_last Implies s = refl
built_in_at_last Iff s = refl
built_in_at_last Equal s = refl
built_in_at_last Unequal s = refl
built_in_at_last If s = refl

-- a built-in operator is it at the last sort of its domain
pub is_built_in_at_last : (b : BuiltIn) (f : PlainOperator) → IsBuiltInAs b f → f ≡ built_in b (last_sort f)
is_built_in_at_last b f h = h.1 ∙ built_in_at_last b h.0 ∙ ap (λ g. built_in b (last_sort g)) (sym h.1)

pub empty_is_nil : (xs : List (List ℕ)) → length xs ≡ 0 → xs ≡ []
empty_is_nil [] e = refl
empty_is_nil (x ∷ xs) e = absurd (omega arith)

as_Decides : (f : PlainOperator) (b : BuiltIn) → Decides (is_built_in_as f b) (IsBuiltInAs b f)
as_Decides f b =
    let d = operator_Decides f (built_in b (last_sort f)) in
    (λ e. (last_sort f, d.0 e), λ h. d.1 (is_built_in_at_last b f h))

some_is : (f : PlainOperator) (b : BuiltIn) (bs : List BuiltIn) (r : Bool) → is_built_in_as f b ≡ r
    → (list_any (is_built_in_as f) bs ≡ true → IsBuiltIn f) → (r || list_any (is_built_in_as f) bs) ≡ true → IsBuiltIn f
some_is f b bs true e next h = (b, (as_Decides f b).0 e)
some_is f b bs false e next h = next h

any_is : (f : PlainOperator) (bs : List BuiltIn) → list_any (is_built_in_as f) bs ≡ true → IsBuiltIn f
any_is f [] e = cc
any_is f (b ∷ bs) e = some_is f b bs (is_built_in_as f b) refl (any_is f bs) e

-- the test tells exactly which operators are built in
pub is_built_in_Decides : (f : PlainOperator) → Decides (is_built_in f) (IsBuiltIn f)
unfolding is_built_in
is_built_in_Decides f = (
  any_is f built_ins,
  λ h. let p = place_of_each h.0 in
      list_any_at (is_built_in_as f) built_ins p.0 If p.1 (ap (is_built_in_as f) p.2 ∙ (as_Decides f h.0).1 h.1),
)

pub built_in_told : (f : PlainOperator) (r : Bool) → IsTrue r ↔ IsBuiltIn f → r ≡ is_built_in f
built_in_told f r h = same_from_decides r (is_built_in f) h (is_built_in_Decides f)

-- The test for the constant true.
use Rattle.std.proofs.Common.{◌≡◌, ℕ, ◌==◌, ◌&&◌, true, false, List, [], ◌∷◌, length, codes, bytes_eq, refl, arith}
use Rattle.std.specs.Bool.{Decides}
use Rattle.std.proofs.lemmas.Slice.Eq.{bytes_eq-Decides}
use Rattle.larch_base.proofs.Bools.{both_true}
use Rattle.larch_term.specs.BuiltIn.{bool_sort, built_in}
use Rattle.larch_term.specs.Operator.{OperatorName, PlainOperator, plain, boxed, name_bytes}
use Rattle.larch_term.specs.Tree.{Tree, var, app, none, more, forest_of}
use Rattle.larch_term.specs.Truth.{truth, is_true, is_truth}
use Rattle.larch_term.specs.declared.built_in.BuiltIn.TheVariants.{True}

pub not_truth : (f : PlainOperator) (ts : List Tree) → (length ts == 0) ≡ false
    → is_truth (app f (forest_of ts)) ≡ false
not_truth f [] h = cc
not_truth f (t ∷ ts) h = refl

no_sorts : (ss : List (List ℕ)) → (length ss == 0) ≡ true → ss ≡ []
no_sorts [] e = refl
no_sorts (s ∷ ss) e = let z : length (s ∷ ss) ≡ 0 = grind arith in absurd (omega arith)

named_true : (n : OperatorName) → bytes_eq (name_bytes n) (codes "true") ≡ true → n ≡ plain (codes "true")
named_true (plain n) e = let i : n ≡ codes "true" = (bytes_eq-Decides n (codes "true")).0 e in λ k. plain (i k)
named_true (boxed b k) e = cc

is_true_one : (f : PlainOperator) → is_true f ≡ true → f ≡ built_in True bool_sort
is_true_one f e =
    let p = both_true (bytes_eq (name_bytes f.name) (codes "true"))
    ((length f.domain == 0) && bytes_eq f.range bool_sort) e in
    let q = both_true (length f.domain == 0) (bytes_eq f.range bool_sort) p.1 in
    let n = named_true f.name p.0 in
    let d = no_sorts f.domain q.0 in
    let r : f.range ≡ bool_sort = (bytes_eq-Decides f.range bool_sort).0 q.1 in
    λ i. record { name = n i; domain = d i; range = r i }

-- the test tells exactly what is the constant true
pub is_truth_Decides : (t : Tree) → Decides (is_truth t) (t ≡ truth)
is_truth_Decides (var n s) = (λ e. cc, λ e. cc)
is_truth_Decides (app f none) =
    (λ e i. app (is_true_one f e i) none, λ e. let i : f ≡ built_in True bool_sort = cc in rw i refl)
is_truth_Decides (app f (more t ts)) = (λ e. cc, λ e. cc)

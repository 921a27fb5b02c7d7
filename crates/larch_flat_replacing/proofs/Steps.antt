-- Replacements one after the other.
use Rattle.std.proofs.Common.{◌≡◌, ◌∙◌, ℕ, ◌≤◌, List, [], ◌∷◌, ◌++◌, length, drop, Result, Ok, Err, refl, ap, arith}
use Rattle.std.proofs.lemmas.List.{drop_all}
use Rattle.larch_raw.specs.declared.declared.RawForm.{RawForm}
use Rattle.larch_raw.specs.declared.reference.RawActual.{RawActual}
use Rattle.larch_raw.specs.declared.reference.RawRef.{RawRef}
use Rattle.larch_base.specs.declared.code.Code.TheVariants.{Rename}
use Rattle.larch_base_meaning.specs.Steps.{after, all_taken}
use Rattle.larch_term.specs.Operator.{PlainOperator}
use Rattle.larch_flat_meaning.specs.Replacements.{Replacements, by_name, by_position, is_count_wrong, kept_apart}
use Rattle.larch_flat_meaning.specs.Replacements.{none_replaced, plain_forms, replace, replacements_of}
use Rattle.larch_flat_meaning.specs.Stops.{refused_if}

then_by : {A B C E : Type 0} (r : Result A E) (p : A → Result C E) (q : A → Result B E) (s : B → Result C E)
    → ((x : A) → p x ≡ after (q x) s)
    → after r p ≡ after (after r q) s
then_by (Ok x) p q s h = h x
then_by (Err e) p q s h = refl

-- all steps of two lists are those of one and then those of the other
pub all_taken_behind : {A B E : Type 0} (take : A → B → Result B E) (xs ys : List A) (made : B)
    → all_taken take (xs ++ ys) made ≡ after (all_taken take xs made) (all_taken take ys)
all_taken_behind take [] ys made = refl
all_taken_behind take (x ∷ xs) ys made =
    then_by (take x made) (all_taken take (xs ++ ys)) (all_taken take xs) (all_taken take ys)
    (λ next. all_taken_behind take xs ys next)

-- no form stands for a formal
pub by_position_none : (formals : List RawForm) → by_position formals [] ≡ []
by_position_none [] = refl
by_position_none (f ∷ fs) = refl

-- where no actual is left nothing more is replaced
pub none_left : (fs : List PlainOperator) (formals : List RawForm) (actuals : List RawActual) (i : ℕ)
    (by : Replacements) → length actuals ≤ i
    → all_taken (replace fs) (by_position formals (plain_forms (drop i actuals))) by ≡ Ok by
none_left fs formals actuals i by le =
    ap (λ left. all_taken (replace fs) (by_position formals (plain_forms left)) by) (drop_all i actuals le)
    ∙ ap (λ rs. all_taken (replace fs) rs by) (by_position_none formals)

-- what a reference replaces, with the two lists apart
pub replacements_told : (fs : List PlainOperator) (formals : List RawForm) (ref : RawRef)
    → replacements_of fs formals ref
    ≡ refused_if Rename ref.name.pos (is_count_wrong formals (plain_forms ref.actuals))
    (after (after (all_taken (replace fs) (by_position formals (plain_forms ref.actuals)) none_replaced)
    (all_taken (replace fs) (by_name ref.actuals)))
    (kept_apart fs ref.name.pos))
unfolding replacements_of
replacements_told fs formals ref =
    ap (λ r. refused_if Rename ref.name.pos (is_count_wrong formals (plain_forms ref.actuals))
    (after r (kept_apart fs ref.name.pos)))
    (all_taken_behind (replace fs) (by_position formals (plain_forms ref.actuals)) (by_name ref.actuals) none_replaced)

-- without actuals nothing is replaced
pub nothing_replaced : (fs : List PlainOperator) (formals : List RawForm) (actuals : List RawActual)
    → length actuals ≡ 0
    → after (all_taken (replace fs) (by_position formals (plain_forms actuals)) none_replaced)
    (all_taken (replace fs) (by_name actuals)) ≡ Ok none_replaced
nothing_replaced fs formals [] e =
    ap (λ rs. after (all_taken (replace fs) rs none_replaced) (all_taken (replace fs) [])) (by_position_none formals)
nothing_replaced fs formals (a ∷ others) e = absurd (omega arith)

-- The first part that has no reading.
use Rattle.std.proofs.Common.{◌≡◌, ℕ, zero, suc, ◌+◌, ◌<◌, ◌≤◌, Bool, true, false, cond, List, [], ◌∷◌, ◌++◌, drop}
use Rattle.std.proofs.Common.{get_or, length, Contains, Option, Some, None, refl, sym, ◌∙◌, ap, subst, arith}
use Rattle.std.specs.List.{find}
use Rattle.std.specs.Option.{option_map, option_or}
use Rattle.std.proofs.lemmas.List.Folds.{find-append}
use Rattle.std.proofs.lemmas.List.{drop_more}
use Rattle.larch_base.specs.declared.position.Pos.{Pos}
use Rattle.larch_base.specs.declared.code.Code.TheVariants.{NoReading}
use Rattle.larch_base.proofs.Options.{map_or}
use Rattle.larch_base.proofs.Members.{contains_here, contains_none}
use Rattle.larch_raw.specs.RawTree.{RawTree, RawForest, apply, qualified, no_more, one_more, raw_forest}
use Rattle.larch_term.specs.Operator.{PlainOperator}
use Rattle.larch_term.specs.Tree.{Tree}
use Rattle.larch_sorts_meaning.specs.Read.{is_empty, unread_in}
use Rattle.larch_sorts_meaning.specs.Parts.{head_of, parts, parts_of, inner_parts}
use Rattle.larch_sorts_meaning.specs.Scope.{Variables}
use Rattle.larch_sorts_meaning.specs.Readings.{IsNone, variable_sort, Reads}
use Rattle.larch_sorts_meaning.specs.ReadingLists.{readings}
use Rattle.larch_sorts_meaning.specs.Refusal.{Unread}
use Rattle.larch_sorts_meaning.specs.declared.refusal.ReadRefusal.{ReadRefusal}
use Rattle.larch_sorts_meaning.specs.Faults.{fault_at}
use Rattle.larch_sorts_meaning.proofs.Refusals.{told_weaker, fault_first}
use Rattle.larch_sorts_meaning.proofs.Listed.{listed, reads_listed}

pub unread_append : (fs : List PlainOperator) (vs : Variables) (xs ys : List RawTree)
    → unread_in fs vs (xs ++ ys) ≡ option_or (unread_in fs vs xs) (unread_in fs vs ys)
unfolding unread_in
unread_append fs vs xs ys =
    ap (option_map head_of) (find-append (λ raw. is_empty (readings fs vs raw)) xs ys)
    ∙ map_or head_of (find (λ raw. is_empty (readings fs vs raw)) xs) (find (λ raw. is_empty (readings fs vs raw)) ys)

-- what is read first leaves the position to the rest
pub read_first : (fs : List PlainOperator) (vs : Variables) (xs ys : List RawTree) → unread_in fs vs xs ≡ None
    → unread_in fs vs (xs ++ ys) ≡ unread_in fs vs ys
read_first fs vs xs ys e = unread_append fs vs xs ys ∙ ap (λ x. option_or x (unread_in fs vs ys)) e

-- what is unread among the first is unread among all
pub unread_first : (fs : List PlainOperator) (vs : Variables) (refusal : ReadRefusal) (xs ys : List RawTree)
    → Unread refusal (unread_in fs vs xs) → Unread refusal (unread_in fs vs (xs ++ ys))
unread_first fs vs refusal xs ys u =
    told_weaker refusal (λ f. fault_at NoReading (unread_in fs vs xs) ≡ Some f)
    (λ f. fault_at NoReading (unread_in fs vs (xs ++ ys)) ≡ Some f)
    (λ f e. ap (fault_at NoReading) (unread_append fs vs xs ys)
    ∙ fault_first NoReading (unread_in fs vs xs) (unread_in fs vs ys) f e) u

parts_is : (raw : RawTree) → parts raw ≡ inner_parts raw ++ raw ∷ []
parts_is (apply n raws p) = refl
parts_is (qualified raw w p) = refl

-- what is unread inside a term
pub unread_inside : (fs : List PlainOperator) (vs : Variables) (refusal : ReadRefusal) (raw : RawTree)
    → Unread refusal (unread_in fs vs (inner_parts raw)) → Unread refusal (unread_in fs vs (parts raw))
unread_inside fs vs refusal raw u = rw (parts_is raw) (unread_first fs vs refusal (inner_parts raw) (raw ∷ []) u)

none_read : (fs : List PlainOperator) (vs : Variables) (raw : RawTree) → IsNone (Reads fs vs raw) → (ts : List Tree)
    → readings fs vs raw ≡ ts → is_empty ts ≡ true
none_read fs vs raw h [] e = refl
none_read fs vs raw h (t ∷ ts) e =
    absurd (h t (reads_listed fs vs raw t (subst (λ us. Contains us t) (sym e) (contains_here t ts))))

some_read : (fs : List PlainOperator) (vs : Variables) (raw : RawTree) (t : Tree) → Reads fs vs raw t → (ts : List Tree)
    → readings fs vs raw ≡ ts → is_empty ts ≡ false
some_read fs vs raw t r [] e = absurd (contains_none t (subst (λ us. Contains us t) e (listed fs vs raw t r)))
some_read fs vs raw t r (u ∷ us) e = refl

unread_single : (fs : List PlainOperator) (vs : Variables) (raw : RawTree) (b : Bool)
    → is_empty (readings fs vs raw) ≡ b → unread_in fs vs (raw ∷ []) ≡ cond b (Some (head_of raw)) None
unfolding unread_in
unread_single fs vs raw true e = rw e refl
unread_single fs vs raw false e = rw e refl

-- a term without a reading, whose parts are read, is the first unread one
pub unread_without : (fs : List PlainOperator) (vs : Variables) (raw : RawTree)
    → unread_in fs vs (inner_parts raw) ≡ None → IsNone (Reads fs vs raw)
    → unread_in fs vs (parts raw) ≡ Some (head_of raw)
unread_without fs vs raw e h =
    rw (parts_is raw) (read_first fs vs (inner_parts raw) (raw ∷ []) e
    ∙ unread_single fs vs raw true (none_read fs vs raw h (readings fs vs raw) refl))

-- a term with a reading, whose parts are read, has no unread part
pub read_with : (fs : List PlainOperator) (vs : Variables) (raw : RawTree) (t : Tree)
    → unread_in fs vs (inner_parts raw) ≡ None → Reads fs vs raw t → unread_in fs vs (parts raw) ≡ None
read_with fs vs raw t e r =
    rw (parts_is raw) (read_first fs vs (inner_parts raw) (raw ∷ []) e
    ∙ unread_single fs vs raw false (some_read fs vs raw t r (readings fs vs raw) refl))

-- a variable has no part that could be unread
pub variable_read : (fs : List PlainOperator) (vs : Variables) (n s : List ℕ) (raws : RawForest)
    → variable_sort vs n raws ≡ Some s → unread_in fs vs (parts_of raws) ≡ None
unfolding unread_in
variable_read fs vs n s no_more e = refl
variable_read fs vs n s (one_more raw raws) e = cc

-- nothing stands in no arguments
pub nothing_inside : (fs : List PlainOperator) (vs : Variables) (raws : List RawTree) → raws ≡ []
    → unread_in fs vs (parts_of (raw_forest raws)) ≡ None
unfolding unread_in
nothing_inside fs vs [] e = refl
nothing_inside fs vs (raw ∷ raws) e = cc

-- the arguments from a place on
forest_from : (raws : List RawTree) (i : ℕ) (raw : RawTree) → i < length raws → raw ≡ get_or raws i raw
    → parts_of (raw_forest (drop i raws)) ≡ parts raw ++ parts_of (raw_forest (drop (i + 1) raws))
forest_from raws i raw lt e =
    ap (λ x. parts_of (raw_forest x)) (drop_more raws i raw lt ∙ ap (λ x. x ∷ drop (i + 1) raws) (sym e))

-- one argument more is read
pub argument_read : (fs : List PlainOperator) (vs : Variables) (raws : List RawTree) (i : ℕ) (raw : RawTree)
    → i < length raws → raw ≡ get_or raws i raw
    → unread_in fs vs (parts raw) ≡ None
    → unread_in fs vs (parts_of (raw_forest (drop i raws)))
    ≡ unread_in fs vs (parts_of (raw_forest (drop (i + 1) raws)))
argument_read fs vs raws i raw lt e r =
    ap (unread_in fs vs) (forest_from raws i raw lt e)
    ∙ read_first fs vs (parts raw) (parts_of (raw_forest (drop (i + 1) raws))) r

-- one argument is unread
pub argument_unread : (fs : List PlainOperator) (vs : Variables) (refusal : ReadRefusal) (raws : List RawTree) (i : ℕ)
    (raw : RawTree) → i < length raws → raw ≡ get_or raws i raw
    → Unread refusal (unread_in fs vs (parts raw))
    → Unread refusal (unread_in fs vs (parts_of (raw_forest (drop i raws))))
argument_unread fs vs refusal raws i raw lt e u =
    rw (forest_from raws i raw lt e)
    (unread_first fs vs refusal (parts raw) (parts_of (raw_forest (drop (i + 1) raws))) u)

-- one argument is unread, so all arguments are
pub arguments_unread : (fs : List PlainOperator) (vs : Variables) (refusal : ReadRefusal) (raws : List RawTree) (i : ℕ)
    (raw : RawTree) (pos : Option Pos) → i < length raws → raw ≡ get_or raws i raw
    → unread_in fs vs (parts_of (raw_forest (drop i raws))) ≡ pos → Unread refusal (unread_in fs vs (parts raw))
    → Unread refusal pos
arguments_unread fs vs refusal raws i raw pos lt e is u =
    subst (Unread refusal) is (argument_unread fs vs refusal raws i raw lt e u)

-- arguments stand where there is no variable
pub no_variable : (vs : Variables) (n : List ℕ) (raws : List RawTree) → (length raws ≡ 0 → ⊥)
    → None ≡ variable_sort vs n (raw_forest raws)
no_variable vs n [] h = absurd (h refl)
no_variable vs n (raw ∷ raws) h = refl

-- behind the last argument nothing is unread
pub nothing_unread : (fs : List PlainOperator) (vs : Variables) (raws : List RawTree) (i : ℕ) → length raws ≤ i
    → unread_in fs vs (parts_of (raw_forest (drop i raws))) ≡ None
unfolding unread_in
nothing_unread fs vs [] zero l = refl
nothing_unread fs vs [] (suc i) l = refl
nothing_unread fs vs (raw ∷ raws) zero l = absurd (omega (arith, l))
nothing_unread fs vs (raw ∷ raws) (suc i) l = nothing_unread fs vs raws i (omega (arith, l))

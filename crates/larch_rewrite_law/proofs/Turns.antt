-- The work on a normal form, argument by argument.
use Rattle.std.specs.Prelude.{◌≡◌, ◌<◌, ◌≤◌, ◌+◌, ℕ, suc, zero, Bool, true, false, List, [], ◌∷◌, ◌++◌, nat_lt, Option}
use Rattle.std.specs.Prelude.{Some, None, refl}
use Rattle.std.proofs.Common.{arith, ap, sym, subst, ◌∙◌}
use Rattle.std.proofs.lemmas.Bool.{ltb-false, le-ltb}
use Rattle.larch_base.specs.declared.limits.TheConstants.{MAX_TERM_NODES}
use Rattle.larch_term.specs.Operator.{PlainOperator}
use Rattle.larch_term.specs.Tree.{Tree, Forest, var, app, none, more, forest_of, list_of, nodes, nodes_all}
use Rattle.larch_rewrite_meaning.specs.Work.{Work, Made, OverLimit, OverSize, then_work, within_size, after_forming}
use Rattle.larch_rewrite_meaning.specs.Work.{is_large}
use Rattle.larch_rewrite_meaning.specs.Sides.{Sides}
use Rattle.larch_rewrite_meaning.specs.Rewriting.{rewritten_once}
use Rattle.larch_rewrite_meaning.specs.NormalForm.{Onward, applied_or, at_root, pass, pass_all, normal}
use Rattle.larch_rewrite_meaning.proofs.NormalForms.{normal_unfold}
use Rattle.larch_rewrite_law.specs.Levels.{onward, root_work, arguments_work}

-- ---- sizes

formed_large : (t : Tree) (w : Work Tree) → is_large t ≡ true → after_forming t w ≡ OverSize
formed_large t w h = ap (λ b. within_size b w) h

formed_small : (t : Tree) (w : Work Tree) → is_large t ≡ false → after_forming t w ≡ w
formed_small t w h = ap (λ b. within_size b w) h

nat_small : (n m : ℕ) → n ≤ m → nat_lt MAX_TERM_NODES m ≡ false → nat_lt MAX_TERM_NODES n ≡ false
nat_small n m le h =
    let b = ltb-false MAX_TERM_NODES m h in le-ltb MAX_TERM_NODES n (omega (arith, le, b))

abbrev AllSmall : List Tree → Type 0
AllSmall [] = Unit {0}
AllSmall (t ∷ ts) = (is_large t ≡ false) × AllSmall ts

all_small : (k : ℕ) (ts : List Tree) → nat_lt MAX_TERM_NODES (k + nodes_all (forest_of ts)) ≡ false → AllSmall ts
all_small k [] h = tt
all_small k (t ∷ ts) h = (
  nat_small (nodes t) (k + (nodes t + nodes_all (forest_of ts))) (omega arith) h,
  all_small (k + nodes t) ts
      (nat_small (k + nodes t + nodes_all (forest_of ts)) (k + (nodes t + nodes_all (forest_of ts))) (omega arith) h),
)

-- ---- arguments

abbrev joined : List Tree → Forest → Forest
joined [] us = us
joined (t ∷ ts) us = more t (joined ts us)

joined_last : (done : List Tree) (u : Tree) (us : Forest) → joined done (more u us) ≡ joined (done ++ u ∷ []) us
joined_last [] u us = refl
joined_last (t ∷ done) u us = ap (more t) (joined_last done u us)

joined_all : (done : List Tree) → joined done none ≡ forest_of done
joined_all [] = refl
joined_all (t ∷ done) = ap (more t) (joined_all done)

then_then : {A B C : Type 0} (w : Work A) (g : A → ℕ → Work B) (h : B → ℕ → Work C)
    → then_work (then_work w g) h ≡ then_work w (λ x b. then_work (g x b) h)
then_then (Made x b) g h = refl
then_then OverLimit g h = refl
then_then OverSize g h = refl

then_by : {A B : Type 0} (w : Work A) (g h : A → ℕ → Work B) → ((x : A) (b : ℕ) → g x b ≡ h x b)
    → then_work w g ≡ then_work w h
then_by (Made x b) g h e = e x b
then_by OverLimit g h e = refl
then_by OverSize g h e = refl

pass_is_normal : (rules : List Sides) (t : Tree) (b : ℕ) → is_large t ≡ false
    → pass (onward rules) rules t b ≡ normal rules t b
pass_is_normal rules t b h =
    sym (normal_unfold rules t b ∙ formed_small t (pass (onward rules) rules t b) h)

-- one argument is normal, and the further ones follow
further_work : (rules : List Sides) (f : PlainOperator) (done : List Tree) (ts : Forest) (u : Tree) (r : ℕ)
    (w : Work Tree)
    → then_work (pass_all (onward rules) rules ts r)
    (λ us q. root_work rules (app f (joined (done ++ u ∷ []) us)) q) ≡ w
    → then_work (then_work (pass_all (onward rules) rules ts r) (λ us q. Made (more u us) q))
    (λ us q. root_work rules (app f (joined done us)) q) ≡ w
further_work rules f done ts u r w h =
    then_then (pass_all (onward rules) rules ts r) (λ us q. Made (more u us) q)
    (λ us q. root_work rules (app f (joined done us)) q)
    ∙ (then_by (pass_all (onward rules) rules ts r)
    (λ us q. root_work rules (app f (joined done (more u us))) q)
    (λ us q. root_work rules (app f (joined (done ++ u ∷ []) us)) q)
    (λ us q. ap (λ vs. root_work rules (app f vs) q) (joined_last done u us))
    ∙ h)

all_work : (rules : List Sides) (f : PlainOperator) (done ts : List Tree) (b : ℕ) → AllSmall ts
    → then_work (pass_all (onward rules) rules (forest_of ts) b)
    (λ us r. root_work rules (app f (joined done us)) r)
    ≡ arguments_work rules f done ts b
all_work rules f done [] b s = ap (λ us. root_work rules (app f us) b) (joined_all done)
all_work rules f done (t ∷ ts) b s =
    then_then (pass (onward rules) rules t b)
    (λ u r. then_work (pass_all (onward rules) rules (forest_of ts) r) (λ us q. Made (more u us) q))
    (λ us r. root_work rules (app f (joined done us)) r)
    ∙ (then_by (pass (onward rules) rules t b)
    (λ u r. then_work (then_work (pass_all (onward rules) rules (forest_of ts) r) (λ us q. Made (more u us) q))
    (λ us q. root_work rules (app f (joined done us)) q))
    (λ u r. arguments_work rules f (done ++ u ∷ []) ts r)
    (λ u r. further_work rules f done (forest_of ts) u r (arguments_work rules f (done ++ u ∷ []) ts r)
    (all_work rules f (done ++ u ∷ []) ts r s.1))
    ∙ ap (λ w. then_work w (λ u r. arguments_work rules f (done ++ u ∷ []) ts r)) (pass_is_normal rules t b s.0))

-- ---- how terms begin

pub begins_large : (rules : List Sides) (t : Tree) (b : ℕ) → is_large t ≡ true → normal rules t b ≡ OverSize
begins_large rules t b h = normal_unfold rules t b ∙ formed_large t (pass (onward rules) rules t b) h

pub begins_variable : (rules : List Sides) (n s : List ℕ) (b : ℕ)
    → normal rules (var n s) b ≡ root_work rules (var n s) b
begins_variable rules n s b = normal_unfold rules (var n s) b

pub begins_application : (rules : List Sides) (f : PlainOperator) (ts : List Tree) (b : ℕ)
    → is_large (app f (forest_of ts)) ≡ false → normal rules (app f (forest_of ts)) b ≡ arguments_work rules f [] ts b
begins_application rules f ts b h =
    sym (pass_is_normal rules (app f (forest_of ts)) b h) ∙ all_work rules f [] ts b (all_small 1 ts h)

-- ---- how arguments go on

pub argument_made : (rules : List Sides) (f : PlainOperator) (done ts : List Tree) (t u : Tree) (b r : ℕ)
    → normal rules t b ≡ Made u r
    → arguments_work rules f done (t ∷ ts) b ≡ arguments_work rules f (done ++ u ∷ []) ts r
argument_made rules f done ts t u b r h = ap (λ w. then_work w (λ v q. arguments_work rules f (done ++ v ∷ []) ts q)) h

pub argument_limit : (rules : List Sides) (f : PlainOperator) (done ts : List Tree) (t : Tree) (b : ℕ)
    → normal rules t b ≡ OverLimit → arguments_work rules f done (t ∷ ts) b ≡ OverLimit
argument_limit rules f done ts t b h = ap (λ w. then_work w (λ v q. arguments_work rules f (done ++ v ∷ []) ts q)) h

pub argument_size : (rules : List Sides) (f : PlainOperator) (done ts : List Tree) (t : Tree) (b : ℕ)
    → normal rules t b ≡ OverSize → arguments_work rules f done (t ∷ ts) b ≡ OverSize
argument_size rules f done ts t b h = ap (λ w. then_work w (λ v q. arguments_work rules f (done ++ v ∷ []) ts q)) h

-- ---- how roots go on

pub root_large : (rules : List Sides) (t : Tree) (b : ℕ) → is_large t ≡ true → root_work rules t b ≡ OverSize
root_large rules t b h = formed_large t (applied_or (onward rules) t b (rewritten_once rules t)) h

root_small : (rules : List Sides) (t : Tree) (b : ℕ) (o : Option Tree) → is_large t ≡ false → rewritten_once rules t ≡ o
    → root_work rules t b ≡ applied_or (onward rules) t b o
root_small rules t b o h e =
    formed_small t (applied_or (onward rules) t b (rewritten_once rules t)) h ∙ ap (applied_or (onward rules) t b) e

pub root_normal : (rules : List Sides) (t : Tree) (b : ℕ) → is_large t ≡ false → rewritten_once rules t ≡ None
    → root_work rules t b ≡ Made t b
root_normal rules t b h e = root_small rules t b None h e

pub root_limit : (rules : List Sides) (t u : Tree) → is_large t ≡ false → rewritten_once rules t ≡ Some u
    → root_work rules t 0 ≡ OverLimit
root_limit rules t u h e = root_small rules t 0 (Some u) h e

pub root_made : (rules : List Sides) (t u : Tree) (b : ℕ) → is_large t ≡ false → rewritten_once rules t ≡ Some u
    → root_work rules t (b + 1) ≡ normal rules u b
root_made rules t u b h e =
    subst (λ n. root_work rules t n ≡ normal rules u b) (next_is b) (root_small rules t (suc b) (Some u) h e)
  where
    next_is : (b : ℕ) → suc b ≡ b + 1
    next_is b = omega arith

-- What raw terms and equations are read as.
use Rattle.std.specs.Prelude.{Contains, List, None, Option, Some, ℕ, ◌≡◌}
use Rattle.larch_base.specs.declared.position.Pos.{Pos}
use Rattle.larch_raw.specs.RawTree.{RawForest, RawTree, apply, no_more, one_more, qualified, raw_forest}
use Rattle.larch_raw.specs.declared.declared.RawWord.{RawWord}
use Rattle.larch_raw.specs.declared.equation.RawEquation.{RawEquation}
use Rattle.larch_raw.specs.declared.equation.RawRight.{RawRight}
use Rattle.larch_term.specs.Operator.{PlainOperator, plain}
use Rattle.larch_term.specs.Sorts.{sort_of, sorts_of}
use Rattle.larch_term.specs.Truth.{truth}
use Rattle.larch_term.specs.Tree.{Forest, Tree, app, more, none, var, forest_of}
use Rattle.larch_term.specs.BuiltIn.{bool_sort}
use Rattle.larch_term.specs.declared.statement.Statement.{Statement}
use Rattle.larch_term.specs.declared.statement.Statement.TheVariants.{Equation, Generated, Partitioned}
use Rattle.larch_sorts_meaning.specs.Scope.{Variables, sort_in}
use Rattle.larch_sorts_meaning.specs.Signature.{taking_part}

-- the sort of the variable that a name with these arguments means: a name with arguments means none
abbrev pub variable_sort : Variables → List ℕ → RawForest → Option (List ℕ)
variable_sort vs n no_more = sort_in vs n
variable_sort vs n (one_more raw raws) = None

-- a raw term reads as a term, over operators and with variables in scope
mutual
  pub data Reads (fs : List PlainOperator) (vs : Variables) : RawTree → Tree → Type 0 where
    -- a word without arguments that names a variable reads as that variable only
    a_variable : {n s : List ℕ} {raws : RawForest} {p : Pos} → variable_sort vs n raws ≡ Some s
        → Reads fs vs (apply n raws p) (var n s)
    -- any other application reads as any operator of its name whose domain is the sorts of readings of its arguments
    an_operator : {n : List ℕ} {raws : RawForest} {p : Pos} {f : PlainOperator} {ts : Forest}
        → variable_sort vs n raws ≡ None → Contains (taking_part fs) f → f.name ≡ plain n
        → AllRead fs vs raws ts → sorts_of ts ≡ f.domain → Reads fs vs (apply n raws p) (app f ts)
    -- a qualification reads as the readings of its term that have its sort
    of_sort : {raw : RawTree} {w : RawWord} {p : Pos} {t : Tree} → Reads fs vs raw t → sort_of t ≡ w.name
        → Reads fs vs (qualified raw w p) t

  -- each argument reads as one of these terms, in order
  pub data AllRead (fs : List PlainOperator) (vs : Variables) : RawForest → Forest → Type 0 where
    all_read : AllRead fs vs no_more none
    one_read : {raw : RawTree} {raws : RawForest} {t : Tree} {ts : Forest} → Reads fs vs raw t → AllRead fs vs raws ts
        → AllRead fs vs (one_more raw raws) (more t ts)

-- what stands right beside a left side: a reading of its sort; or true, beside a formula of sort Bool
abbrev pub ReadsRight : List PlainOperator → Variables → Option RawRight → Tree → Tree → Type 0
ReadsRight fs vs None l r = (sort_of l ≡ bool_sort) × (r ≡ truth)
ReadsRight fs vs (Some right) l r = Reads fs vs right.term r × (sort_of l ≡ sort_of r)

-- an equation reads as two terms of one sort, and a formula as the equation that it is true
abbrev pub ReadsEquation : List PlainOperator → Variables → RawEquation → Statement → Type 0
ReadsEquation fs vs raw (Equation l r) = Reads fs vs raw.left l × ReadsRight fs vs raw.right l r
ReadsEquation fs vs raw (Generated s gs) = ⊥
ReadsEquation fs vs raw (Partitioned s gs) = ⊥

-- a term has the sort that is wanted, if one is
abbrev pub HasWanted : Option (List ℕ) → Tree → Type 0
HasWanted None t = Unit {0}
HasWanted (Some s) t = sort_of t ≡ s

-- a lone term reads as its readings, of the wanted sort where one is wanted
abbrev pub ReadsLone : List PlainOperator → Variables → Option (List ℕ) → RawEquation → Tree → Type 0
ReadsLone fs vs wanted raw t = Reads fs vs raw.left t × HasWanted wanted t

-- a term reads as this, which has this sort
abbrev pub ReadsAt : List PlainOperator → Variables → RawTree → List ℕ → Tree → Type 0
ReadsAt fs vs raw s t = Reads fs vs raw t × (sort_of t ≡ s)

-- arguments read as these, which have these sorts
abbrev pub ReadAt : List PlainOperator → Variables → List RawTree → List (List ℕ) → List Tree → Type 0
ReadAt fs vs raws ss ts = AllRead fs vs (raw_forest raws) (forest_of ts) × (sorts_of (forest_of ts) ≡ ss)

-- this has the property, and nothing else has it
abbrev pub IsOnly : {A : Type 0} → (A → Type 0) → A → Type 0
IsOnly P x = P x × ((y : _) → P y → y ≡ x)

-- two different things have the property
abbrev pub AreSeveral : {A : Type 0} → (A → Type 0) → Type 0
AreSeveral {A} P = (x y : A) × P x × P y × ((x ≡ y) → ⊥)

-- nothing has the property
abbrev pub IsNone : {A : Type 0} → (A → Type 0) → Type 0
IsNone {A} P = (x : A) → P x → ⊥

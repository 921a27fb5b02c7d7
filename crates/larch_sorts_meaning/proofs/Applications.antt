-- What applications read as, by the operators of their names.
use Rattle.std.proofs.Common.{◌≡◌, ℕ, List, [], ◌∷◌, Contains, Some, None, refl, sym, ◌∙◌, ap, ap₂, subst}
use Rattle.larch_base.specs.declared.position.Pos.{Pos}
use Rattle.larch_base.proofs.Members.{contains_filter, contained_in_filter}
use Rattle.larch_raw.specs.RawTree.{RawTree, RawForest, apply, qualified, raw_forest}
use Rattle.larch_raw.specs.declared.declared.RawWord.{RawWord}
use Rattle.larch_term.specs.Operator.{PlainOperator, plain}
use Rattle.larch_term.specs.Sorts.{sort_of, sorts_of}
use Rattle.larch_term.specs.Tree.{Tree, var, app, forest_of, list_of}
use Rattle.larch_term.proofs.TreeLists.{forest_of-list_of}
use Rattle.larch_term.specs.Equality.{same_name}
use Rattle.larch_term.proofs.Decided.{name_Decides}
use Rattle.larch_sorts_meaning.specs.Signature.{taking_part, operators_named}
use Rattle.larch_sorts_meaning.specs.Scope.{Variables}
use Rattle.larch_sorts_meaning.specs.Readings.{variable_sort, Reads, a_variable, an_operator, of_sort, AllRead}
use Rattle.larch_sorts_meaning.specs.Readings.{all_read, one_read, ReadAt}

-- a list whose first thing has one property, and the further ones another
abbrev pub FirstAndRest : (Tree → Type 0) → (List Tree → Type 0) → List Tree → Type 0
FirstAndRest P Q us = (t : Tree) × (ts : List Tree) × (us ≡ t ∷ ts) × P t × Q ts

pub none_at_sorts : (fs : List PlainOperator) (vs : Variables) (s : List ℕ) (ss : List (List ℕ)) (ts : List Tree)
    → ReadAt fs vs [] (s ∷ ss) ts → ⊥
none_at_sorts fs vs s ss [] (all_read, e) = cc
none_at_sorts fs vs s ss (t ∷ ts) r = elim r.0 [ ]

pub some_at_none : (fs : List PlainOperator) (vs : Variables) (raw : RawTree) (raws : List RawTree) (ts : List Tree)
    → ReadAt fs vs (raw ∷ raws) [] ts → ⊥
some_at_none fs vs raw raws [] r = elim r.0 [ ]
some_at_none fs vs raw raws (t ∷ ts) (one_read r all, e) = cc

pub only_empty : (fs : List PlainOperator) (vs : Variables) (ts : List Tree) → ReadAt fs vs [] [] ts → ts ≡ []
only_empty fs vs [] r = refl
only_empty fs vs (t ∷ ts) r = elim r.0 [ ]

pub put_together : (fs : List PlainOperator) (vs : Variables) (raw : RawTree) (raws : List RawTree) (s : List ℕ)
    (ss : List (List ℕ)) (us : List Tree)
    → FirstAndRest (λ t. Reads fs vs raw t × (sort_of t ≡ s)) (ReadAt fs vs raws ss) us
    → ReadAt fs vs (raw ∷ raws) (s ∷ ss) us
put_together fs vs raw raws s ss us w =
    subst (ReadAt fs vs (raw ∷ raws) (s ∷ ss)) (sym w.2) (one_read w.3.0 w.4.0, ap₂ (λ z zs. z ∷ zs) w.3.1 w.4.1)

pub taken_apart : (fs : List PlainOperator) (vs : Variables) (raw : RawTree) (raws : List RawTree) (s : List ℕ)
    (ss : List (List ℕ)) (us : List Tree)
    → ReadAt fs vs (raw ∷ raws) (s ∷ ss) us
    → FirstAndRest (λ t. Reads fs vs raw t × (sort_of t ≡ s)) (ReadAt fs vs raws ss) us
taken_apart fs vs raw raws s ss [] r = elim r.0 [ ]
taken_apart fs vs raw raws s ss (t ∷ ts) (one_read r all, e) =
    let a : sort_of t ≡ s = cc in
    let b : sorts_of (forest_of ts) ≡ ss = cc in
    (t, ts, refl, (r, a), (all, b))

-- a term that an operator makes of arguments that are read at its domain
abbrev pub ByOperator : List PlainOperator → Variables → List RawTree → PlainOperator → Tree → Type 0
ByOperator fs vs raws f t = (ts : List Tree) × ReadAt fs vs raws f.domain ts × (t ≡ app f (forest_of ts))

-- a term that one of some operators makes of them
abbrev pub ByOperators : List PlainOperator → Variables → List RawTree → List PlainOperator → Tree → Type 0
ByOperators fs vs raws gs t = (f : PlainOperator) × Contains gs f × ByOperator fs vs raws f t

pub from_reads : (fs : List PlainOperator) (vs : Variables) (n : List ℕ) (raws : List RawTree) (rs : RawForest)
    (p : Pos) (t : Tree) → rs ≡ raw_forest raws → variable_sort vs n rs ≡ None
    → Reads fs vs (apply n rs p) t → ByOperators fs vs raws (operators_named n (taking_part fs)) t
from_reads fs vs n raws rs p (var m s) i unbound (a_variable e) = cc
from_reads fs vs n raws rs p (app f ts) i unbound (an_operator e c d all sorts) =
    let back = forest_of-list_of ts in (
      f,
      contains_filter (λ g. same_name g.name (plain n)) (taking_part fs) f c ((name_Decides f.name (plain n)).1 d),
      (
        list_of ts,
        (
          subst (λ us. AllRead fs vs (raw_forest raws) us) (sym back) (subst (λ us. AllRead fs vs us ts) i all),
          ap sorts_of back ∙ sorts,
        ),
        ap (app f) (sym back),
      ),
    )

pub to_reads : (fs : List PlainOperator) (vs : Variables) (n : List ℕ) (raws : List RawTree) (p : Pos) (t : Tree)
    → variable_sort vs n (raw_forest raws) ≡ None
    → ByOperators fs vs raws (operators_named n (taking_part fs)) t → Reads fs vs (apply n (raw_forest raws) p) t
to_reads fs vs n raws p t unbound b =
    let c = contained_in_filter (λ g. same_name g.name (plain n)) (taking_part fs) b.0 b.1 in
    subst (Reads fs vs (apply n (raw_forest raws) p)) (sym b.2.2)
    (an_operator unbound c.0 ((name_Decides b.0.name (plain n)).0 c.1) b.2.1.0 b.2.1.1)

pub only_variable : (fs : List PlainOperator) (vs : Variables) (n z : List ℕ) (rs : RawForest) (p : Pos) (t : Tree)
    → variable_sort vs n rs ≡ Some z → Reads fs vs (apply n rs p) t → t ≡ var n z
only_variable fs vs n z rs p (var m s) some (a_variable e) = ap (var n) (let q : Some s ≡ Some z = sym e ∙ some in cc)
only_variable fs vs n z rs p (app f ts) some (an_operator e c d all sorts) =
    absurd (let q : None ≡ Some z = sym e ∙ some in cc)

pub inside : (fs : List PlainOperator) (vs : Variables) (raw : RawTree) (w : RawWord) (p : Pos) (t : Tree)
    → Reads fs vs (qualified raw w p) t → Reads fs vs raw t × (sort_of t ≡ w.name)
inside fs vs raw w p t (of_sort r e) = (r, e)

-- Each part of what reads has a reading, and where all parts up to one are read.
use Rattle.std.proofs.Common.{◌≡◌, ℕ, true, false, List, [], ◌∷◌, All, Contains, Option, Some, None, refl, sym, ◌∙◌, ap}
use Rattle.std.proofs.Common.{subst}
use Rattle.std.proofs.lemmas.List.Elements.{All-nil, All-cons, All-append, All-push, All-head, All-tail}
use Rattle.larch_base.specs.declared.position.Pos.{Pos}
use Rattle.larch_raw.specs.RawTree.{RawTree, RawForest, apply, qualified, no_more, one_more}
use Rattle.larch_raw.specs.declared.equation.RawRight.{RawRight}
use Rattle.larch_raw.specs.declared.equation.RawEquation.{RawEquation}
use Rattle.larch_term.specs.Operator.{PlainOperator}
use Rattle.larch_term.specs.Tree.{Tree, Forest, var, app, none, more}
use Rattle.larch_term.specs.declared.statement.Statement.{Statement}
use Rattle.larch_term.specs.declared.statement.Statement.TheVariants.{Equation, Generated, Partitioned}
use Rattle.larch_sorts_meaning.specs.Read.{is_empty, unread_in}
use Rattle.larch_sorts_meaning.specs.Parts.{parts, parts_of, sides, right_sides, in_sides}
use Rattle.larch_sorts_meaning.specs.Stands.{HasReading, FirstUnread}
use Rattle.larch_sorts_meaning.specs.Scope.{Variables}
use Rattle.larch_sorts_meaning.specs.Readings.{variable_sort, Reads, a_variable, an_operator, of_sort, AllRead}
use Rattle.larch_sorts_meaning.specs.Readings.{one_read, ReadsRight, ReadsEquation, ReadsLone, IsNone}
use Rattle.larch_sorts_meaning.specs.ReadingLists.{readings}
use Rattle.larch_sorts_meaning.proofs.Answers.{unread_step}
use Rattle.larch_sorts_meaning.proofs.Listed.{listed, reads_listed}
use Rattle.larch_base.proofs.Members.{contains_here, contains_none}
use Rattle.larch_sorts_meaning.proofs.Unread.{read_first}

-- a variable is its only part
variable_part : (fs : List PlainOperator) (vs : Variables) (n s : List ℕ) (raws : RawForest) (p : Pos)
    → variable_sort vs n raws ≡ Some s → HasReading fs vs (apply n raws p)
    → All (HasReading fs vs) (parts (apply n raws p))
variable_part fs vs n s no_more p e h =
    All-cons (HasReading fs vs) (apply n no_more p) [] h (All-nil (HasReading fs vs))
variable_part fs vs n s (one_more raw raws) p e h = cc

mutual
  parts_read : (fs : List PlainOperator) (vs : Variables) (raw : RawTree) (t : Tree) → Reads fs vs raw t
      → All (HasReading fs vs) (parts raw)
  parts_read fs vs (apply n raws p) (var m s) (a_variable e) = variable_part fs vs n s raws p e (var n s, a_variable e)
  parts_read fs vs (apply n raws p) (app f ts) (an_operator e c d all sorts) =
      All-push (HasReading fs vs) (parts_of raws) (apply n raws p) (all_parts_read fs vs raws ts all)
      (app f ts, an_operator e c d all sorts)
  parts_read fs vs (qualified raw w p) t (of_sort r e) =
      All-push (HasReading fs vs) (parts raw) (qualified raw w p) (parts_read fs vs raw t r) (t, of_sort r e)

  all_parts_read : (fs : List PlainOperator) (vs : Variables) (raws : RawForest) (ts : Forest) → AllRead fs vs raws ts
      → All (HasReading fs vs) (parts_of raws)
  all_parts_read fs vs no_more ts r = All-nil (HasReading fs vs)
  all_parts_read fs vs (one_more raw raws) none r = elim r [ ]
  all_parts_read fs vs (one_more raw raws) (more t ts) (one_read r all) =
      All-append (HasReading fs vs) (parts raw) (parts_of raws) (parts_read fs vs raw t r)
      (all_parts_read fs vs raws ts all)

right_parts_read : (fs : List PlainOperator) (vs : Variables) (right : Option RawRight) (l r : Tree)
    → ReadsRight fs vs right l r → All (HasReading fs vs) (in_sides parts (right_sides right))
right_parts_read fs vs None l r h = All-nil (HasReading fs vs)
right_parts_read fs vs (Some right) l r h =
    All-append (HasReading fs vs) (parts right.term) [] (parts_read fs vs right.term r h.0) (All-nil (HasReading fs vs))

-- each part of an equation that reads has a reading
pub equation_parts : (fs : List PlainOperator) (vs : Variables) (raw : RawEquation) (s : Statement)
    → ReadsEquation fs vs raw s → All (HasReading fs vs) (in_sides parts (sides raw))
equation_parts fs vs raw (Equation l r) h =
    All-append (HasReading fs vs) (parts raw.left) (in_sides parts (right_sides raw.right))
    (parts_read fs vs raw.left l h.0) (right_parts_read fs vs raw.right l r h.1)
equation_parts fs vs raw (Generated s gs) h = absurd h
equation_parts fs vs raw (Partitioned s gs) h = absurd h

-- each part of a lone term that reads has a reading
pub lone_parts : (fs : List PlainOperator) (vs : Variables) (wanted : Option (List ℕ)) (raw : RawEquation) (t : Tree)
    → raw.right ≡ None → ReadsLone fs vs wanted raw t → All (HasReading fs vs) (in_sides parts (sides raw))
lone_parts fs vs wanted raw t e h =
    All-append (HasReading fs vs) (parts raw.left) (in_sides parts (right_sides raw.right))
    (parts_read fs vs raw.left t h.0)
    (subst (λ o. All (HasReading fs vs) (in_sides parts (right_sides o))) (sym e) (All-nil (HasReading fs vs)))

no_list : (fs : List PlainOperator) (vs : Variables) (raw : RawTree) (ts : List Tree) → readings fs vs raw ≡ ts
    → IsNone (Reads fs vs raw) → is_empty ts ≡ true
no_list fs vs raw [] e h = refl
no_list fs vs raw (t ∷ ts) e h =
    absurd (h t (reads_listed fs vs raw t (subst (λ us. Contains us t) (sym e) (contains_here t ts))))

some_list : (fs : List PlainOperator) (vs : Variables) (raw : RawTree) (ts : List Tree) → readings fs vs raw ≡ ts
    → HasReading fs vs raw → is_empty ts ≡ false
some_list fs vs raw [] e h = absurd (contains_none h.0 (subst (λ us. Contains us h.0) e (listed fs vs raw h.0 h.1)))
some_list fs vs raw (t ∷ ts) e h = refl

-- where all parts have readings, none is the first without
pub all_parts_have : (fs : List PlainOperator) (vs : Variables) (raws : List RawTree) → All (HasReading fs vs) raws
    → unread_in fs vs raws ≡ None
unfolding unread_in
all_parts_have fs vs [] h = refl
all_parts_have fs vs (raw ∷ raws) h =
    unread_step fs vs raw raws false
    (some_list fs vs raw (readings fs vs raw) refl (All-head (HasReading fs vs) raw raws h))
    ∙ all_parts_have fs vs raws (All-tail (HasReading fs vs) raw raws h)

-- the first part without a reading is found there
pub first_part : (fs : List PlainOperator) (vs : Variables) (raws : List RawTree) (pos : Pos)
    → FirstUnread fs vs raws pos → unread_in fs vs raws ≡ Some pos
first_part fs vs raws pos (before, after, raw, e, all, none_reads, p) =
    ap (unread_in fs vs) e ∙ read_first fs vs before (raw ∷ after) (all_parts_have fs vs before all)
    ∙ unread_step fs vs raw after true (no_list fs vs raw (readings fs vs raw) refl none_reads)
    ∙ ap (λ q. Some q) (sym p)

-- The recursive path ordering with status.
use Rattle.std.specs.Prelude.{◌≡◌, ℕ, Bool, true, false, if◌then◌else◌, not, nat_lt, ◌&&◌, ◌||◌, IsTrue, List, []}
use Rattle.std.specs.Prelude.{◌∷◌, Contains, sum_by}
use Rattle.std.specs.List.{list_any, list_all}
use Rattle.std.specs.Cmp.Lexicographic.{pointwise}
use Rattle.larch_term.specs.Operator.{PlainOperator}
use Rattle.larch_term.specs.Tree.{Tree, Forest, var, app, none, more, forest_of, list_of}
use Rattle.larch_term.specs.Equality.{same_operator, same_tree}
use Rattle.larch_order.specs.Precedence.{above, status_of}
use Rattle.larch_base.specs.declared.way.Way.{Way}
use Rattle.larch_base.specs.declared.way.Way.TheVariants.{LeftToRight, RightToLeft, Multiset}
use Rattle.larch_order.specs.declared.precedence.Ranked.{Ranked}
use Rattle.larch_order.specs.declared.greater.Comparison.{Comparison}
use Rattle.larch_order.specs.declared.greater.Comparison.TheVariants.{Same, Above, Neither}

-- how often a term occurs in a list
abbrev pub count_of : Tree → List Tree → ℕ
count_of t us = sum_by (λ u. if same_tree u t then 1 else 0) us

-- whether a term of the first list remains where the common terms of two lists are taken away in pairs
abbrev pub remains : List Tree → List Tree → Tree → Bool
remains us ts u = nat_lt (count_of u ts) (count_of u us)

mutual
  -- A term is greater than another one where
  pub data Greater : List Ranked → Tree → Tree → Type 0 where
    -- one of its arguments is that term or greater;
    by_argument : {ranks : List Ranked} {f : PlainOperator} {ss : Forest} {s t : Tree} → Contains (list_of ss) s
        → AtLeast ranks s t → Greater ranks (app f ss) t
    -- or its head is above the other's, and it is greater than each argument of the other;
    by_precedence : {ranks : List Ranked} {f g : PlainOperator} {ss ts : Forest} → IsTrue (above ranks f g)
        → ((t : Tree) → Contains (list_of ts) t → Greater ranks (app f ss) t) → Greater ranks (app f ss) (app g ts)
    -- or both heads are one operator, its arguments are greater than the other's by the status of that operator, and
    -- it is greater than each argument of the other.
    by_status : {ranks : List Ranked} {f : PlainOperator} {ss ts : Forest}
        → ListsGreater ranks (status_of ranks f) ss ts
        → ((t : Tree) → Contains (list_of ts) t → Greater ranks (app f ss) t) → Greater ranks (app f ss) (app f ts)

  -- a term is another one or greater
  pub data AtLeast : List Ranked → Tree → Tree → Type 0 where
    same : {ranks : List Ranked} {t : Tree} → AtLeast ranks t t
    higher : {ranks : List Ranked} {s t : Tree} → Greater ranks s t → AtLeast ranks s t

  -- Arguments are greater than others
  pub data ListsGreater : List Ranked → Way → Forest → Forest → Type 0 where
    -- from the left where the first ones are greater, or the first ones are equal and the further ones greater;
    first_higher : {ranks : List Ranked} {s t : Tree} {ss ts : Forest} → Greater ranks s t
        → ListsGreater ranks LeftToRight (more s ss) (more t ts)
    first_equal : {ranks : List Ranked} {s : Tree} {ss ts : Forest} → ListsGreater ranks LeftToRight ss ts
        → ListsGreater ranks LeftToRight (more s ss) (more s ts)
    -- from the right where the first ones are greater and the further ones equal, or the further ones are greater;
    rest_equal : {ranks : List Ranked} {s t : Tree} {ss : Forest} → Greater ranks s t
        → ListsGreater ranks RightToLeft (more s ss) (more t ss)
    rest_higher : {ranks : List Ranked} {s t : Tree} {ss ts : Forest} → ListsGreater ranks RightToLeft ss ts
        → ListsGreater ranks RightToLeft (more s ss) (more t ts)
    -- as multisets where something remains of them, and whatever remains of the others is below something of that.
    as_multisets : {ranks : List Ranked} {ss ts : Forest} (s : Tree) → IsTrue (remains (list_of ss) (list_of ts) s)
        → ((t : Tree) → IsTrue (remains (list_of ts) (list_of ss) t) → Beaten ranks ss ts t)
        → ListsGreater ranks Multiset ss ts

  -- a term is below one that remains of the first arguments beside the second
  pub data Beaten : List Ranked → Forest → Forest → Tree → Type 0 where
    beaten : {ranks : List Ranked} {s t : Tree} {ss ts : Forest} → IsTrue (remains (list_of ss) (list_of ts) s)
        → Greater ranks s t → Beaten ranks ss ts t

-- The same, computed.

-- the answer of the way in which a status compares lists
abbrev pub of_status : Way → Bool → Bool → Bool → Bool
of_status LeftToRight first last multiset = first
of_status RightToLeft first last multiset = last
of_status Multiset first last multiset = multiset

-- whether a first list is greater than a second as a multiset: some term of it remains, and each term that remains
-- of the second is below such a term
abbrev pub multiset_greater : (Tree → Bool) → List Tree → List Tree → Bool
multiset_greater is_below us ts = list_any (remains us ts) us && list_all (λ t. not (remains ts us t) || is_below t) ts

-- whether a head lets an application be greater: by the precedence, or by the status where both have one operator
abbrev pub head_beats : List Ranked → PlainOperator → PlainOperator → Bool → Bool → Bool → Bool
head_beats ranks f g first last multiset =
    if same_operator f g then of_status (status_of ranks f) first last multiset else above ranks f g

-- what an application is greater than, by the answers on its arguments (some argument is the term or greater) and
-- on its head (that of an application with this operator and these arguments gives way to it)
abbrev mutual
  pub by_rule : (Tree → Bool) → (PlainOperator → List Tree → Bool) → Tree → Bool
  by_rule reaches beats (var n s) = reaches (var n s)
  by_rule reaches beats (app g ts) = reaches (app g ts) || (beats g (list_of ts) && all_by_rule reaches beats ts)

  pub all_by_rule : (Tree → Bool) → (PlainOperator → List Tree → Bool) → Forest → Bool
  all_by_rule reaches beats none = true
  all_by_rule reaches beats (more t ts) = by_rule reaches beats t && all_by_rule reaches beats ts

abbrev mutual
  -- whether a term is greater than another: a variable isn't; an application is where one of its arguments is the
  -- other term or greater, or where its head beats the other's and it is greater than each argument of the other
  pub greater : List Ranked → Tree → Tree → Bool
  greater ranks (var n s) t = false
  greater ranks (app f ss) t = by_rule (λ u. some_reaches ranks ss u)
      (λ g us. head_beats ranks f g (first_greater ranks ss us) (last_greater ranks ss us)
      (multiset_greater (λ u. some_beats ranks ss (list_of ss) us u) (list_of ss) us)) t

  -- whether some term is another one or greater
  pub some_reaches : List Ranked → Forest → Tree → Bool
  some_reaches ranks none t = false
  some_reaches ranks (more s ss) t = (same_tree s t || greater ranks s t) || some_reaches ranks ss t

  -- whether the terms are greater at the first place at which two lists differ
  pub first_greater : List Ranked → Forest → List Tree → Bool
  first_greater ranks none ts = false
  first_greater ranks (more s ss) [] = false
  first_greater ranks (more s ss) (t ∷ ts) =
      if same_tree s t then first_greater ranks ss ts else greater ranks s t

  -- whether the terms are greater at the last place at which two lists differ
  pub last_greater : List Ranked → Forest → List Tree → Bool
  last_greater ranks none ts = false
  last_greater ranks (more s ss) [] = false
  last_greater ranks (more s ss) (t ∷ ts) =
      if pointwise same_tree (list_of ss) ts then not (same_tree s t) && greater ranks s t else last_greater ranks ss ts

  -- whether some term that remains of a first list beside a second is greater
  pub some_beats : List Ranked → Forest → List Tree → List Tree → Tree → Bool
  some_beats ranks none us ts t = false
  some_beats ranks (more s ss) us ts t = (remains us ts s && greater ranks s t) || some_beats ranks ss us ts t

-- whether the head of an application beats that of another one with its operator and arguments
abbrev pub heads_beat : List Ranked → PlainOperator → Forest → PlainOperator → List Tree → Bool
heads_beat ranks f ss g us =
    head_beats ranks f g (first_greater ranks ss us) (last_greater ranks ss us)
    (multiset_greater (λ u. some_beats ranks ss (list_of ss) us u) (list_of ss) us)

-- how a term stands to another one: the same, above it, or neither
abbrev pub comparison : List Ranked → Tree → Tree → Comparison
comparison ranks s t = if same_tree s t then Same else if greater ranks s t then Above else Neither

-- whether the term stands above
abbrev pub is_above : Comparison → Bool
is_above Same = false
is_above Above = true
is_above Neither = false

-- whether it is the same or stands above
abbrev pub reaches : Comparison → Bool
reaches Same = true
reaches Above = true
reaches Neither = false

-- two terms are applications, to these arguments, of one operator with this status
abbrev pub OneHead : List Ranked → Tree → List Tree → Tree → List Tree → Way → Type 0
OneHead ranks s ss t ts way =
    (f : PlainOperator) × ((s ≡ app f (forest_of ss)) × ((t ≡ app f (forest_of ts)) × (status_of ranks f ≡ way)))

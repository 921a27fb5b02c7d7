-- Sorts of qualifications that exist nowhere.
use Rattle.std.specs.Prelude.{List, Option, [], find, not, option_map, ◌++◌, ◌∷◌}
use Rattle.larch_base.specs.declared.position.Pos.{Pos}
use Rattle.larch_raw.specs.RawTree.{RawForest, RawTree, apply, no_more, one_more, qualified}
use Rattle.larch_raw.specs.declared.declared.RawWord.{RawWord}
use Rattle.larch_raw.specs.declared.equation.RawEquation.{RawEquation}
use Rattle.larch_term.specs.Operator.{PlainOperator}
use Rattle.larch_sorts_known.specs.Sorts.{exists_sort}
use Rattle.larch_sorts_meaning.specs.Parts.{in_sides, sides}

abbrev mutual
  -- the sorts of a term's qualifications, in text order
  pub sort_words : RawTree → List RawWord
  sort_words (apply n raws p) = sort_words_of raws
  sort_words (qualified raw w p) = sort_words raw ++ w ∷ []

  pub sort_words_of : RawForest → List RawWord
  sort_words_of no_more = []
  sort_words_of (one_more raw raws) = sort_words raw ++ sort_words_of raws

-- where the first of these sorts that doesn't exist stands
unfoldable pub unknown_among : List PlainOperator → List RawWord → Option Pos
unknown_among fs words = option_map (λ w. w.pos) (find (λ w. not (exists_sort fs w.name)) words)

-- the first sort of a qualification that doesn't exist, if there is one
abbrev pub unknown_sort : List PlainOperator → RawEquation → Option Pos
unknown_sort fs raw = unknown_among fs (in_sides sort_words (sides raw))

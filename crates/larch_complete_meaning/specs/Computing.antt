-- What an example of a completion computes with, as one name.
use Rattle.std.specs.Fmt.{digits}
use Rattle.larch_pairs.specs.Unify.{unify, unify_from}
use Rattle.larch_pairs_critical.specs.Pairs.{critical_pairs, pair_at}
use Rattle.larch_rewrite_meaning.specs.NormalForm.{normal}
use Rattle.larch_term.specs.BuiltIn.{is_built_in}
use Rattle.larch_term.specs.Equality.{same_tree}
use Rattle.larch_term.specs.OperatorKey.{same_operator}
use Rattle.larch_complete_meaning.specs.Completion.{complete}

unfoldable pub completing : Unit {0}
unfolding complete normal critical_pairs pair_at unify unify_from same_tree same_operator is_built_in digits
completing = tt

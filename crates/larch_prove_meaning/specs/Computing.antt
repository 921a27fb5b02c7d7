-- What an example of a replay computes with, as one name.
use Rattle.std.specs.Fmt.{digits}
use Rattle.larch_term.specs.Equality.{same_tree, same_statement}
use Rattle.larch_term.specs.OperatorKey.{same_operator}
use Rattle.larch_term.specs.BuiltIn.{is_built_in}
use Rattle.larch_sorts_meaning.specs.Read.{read_equation, read_term, unread_in}
use Rattle.larch_sorts_meaning.specs.ReadingLists.{readings}
use Rattle.larch_sorts_meaning.specs.Unknown.{unknown_among}
use Rattle.larch_rewrite_meaning.specs.NormalForm.{normal}
use Rattle.larch_pairs_critical.specs.Pairs.{critical_pairs, pair_at}
use Rattle.larch_pairs_critical.specs.PairsUnify.{unify, unify_from}
use Rattle.larch_prove_meaning.specs.Facts.{add}
use Rattle.larch_prove_meaning.specs.Plans.{plan}
use Rattle.larch_prove_meaning.specs.Replays.{step, duty_opened, all_prepared}

unfoldable pub replaying : Unit {0}
unfolding normal critical_pairs pair_at unify unify_from add plan step duty_opened all_prepared same_operator same_tree
    same_statement is_built_in read_equation read_term unread_in unknown_among readings digits
replaying = tt

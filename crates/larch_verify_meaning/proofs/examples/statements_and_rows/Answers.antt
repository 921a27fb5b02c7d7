use Rattle.std.proofs.Common.{refl}
use Rattle.larch_certificate.specs.TermEquality.{same_tree, same_statement}
use Rattle.larch_certificate.specs.TermOperatorKey.{same_operator}
use Rattle.larch_verify_meaning.proofs.examples.statements_and_rows.Goals as goal

pub returns : goal.returns
unfolding same_operator same_tree same_statement
returns c =
    record {
      zero = refl;
      exchanged = refl;
      no_sides = refl;
      equal = refl;
      unknown_sort = refl;
      not_true = refl;
      sort_missing = refl;
      sort_superfluous = refl;
      no_row = refl;
    }

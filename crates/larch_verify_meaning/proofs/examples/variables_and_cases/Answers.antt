use Rattle.std.proofs.Common.{refl}
use Rattle.larch_certificate.specs.TermEquality.{same_tree, same_statement}
use Rattle.larch_certificate.specs.TermOperatorKey.{same_operator}
use Rattle.larch_verify_meaning.proofs.examples.variables_and_cases.Goals as goal

pub returns : goal.returns
unfolding same_operator same_tree same_statement
returns c =
    record {
      fresh = refl;
      predicate = refl;
      supposing = refl;
      one_variable = refl;
      cases = refl;
      with_variable = refl;
      one_case = refl;
    }

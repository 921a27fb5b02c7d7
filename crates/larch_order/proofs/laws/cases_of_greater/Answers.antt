use Rattle.std.proofs.Common.{refl}
use Rattle.larch_order.proofs.OrderingLaws.{greater_than_variable, greater_than_application}
use Rattle.larch_order.proofs.laws.cases_of_greater.Goals as goal

pub returns : goal.returns
returns c =
    record {
      variable = λ ranks n s t. refl;
      than_variable = greater_than_variable;
      than_application = greater_than_application;
    }

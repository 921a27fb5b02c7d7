use Rattle.larch_import_references.proofs.Given.{sort_named, sort_given, operator_given, statement_given}
use Rattle.larch_import_references.proofs.laws.pairs_give_replacements.Goals as goal

pub returns : goal.returns
returns c =
    record { named = sort_named; sort = sort_given; operator = operator_given; statement = statement_given }

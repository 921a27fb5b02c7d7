use Rattle.larch_calculus.proofs.Boxes.{constants_without_arguments, constants_sorts, constants_new}
use Rattle.larch_calculus.proofs.Boxes.{constants_as_arguments, older_plain, older_later, older_opened, older_less}
use Rattle.larch_calculus.proofs.Boxes.{statement_older, older_stays}
use Rattle.larch_calculus.proofs.laws.boxes.Goals as goal

pub returns : goal.returns
returns c =
    record {
      constants = constants_without_arguments;
      sorts = constants_sorts;
      new = constants_new;
      arguments = constants_as_arguments;
      plain = older_plain;
      later = older_later;
      opened = older_opened;
      statement = statement_older;
      unchanged = older_stays;
      left = older_less;
    }

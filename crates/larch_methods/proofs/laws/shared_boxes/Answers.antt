use Rattle.larch_methods.proofs.Begun.{cases_inside, contradiction_inside, implication_inside}
use Rattle.larch_methods.proofs.Opened.{closed_known, may_open_bare}
use Rattle.larch_methods.proofs.laws.shared_boxes.Goals as goal

pub returns : goal.returns
returns c =
    record {
      opens = may_open_bare;
      cases = cases_inside;
      implication = implication_inside;
      contradiction = contradiction_inside;
      closed = closed_known;
    }

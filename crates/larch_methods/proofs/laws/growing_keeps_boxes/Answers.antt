use Rattle.larch_methods.proofs.Left.{shown_stays}
use Rattle.larch_methods.proofs.Sharing.{inside_grown}
use Rattle.larch_methods.proofs.laws.growing_keeps_boxes.Goals as goal

pub returns : goal.returns
returns c = record { inside = inside_grown; shown = shown_stays }

use Rattle.std.proofs.lemmas.Bool.{true≢false}
use Rattle.std.proofs.Common.{sym, ◌∙◌}
use Rattle.larch_order.proofs.Computed.{computed}
use Rattle.larch_order.proofs.Irreflexive.{irreflexive}
use Rattle.larch_order.proofs.laws.greater_is_irreflexive.Goals as goal

pub returns : goal.returns
returns c ranks t g = true≢false (sym (computed g) ∙ irreflexive ranks t)

-- The arguments are those of the term.
use Rattle.std.proofs.Common.{ap, sym, ◌∙◌}
use Rattle.larch_term.proofs.Deepest.{arguments_fall}
use Rattle.larch_term.specs.TermView.{view_node}
use Rattle.larch_term.proofs.term.arguments_of.Goals as goal

pub returns-in-App : goal.returns-in-App
returns-in-App c =
    arguments_fall c.in-App._operator c.in-App.arguments c.into_vec.result.items c.args.term
    c.into_vec.ensures (sym (ap view_node c.in-App.is) ∙ c.into_node.ensures)

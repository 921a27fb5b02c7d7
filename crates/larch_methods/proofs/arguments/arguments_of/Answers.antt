use Rattle.std.proofs.Common.{ap, sym, ◌∙◌}
use Rattle.larch_term.specs.Tree.{app, forest_of}
use Rattle.larch_term.specs.TermView.{view_node}
use Rattle.larch_methods.proofs.arguments.arguments_of.Goals as goal

pub returns-in_ok-two-in-App : goal.returns-in_ok-two-in-App
returns-in_ok-two-in-App c =
    record {
      operator = c.in-App.operator;
      whole_is = sym c.node.ensures ∙ (ap view_node c.in-App.is
          ∙ ap (λ ts. app c.in-App.operator (forest_of ts)) (sym c.as_slice.ensures ∙ c.in_ok-two-in-App.ensures));
    }

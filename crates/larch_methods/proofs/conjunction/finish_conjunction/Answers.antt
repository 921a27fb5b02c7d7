use Rattle.std.specs.Prelude.{[]}
use Rattle.std.proofs.Common.{ap, sym, ◌∙◌}
use Rattle.std.proofs.lemmas.List.{append-nil}
use Rattle.larch_term.specs.BuiltIn.{built_in}
use Rattle.larch_term.specs.declared.built_in.BuiltIn.TheVariants.{And}
use Rattle.larch_methods.proofs.conjunction.finish_conjunction.Goals as goal

pub returns-in_err-joined-clause-extends : goal.returns-in_err-joined-clause-extends
returns-in_err-joined-clause-extends c k h =
    c.in_err-joined.ensures.extends _ [] (record {
      operator_is = c.in_ok-operator.ensures ∙ ap (built_in And) c.in_ok-sort.ensures;
      lines_are = sym (append-nil _);
      shown = h;
      formula = k;
    })

pub returns-clause-says : goal.returns-clause-says
returns-clause-says c k h =
    c.in_ok-joined.ensures.says _ [] (record {
      operator_is = c.in_ok-operator.ensures ∙ ap (built_in And) c.in_ok-sort.ensures;
      lines_are = sym (append-nil _);
      shown = h;
      formula = k;
    })

pub returns-clause-extends : goal.returns-clause-extends
returns-clause-extends c k h =
    c.in_ok-joined.ensures.extends _ [] (record {
      operator_is = c.in_ok-operator.ensures ∙ ap (built_in And) c.in_ok-sort.ensures;
      lines_are = sym (append-nil _);
      shown = h;
      formula = k;
    })

use Rattle.std.specs.Prelude.{refl}
use Rattle.larch_prove_boxes.proofs.Entrances.{box_entrance}
use Rattle.larch_prove_boxes.proofs.entering.enter_box.Goals as goal

pub returns : goal.returns
returns c method g e q m k =
    box_entrance _ _ _ _ c.in_ok-opened.opened method c.args.subgoal.now g _ _ (record {
      constants = c.in_ok-opened.ensures.constants;
      opens = c.in_ok-opened.ensures.opens;
      says = c.in_ok-way.ensures.says;
      goes = c.in_ok-way.ensures.extends;
      supposes = λ o. c.in_ok-hypotheses.ensures.says c.in_ok-opened.opened refl o;
      extends = λ o. c.in_ok-hypotheses.ensures.extends c.in_ok-opened.opened refl o;
    }) e q m k

use Rattle.std.proofs.Common.{◌≡◌, ◌<◌, ◌∙◌, List, Bool, false, length, ap, sym, subst}
use Rattle.std.proofs.lemmas.List.{get_or_default}
use Rattle.larch_flat_sources.specs.Links.{is_marked}
use Rattle.larch_flat_sources.proofs.Leading.{marks_tell}
use Rattle.larch_flat_sources.proofs.marks.MarkedFiles.leads_back.Goals as goal

pub returns-clause-back : goal.returns-clause-back
returns-clause-back c = λ table number h k l limit ms e.
    let lt : c.args.target < length c.self.inside.marked.items =
    subst (λ (bs : List Bool). c.args.target < length bs) (sym c.self.view_is) c.requires in
    let is : c.index.result.now ≡ is_marked c.args.self.now c.args.target =
    c.index.ensures ∙ get_or_default c.self.inside.marked.items c.args.target c.index.result.now false lt
    ∙ ap (λ (bs : List Bool). is_marked bs c.args.target) c.self.view_is in
    is ∙ marks_tell table c.args.self.now number c.args.target h k l limit ms e

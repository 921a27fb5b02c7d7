use Rattle.std.proofs.Common.{sym, ◌∙◌}
use Rattle.larch_flat.proofs.Targets.{cyclic}
use Rattle.larch_flat_sources.specs.Sources.{name_at}
use Rattle.larch_flat.proofs.taking.target_of.Goals as goal

pub returns-then-leads_back-clause-refused : goal.returns-then-leads_back-clause-refused
returns-then-leads_back-clause-refused c = λ g.
    let sources = c.args.sources.now in
    cyclic sources (name_at sources c.args.number) c.in-Some.found c.args.reference.now g c.in-Some.ensures.name
    (sym c.in-Some.ensures.there)
    (λ limit ms e. sym (c.leads_back.ensures.back sources c.args.number c.requires.leading c.requires.number
    c.in-Some.ensures.within limit ms e) ∙ c.if-leads_back.true)

pub returns-else-leads_back-clause-found : goal.returns-else-leads_back-clause-found
returns-else-leads_back-clause-found c =
    let sources = c.args.sources.now in
    record {
      within = c.in-Some.ensures.within;
      named = c.in-Some.ensures.name;
      away =
          λ limit ms e. sym (c.leads_back.ensures.back sources c.args.number c.requires.leading c.requires.number
          c.in-Some.ensures.within limit ms e) ∙ c.if-leads_back.false;
    }

use Rattle.std.proofs.lemmas.Result.{err_from_is_err_and}
use Rattle.larch_derive.proofs.Growth.{extends_trans}
use Rattle.larch_prove_adding.specs.Equation.{sides_in}
use Rattle.larch_prove_adding.specs.KeptFacts.{facts_of}
use Rattle.larch_prove_adding.specs.Turns.{IsStopped, IsTaken, Leads, MayRefuse, course_of, manner_of}
use Rattle.larch_prove_adding.proofs.Staying.{equations_stay}
use Rattle.larch_prove_adding.proofs.Views.{if_err, on_ok, stopped_first, stopped_second, taken_now}
use Rattle.larch_prove_adding.proofs.adding.take.Goals as goal
use Rattle.larch_prove_invariant.specs.ProveMeaningFacts.{treatment}
use Rattle.larch_store.proofs.Growth.{grows_trans}

pub returns-in_err-found-clause-refused : goal.returns-in_err-found-clause-refused
returns-in_err-found-clause-refused c =
    let p = err_from_is_err_and c.from_residual.result c.from_residual.ensures.1 in
    rw (p.1, p.2)
    (stopped_first c.args.manner.now.precedence.now c.args.manner.now.name _ _ (facts_of c.args.facts.now) _
    c.in_err-found.ensures.refused)

pub treat-requires-clause-waiting : goal.treat-requires-clause-waiting
treat-requires-clause-waiting c =
    equations_stay _ _ c.args.adding.now.waiting.items c.in_ok-found.ensures.extends c.requires.waiting

pub returns-clause-taken : goal.returns-clause-taken
returns-clause-taken c =
    on_ok
    (Leads (treatment c.args.manner.now.precedence.now (sides_in c.in_ok-found.found.equation)) c.args.manner.now.name
    (course_of c.args.adding.now.made c.args.adding.now.waiting.items c.normal_sides.new.facts)
    (course_of c.treat.new.adding.made c.treat.new.adding.waiting.items c.treat.new.facts))
    (IsTaken (manner_of c.args.manner.now.precedence.now c.args.manner.now.name) (sides_in c.args.equation)
    c.args.adding.now.left c.treat.new.adding.left
    (course_of c.args.adding.now.made c.args.adding.now.waiting.items c.args.facts.now)
    (course_of c.treat.new.adding.made c.treat.new.adding.waiting.items c.treat.new.facts))
    c.treat.result c.treat.ensures.treated
    (taken_now c.args.manner.now.precedence.now c.args.manner.now.name (sides_in c.args.equation)
    (sides_in c.in_ok-found.found.equation) c.args.adding.now.left c.in_ok-found.found.left c.treat.new.adding.left
    c.args.adding.now.made c.args.adding.now.waiting.items c.args.facts.now c.normal_sides.new.facts
    (course_of c.treat.new.adding.made c.treat.new.adding.waiting.items c.treat.new.facts)
    c.in_ok-found.ensures.made c.in_ok-found.ensures.facts.0 c.treat.ensures.left)

pub returns-clause-refused : goal.returns-clause-refused
returns-clause-refused c =
    if_err
    (MayRefuse (treatment c.args.manner.now.precedence.now (sides_in c.in_ok-found.found.equation))
    (facts_of c.normal_sides.new.facts))
    (IsStopped (manner_of c.args.manner.now.precedence.now c.args.manner.now.name) (sides_in c.args.equation)
    c.args.adding.now.left (facts_of c.args.facts.now))
    c.treat.result c.treat.ensures.refused
    (λ x m. stopped_second c.args.manner.now.precedence.now c.args.manner.now.name (sides_in c.args.equation)
    (sides_in c.in_ok-found.found.equation) c.args.adding.now.left c.in_ok-found.found.left c.args.facts.now
    c.normal_sides.new.facts x c.in_ok-found.ensures.made c.in_ok-found.ensures.facts.0 m)

pub returns-clause-grows : goal.returns-clause-grows
returns-clause-grows c = grows_trans _ _ _ c.in_ok-found.ensures.grows c.treat.ensures.grows

pub returns-clause-extends : goal.returns-clause-extends
returns-clause-extends c = extends_trans _ _ _ c.in_ok-found.ensures.extends c.treat.ensures.extends

use Rattle.std.specs.Prelude.{All}
use Rattle.std.proofs.Common.{rules, sym, subst}
use Rattle.std.proofs.lemmas.List.Elements.{All-append}
use Rattle.larch_derive.proofs.Growth.{extends_trans}
use Rattle.larch_prove_adding.specs.Equation.{IsSaid}
use Rattle.larch_prove_adding.proofs.Staying.{equation_stays, equations_stay, said_stays}
use Rattle.larch_prove_adding.proofs.treating.replace_or_keep.Goals as goal

pub returns-in-Some-clause-said : goal.returns-in-Some-clause-said
returns-in-Some-clause-said c = said_stays _ _ c.args.facts.now c.in_ok-found.ensures.extends c.requires.said

pub returns-in-Some-clause-waiting : goal.returns-in-Some-clause-waiting
returns-in-Some-clause-waiting c =
    let more : All (IsSaid c.consequences_of.new.builder) c.in-Some.found.items = search rules in
    subst (All (IsSaid c.consequences_of.new.builder)) (sym c.in_ok-wait_before.ensures)
    (All-append (IsSaid c.consequences_of.new.builder) c.args.adding.now.waiting.items c.in-Some.found.items
    (equations_stay _ _ c.args.adding.now.waiting.items c.in_ok-found.ensures.extends c.requires.waiting) more)

pub keep-requires-clause-equation : goal.keep-requires-clause-equation
keep-requires-clause-equation c =
    equation_stays _ _ c.args.equation c.in_ok-found.ensures.extends c.requires.equation

pub keep-requires-clause-said : goal.keep-requires-clause-said
keep-requires-clause-said c = said_stays _ _ c.args.facts.now c.in_ok-found.ensures.extends c.requires.said

pub keep-requires-clause-waiting : goal.keep-requires-clause-waiting
keep-requires-clause-waiting c =
    equations_stay _ _ c.args.adding.now.waiting.items c.in_ok-found.ensures.extends c.requires.waiting

pub returns-clause-extends : goal.returns-clause-extends
returns-clause-extends c = extends_trans _ _ _ c.in_ok-found.ensures.extends c.keep.ensures.extends

use Rattle.std.specs.Prelude.{◌≡◌, ◌∷◌, ◌++◌, [], All, refl}
use Rattle.std.proofs.Common.{ap, arith, sym, subst}
use Rattle.std.proofs.lemmas.Grind.{common_steps}
use Rattle.std.proofs.lemmas.List.Elements.{All-cons, All-nil}
use Rattle.std.proofs.lemmas.Result.{err_from_is_err_and}
use Rattle.larch_derive.proofs.Growth.{extends_refl, extends_trans}
use Rattle.larch_prove_adding.specs.Beside.{manner_beside}
use Rattle.larch_prove_adding.specs.Equation.{IsSaid, sides_in, waiting_in}
use Rattle.larch_prove_adding.specs.KeptFacts.{facts_of}
use Rattle.larch_prove_adding.specs.Turns.{course_of, manner_of}
use Rattle.larch_prove_adding.proofs.Serving.{front_said, goes_beside, serving_beside, serving_first, stopped_all}
use Rattle.larch_prove_adding.proofs.Serving.{stopped_beside}
use Rattle.larch_prove_adding.proofs.Staying.{last_waits, said_stays}
use Rattle.larch_prove_adding.proofs.Turning.{add_done, add_stopped, goes_done, goes_first, goes_stopped, turn_lessens}
use Rattle.larch_prove_adding.proofs.facts.Facts.add_beside.Goals as goal
use Rattle.larch_prove_adding.proofs.Staying.{belongs_further}
use Rattle.larch_store.proofs.Growth.{grows_refl, grows_trans}

pub loop-equation-init : goal.loop-equation-init
loop-equation-init c = record {
  goes = goes_first
      (manner_beside c.args.instance.fact c.args.manner.now.precedence.now c.args.manner.now.name)
      (sides_in c.args.instance.equation) (facts_of c.args.self.now) c.args.manner.now.budget
      (course_of 0 c.in_ok-waiting.waiting.items c.args.self.now) refl (ap waiting_in c.in_ok-waiting.ensures) refl;
  serving = serving_first c.args.instance.fact (facts_of c.args.self.now) (facts_of c.in_ok-serving.serving)
      c.in_ok-serving.ensures.facts;
  said = c.requires.said;
  serving_said = c.in_ok-serving.ensures.said c.args.builder.now c.requires.said;
  kept = c.requires.kept;
  serving_kept = c.in_ok-serving.ensures.kept c.args.store.now;
  waiting = subst (All (IsSaid c.args.builder.now)) (sym c.in_ok-waiting.ensures)
      (All-cons (IsSaid c.args.builder.now) c.args.instance.equation [] c.requires.equation
      (All-nil (IsSaid c.args.builder.now)));
  room = omega arith;
  grows = grows_refl _;
  extends = extends_refl _;
}

pub take-requires-clause-waiting : goal.take-requires-clause-waiting
take-requires-clause-waiting c =
    let p : c.loop-equation.adding.waiting.items ≡ c.pop.new.self.items ++ c.in-Some.equation ∷ [] =
    grind (arith, common_steps) in
    front_said c.loop-equation.builder c.pop.new.self.items c.loop-equation.adding.waiting.items c.in-Some.equation p
    c.loop-equation.invariant.waiting

pub loop-equation-preserved : goal.loop-equation-preserved
loop-equation-preserved c =
    let p : c.loop-equation.adding.waiting.items ≡ c.pop.new.self.items ++ c.in-Some.equation ∷ [] =
    grind (arith, common_steps) in
    let w = last_waits c.pop.new.self.items c.loop-equation.adding.waiting.items c.in-Some.equation p in
    record {
      goes = goes_beside c.args.instance.fact c.args.manner.now.name c.args.manner.now.precedence.now
          (sides_in c.args.instance.equation) (sides_in c.in-Some.equation) (facts_of c.args.self.now)
          (facts_of c.loop-equation.self) (facts_of c.follow.new.self) (facts_of c.loop-equation.serving)
          c.args.manner.now.budget c.loop-equation.adding.left c.take.new.adding.left c.len-place.result
          c.loop-equation.adding.made (waiting_in c.loop-equation.adding.waiting.items)
          (waiting_in c.pop.new.self.items)
          (course_of c.take.new.adding.made c.take.new.adding.waiting.items c.take.new.facts)
          c.loop-equation.invariant.goes w c.loop-equation.invariant.serving c.len-place.ensures
          c.in_ok-follow.ensures.facts c.in_ok-follow.ensures.room c.in_ok-take.ensures.taken;
      serving = serving_beside c.args.instance.fact c.args.manner.now.name c.args.manner.now.precedence.now
          (sides_in c.in-Some.equation) (facts_of c.loop-equation.self) (facts_of c.follow.new.self)
          (facts_of c.loop-equation.serving) c.loop-equation.adding.left c.take.new.adding.left c.len-place.result
          c.loop-equation.adding.made (waiting_in c.pop.new.self.items)
          (course_of c.take.new.adding.made c.take.new.adding.waiting.items c.take.new.facts)
          c.requires.apart c.loop-equation.invariant.serving c.len-place.ensures c.in_ok-follow.ensures.facts
          c.in_ok-take.ensures.taken;
      said = c.in_ok-follow.ensures.said c.take.new.builder
          (said_stays _ _ c.loop-equation.self c.in_ok-take.ensures.extends c.loop-equation.invariant.said)
          c.in_ok-take.ensures.said;
      serving_said = c.in_ok-take.ensures.said;
      kept = c.in_ok-follow.ensures.kept c.take.new.store
          (belongs_further _ _ c.loop-equation.self.rules c.in_ok-take.ensures.grows c.loop-equation.invariant.kept);
      serving_kept = c.in_ok-take.ensures.kept;
      waiting = c.in_ok-take.ensures.waiting;
      room = c.in_ok-take.ensures.room;
      grows = grows_trans _ _ _ c.loop-equation.invariant.grows c.in_ok-take.ensures.grows;
      extends = extends_trans _ _ _ c.loop-equation.invariant.extends c.in_ok-take.ensures.extends;
    }

pub loop-equation-smaller : goal.loop-equation-smaller
loop-equation-smaller c =
    let p : c.loop-equation.adding.waiting.items ≡ c.pop.new.self.items ++ c.in-Some.equation ∷ [] =
    grind (arith, common_steps) in
    turn_lessens (manner_of c.args.manner.now.precedence.now c.args.manner.now.name) (sides_in c.in-Some.equation)
    (course_of c.loop-equation.adding.made c.loop-equation.adding.waiting.items c.loop-equation.serving)
    (course_of c.take.new.adding.made c.take.new.adding.waiting.items c.take.new.facts)
    c.loop-equation.adding.left c.take.new.adding.left (waiting_in c.pop.new.self.items)
    (last_waits c.pop.new.self.items c.loop-equation.adding.waiting.items c.in-Some.equation p)
    c.in_ok-take.ensures.taken

pub returns-in_err-take-clause-refused : goal.returns-in_err-take-clause-refused
returns-in_err-take-clause-refused c =
    let q = err_from_is_err_and c.from_residual-in_err-take.result c.from_residual-in_err-take.ensures.1 in
    let p : c.loop-equation.adding.waiting.items ≡ c.pop.new.self.items ++ c.in-Some.equation ∷ [] =
    grind (arith, common_steps) in
    let manner = manner_beside c.args.instance.fact c.args.manner.now.precedence.now c.args.manner.now.name in
    rw (q.1, q.2)
    (add_stopped manner (sides_in c.args.instance.equation) (facts_of c.args.self.now) c.args.manner.now.budget _
    c.number_is_small.ensures
    (goes_stopped manner (sides_in c.args.instance.equation) (sides_in c.in-Some.equation)
    (facts_of c.args.self.now) c.args.manner.now.budget
    (course_of c.loop-equation.adding.made c.loop-equation.adding.waiting.items c.loop-equation.self)
    c.loop-equation.adding.left (waiting_in c.pop.new.self.items) _ c.loop-equation.invariant.goes
    (last_waits c.pop.new.self.items c.loop-equation.adding.waiting.items c.in-Some.equation p)
    (stopped_all c.args.instance.fact c.args.manner.now.name c.args.manner.now.precedence.now
    (sides_in c.in-Some.equation) c.loop-equation.adding.left (facts_of c.loop-equation.self)
    (facts_of c.loop-equation.serving) _ c.loop-equation.invariant.serving c.in_err-take.ensures.refused)))

pub returns-in_err-take-clause-grows : goal.returns-in_err-take-clause-grows
returns-in_err-take-clause-grows c =
    grows_trans _ _ _ c.loop-equation.invariant.grows c.in_err-take.ensures.grows

pub returns-in_err-take-clause-extends : goal.returns-in_err-take-clause-extends
returns-in_err-take-clause-extends c =
    extends_trans _ _ _ c.loop-equation.invariant.extends c.in_err-take.ensures.extends

pub returns-in_err-follow-clause-refused : goal.returns-in_err-follow-clause-refused
returns-in_err-follow-clause-refused c =
    let q = err_from_is_err_and c.from_residual-in_err-follow.result c.from_residual-in_err-follow.ensures.1 in
    let p : c.loop-equation.adding.waiting.items ≡ c.pop.new.self.items ++ c.in-Some.equation ∷ [] =
    grind (arith, common_steps) in
    let manner = manner_beside c.args.instance.fact c.args.manner.now.precedence.now c.args.manner.now.name in
    rw (q.1, q.2)
    (add_stopped manner (sides_in c.args.instance.equation) (facts_of c.args.self.now) c.args.manner.now.budget _
    c.number_is_small.ensures
    (goes_stopped manner (sides_in c.args.instance.equation) (sides_in c.in-Some.equation)
    (facts_of c.args.self.now) c.args.manner.now.budget
    (course_of c.loop-equation.adding.made c.loop-equation.adding.waiting.items c.loop-equation.self)
    c.loop-equation.adding.left (waiting_in c.pop.new.self.items) _ c.loop-equation.invariant.goes
    (last_waits c.pop.new.self.items c.loop-equation.adding.waiting.items c.in-Some.equation p)
    (stopped_beside c.args.instance.fact c.args.manner.now.name c.args.manner.now.precedence.now
    (sides_in c.in-Some.equation) (facts_of c.loop-equation.self) (facts_of c.loop-equation.serving)
    c.loop-equation.adding.left c.take.new.adding.left c.len-place.result c.loop-equation.adding.made
    (waiting_in c.pop.new.self.items)
    (course_of c.take.new.adding.made c.take.new.adding.waiting.items c.take.new.facts) _
    c.loop-equation.invariant.serving c.len-place.ensures c.in_ok-take.ensures.taken
    c.in_err-follow.ensures.refused)))

pub returns-in_err-follow-clause-grows : goal.returns-in_err-follow-clause-grows
returns-in_err-follow-clause-grows c =
    grows_trans _ _ _ c.loop-equation.invariant.grows c.in_ok-take.ensures.grows

pub returns-in_err-follow-clause-extends : goal.returns-in_err-follow-clause-extends
returns-in_err-follow-clause-extends c =
    extends_trans _ _ _ c.loop-equation.invariant.extends c.in_ok-take.ensures.extends

pub returns-clause-added : goal.returns-clause-added
returns-clause-added c =
    let empty : c.loop-equation.adding.waiting.items ≡ [] = grind (arith, common_steps) in
    let manner = manner_beside c.args.instance.fact c.args.manner.now.precedence.now c.args.manner.now.name in
    add_done manner (sides_in c.args.instance.equation) (facts_of c.args.self.now) (facts_of c.loop-equation.self)
    c.args.manner.now.budget c.loop-equation.adding.left c.number_is_small.ensures
    (goes_done manner (sides_in c.args.instance.equation) (facts_of c.args.self.now) c.args.manner.now.budget
    (course_of c.loop-equation.adding.made c.loop-equation.adding.waiting.items c.loop-equation.self)
    c.loop-equation.adding.left c.loop-equation.invariant.goes (ap waiting_in empty))

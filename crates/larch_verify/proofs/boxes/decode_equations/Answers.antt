use Rattle.std.proofs.Common.{◌≡◌, ◌+◌, ◌++◌, ◌∷◌, [], take, map, All, Some, sym, ◌∙◌, ap, subst, arith}
use Rattle.std.specs.Prelude.{IfSome}
use Rattle.std.specs.Option.{option_map}
use Rattle.std.proofs.lemmas.Grind.{common_steps}
use Rattle.std.proofs.lemmas.List.{take_more}
use Rattle.larch_verify_meaning.specs.Context.{find_symbol}
use Rattle.larch_verify_meaning.specs.Decoding.{each, decode_equation}
use Rattle.larch_verify_pool.proofs.Front.{grows_trans}
use Rattle.larch_verify_history.specs.Past.{IsEquated, equated_in, history_of}
use Rattle.larch_verify_history.proofs.Staying.{history_same, past_stays}
use Rattle.larch_verify.proofs.Opened.{equations_within, equations_more, equations_stop}
use Rattle.larch_verify.proofs.boxes.decode_equations.Goals as goal

pub decode_equation-requires : goal.decode_equation-requires
decode_equation-requires c =
    past_stays c.args.context.now.theory.now c.args.pool.now c.loop-equation.pool c.args.context.now.past.now c.requires
    c.loop-equation.invariant.grows

pub returns-in_default-clause-says : goal.returns-in_default-clause-says
returns-in_default-clause-says c =
    equations_stop (decode_equation
    (find_symbol c.args.context.now.theory.now (history_of c.args.pool.now c.args.context.now.past.now)))
    c.args.equations.now c.loop-equation.equation-index c.equation-item.result c.loop-equation-test.true
    c.equation-item.is
    (ap (option_map (equated_in c.decode_equation.new.pool)) (sym c.in_default.is) ∙ c.in_ok-sides.ensures.says
    ∙ ap (λ h. decode_equation (find_symbol c.args.context.now.theory.now h) c.equation-item.result)
    (history_same c.args.context.now.theory.now c.args.pool.now c.loop-equation.pool
    c.args.context.now.past.now c.requires
    c.loop-equation.invariant.grows))

pub loop-equation-preserved : goal.loop-equation-preserved
loop-equation-preserved c =
    let p : c.push.new.self.items ≡ c.loop-equation.decoded.items ++ c.in-Some.sides ∷ [] =
    grind (arith, common_steps) in
    let m : take (c.loop-equation.equation-index + 1) c.args.equations.now
    ≡ take c.loop-equation.equation-index c.args.equations.now ++ c.equation-item.result ∷ [] =
    take_more c.args.equations.now c.loop-equation.equation-index c.equation-item.result c.loop-equation-test.true
    ∙ ap (λ y. take c.loop-equation.equation-index c.args.equations.now ++ y ∷ []) (sym c.equation-item.is) in
    record {
      grows = grows_trans c.args.pool.now c.loop-equation.pool c.decode_equation.new.pool
          c.loop-equation.invariant.grows c.in_ok-sides.ensures.grows;
      within = subst (All (IsEquated c.decode_equation.new.pool)) (sym p)
          (equations_within c.loop-equation.pool c.decode_equation.new.pool c.loop-equation.decoded.items
          c.in-Some.sides
          c.in_ok-sides.ensures.grows c.loop-equation.invariant.within
          (subst (λ o. IfSome o (IsEquated c.decode_equation.new.pool)) c.in-Some.is c.in_ok-sides.ensures.within));
      says =
          ap
          (each
          (decode_equation (find_symbol c.args.context.now.theory.now
          (history_of c.args.pool.now c.args.context.now.past.now)))) m
          ∙ equations_more c.loop-equation.pool c.decode_equation.new.pool
          (decode_equation (find_symbol c.args.context.now.theory.now
          (history_of c.args.pool.now c.args.context.now.past.now)))
          (take c.loop-equation.equation-index c.args.equations.now) c.equation-item.result
          c.loop-equation.decoded.items c.in-Some.sides
          c.in_ok-sides.ensures.grows c.loop-equation.invariant.within c.loop-equation.invariant.says
          (ap (option_map (equated_in c.decode_equation.new.pool)) (sym c.in-Some.is) ∙ c.in_ok-sides.ensures.says
          ∙ ap (λ h. decode_equation (find_symbol c.args.context.now.theory.now h) c.equation-item.result)
          (history_same c.args.context.now.theory.now c.args.pool.now c.loop-equation.pool
          c.args.context.now.past.now c.requires
          c.loop-equation.invariant.grows))
          ∙ ap (λ es. Some (map (equated_in c.decode_equation.new.pool) es)) (sym p);
    }

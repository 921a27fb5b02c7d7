use Rattle.std.proofs.Common.{◌≡◌, [], ◌∷◌, ◌++◌, sym, ◌∙◌, ap, subst, arith}
use Rattle.std.specs.Prelude.{IfSome}
use Rattle.std.specs.Option.{option_map}
use Rattle.std.proofs.lemmas.Grind.{common_steps}
use Rattle.larch_verify_pool.proofs.Front.{grows_refl}
use Rattle.larch_verify_clause_rules.specs.Operators.{IsKnown}
use Rattle.larch_verify_clause_rules.proofs.Finding.{own_missing, own_more, known_pushed}
use Rattle.larch_verify_clause_rules.proofs.known.own_operators.Goals as goal

pub returns-in_default-clause-says : goal.returns-in_default-clause-says
returns-in_default-clause-says c =
    own_missing c.args.context.now.theory.now.operators c.args.numbers.now c.loop-number.number-index
    c.loop-number-test.true
    (ap (option_map (λ k. k.operator)) (sym c.in_default.is) ∙ c.in_ok-own.ensures.says)

pub loop-number-preserved : goal.loop-number-preserved
loop-number-preserved c =
    let p : c.push.new.self.items ≡ c.loop-number.known.items ++ c.in-Some.own ∷ [] = grind (arith, common_steps) in
    record {
      known =
          known_pushed c.args.pool.now c.args.pool.now c.loop-number.known.items c.push.new.self.items c.in-Some.own
          (grows_refl c.args.pool.now) c.loop-number.invariant.known
          (subst (λ o. IfSome o (IsKnown c.args.pool.now)) c.in-Some.is c.in_ok-own.ensures.known) p;
      says =
          own_more c.args.context.now.theory.now.operators c.args.numbers.now c.loop-number.number-index
          c.loop-number.known.items c.push.new.self.items c.in-Some.own c.loop-number-test.true
          c.loop-number.invariant.says (ap (option_map (λ k. k.operator)) (sym c.in-Some.is) ∙ c.in_ok-own.ensures.says)
          p;
    }

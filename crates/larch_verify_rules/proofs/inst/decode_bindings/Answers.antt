use Rattle.std.proofs.Common.{◌≡◌, ◌++◌, [], ◌∷◌, Some, sym, ◌∙◌, ap, subst, arith}
use Rattle.std.specs.Prelude.{IfSome}
use Rattle.std.specs.Option.{option_map}
use Rattle.std.proofs.lemmas.Grind.{common_steps}
use Rattle.larch_verify_meaning.specs.Context.{find_symbol}
use Rattle.larch_verify_meaning.specs.Decoding.{decode_binding}
use Rattle.larch_verify_history.specs.Past.{history_of}
use Rattle.larch_verify_history.proofs.Staying.{past_stays, history_same}
use Rattle.larch_verify_rules.specs.Instances.{IsBinding, entry_of}
use Rattle.larch_verify_rules.proofs.Instances.{none_decoded, one_decoded, one_within}
use Rattle.larch_verify_pool.proofs.Front.{grows_trans}
use Rattle.larch_verify_rules.proofs.inst.decode_bindings.Goals as goal

pub decode_binding-requires : goal.decode_binding-requires
decode_binding-requires c =
    past_stays c.args.context.now.theory.now c.args.pool.now c.loop-binding.pool c.args.context.now.past.now c.requires
    c.loop-binding.invariant.grows

pub returns-in_default-clause-says : goal.returns-in_default-clause-says
returns-in_default-clause-says c =
    none_decoded (find_symbol c.args.context.now.theory.now (history_of c.args.pool.now c.args.context.now.past.now))
    c.args.bindings.now c.loop-binding.binding-index c.binding-item.result
    c.loop-binding-test.true c.binding-item.is
    (ap (option_map (entry_of c.decode_binding.new.pool.trees)) (sym c.in_default.is) ∙ c.in_ok-decoded.ensures.says
    ∙ ap (λ h. decode_binding (find_symbol c.args.context.now.theory.now h) c.binding-item.result)
    (history_same c.args.context.now.theory.now c.args.pool.now c.loop-binding.pool c.args.context.now.past.now
    c.requires c.loop-binding.invariant.grows))

pub loop-binding-preserved : goal.loop-binding-preserved
loop-binding-preserved c =
    let w : IsBinding c.decode_binding.new.pool.trees c.in-Some.decoded =
    subst (λ o. IfSome o (IsBinding c.decode_binding.new.pool.trees)) c.in-Some.is c.in_ok-decoded.ensures.within in
    let d : Some (entry_of c.decode_binding.new.pool.trees c.in-Some.decoded)
    ≡ decode_binding (find_symbol c.args.context.now.theory.now
    (history_of c.args.pool.now c.args.context.now.past.now)) c.binding-item.result =
    ap (option_map (entry_of c.decode_binding.new.pool.trees)) (sym c.in-Some.is) ∙ c.in_ok-decoded.ensures.says
    ∙ ap (λ h. decode_binding (find_symbol c.args.context.now.theory.now h) c.binding-item.result)
    (history_same c.args.context.now.theory.now c.args.pool.now c.loop-binding.pool c.args.context.now.past.now
    c.requires c.loop-binding.invariant.grows) in
    let p : c.push.new.self.items ≡ c.loop-binding.by.items ++ c.in-Some.decoded ∷ [] = grind (arith, common_steps) in
    record {
      grows =
          grows_trans c.args.pool.now c.loop-binding.pool c.decode_binding.new.pool c.loop-binding.invariant.grows
          c.in_ok-decoded.ensures.grows;
      within =
          one_within c.loop-binding.pool c.decode_binding.new.pool c.loop-binding.by.items c.in-Some.decoded
          c.push.new.self.items
          c.in_ok-decoded.ensures.grows c.loop-binding.invariant.within w p;
      says =
          one_decoded (find_symbol c.args.context.now.theory.now
          (history_of c.args.pool.now c.args.context.now.past.now)) c.loop-binding.pool c.decode_binding.new.pool
          c.loop-binding.by.items c.in-Some.decoded c.push.new.self.items c.args.bindings.now
          c.loop-binding.binding-index c.binding-item.result
          c.loop-binding-test.true c.binding-item.is c.in_ok-decoded.ensures.grows c.loop-binding.invariant.within
          c.loop-binding.invariant.says d p;
    }

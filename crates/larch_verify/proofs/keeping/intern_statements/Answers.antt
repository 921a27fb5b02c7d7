use Rattle.std.proofs.Common.{◌≡◌, ◌+◌, ◌++◌, ◌∷◌, [], take, map, All, sym, ◌∙◌, ap, subst, arith}
use Rattle.std.proofs.lemmas.Grind.{common_steps}
use Rattle.std.proofs.lemmas.List.{take_more}
use Rattle.larch_verify_pool.proofs.Front.{grows_trans}
use Rattle.larch_verify_history.specs.Past.{IsStated, stated_in}
use Rattle.larch_verify.proofs.Kept.{statements_within, statements_more}
use Rattle.larch_verify.proofs.keeping.intern_statements.Goals as goal

pub loop-statement-preserved : goal.loop-statement-preserved
loop-statement-preserved c =
    let p : c.push.new.self.items ≡ c.loop-statement.stated.items ++ c.in_ok-next.next ∷ [] =
    grind (arith, common_steps) in
    let m : take (c.loop-statement.statement-index + 1) c.args.statements.now
    ≡ take c.loop-statement.statement-index c.args.statements.now ++ c.statement-item.result ∷ [] =
    take_more c.args.statements.now c.loop-statement.statement-index c.statement-item.result c.loop-statement-test.true
    ∙ ap (λ y. take c.loop-statement.statement-index c.args.statements.now ++ y ∷ []) (sym c.statement-item.is) in
    record {
      grows = grows_trans c.args.pool.now c.loop-statement.pool c.intern_statement.new.pool
          c.loop-statement.invariant.grows c.in_ok-next.ensures.grows;
      within = subst (All (IsStated c.intern_statement.new.pool)) (sym p)
          (statements_within c.loop-statement.pool c.intern_statement.new.pool c.loop-statement.stated.items
          c.in_ok-next.next
          c.in_ok-next.ensures.grows c.loop-statement.invariant.within c.in_ok-next.ensures.within);
      says = ap (map (stated_in c.intern_statement.new.pool)) p
          ∙ statements_more c.loop-statement.pool c.intern_statement.new.pool c.loop-statement.stated.items
          c.in_ok-next.next
          (take c.loop-statement.statement-index c.args.statements.now) c.statement-item.result
          c.in_ok-next.ensures.grows c.loop-statement.invariant.within c.loop-statement.invariant.says
          c.in_ok-next.ensures.says
          ∙ sym m;
    }

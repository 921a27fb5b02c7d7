use Rattle.std.proofs.Common.{◌≡◌, ℕ, ◌+◌, ◌<◌, List, [], ◌∷◌, ◌++◌, length, map, drop, get_or, All, sym, ◌∙◌, ap}
use Rattle.std.proofs.Common.{subst, arith}
use Rattle.std.proofs.lemmas.Grind.{common_steps}
use Rattle.std.proofs.lemmas.List.{get_or_default}
use Rattle.larch_term.specs.Tree.{var}
use Rattle.larch_calculus.specs.Generation.{place_name}
use Rattle.larch_verify_pool.specs.Pooled.{Pooled, tree_in, HasTree}
use Rattle.larch_verify_pool.proofs.Front.{grows_trans}
use Rattle.larch_verify_clause_rules.specs.Naming.{variables_named, variable_term}
use Rattle.larch_verify_clause_rules.proofs.Placed.{variables_pushed, within_pushed}
use Rattle.larch_verify_clause_rules.proofs.variables.place_variables.Goals as goal

pub loop-i-preserved : goal.loop-i-preserved
loop-i-preserved c =
    let q : Pooled = c.place_variable.new.pool in
    let n : ℕ = c.in_ok-variable.variable in
    let p : c.push.new.self.items ≡ c.loop-i.variables.items ++ n ∷ [] = grind (arith, common_steps) in
    let t : HasTree q n (var (place_name (c.loop-i.i + 1)) (get_or c.args.sorts.now c.loop-i.i [])) =
    subst (λ s. HasTree q n (var (place_name (c.loop-i.i + 1)) s))
    (c.index-sorts-i.is ∙ get_or_default c.args.sorts.now c.loop-i.i c.index-sorts-i.result [] c.loop-i-test.true)
    c.in_ok-variable.ensures.tree in
    record {
      grows = grows_trans c.args.pool.now c.loop-i.pool q c.loop-i.invariant.grows c.in_ok-variable.ensures.grows;
      within =
          subst (λ (xs : List ℕ). All (λ m. m < length q.trees) xs) (sym p)
          (within_pushed c.loop-i.pool q c.loop-i.variables.items n
          (var (place_name (c.loop-i.i + 1)) (get_or c.args.sorts.now c.loop-i.i [])) c.in_ok-variable.ensures.grows
          c.loop-i.invariant.within t);
      trees =
          ap (λ xs. map (tree_in q.trees) xs
          ++ map variable_term (variables_named place_name (c.loop-i.i + 1 + 1)
          (drop (c.loop-i.i + 1) c.args.sorts.now))) p
          ∙ variables_pushed c.loop-i.pool q c.loop-i.variables.items n place_name c.loop-i.i c.args.sorts.now
          (map variable_term (variables_named place_name 1 c.args.sorts.now))
          c.in_ok-variable.ensures.grows c.loop-i.invariant.within c.loop-i-test.true c.loop-i.invariant.trees t;
    }

use Rattle.std.proofs.Common.{map, sym, ◌∙◌, ap}
use Rattle.larch_calculus.specs.Generation.{place_name}
use Rattle.larch_calculus.specs.Observation.{observations}
use Rattle.larch_verify_meaning.specs.Matching.{same_statements}
use Rattle.larch_verify_pool.specs.Pooled.{tree_in}
use Rattle.larch_verify_history.specs.Past.{box_in, equated_in, stated_in}
use Rattle.larch_verify_clause_rules.specs.Operators.{operators_in}
use Rattle.larch_verify_clause_rules.proofs.Clauses.{partitioned_no_part, partitioned_not, partitioned_yes}
use Rattle.larch_verify_clause_rules.proofs.partitioned.shows_partitioned.Goals as goal

pub returns-then-not-has_two_constants-clause-says : goal.returns-then-not-has_two_constants-clause-says
returns-then-not-has_two_constants-clause-says c =
    partitioned_no_part c.args.sort.now (operators_in c.args.operators.now) (box_in c.args.pool.now c.args.known.now)
    (stated_in c.args.pool.now c.args.stated.now)
    (sym c.if-not-has_two_constants.true
    ∙ c.has_two_constants.ensures (box_in c.args.pool.now c.args.known.now) (sym c.as_slice.ensures))

pub returns-then-not-supposes-clause-says : goal.returns-then-not-supposes-clause-says
returns-then-not-supposes-clause-says c =
    partitioned_not c.args.pool.now c.two_constants.new.pool c.args.sort.now
    (operators_in c.args.operators.now) c.args.known.now
    (stated_in c.args.pool.now c.args.stated.now) c.in_ok-constants.constants
    c.in_ok-supposes.supposes c.in_ok-constants.ensures.grows c.requires.known
    (sym c.if-not-has_two_constants.false
    ∙ c.has_two_constants.ensures (box_in c.args.pool.now c.args.known.now) (sym c.as_slice.ensures))
    c.in_ok-constants.ensures.says
    (c.in_ok-supposes.ensures.says
    ∙ ap (λ hs. same_statements (map (equated_in c.two_constants.new.pool) hs)
    (observations place_name c.args.sort.now (operators_in c.args.operators.now)
    (tree_in c.two_constants.new.pool.trees c.in_ok-constants.constants.left)
    (tree_in c.two_constants.new.pool.trees c.in_ok-constants.constants.right))) c.as_slice-hypotheses.ensures)
    c.if-not-supposes.true

pub returns-clause-says : goal.returns-clause-says
returns-clause-says c =
    partitioned_yes c.args.pool.now c.two_constants.new.pool c.supposes_observations.new.pool c.args.sort.now
    (operators_in c.args.operators.now) c.args.known.now c.args.stated.now c.in_ok-constants.constants
    c.in_ok-supposes.supposes c.same_stated.result c.in_ok-constants.ensures.grows c.in_ok-supposes.ensures.grows
    c.requires.known c.requires.stated c.in_ok-constants.ensures.within
    (sym c.if-not-has_two_constants.false
    ∙ c.has_two_constants.ensures (box_in c.args.pool.now c.args.known.now) (sym c.as_slice.ensures))
    c.in_ok-constants.ensures.says
    (c.in_ok-supposes.ensures.says
    ∙ ap (λ hs. same_statements (map (equated_in c.two_constants.new.pool) hs)
    (observations place_name c.args.sort.now (operators_in c.args.operators.now)
    (tree_in c.two_constants.new.pool.trees c.in_ok-constants.constants.left)
    (tree_in c.two_constants.new.pool.trees c.in_ok-constants.constants.right))) c.as_slice-hypotheses.ensures)
    c.if-not-supposes.false c.same_stated.ensures

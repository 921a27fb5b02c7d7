use Rattle.std.proofs.Common.{sym, ◌∙◌, ap}
use Rattle.larch_calculus.specs.Generation.{generation_hypotheses}
use Rattle.larch_verify_meaning.specs.Events.{box_predicate}
use Rattle.larch_verify_meaning.specs.Matching.{same_statements, is_predicate_on}
use Rattle.larch_verify_pool.specs.Pooled.{operator_in}
use Rattle.std.proofs.Common.{map}
use Rattle.larch_verify_history.specs.Past.{equated_in, stated_in}
use Rattle.larch_verify_clause_rules.specs.Operators.{operators_in}
use Rattle.larch_verify_clause_rules.proofs.Clauses.{generated_not, generated_yes}
use Rattle.larch_verify_clause_rules.proofs.Staying.{found_within, operator_within}
use Rattle.larch_verify_clause_rules.proofs.generated.shows_generated.Goals as goal

pub returns-then-not-supposes-clause-says : goal.returns-then-not-supposes-clause-says
returns-then-not-supposes-clause-says c =
    generated_not c.args.pool.now c.predicate_in.new.pool c.args.sort.now
    (operators_in c.args.generators.now) c.args.known.now
    (stated_in c.args.pool.now c.args.stated.now) c.in_ok-predicate.predicate
    c.in_ok-supposes.supposes c.in_ok-predicate.ensures.grows c.requires.known
    (sym c.if-not-is_predicate_on.false ∙ c.is_predicate_on.ensures
    ∙ ap (is_predicate_on c.args.sort.now) c.as_slice.ensures)
    c.in_ok-predicate.ensures.operator
    (c.in_ok-supposes.ensures.says
    ∙ ap (λ hs. same_statements (map (equated_in c.predicate_in.new.pool) hs)
    (generation_hypotheses (operator_in c.predicate_in.new.pool.operators c.in_ok-predicate.predicate)
    c.args.sort.now (operators_in c.args.generators.now))) c.as_slice-hypotheses.ensures)
    c.if-not-supposes.true

pub holds_of_variable-requires-clause-predicate : goal.holds_of_variable-requires-clause-predicate
holds_of_variable-requires-clause-predicate c =
    operator_within c.predicate_in.new.pool c.supposes_inheritance.new.pool c.in_ok-predicate.predicate
    c.in_ok-supposes.ensures.grows
    (found_within c.predicate_in.new.pool c.in_ok-predicate.predicate
    (box_predicate c.args.known.now.number 1 c.args.sort.now) c.in_ok-predicate.ensures.operator)

pub returns-clause-says : goal.returns-clause-says
returns-clause-says c =
    generated_yes c.args.pool.now c.predicate_in.new.pool c.supposes_inheritance.new.pool c.args.sort.now
    (operators_in c.args.generators.now) c.args.known.now c.args.stated.now c.in_ok-predicate.predicate
    c.in_ok-supposes.supposes c.in_ok-holds.holds c.in_ok-predicate.ensures.grows c.in_ok-supposes.ensures.grows
    c.requires.known c.requires.stated
    (sym c.if-not-is_predicate_on.false ∙ c.is_predicate_on.ensures
    ∙ ap (is_predicate_on c.args.sort.now) c.as_slice.ensures)
    c.in_ok-predicate.ensures.operator
    (c.in_ok-supposes.ensures.says
    ∙ ap (λ hs. same_statements (map (equated_in c.predicate_in.new.pool) hs)
    (generation_hypotheses (operator_in c.predicate_in.new.pool.operators c.in_ok-predicate.predicate)
    c.args.sort.now (operators_in c.args.generators.now))) c.as_slice-hypotheses.ensures)
    c.if-not-supposes.false c.in_ok-holds.ensures.says

-- The level is put upon the current one, and then the levels settle.
use Rattle.std.proofs.Common.{None}
use Rattle.std.proofs.lemmas.Result.{err_from_is_err_and}
use Rattle.larch_prove_settling.proofs.ProveDraftAlike.{leads_on}
use Rattle.larch_prove_settling.specs.ProveDraftDraft.{Leads}
use Rattle.larch_prove_settling.proofs.ProveLevelsTelling.{tells_same}
use Rattle.larch_prove_settling.specs.ProveLevelsSupposing.{TellsCode}
use Rattle.larch_prove_settings.specs.ProveMeaningLevels.{settle_goal}
use Rattle.larch_prove_settings.specs.ProveMeaningSteps.{level_opened}
use Rattle.larch_prove_settling.proofs.Leaving.{if_answered, if_refused}
use Rattle.larch_prove_work.proofs.Upon.{holds_upon, level_refused, opened_upon, proof_upon, some_upon, upon_alike}
use Rattle.larch_prove_work.proofs.formula.open_level.Goals as goal
use Rattle.larch_store.specs.Numbered.{term_of}

pub formula_level-requires-clause-facts : goal.formula_level-requires-clause-facts
formula_level-requires-clause-facts c =
    let q = c.requires.stands in
    (c.in_ok-way.ensures.written _ _ _ q.0 q.1.0 q.1.1.0 q.1.1.1.1.0 q.1.1.1.1.1).facts

pub formula_level-requires-clause-says : goal.formula_level-requires-clause-says
formula_level-requires-clause-says c =
    let q = c.requires.stands in
    (c.in_ok-way.ensures.written _ _ _ q.0 q.1.0 q.1.1.0 q.1.1.1.1.0 q.1.1.1.1.1).says

pub returns-in_err-level-clause-refused : goal.returns-in_err-level-clause-refused
returns-in_err-level-clause-refused c =
    let q = err_from_is_err_and c.from_residual-in_err-level.result c.from_residual-in_err-level.ensures.1 in
    rw (q.1, q.2) (λ p k ks over w m.
    level_refused c.args.proving.now.theory.now c.args.proving.now.statement.now c.args.store.now
    c.write_formula.new.draft p ks c.args.formula.now c.in_ok-way.way
    (c.in_ok-way.ensures.written _ _ _ p k ks w m) _ _ over c.in_err-level.field-0.0 c.in_err-level.ensures.refused)

pub settle-requires-clause-stands : goal.settle-requires-clause-stands
settle-requires-clause-stands c =
    let q = c.requires.stands in let m = q.1.1.1.1.1 in
    some_upon c.args.proving.now.theory.now c.args.proving.now.statement.now c.args.store.now
    c.write_formula.new.draft q.0 q.1.1.0 c.args.formula.now c.in_ok-way.way
    (c.in_ok-way.ensures.written _ _ _ q.0 q.1.0 q.1.1.0 q.1.1.1.1.0 m) _ _ q.1.1.1.0 c.formula_level.new.store
    c.formula_level.new.builder c.push_level.new.below c.in_ok-level.level c.in_ok-level.ensures.made
    c.in_ok-level.ensures.facts c.in_ok-level.ensures.ready c.in_ok-level.ensures.first c.in_ok-level.ensures.grows
    c.in_ok-level.ensures.extends m.over.1 c.in_ok-push_level.ensures.below c.push_level.new.current
    c.in_ok-push_level.ensures.current

pub returns-clause-opened : goal.returns-clause-opened
returns-clause-opened c =
    let t = c.args.proving.now.theory.now in let s = c.args.proving.now.statement.now in
    let store = c.args.store.now in let d = c.write_formula.new.draft in let f = c.args.formula.now in
    let goal = term_of c.in_ok-level.level.goal.term in
    if_answered _ _ c.settle.result (λ x h p k ks over w m.
    let z = c.in_ok-way.ensures.written t s store p k ks w m in
    leads_on t s c.settle.new.store c.settle.new.draft p
    (proof_upon t s store d p ks f c.in_ok-way.way z _ _ over goal) None _ (level_opened f p)
    (upon_alike t s store d p ks f c.in_ok-way.way z _ _ over goal)
    (opened_upon t s store d p ks f c.in_ok-way.way z _ _ over goal c.in_ok-level.ensures.normal)
    (holds_upon t s store d p ks f c.in_ok-way.way z _ _ over c.formula_level.new.store c.formula_level.new.builder
    c.push_level.new.below c.in_ok-level.level c.in_ok-level.ensures.made c.in_ok-level.ensures.facts
    c.in_ok-level.ensures.ready c.in_ok-level.ensures.first c.in_ok-level.ensures.grows c.in_ok-level.ensures.extends
    m.over.1 c.in_ok-push_level.ensures.below
    (λ q. Leads t s c.settle.new.store c.settle.new.draft q None (settle_goal q)) c.push_level.new.current
    c.in_ok-push_level.ensures.current h)) c.settle.ensures.settled

pub returns-clause-refused : goal.returns-clause-refused
returns-clause-refused c =
    let t = c.args.proving.now.theory.now in let s = c.args.proving.now.statement.now in
    let store = c.args.store.now in let d = c.write_formula.new.draft in let f = c.args.formula.now in
    let goal = term_of c.in_ok-level.level.goal.term in
    if_refused _ _ c.settle.result (λ r h p k ks over w m.
    let z = c.in_ok-way.ensures.written t s store p k ks w m in
    tells_same (level_opened f p) _ r
    (opened_upon t s store d p ks f c.in_ok-way.way z _ _ over goal c.in_ok-level.ensures.normal)
    (holds_upon t s store d p ks f c.in_ok-way.way z _ _ over c.formula_level.new.store c.formula_level.new.builder
    c.push_level.new.below c.in_ok-level.level c.in_ok-level.ensures.made c.in_ok-level.ensures.facts
    c.in_ok-level.ensures.ready c.in_ok-level.ensures.first c.in_ok-level.ensures.grows c.in_ok-level.ensures.extends
    m.over.1 c.in_ok-push_level.ensures.below (λ q. TellsCode (settle_goal q) r) c.push_level.new.current
    c.in_ok-push_level.ensures.current h)) c.settle.ensures.refused

-- Equations that are added in turn.
use Rattle.std.specs.Prelude.{◌≡◌, ℕ, Bool, true, false, List, [], ◌∷◌, Option, None, Some, IfNone, IfSome, is_some}
use Rattle.std.specs.Prelude.{Result, Ok, Err, map, refl}
use Rattle.std.proofs.Common.{ap, subst, sym, ◌∙◌}
use Rattle.larch_base.specs.declared.code.Code.{Code}
use Rattle.larch_prove_work.specs.ProveAddingEquation.{sides_in}
use Rattle.larch_prove_work.specs.ProveAddingEquationSaidEquation.{SaidEquation}
use Rattle.larch_prove_work.proofs.ProveDraftAlike.{alike_trans}
use Rattle.larch_prove_work.specs.ProveDraftDraft.{IsAlike, Stands}
use Rattle.larch_prove_work.specs.ProveDraftDraftDraft.{Draft}
use Rattle.larch_prove_facts.specs.Derivation.{Continues, Reaches, StandsFor, all_settled}
use Rattle.larch_prove_work.specs.ProveInvariantBook.{Kept}
use Rattle.larch_prove_work.proofs.ProveLevelsTelling.{tells_first}
use Rattle.larch_prove_work.specs.ProveLevelsSupposing.{TellsCode}
use Rattle.larch_prove_meaning.specs.Levels.{Proof, derive, is_settled, settle_goal}
use Rattle.larch_prove_meaning.specs.Steps.{all_derived}
use Rattle.larch_prove_work.specs.RewriteRefusalRewriteRefusal.{RewriteRefusal}
use Rattle.larch_rewrite_meaning.specs.Sides.{Sides}
use Rattle.larch_store.specs.Numbered.{Numbered}
use Rattle.larch_term.specs.declared.statement.Statement.{Statement}
use Rattle.larch_term.specs.declared.statement.Theory.{Theory}
use Rattle.larch_base_meaning.specs.Steps.{after}

-- ---- one equation alone

either_settles : (q : Proof) (b : Bool) → after (elim b [ true ↦ Ok q | false ↦ Ok q ]) settle_goal ≡ settle_goal q
either_settles q true = refl
either_settles q false = refl

one_then : (r : Result Proof Code)
    → after (after r (λ q. elim (is_settled q.current) [ true ↦ Ok q | false ↦ all_derived [] q ])) settle_goal
    ≡ after r settle_goal
one_then (Err code) = refl
one_then (Ok q) = either_settles q (is_settled q.current)

pub one_settled : (e : Sides) (p : Proof) → all_settled (e ∷ []) p ≡ after (derive e p) settle_goal
one_settled e p = one_then (derive e p)

-- ---- one after the other

derived_then : (e : Sides) (es : List Sides) (p q : Proof) → derive e p ≡ Ok q
    → all_derived (e ∷ es) p ≡ elim (is_settled q.current) [ true ↦ Ok q | false ↦ all_derived es q ]
derived_then e es p q h =
    ap (λ r. after r (λ z. elim (is_settled z.current) [ true ↦ Ok z | false ↦ all_derived es z ])) h

-- the goal is proved by one
pub settled_there : (e : Sides) (es : List Sides) (p q : Proof) → derive e p ≡ Ok q → is_settled q.current ≡ true
    → all_derived (e ∷ es) p ≡ Ok q
settled_there e es p q h b =
    derived_then e es p q h ∙ ap (λ x. elim x [ true ↦ Ok q | false ↦ all_derived es q ]) b

-- or the next one is added
pub settled_later : (e : Sides) (es : List Sides) (p q : Proof) → derive e p ≡ Ok q → is_settled q.current ≡ false
    → all_derived (e ∷ es) p ≡ all_derived es q
settled_later e es p q h b =
    derived_then e es p q h ∙ ap (λ x. elim x [ true ↦ Ok q | false ↦ all_derived es q ]) b

pub refused_there : (e : Sides) (es : List Sides) (p : Proof) (r : RewriteRefusal) → TellsCode (derive e p) r
    → TellsCode (all_derived (e ∷ es) p) r
refused_there e es p r h = tells_first (derive e p) _ r h

-- ---- whether the goal is proved

pub settled_told : (o : Option ℕ) (b : Bool) → IfSome o (λ _. b ≡ true) → IfNone o (b ≡ false) → b ≡ is_some o
settled_told None b h n = n
settled_told (Some line) b h n = h

-- ---- drafts

-- the goal is proved by one equation: so far it leads, and then the draft got further lines
pub continues_there : (t : Theory) (s : Statement) (store more : List Numbered) (d e f : Draft) (p : Proof)
    (answer : Result Proof Code) (x : Sides) (xs : List Sides)
    → (c : Continues t s store d p answer (x ∷ xs)) → (r : Reaches t s more e c.0 (derive x c.0))
    → Stands t s more f r.0 r.1.1.1.1.0 r.1.1.1.0 → is_settled r.0.current ≡ true → Reaches t s more f p answer
continues_there t s store more d e f p answer x xs c r w b = (
  r.0,
  (
    c.1.0 ∙ settled_there x xs c.0 r.0 r.1.0 b,
    (alike_trans p c.0 r.0 c.1.1.0 r.1.1.0, (r.1.1.1.0, (r.1.1.1.1.0, w))),
  ),
)

-- or it isn't
pub continues_later : (t : Theory) (s : Statement) (store more : List Numbered) (d e f : Draft) (p : Proof)
    (answer : Result Proof Code) (x : Sides) (xs : List Sides)
    → (c : Continues t s store d p answer (x ∷ xs)) → (r : Reaches t s more e c.0 (derive x c.0))
    → Stands t s more f r.0 r.1.1.1.1.0 r.1.1.1.0 → is_settled r.0.current ≡ false → Continues t s more f p answer xs
continues_later t s store more d e f p answer x xs c r w b = (
  r.0,
  (
    c.1.0 ∙ settled_later x xs c.0 r.0 r.1.0 b,
    (alike_trans p c.0 r.0 c.1.1.0 r.1.1.0, (r.1.1.1.0, (r.1.1.1.1.0, w))),
  ),
)

-- none is left
pub continued_none : (t : Theory) (s : Statement) (store : List Numbered) (d : Draft) (p : Proof)
    (answer : Result Proof Code) (rest : List SaidEquation) → rest ≡ []
    → Continues t s store d p answer (map sides_in rest) → Reaches t s store d p answer
continued_none t s store d p answer rest h c =
    subst (λ (es : List SaidEquation). Continues t s store d p answer (map sides_in es)) h c

-- with the next equation
pub continued : (t : Theory) (s : Statement) (store : List Numbered) (d : Draft) (p : Proof)
    (answer : Result Proof Code) (rest : List SaidEquation) (e : SaidEquation) (more : List SaidEquation)
    → rest ≡ e ∷ more → Continues t s store d p answer (map sides_in rest)
    → Continues t s store d p answer (sides_in e ∷ map sides_in more)
continued t s store d p answer rest e more h c =
    subst (λ (es : List SaidEquation). Continues t s store d p answer (map sides_in es)) h c

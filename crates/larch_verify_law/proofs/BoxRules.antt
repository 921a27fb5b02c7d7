-- What rules say by the results of closed boxes is derivable: fresh, cases, induct.
use Rattle.std.proofs.Common.{◌≡◌, ℕ, zero, suc, true, false, ◌&&◌, List, [], ◌∷◌, ◌++◌, map, All, Some, bytes_eq, refl}
use Rattle.std.proofs.Common.{sym, ◌∙◌, ap, subst, append-nil}
use Rattle.std.specs.List.{slice_get}
use Rattle.std.specs.Option.{option_map_or}
use Rattle.std.proofs.lemmas.List.Elements.{All-head}
use Rattle.std.proofs.lemmas.Option.{option_and_then_some, cond_some}
use Rattle.larch_base.proofs.Bools.{and_left, and_right}
use Rattle.larch_base.proofs.Options.{some_inj}
use Rattle.larch_term.specs.Equality.{same_statement}
use Rattle.larch_term.specs.Operator.{PlainOperator}
use Rattle.larch_term.specs.Statement.{IsStatementOver}
use Rattle.larch_term.specs.Tree.{Tree, app}
use Rattle.larch_term.specs.Truth.{truth}
use Rattle.larch_term.specs.Variable.{occurrences}
use Rattle.larch_term.specs.declared.statement.Statement.{Statement}
use Rattle.larch_term.specs.declared.statement.Statement.TheVariants.{Equation, Generated, Partitioned}
use Rattle.larch_term.specs.declared.statement.Theory.{Theory}
use Rattle.larch_term.specs.declared.variable.Variable.{Variable}
use Rattle.larch_verify_meaning.proofs.CalculusBoxes.{constants_without_arguments, constants_sorts}
use Rattle.larch_verify_meaning.specs.CalculusDerivable.{Derivable, AreArguments, fresh, cases, induct}
use Rattle.larch_verify_meaning.specs.CalculusFormula.{falsity}
use Rattle.larch_verify_meaning.specs.CalculusGeneration.{constant_terms, equation_at, induction_hypotheses}
use Rattle.larch_verify_meaning.specs.CalculusTheories.{extend, with_statements, AreConstants}
use Rattle.larch_certificate.specs.declared.line.CodedVar.{CodedVar}
use Rattle.larch_verify_meaning.specs.BoxRules.{freed_equation, freed_result, equation_alone, only_left_side, supposes}
use Rattle.larch_verify_meaning.specs.BoxRules.{common_result, cases_of, shows_case, shows_cases, induct_over}
use Rattle.larch_verify_meaning.specs.Context.{find_closed}
use Rattle.larch_verify_meaning.specs.Events.{PlainBox, operators_of, Event}
use Rattle.larch_verify_meaning.specs.Matching.{is_empty, same_statements, has_constants}
use Rattle.larch_verify_law.proofs.Contexts.{inside, IsProper, Shows}
use Rattle.larch_verify_law.proofs.Told.{map_or_true, cond_then, bytes_told, statement_told, statements_told}
use Rattle.larch_verify_law.proofs.Told.{empty_told, constants_told, no_parts_told}

-- constants of these sorts take no arguments and have these sorts
pub box_constants : (b : PlainBox) (ss : List (List ℕ)) → has_constants b ss ≡ true → AreConstants (operators_of b)
box_constants b ss e =
    subst AreConstants (sym (constants_told b ss e)) (constants_without_arguments b.number 1 ss)

pub box_sorts : (b : PlainBox) (ss : List (List ℕ)) → has_constants b ss ≡ true
    → map (λ c. c.range) (operators_of b) ≡ ss
box_sorts b ss e = ap (map (λ c. c.range)) (constants_told b ss e) ∙ constants_sorts b.number 1 ss

-- what is derivable in a box is so with what its hypotheses are equal to
pub with_hypotheses : (t : Theory) (b : PlainBox) (hs : List Statement) (s : Statement) → b.hypotheses ≡ hs
    → Derivable (inside t b) s → Derivable (extend t (operators_of b) hs) s
with_hypotheses t b hs s e d = subst (λ h. Derivable (extend t (operators_of b) h) s) e d

freed_derivable : (t : Theory) (b : PlainBox) (vs : List Variable) (s r : Statement) → IsProper t b
    → AreConstants (operators_of b) → map (λ f. f.range) (operators_of b) ≡ map (λ v. v.sort) vs
    → Derivable (extend t (operators_of b) []) s → freed_equation (operators_of b) vs s ≡ Some r → Derivable t r
freed_derivable t b vs (Equation a c) r p k e d q =
    subst (Derivable t) (some_inj q) (fresh (operators_of b) vs p.new k e d refl refl)
freed_derivable t b vs (Generated z fs) r p k e d q = cc
freed_derivable t b vs (Partitioned z fs) r p k e d q = cc

-- fresh
pub fresh_derivable : (t : Theory) (b : PlainBox) (s : Statement) (vs : List Variable) (r : Statement) → Shows t b s
    → freed_result b s vs ≡ Some r → Derivable t r
fresh_derivable t b s vs r w e =
    let ss = map (λ v. v.sort) vs in
    let c = cond_then (is_empty b.hypotheses && has_constants b ss) (freed_equation (operators_of b) vs s) r e in
    let bare = and_left (is_empty b.hypotheses) (has_constants b ss) c.0 in
    let parts = and_right (is_empty b.hypotheses) (has_constants b ss) c.0 in
    freed_derivable t b vs s r w.proper (box_constants b ss parts) (box_sorts b ss parts)
    (with_hypotheses t b [] s (empty_told b.hypotheses bare) w.derivable) c.1

-- what a box without parts adds
no_operators : (t : Theory) (b : PlainBox) (hs : List Statement) → operators_of b ≡ [] → b.hypotheses ≡ hs
    → inside t b ≡ with_statements t hs
no_operators t b hs p q =
    (λ i. extend t (p i) (q i)) ∙ (λ i.
    record { operators = append-nil t.operators i; statements = t.statements ++ hs })

-- a box that supposes that a formula has a value
record Supposes (t : Theory) (b : PlainBox) (s : Statement) (f v : Tree) : Type 0 where
  hypothesis : IsStatementOver t.operators (Equation f v)
  derivable : Derivable (with_statements t (Equation f v ∷ [])) s

supposing : (t : Theory) (b : PlainBox) (s : Statement) (f v : Tree) → Shows t b s → supposes b f v ≡ true
    → Supposes t b s f v
supposing t b s f v w e =
    let one = Equation f v ∷ [] in
    let bare = no_parts_told b (and_left (is_empty b.parts) (same_statements b.hypotheses one) e) in
    let same = statements_told b.hypotheses one (and_right (is_empty b.parts) (same_statements b.hypotheses one) e) in
    let over : All (IsStatementOver (t.operators ++ [])) one =
    subst (λ fs. All (IsStatementOver (t.operators ++ fs)) one) bare
    (subst (All (IsStatementOver (t.operators ++ operators_of b))) same w.proper.sorted) in
    record {
      hypothesis = subst (λ fs. IsStatementOver fs (Equation f v)) (append-nil t.operators)
          (All-head (IsStatementOver (t.operators ++ [])) (Equation f v) [] over);
      derivable = subst (λ u. Derivable u s) (no_operators t b one bare same) w.derivable;
    }

common_derivable : (t : Theory) (s r : Statement) (f : Tree) → IsStatementOver t.operators (Equation f truth)
    → occurrences f ≡ [] → Derivable (with_statements t (Equation f truth ∷ [])) s
    → Derivable (with_statements t (Equation f falsity ∷ [])) s → equation_alone s ≡ Some r → Derivable t r
common_derivable t (Equation a b) r f w o d e h = subst (Derivable t) (some_inj h) (cases f w.0 w.2 o d e)
common_derivable t (Generated z fs) r f w o d e h = cc
common_derivable t (Partitioned z fs) r f w o d e h = cc

two_cases : (t : Theory) (c d : PlainBox × Statement) (f : Tree) (r : Statement) → Shows t c.0 c.1 → Shows t d.0 d.1
    → common_result c d f ≡ Some r → Derivable t r
two_cases t c d f r v w e =
    let closed = is_empty (occurrences f) && same_statement c.1 d.1 in
    let h = cond_then (supposes c.0 f truth && (supposes d.0 f falsity && closed)) (equation_alone c.1) r e in
    let first =
    supposing t c.0 c.1 f truth v (and_left (supposes c.0 f truth) (supposes d.0 f falsity && closed) h.0) in
    let others = and_right (supposes c.0 f truth) (supposes d.0 f falsity && closed) h.0 in
    let second = supposing t d.0 d.1 f falsity w (and_left (supposes d.0 f falsity) closed others) in
    let last = and_right (supposes d.0 f falsity) closed others in
    let same = statement_told c.1 d.1 (and_right (is_empty (occurrences f)) (same_statement c.1 d.1) last) in
    common_derivable t c.1 r f first.hypothesis
    (empty_told (occurrences f) (and_left (is_empty (occurrences f)) (same_statement c.1 d.1) last)) first.derivable
    (subst (Derivable (with_statements t (Equation f falsity ∷ []))) (sym same) second.derivable) h.1

-- cases
pub cases_derivable : (t : Theory) (c d : PlainBox × Statement) (r : Statement) → Shows t c.0 c.1 → Shows t d.0 d.1
    → cases_of c d ≡ Some r → Derivable t r
cases_derivable t c d r v w e =
    option_and_then_some (common_result c d) (only_left_side c.0.hypotheses) r e (λ f p q. two_cases t c d f r v w q)

-- the constants of a box, and the equation of what a generator makes of them
record IsCase (t : Theory) (x s : List ℕ) (l r : Tree) (f : PlainOperator) (cs : List PlainOperator) : Type 0 where
  arguments : AreArguments t f cs
  derivable : Derivable (extend t cs (induction_hypotheses x s l r cs))
      (equation_at x s l r (app f (constant_terms cs)))

case_told : (t : Theory) (x : CodedVar) (l r : Tree) (f : PlainOperator) (c : PlainBox × Statement) → Shows t c.0 c.1
    → shows_case x l r f c ≡ true → IsCase t x.name x.sort l r f (operators_of c.0)
case_told t x l r f c w e =
    let hs = induction_hypotheses x.name x.sort l r (operators_of c.0) in
    let goal = equation_at x.name x.sort l r (app f (constant_terms (operators_of c.0))) in
    let tests = same_statements c.0.hypotheses hs && same_statement c.1 goal in
    let parts = and_left (has_constants c.0 f.domain) tests e in
    let others = and_right (has_constants c.0 f.domain) tests e in
    let supposed = statements_told c.0.hypotheses hs
    (and_left (same_statements c.0.hypotheses hs) (same_statement c.1 goal) others) in
    let shown =
    statement_told c.1 goal (and_right (same_statements c.0.hypotheses hs) (same_statement c.1 goal) others) in
    record {
      arguments = record {
        new = w.proper.new;
        constants = box_constants c.0 f.domain parts;
        sorts = box_sorts c.0 f.domain parts;
      };
      derivable = subst (Derivable (extend t (operators_of c.0) hs)) shown
          (with_hypotheses t c.0 hs c.1 supposed w.derivable);
    }

-- the operators of the box at a place of a list
abbrev operators_at : List Event → List ℕ → ℕ → List PlainOperator
operators_at h [] i = []
operators_at h (b ∷ bs) zero = option_map_or (λ c. operators_of c.0) (find_closed h b) []
operators_at h (b ∷ bs) (suc i) = operators_at h bs i

-- where closed boxes show their results, each generator has a box that shows its case
cases_told : (t : Theory) (h : List Event)
    → ((m : ℕ) (c : PlainBox × Statement) → find_closed h m ≡ Some c → Shows t c.0 c.1) → (x : CodedVar) (l r : Tree)
    → (fs : List PlainOperator) (bs : List ℕ) → shows_cases h x (Equation l r) fs bs ≡ true
    → (i : ℕ) (f : PlainOperator) → slice_get fs i ≡ Some f → IsCase t x.name x.sort l r f (operators_at h bs i)
cases_told t h k x l r [] bs e i f g = cc
cases_told t h k x l r (f ∷ fs) [] e i a g = cc
cases_told t h k x l r (f ∷ fs) (b ∷ bs) e zero a g =
    let first = option_map_or (shows_case x l r f) (find_closed h b) false in
    map_or_true (shows_case x l r f) (find_closed h b) (and_left first (shows_cases h x (Equation l r) fs bs) e)
    (λ c p q. subst (λ o. IsCase t x.name x.sort l r a (option_map_or (λ c. operators_of c.0) o [])) (sym p)
    (subst (λ g. IsCase t x.name x.sort l r g (operators_of c.0)) (some_inj g) (case_told t x l r f c (k b c p) q)))
cases_told t h k x l r (f ∷ fs) (b ∷ bs) e (suc i) a g =
    let first = option_map_or (shows_case x l r f) (find_closed h b) false in
    cases_told t h k x l r fs bs (and_right first (shows_cases h x (Equation l r) fs bs) e) i a g

no_cases : (h : List Event) (x : CodedVar) (z : List ℕ) (gs fs : List PlainOperator) (bs : List ℕ)
    → shows_cases h x (Generated z gs) fs bs ≡ true → ⊥
no_cases h x z gs fs bs e = cc

no_cases_either : (h : List Event) (x : CodedVar) (z : List ℕ) (gs fs : List PlainOperator) (bs : List ℕ)
    → shows_cases h x (Partitioned z gs) fs bs ≡ true → ⊥
no_cases_either h x z gs fs bs e = cc

-- induct
pub inducted_derivable : (t : Theory) (h : List Event)
    → ((m : ℕ) (c : PlainBox × Statement) → find_closed h m ≡ Some c → Shows t c.0 c.1) → (x : CodedVar) (bs : List ℕ)
    → (g c q : Statement) → IsStatementOver t.operators g → Derivable t c → induct_over h x bs g c ≡ Some q
    → Derivable t q
inducted_derivable t h k x bs (Equation l r) (Generated s fs) q w d e =
    let test = bytes_eq s x.sort && shows_cases h x (Equation l r) fs bs in
    let c = cond_some test (Equation l r) q e in
    let sort = bytes_told s x.sort (and_left (bytes_eq s x.sort) (shows_cases h x (Equation l r) fs bs) c.0) in
    let shown =
    cases_told t h k x l r fs bs (and_right (bytes_eq s x.sort) (shows_cases h x (Equation l r) fs bs) c.0) in
    subst (Derivable t) c.1
    (induct x.name x.sort fs (operators_at h bs) (subst (λ z. Derivable t (Generated z fs)) sort d) w
    (λ i f p. (shown i f p).arguments) (λ i f p. (shown i f p).derivable))
inducted_derivable t h k x bs (Equation l r) (Equation a b) q w d e = cc
inducted_derivable t h k x bs (Equation l r) (Partitioned s fs) q w d e = cc
inducted_derivable t h k x bs (Generated z gs) (Generated s fs) q w d e =
    let c = cond_some (bytes_eq s x.sort && shows_cases h x (Generated z gs) fs bs) (Generated z gs) q e in
    absurd (no_cases h x z gs fs bs (and_right (bytes_eq s x.sort) (shows_cases h x (Generated z gs) fs bs) c.0))
inducted_derivable t h k x bs (Generated z gs) (Equation a b) q w d e = cc
inducted_derivable t h k x bs (Generated z gs) (Partitioned s fs) q w d e = cc
inducted_derivable t h k x bs (Partitioned z gs) (Generated s fs) q w d e =
    let c = cond_some (bytes_eq s x.sort && shows_cases h x (Partitioned z gs) fs bs) (Partitioned z gs) q e in
    absurd (no_cases_either h x z gs fs bs
    (and_right (bytes_eq s x.sort) (shows_cases h x (Partitioned z gs) fs bs) c.0))
inducted_derivable t h k x bs (Partitioned z gs) (Equation a b) q w d e = cc
inducted_derivable t h k x bs (Partitioned z gs) (Partitioned s fs) q w d e = cc

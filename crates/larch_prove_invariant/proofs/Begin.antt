-- The boxes of a running method's subgoals may be opened.
use Rattle.std.specs.Prelude.{◌≡◌, List, [], ◌∷◌, map, All, Ok, Some, refl}
use Rattle.std.proofs.Common.{subst, sym}
use Rattle.std.proofs.lemmas.List.Elements.{All-cons, All-nil}
use Rattle.larch_term.specs.Sorts.{IsKnown, sort_of}
use Rattle.larch_term.specs.Tree.{Tree}
use Rattle.larch_term.specs.Variable.{variables_of}
use Rattle.larch_term.specs.declared.statement.Statement.{Statement}
use Rattle.larch_term.specs.declared.statement.Theory.{Theory}
use Rattle.larch_derive.specs.Builder.{theory_in}
use Rattle.larch_derive.specs.Predicates.{HasNoBadLine}
use Rattle.larch_derive.specs.Words.{IsWordedOperator, IsWordedTerm}
use Rattle.larch_derive.specs.declared.builder.Builder.{Builder}
use Rattle.larch_derive.proofs.Words.{known_worded}
use Rattle.larch_methods.specs.ProveMeaningPlans.{Cases, Conjunction, Contradiction, Implication, Induction, Method}
use Rattle.larch_methods.specs.ProveMeaningPlans.{Partition}
use Rattle.larch_methods.specs.ProveMeaningPlans.{conjuncts, plan, shared_subgoal}
use Rattle.larch_methods.specs.Methods.{IsKnownFormula}
use Rattle.larch_methods.specs.Opening.{MayBegin, MayBeginAll}
use Rattle.larch_methods.proofs.Begun.{cases_begin, cases_inside, contradiction_begins, contradiction_inside}
use Rattle.larch_methods.proofs.Begun.{implication_begins, implication_inside, induction_begins, partition_begins}
use Rattle.larch_methods.proofs.Opened.{may_open_bare}
use Rattle.larch_methods.proofs.Planned.{conjunction_planned}
use Rattle.larch_methods.proofs.Sharing.{inside_grown}
use Rattle.larch_prove_invariant.specs.Book.{Kept, Running}
use Rattle.larch_prove_invariant.specs.Holding.{Holds, IsKnownFor, IsPlanned, Through, shape_of, shared_shapes}
use Rattle.larch_prove_invariant.proofs.Held.{holding_stands, running_is, shared_is}
use Rattle.larch_prove_invariant.proofs.PlanWords.{clauses_worded, generators_worded, observers_worded}
use Rattle.larch_prove_invariant.proofs.Shared.{box_own, formula_grows, is_implication, is_induction}
use Rattle.larch_prove_invariant.proofs.Shared.{is_partition, no_shapes, shared_box}

conjuncts_begin : (b : Builder) (ts : List Tree) → HasNoBadLine b → All (MayBegin b) (map (shared_subgoal []) ts)
conjuncts_begin b [] st = All-nil (MayBegin b)
conjuncts_begin b (t ∷ ts) st =
    All-cons (MayBegin b) (shared_subgoal [] t) (map (shared_subgoal []) ts)
    (may_open_bare b [] st (All-nil (λ c. IsKnown (theory_in b).operators c → ⊥)) (All-nil IsWordedOperator))
    (conjuncts_begin b ts st)

pub may_begin : (a b : Builder) (goal : Tree) (r : Running) → IsPlanned a b goal r → Through a r.shared b
    → HasNoBadLine b → MayBeginAll b r.plan
may_begin a b goal r p t st = by_method r.method refl
  where
    planned : (m : Method) → r.method ≡ m → plan r.setting goal m ≡ Ok r.plan
    planned m e = subst (λ n. plan r.setting goal n ≡ Ok r.plan) e p.planned

    shapes : (m : Method) → r.method ≡ m → map shape_of r.shared ≡ shared_shapes m r.plan
    shapes m e = subst (λ n. map shape_of r.shared ≡ shared_shapes n r.plan) e p.shared

    by_method : (m : Method) → r.method ≡ m → MayBeginAll b r.plan
    by_method (Cases f) e =
        let s = shared_box a b r.plan.constants r.shared (shapes (Cases f) e) p.apart t in
        let known : IsKnownFormula a f = subst (IsKnownFor a) e p.method_known in
        let x = s.around.supposing.box in
        cases_begin s.around.outside b x r.setting goal f r.plan (planned (Cases f) e) s.constants
        (inside_grown s.around.outside s.opened b x (variables_of f)
        (cases_inside s.around.outside s.opened x r.setting goal f r.plan (planned (Cases f) e) s.opens s.constants
        (box_own s.around.outside x r.plan.constants s.constants s.own) (known_worded a f known.known)) s.grown)
        (formula_grows a s.around.outside f s.around.grows known)
    by_method Implication e =
        let q = planned Implication e in
        let i = is_implication r.setting goal r.plan q in
        let s = shared_box a b r.plan.constants r.shared (shapes Implication e) p.apart t in
        let x = s.around.supposing.box in
        implication_begins s.around.outside b x r.setting goal i.0.0 i.0.1 r.plan i.1 q s.constants
        (inside_grown s.around.outside s.opened b x (variables_of i.0.0)
        (implication_inside s.around.outside s.opened x r.setting goal i.0.0 i.0.1 r.plan i.1 q s.opens s.constants
        (box_own s.around.outside x r.plan.constants s.constants s.own)
        (subst IsWordedTerm i.1 (known_worded a goal p.goal_known.known)).1.0) s.grown)
        (formula_grows a s.around.outside goal s.around.grows p.goal_known)
    by_method Conjunction e =
        subst (All (MayBegin b)) (sym (conjunction_planned r.setting goal r.plan (planned Conjunction e)))
        (conjuncts_begin b (conjuncts goal) st)
    by_method Contradiction e =
        let q = planned Contradiction e in
        let s = shared_box a b r.plan.constants r.shared (shapes Contradiction e) p.apart t in
        let x = s.around.supposing.box in
        contradiction_begins s.around.outside b x r.setting goal r.plan q s.constants
        (inside_grown s.around.outside s.opened b x (variables_of goal)
        (contradiction_inside s.around.outside s.opened x r.setting goal r.plan q s.opens s.constants
        (box_own s.around.outside x r.plan.constants s.constants s.own) (known_worded a goal p.goal_known.known))
        s.grown)
        (formula_grows a s.around.outside goal s.around.grows p.goal_known)
    by_method (Induction n) e =
        let q = planned (Induction n) e in
        let f = is_induction r.setting goal n r.plan q in
        induction_begins b r.setting goal n f.0 f.1.1.0 r.plan q f.1.0 f.1.1.1
        (formula_grows a b goal (subst (λ xs. Through a xs b) (no_shapes r.shared (shapes (Induction n) e)) t)
        p.goal_known) p.others
        (generators_worded f.0.sort r.setting.clauses f.1.1.0 (clauses_worded a b goal r p) f.1.1.1)
    by_method Partition e =
        let q = planned Partition e in
        let f = is_partition r.setting goal r.plan q in
        partition_begins b r.setting goal f.0 f.1.0 f.1.1.1.0 r.plan q f.1.1.0 f.1.1.1.1 st p.others
        (observers_worded (sort_of f.0) r.setting.clauses f.1.1.1.0 (clauses_worded a b goal r p) f.1.1.1.1)

-- so may those of the method that runs on the current level
pub subgoals_may_begin : (t : Theory) (s : Statement) (b : Builder) (k : Kept) (ks : List Kept) (r : Running)
    → Holds t s b (k ∷ ks) → k.book.running ≡ Some r → MayBeginAll b r.plan
subgoals_may_begin t s b k ks r (a, (i, (w, h))) e =
    let u = running_is h.outside b k r e h.running in
    may_begin h.outside b k.level.goal r u.planned (shared_is h.outside b k r e h.shared)
    (holding_stands t s b (k ∷ ks) (a, (i, (w, h))))

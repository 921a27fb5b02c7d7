-- What a completion holds.
use Rattle.std.specs.Prelude.{◌≡◌, List, [], ◌∷◌, ◌++◌, All, OnOk, Result, Ok, Err, Some, drop, map}
use Rattle.std.proofs.Common.{ap, ap₂, subst, sym, ◌∙◌}
use Rattle.std.proofs.lemmas.List.{map-append}
use Rattle.std.proofs.lemmas.List.Elements.{All-append, All-cons, All-head, All-nil, All-tail}
use Rattle.larch_calculus.proofs.WellSorted.{well_sorted}
use Rattle.larch_complete.specs.Work.{EndsWith, Holds, IsSound, stage_in}
use Rattle.larch_complete.specs.declared.work.Work.{Work}
use Rattle.larch_complete.proofs.Going.{added_ends, added_goes}
use Rattle.larch_complete_meaning.specs.Completion.{Completion, IsDerivable, IsRuleOf, add_rule, equations_of}
use Rattle.larch_complete_meaning.specs.Completion.{without_next}
use Rattle.larch_complete_meaning.specs.Pairs.{pairs_of_new}
use Rattle.larch_complete_meaning.specs.Rounds.{Stage, with_rule, with_waiting}
use Rattle.larch_complete_meaning.proofs.Deriving.{equations_derivable, new_pairs_are}
use Rattle.larch_complete_pairs.specs.Said.{IsSaid, IsSaidRule, Stops, WaitBehind, rule_in, sides_in}
use Rattle.larch_complete_pairs.specs.declared.said.SaidEquation.{SaidEquation}
use Rattle.larch_complete_pairs.specs.declared.said.SaidRule.{SaidRule}
use Rattle.larch_complete_rounds.specs.Certified.{IsCertified, IsRuleIn, sides_behind}
use Rattle.larch_complete_rounds.specs.Halt.{from_pairing}
use Rattle.larch_complete_rounds.specs.Ready.{IsReady, rules_in}
use Rattle.larch_complete_rounds.specs.declared.certified.CertifiedRule.{CertifiedRule}
use Rattle.larch_complete_rounds.specs.declared.rewriter.Rewriter.{Rewriter}
use Rattle.larch_complete_rounds.specs.declared.task.CompletionTask.{CompletionTask}
use Rattle.larch_complete_rounds.proofs.Certifying.{equations_stay, one_theory, rules_stay, same_boxes}
use Rattle.larch_derive.specs.Builder.{boxes_in, theory_in}
use Rattle.larch_derive.specs.Predicates.{Extends}
use Rattle.larch_derive.specs.declared.builder.Builder.{Builder}
use Rattle.larch_pairs.specs.declared.refusal.PairRefusal.{PairRefusal}
use Rattle.larch_pairs_critical.specs.Overlap.{IsApplication}
use Rattle.larch_rewrite_meaning.specs.Sides.{AreSidesOver, Sides}
use Rattle.larch_term.specs.Statement.{IsWellSortedTheory}
use Rattle.larch_term.specs.declared.statement.Theory.{Theory}

abbrev two_lists : List Sides → List Sides → Stage
two_lists rs ws = record { rules = rs; waiting = ws }

-- what holds anyway does so where there is a result
pub on_ok : {A E : Type 0} (r : Result A E) (P : Type 0) → P → OnOk r P
on_ok (Ok x) P p = p
on_ok (Err e) P p = tt

-- the theory is the builder's
pub sound_own : (th : Theory) (w : Work) → IsSound th w → IsSound (theory_in w.rewriter.builder) w
sound_own th w h = subst (λ (t : Theory). IsSound t w) (sym h.theory_is) h

pub holds_own : (th : Theory) (task : CompletionTask) (w : Work) → Holds th task w
    → Holds (theory_in w.rewriter.builder) task w
holds_own th task w h = subst (λ (t : Theory). Holds t task w) (sym h.sound.theory_is) h

-- each of its rules is one of the theory
pub rules_are : (th : Theory) (w : Work) → IsSound th w → All (IsRuleOf th) (rules_in w.rewriter)
rules_are th w h = subst (All (IsRuleOf th)) (sym h.same) h.stage.0

-- ---- further lines

sound_on : (th : Theory) (w v : Work) → IsSound th w
    → Extends w.rewriter.builder v.rewriter.builder → IsReady v.rewriter → rules_in v.rewriter ≡ rules_in w.rewriter
    → v.rules ≡ w.rules → v.waiting.items ≡ w.waiting.items → IsSound th v
sound_on th w v h x ready same r q = record {
  theory_is = one_theory _ _ x ∙ h.theory_is;
  no_boxes = same_boxes _ _ x ∙ h.no_boxes;
  ready = ready;
  same = same ∙ h.same ∙ sym (ap (map sides_behind) r);
  rules = subst (λ (rs : List CertifiedRule). All (λ p. IsRuleIn v.rewriter.builder p.said) rs) (sym r)
      (rules_stay _ _ w.rules x h.rules);
  certified = subst (All (IsCertified th)) (sym r) h.certified;
  waiting = subst (All (IsSaid v.rewriter.builder)) (sym q) (equations_stay _ _ w.waiting.items x h.waiting);
  stage = (
    subst (λ (rs : List CertifiedRule). All (IsRuleOf th) (map sides_behind rs)) (sym r) h.stage.0,
    subst (λ (es : List SaidEquation). All (IsDerivable th) (map sides_in es)) (sym q) h.stage.1,
  );
  sorted = h.sorted;
}

pub holds_on : (th : Theory) (task : CompletionTask) (w v : Work) → Holds th task w
    → Extends w.rewriter.builder v.rewriter.builder → IsReady v.rewriter → rules_in v.rewriter ≡ rules_in w.rewriter
    → v.rules ≡ w.rules → v.waiting.items ≡ w.waiting.items → Holds th task v
holds_on th task w v h x ready same r q = record {
  sound = sound_on th w v h.sound x ready same r q;
  equations = equations_stay _ _ task.equations x h.equations;
  own = h.own;
}

-- ---- an equation is taken

-- the first equation that waits
pub first_said : (th : Theory) (w : Work) (e : SaidEquation) (es : List SaidEquation)
    → IsSound th w → w.waiting.items ≡ e ∷ es → IsSaid w.rewriter.builder e
first_said th w e es h q =
    All-head (IsSaid w.rewriter.builder) e es (subst (All (IsSaid w.rewriter.builder)) q h.waiting)

pub first_derivable : (th : Theory) (w : Work) (e : SaidEquation) (es : List SaidEquation)
    → IsSound th w → w.waiting.items ≡ e ∷ es → IsDerivable th (sides_in e)
first_derivable th w e es h q =
    All-head (IsDerivable th) (sides_in e) (map sides_in es)
    (subst (λ (ds : List SaidEquation). All (IsDerivable th) (map sides_in ds)) q h.stage.1)

sound_taken : (th : Theory) (w v : Work) (e : SaidEquation) (es : List SaidEquation)
    → IsSound th w → w.waiting.items ≡ e ∷ es → v.rewriter ≡ w.rewriter → v.rules ≡ w.rules
    → v.waiting.items ≡ es → IsSound th v
sound_taken th w v e es h q r k n = record {
  theory_is = ap (λ (x : Rewriter). theory_in x.builder) r ∙ h.theory_is;
  no_boxes = ap (λ (x : Rewriter). boxes_in x.builder) r ∙ h.no_boxes;
  ready = subst IsReady (sym r) h.ready;
  same = ap rules_in r ∙ h.same ∙ sym (ap (map sides_behind) k);
  rules = subst (λ (rs : List CertifiedRule). All (λ p. IsRuleIn v.rewriter.builder p.said) rs) (sym k)
      (subst (λ (x : Rewriter). All (λ (p : CertifiedRule). IsRuleIn x.builder p.said) w.rules) (sym r) h.rules);
  certified = subst (All (IsCertified th)) (sym k) h.certified;
  waiting = subst (λ (x : Rewriter). All (IsSaid x.builder) v.waiting.items) (sym r)
      (subst (All (IsSaid w.rewriter.builder)) (sym n)
      (All-tail (IsSaid w.rewriter.builder) e es (subst (All (IsSaid w.rewriter.builder)) q h.waiting)));
  stage = (
    subst (λ (rs : List CertifiedRule). All (IsRuleOf th) (map sides_behind rs)) (sym k) h.stage.0,
    subst (λ (ds : List SaidEquation). All (IsDerivable th) (map sides_in ds)) (sym n)
        (All-tail (IsDerivable th) (sides_in e) (map sides_in es)
        (subst (λ (ds : List SaidEquation). All (IsDerivable th) (map sides_in ds)) q h.stage.1)),
  );
  sorted = h.sorted;
}

pub holds_taken : (th : Theory) (task : CompletionTask) (w v : Work) (e : SaidEquation) (es : List SaidEquation)
    → Holds th task w → w.waiting.items ≡ e ∷ es → v.rewriter ≡ w.rewriter → v.rules ≡ w.rules
    → v.waiting.items ≡ es → Holds th task v
holds_taken th task w v e es h q r k n = record {
  sound = sound_taken th w v e es h.sound q r k n;
  equations = subst (λ (x : Rewriter). All (IsSaid x.builder) task.equations) (sym r) h.equations;
  own = h.own;
}

-- the stage behind it
pub stage_taken : (w v : Work) (e : SaidEquation) (es : List SaidEquation) → w.waiting.items ≡ e ∷ es
    → v.rules ≡ w.rules → v.waiting.items ≡ es → stage_in v ≡ without_next (stage_in w)
stage_taken w v e es q k n =
    ap₂ (λ (rs ws : List Sides). two_lists rs ws) (ap (map sides_behind) k)
    (ap (map sides_in) n ∙ sym (ap (λ (ds : List SaidEquation). drop 1 (map sides_in ds)) q))

-- where none waits, the stage stays
pub stage_stays : (w v : Work) → w.waiting.items ≡ [] → v.rules ≡ w.rules → v.waiting.items ≡ []
    → stage_in v ≡ without_next (stage_in w)
stage_stays w v q k n =
    ap₂ (λ (rs ws : List Sides). two_lists rs ws) (ap (map sides_behind) k)
    (ap (map sides_in) n ∙ sym (ap (λ (ds : List SaidEquation). drop 1 (map sides_in ds)) q))

-- ---- a new rule

-- a rule of the theory that a line says is one of its builder
pub new_rule_in : (th : Theory) (b : Builder) (rule : Sides) (new : SaidRule) → theory_in b ≡ th → IsRuleOf th rule
    → rule_in new ≡ rule → IsSaidRule b new → IsRuleIn b new
new_rule_in th b rule new t k r s = record {
  said = s;
  over = subst (λ (u : Theory). AreSidesOver u.operators (rule_in new)) (sym t)
      (subst (AreSidesOver th.operators) (sym r) (well_sorted k.0));
  applies = subst IsApplication (sym (ap (λ (e : Sides). e.left) r)) k.1;
}

-- each rule has a certificate still
pub certified_added : (th : Theory) (w : Work) (rules : List CertifiedRule) (new : CertifiedRule) → IsSound th w
    → IsCertified th new → rules ≡ w.rules ++ new ∷ [] → All (IsCertified th) rules
certified_added th w rules new h c e =
    subst (All (IsCertified th)) (sym e)
    (All-append (IsCertified th) w.rules (new ∷ []) h.certified
    (All-cons (IsCertified th) new [] c (All-nil (IsCertified th))))

pub sound_added : (th : Theory) (w v : Work) (rule : SaidEquation) (new : CertifiedRule) (slice : List CertifiedRule)
    → IsSound th w → Extends w.rewriter.builder v.rewriter.builder → IsReady v.rewriter
    → rules_in v.rewriter ≡ rules_in w.rewriter ++ sides_in rule ∷ [] → IsRuleOf th (sides_in rule)
    → rule_in new.said ≡ sides_in rule → IsSaidRule v.rewriter.builder new.said → IsCertified th new
    → v.rules ≡ w.rules ++ new ∷ [] → slice ≡ w.rules
    → WaitBehind (pairs_of_new (map sides_behind slice) (rule_in new.said)) w.waiting.items v.waiting.items
    → All (IsSaid v.rewriter.builder) v.waiting.items → IsSound th v
sound_added th w v rule new slice h x ready same k r s c e q p said =
    let b = v.rewriter.builder in
    let t : theory_in b ≡ th = one_theory _ _ x ∙ h.theory_is in
    let i : IsRuleIn b new.said = new_rule_in th b (sides_in rule) new.said t k r s in
    let m : IsRuleOf th (rule_in new.said) = subst (IsRuleOf th) (sym r) k in
    record {
      theory_is = t;
      no_boxes = same_boxes _ _ x ∙ h.no_boxes;
      ready = ready;
      same = same ∙ ap₂ (λ (rs : List Sides) (q : Sides). rs ++ q ∷ []) h.same (sym r)
          ∙ sym (map-append sides_behind w.rules (new ∷ [])) ∙ sym (ap (map sides_behind) e);
      rules = subst (λ (rs : List CertifiedRule). All (λ q. IsRuleIn b q.said) rs) (sym e)
          (All-append (λ (q : CertifiedRule). IsRuleIn b q.said) w.rules (new ∷ []) (rules_stay _ _ w.rules x h.rules)
          (All-cons (λ (q : CertifiedRule). IsRuleIn b q.said) new [] i
          (All-nil (λ (q : CertifiedRule). IsRuleIn b q.said))));
      certified = certified_added th w v.rules new h c e;
      waiting = said;
      stage = (
        subst (λ (rs : List CertifiedRule). All (IsRuleOf th) (map sides_behind rs)) (sym e)
            (subst (All (IsRuleOf th)) (sym (map-append sides_behind w.rules (new ∷ [])))
            (All-append (IsRuleOf th) (map sides_behind w.rules) (rule_in new.said ∷ []) h.stage.0
            (All-cons (IsRuleOf th) (rule_in new.said) [] m (All-nil (IsRuleOf th))))),
        subst (All (IsDerivable th)) (sym p.waiting)
            (All-append (IsDerivable th) (map sides_in w.waiting.items) p.equations h.stage.1
            (new_pairs_are th (map sides_behind w.rules) (rule_in new.said) p.equations h.stage.0 m
            (ap (λ (rs : List CertifiedRule). pairs_of_new (map sides_behind rs) (rule_in new.said)) (sym q)
            ∙ p.comes_to))),
      );
      sorted = h.sorted;
    }

-- the stage behind a new rule and its critical pairs
stage_added : (w v : Work) (rule : SaidEquation) (new : CertifiedRule) (pairs : List Sides)
    → rule_in new.said ≡ sides_in rule → v.rules ≡ w.rules ++ new ∷ []
    → map sides_in v.waiting.items ≡ map sides_in w.waiting.items ++ pairs
    → stage_in v ≡ with_waiting (with_rule (stage_in w) (sides_in rule)) pairs
stage_added w v rule new pairs r e p =
    ap₂ (λ (rs ws : List Sides). two_lists rs ws)
    (ap (map sides_behind) e ∙ map-append sides_behind w.rules (new ∷ [])
    ∙ ap (λ (q : Sides). map sides_behind w.rules ++ q ∷ []) r) p

rules_added : (w : Work) (rules : List CertifiedRule) (rule : SaidEquation) (new : CertifiedRule)
    → rule_in new.said ≡ sides_in rule → rules ≡ w.rules ++ new ∷ []
    → map sides_behind rules ≡ map sides_behind w.rules ++ sides_in rule ∷ []
rules_added w rules rule new r e =
    ap (map sides_behind) e ∙ map-append sides_behind w.rules (new ∷ [])
    ∙ ap (λ (q : Sides). map sides_behind w.rules ++ q ∷ []) r

-- how a completion goes on with it
pub rule_goes : (w v : Work) (rule : SaidEquation) (new : CertifiedRule) (slice : List CertifiedRule)
    (next : Stage → Completion) → rule_in new.said ≡ sides_in rule → v.rules ≡ w.rules ++ new ∷ [] → slice ≡ w.rules
    → WaitBehind (pairs_of_new (map sides_behind slice) (rule_in new.said)) w.waiting.items v.waiting.items
    → add_rule next (stage_in w) (Some (sides_in rule)) ≡ next (stage_in v)
rule_goes w v rule new slice next r e q p =
    added_goes next (stage_in w) (sides_in rule) p.equations
    (ap (pairs_of_new (map sides_behind w.rules)) (sym r)
    ∙ ap (λ (rs : List CertifiedRule). pairs_of_new (map sides_behind rs) (rule_in new.said)) (sym q) ∙ p.comes_to)
    ∙ ap next (sym (stage_added w v rule new p.equations r e p.waiting))

-- and how it ends there
pub rule_ends : (w : Work) (rules : List CertifiedRule) (rule : SaidEquation) (new : CertifiedRule)
    (slice : List CertifiedRule) (x : PairRefusal) (next : Stage → Completion) → rule_in new.said ≡ sides_in rule
    → rules ≡ w.rules ++ new ∷ [] → slice ≡ w.rules
    → Stops (pairs_of_new (map sides_behind slice) (rule_in new.said)) x
    → EndsWith (add_rule next (stage_in w) (Some (sides_in rule))) (map sides_behind rules) (from_pairing x)
rule_ends w rules rule new slice x next r e q h =
    subst (λ (rs : List Sides). EndsWith (add_rule next (stage_in w) (Some (sides_in rule))) rs (from_pairing x))
    (sym (rules_added w rules rule new r e))
    (added_ends next (stage_in w) (sides_in rule) x
    (subst (λ (s : Sides). Stops (pairs_of_new (map sides_behind w.rules) s) x) r
    (subst (λ (rs : List CertifiedRule). Stops (pairs_of_new (map sides_behind rs) (rule_in new.said)) x) q h)))

-- ---- the beginning

sound_first : (th : Theory) (task : CompletionTask) (v : Work) → theory_in v.rewriter.builder ≡ th
    → boxes_in v.rewriter.builder ≡ [] → IsReady v.rewriter → rules_in v.rewriter ≡ [] → v.rules ≡ []
    → v.waiting.items ≡ task.equations → All (IsSaid v.rewriter.builder) task.equations → IsWellSortedTheory th
    → map sides_in task.equations ≡ equations_of th → IsSound th v
sound_first th task v t b ready none r q said w own = record {
  theory_is = t;
  no_boxes = b;
  ready = ready;
  same = none ∙ sym (ap (map sides_behind) r);
  rules = subst (λ (rs : List CertifiedRule). All (λ p. IsRuleIn v.rewriter.builder p.said) rs) (sym r)
      (All-nil (λ (p : CertifiedRule). IsRuleIn v.rewriter.builder p.said));
  certified = subst (All (IsCertified th)) (sym r) (All-nil (IsCertified th));
  waiting = subst (All (IsSaid v.rewriter.builder)) (sym q) said;
  stage = (
    subst (λ (rs : List CertifiedRule). All (IsRuleOf th) (map sides_behind rs)) (sym r) (All-nil (IsRuleOf th)),
    subst (λ (ds : List SaidEquation). All (IsDerivable th) (map sides_in ds)) (sym q)
        (subst (All (IsDerivable th)) (sym own) (equations_derivable th w)),
  );
  sorted = w;
}

pub holds_first : (th : Theory) (task : CompletionTask) (v : Work) → theory_in v.rewriter.builder ≡ th
    → boxes_in v.rewriter.builder ≡ [] → IsReady v.rewriter → rules_in v.rewriter ≡ [] → v.rules ≡ []
    → v.waiting.items ≡ task.equations → All (IsSaid v.rewriter.builder) task.equations → IsWellSortedTheory th
    → map sides_in task.equations ≡ equations_of th → Holds th task v
holds_first th task v t b ready none r q said w own = record {
  sound = sound_first th task v t b ready none r q said w own;
  equations = said;
  own = own;
}

pub stage_first : (w : Work) (es : List SaidEquation) (own : List Sides) → w.rules ≡ [] → w.waiting.items ≡ es
    → map sides_in es ≡ own → stage_in w ≡ record { rules = []; waiting = own }
stage_first w es own r q o =
    ap₂ (λ (rs ws : List Sides). two_lists rs ws) (ap (map sides_behind) r) (ap (map sides_in) q ∙ o)

-- Commands that resume a proof, kind by kind.
use Rattle.std.specs.Prelude.{◌≡◌, IfErr, IsSome, OnOk, Result, Some, refl}
use Rattle.std.proofs.Common.{subst, sym}
use Rattle.larch_prove_work.specs.DeriveBuilderBuilder.{Builder}
use Rattle.larch_prove_work.specs.ProveInvariantHolding.{IsKnownFor}
use Rattle.larch_prove_meaning.specs.Levels.{Proof}
use Rattle.larch_prove_meaning.specs.Plans.{Conjunction, Contradiction, Implication, Induction, Method, Partition}
use Rattle.larch_prove_meaning.specs.Steps.{carried_out, resume}
use Rattle.larch_prove_plans.specs.Planning.{method_of}
use Rattle.larch_prove_plans.specs.declared.subgoals.Method as stated
use Rattle.larch_prove_resuming.specs.Commands.{ResumesProof, method_in}
use Rattle.larch_prove_resuming.specs.Resuming.{MayResume}
use Rattle.larch_prove_work.specs.ProveSettingsTelling.{Tells}
use Rattle.larch_prove_work.specs.ProveSettingsRefusalCommandRefusal.{CommandRefusal}
use Rattle.larch_prove_work.specs.Work.{Makes, MayWork}
use Rattle.larch_prove_work.specs.declared.work.Work.{Work}
use Rattle.larch_raw.specs.declared.equation.RawEquation.{RawEquation}
use Rattle.larch_script_commands.specs.declared.command.CommandKind.{CommandKind}
use Rattle.larch_script_commands.specs.declared.command.CommandKind.TheVariants as command
use Rattle.larch_term.specs.declared.statement.Statement.{Statement}
use Rattle.larch_term.specs.declared.statement.Theory.{Theory}

-- a command that isn't by cases has no term
pub has_method : (k : CommandKind) → ResumesProof k → ((e : RawEquation) → k ≡ command.Cases e → ⊥)
    → IsSome (method_in k)
has_method (command.Declare names sort) h c = absurd h
has_method (command.Limit n) h c = absurd h
has_method (command.BoxChecking on) h c = absurd h
has_method (command.Height upper lower) h c = absurd h
has_method (command.Status way r) h c = absurd h
has_method (command.Prove e) h c = absurd h
has_method (command.Cases e) h c = absurd (c e refl)
has_method command.Implication h c = refl
has_method command.Conjunction h c = refl
has_method command.Contradiction h c = refl
has_method (command.Induction x) h c = refl
has_method command.Partition h c = refl
has_method (command.Instantiate is n) h c = absurd h
has_method (command.CriticalPairs n m) h c = absurd h
has_method (command.Normalize n) h c = absurd h
has_method command.Qed h c = absurd h
has_method (command.Mark proved) h c = absurd h
has_method (command.Bad code) h c = absurd h

one_method : (m n : Method) → Some m ≡ Some n → m ≡ n
one_method m n e = cc

-- it is carried out by its method
pub resumed_by : (k : CommandKind) (method : Method) (p : Proof) → method_in k ≡ Some method
    → carried_out k p ≡ resume method p
resumed_by (command.Declare names sort) method p e = absurd (cc)
resumed_by (command.Limit n) method p e = absurd (cc)
resumed_by (command.BoxChecking on) method p e = absurd (cc)
resumed_by (command.Height upper lower) method p e = absurd (cc)
resumed_by (command.Status way r) method p e = absurd (cc)
resumed_by (command.Prove raw) method p e = absurd (cc)
resumed_by (command.Cases raw) method p e = absurd (cc)
resumed_by command.Implication method p e =
    subst (λ m. carried_out command.Implication p ≡ resume m p) (one_method Implication method e) refl
resumed_by command.Conjunction method p e =
    subst (λ m. carried_out command.Conjunction p ≡ resume m p) (one_method Conjunction method e) refl
resumed_by command.Contradiction method p e =
    subst (λ m. carried_out command.Contradiction p ≡ resume m p) (one_method Contradiction method e) refl
resumed_by (command.Induction x) method p e =
    subst (λ m. carried_out (command.Induction x) p ≡ resume m p) (one_method (Induction x.name) method e) refl
resumed_by command.Partition method p e =
    subst (λ m. carried_out command.Partition p ≡ resume m p) (one_method Partition method e) refl
resumed_by (command.Instantiate is n) method p e = absurd (cc)
resumed_by (command.CriticalPairs n m) method p e = absurd (cc)
resumed_by (command.Normalize n) method p e = absurd (cc)
resumed_by command.Qed method p e = absurd (cc)
resumed_by (command.Mark proved) method p e = absurd (cc)
resumed_by (command.Bad code) method p e = absurd (cc)

-- nothing has to be written for it
known_without : (k : CommandKind) (method : Method) (b : Builder) → method_in k ≡ Some method → IsKnownFor b method
known_without (command.Declare names sort) method b e = absurd (cc)
known_without (command.Limit n) method b e = absurd (cc)
known_without (command.BoxChecking on) method b e = absurd (cc)
known_without (command.Height upper lower) method b e = absurd (cc)
known_without (command.Status way r) method b e = absurd (cc)
known_without (command.Prove raw) method b e = absurd (cc)
known_without (command.Cases raw) method b e = absurd (cc)
known_without command.Implication method b e = subst (IsKnownFor b) (one_method Implication method e) tt
known_without command.Conjunction method b e = subst (IsKnownFor b) (one_method Conjunction method e) tt
known_without command.Contradiction method b e = subst (IsKnownFor b) (one_method Contradiction method e) tt
known_without (command.Induction x) method b e = subst (IsKnownFor b) (one_method (Induction x.name) method e) tt
known_without command.Partition method b e = subst (IsKnownFor b) (one_method Partition method e) tt
known_without (command.Instantiate is n) method b e = absurd (cc)
known_without (command.CriticalPairs n m) method b e = absurd (cc)
known_without (command.Normalize n) method b e = absurd (cc)
known_without command.Qed method b e = absurd (cc)
known_without (command.Mark proved) method b e = absurd (cc)
known_without (command.Bad code) method b e = absurd (cc)

pub without_term : (t : Theory) (s : Statement) (w : Work) (k : CommandKind) (method : stated.Method) (p : Proof)
    → method_in k ≡ Some (method_of method) → MayWork t s w p → MayResume t s w method p
without_term t s w k method p e m =
    record { may_work = m; known = known_without k (method_of method) w.draft.builder e }

-- ---- what a kind makes, by what it is

pub made_as : {A E : Type 0} (t : Theory) (s : Statement) (old new : Work) (k j : CommandKind) (r : Result A E)
    → k ≡ j → OnOk r ((p : Proof) → MayWork t s old p → Makes t s new p (carried_out j p))
    → OnOk r ((p : Proof) → MayWork t s old p → Makes t s new p (carried_out k p))
made_as t s old new k j r e h =
    subst (λ x. OnOk r ((p : Proof) → MayWork t s old p → Makes t s new p (carried_out x p))) (sym e) h

pub refused_as : {A : Type 0} (t : Theory) (s : Statement) (old : Work) (k j : CommandKind)
    (r : Result A CommandRefusal) → k ≡ j
    → IfErr r (λ refusal. (p : Proof) → MayWork t s old p → Tells (carried_out j p) refusal)
    → IfErr r (λ refusal. (p : Proof) → MayWork t s old p → Tells (carried_out k p) refusal)
refused_as t s old k j r e h =
    subst (λ x. IfErr r (λ refusal. (p : Proof) → MayWork t s old p → Tells (carried_out x p) refusal)) (sym e) h

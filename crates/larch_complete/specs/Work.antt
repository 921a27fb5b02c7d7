-- How far a completion has come, with lines.
use Rattle.std.specs.Prelude.{◌≡◌, ℕ, List, [], All, map}
use Rattle.larch_complete.specs.declared.completion.Completion.{Completion}
use Rattle.larch_complete.specs.declared.work.Work.{Work}
use Rattle.larch_complete_meaning.specs.Completion.{Completion as PlainCompletion}
use Rattle.larch_complete_meaning.specs.Completion.{IsStage, complete_from, equations_of}
use Rattle.larch_complete_meaning.specs.Rounds.{Stage, Task}
use Rattle.larch_complete_pairs.specs.Said.{IsSaid, sides_in}
use Rattle.larch_complete_rounds.specs.Certified.{IsCertified, IsRuleIn, sides_behind}
use Rattle.larch_complete_rounds.specs.Ready.{IsReady, rules_in}
use Rattle.larch_complete_rounds.specs.declared.halt.Halt.{Halt}
use Rattle.larch_complete_rounds.specs.declared.halt.Halt.TheVariants.{Ends, Memory}
use Rattle.larch_complete_rounds.specs.declared.task.CompletionTask.{CompletionTask}
use Rattle.larch_derive.specs.Builder.{boxes_in, theory_in}
use Rattle.larch_rewrite_meaning.specs.Sides.{Sides}
use Rattle.larch_term.specs.Statement.{IsWellSortedTheory}
use Rattle.larch_term.specs.declared.statement.Theory.{Theory}

-- a completion without its lines
abbrev pub completion_in : Completion → PlainCompletion
completion_in c = record { answer = c.answer; rules = map sides_behind c.rules }

-- a stage without its lines
abbrev pub stage_in : Work → Stage
stage_in w = record { rules = map sides_behind w.rules; waiting = map sides_in w.waiting.items }

-- what rounds come to, where so many equations may still be taken
unfoldable pub rounds_from : ℕ → Task → Stage → PlainCompletion
rounds_from n task stage = complete_from n task stage

-- a completion ends as a halt tells, with these rules; out of memory nothing is told
abbrev pub EndsWith : PlainCompletion → List Sides → Halt → Type 0
EndsWith c rules (Ends answer) = c ≡ record { answer = answer; rules = rules }
EndsWith c rules Memory = Unit {0}

-- lines of a builder over the theory, in which no box is open, say the rules so far and the equations that wait; all of
-- them are derivable, each rule has a certificate, and what rewrites has these rules
pub record IsSound (theory : Theory) (w : Work) : Type 0 where
  pub theory_is : theory_in w.rewriter.builder ≡ theory
  pub no_boxes : boxes_in w.rewriter.builder ≡ []
  pub ready : IsReady w.rewriter
  pub same : rules_in w.rewriter ≡ map sides_behind w.rules
  pub rules : All (λ r. IsRuleIn w.rewriter.builder r.said) w.rules
  pub certified : All (IsCertified theory) w.rules
  pub waiting : All (IsSaid w.rewriter.builder) w.waiting.items
  pub stage : IsStage theory (stage_in w)
  pub sorted : IsWellSortedTheory theory

-- the equations that it works with are the theory's, and lines say them
pub record Holds (theory : Theory) (task : CompletionTask) (w : Work) : Type 0 where
  pub sound : IsSound theory w
  pub equations : All (IsSaid w.rewriter.builder) task.equations
  pub own : map sides_in task.equations ≡ equations_of theory

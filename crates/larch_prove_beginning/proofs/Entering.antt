-- The lowest level is opened with its hypotheses, and its goal gets its normal form.
use Rattle.std.specs.Prelude.{◌≡◌, ℕ, List, [], Ok, refl}
use Rattle.larch_order.specs.declared.precedence.Ranked.{Ranked}
use Rattle.larch_prove_beginning.specs.Level.{level_by}
use Rattle.larch_prove_settling.specs.ProveLevelsSupposing.{TellsCode, with_hypotheses}
use Rattle.larch_prove_meaning.specs.Facts.{Facts, rules_of}
use Rattle.larch_prove_meaning.specs.Levels.{work_result}
use Rattle.larch_prove_meaning.specs.Plans.{Subgoal}
use Rattle.larch_prove_settling.proofs.Hypotheses.{goal_refused, hypotheses_refused, opened_as}
use Rattle.larch_prove_opening.specs.RewriteRefusalRewriteRefusal.{RewriteRefusal}
use Rattle.larch_rewrite_meaning.specs.NormalForm.{normal}
use Rattle.larch_rewrite_meaning.specs.Sides.{Sides}
use Rattle.larch_term.specs.Tree.{Tree}

-- a goal with its hypotheses, as a subgoal without constants
abbrev bare : List Sides → Tree → Subgoal
bare es goal = record { constants = []; hypotheses = es; goal = goal }

module _ (ranks : List Ranked) (limit : ℕ) (es : List Sides) (goal : Tree) (old copied : Facts)
    (same : copied ≡ old) where
  pub supposing_refused : (x : RewriteRefusal)
      → TellsCode (with_hypotheses ranks limit es (record { facts = copied; next = 1 })) x
      → TellsCode (level_by ranks limit old es goal) x
  supposing_refused x h = hypotheses_refused ranks limit (bare es goal) old copied copied 1 1 es same refl x h

  module _ (made : Facts) (more : ℕ) (made_is : with_hypotheses ranks limit es (record { facts = copied; next = 1 })
      ≡ Ok (record { facts = made; next = more })) where
    pub entering_refused : (x : RewriteRefusal)
        → TellsCode (work_result (normal (rules_of made.rules) goal limit)) x
        → TellsCode (level_by ranks limit old es goal) x
    entering_refused x h =
        goal_refused ranks limit (bare es goal) old copied made 1 more es same refl made_is goal refl x h

    pub entered_as : (new : Facts) (u : Tree) → work_result (normal (rules_of made.rules) goal limit) ≡ Ok u
        → new ≡ made
        → level_by ranks limit old es goal
        ≡ Ok (record { supposed = record { facts = new; next = more }; goal = u })
    entered_as new u h e =
        opened_as ranks limit (bare es goal) old copied made 1 more es same refl made_is goal refl new u h e

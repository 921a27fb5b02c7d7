-- What the lines say in the midst of the work.
use Rattle.std.specs.Prelude.{List, ◌∷◌, [], ◌++◌, All, map, drop, length, reverse}
use Rattle.larch_term.specs.Tree.{Tree, var, app, forest_of}
use Rattle.larch_derive.specs.Predicates.{Known}
use Rattle.larch_derive.specs.declared.builder.Builder.{Builder}
use Rattle.larch_store.specs.Numbered.{Numbered, leaf, branch, term_of, list_of_several}
use Rattle.larch_rewrite_step.specs.DeriveLinesWay.{Leads}
use Rattle.larch_rewrite.specs.declared.kept.KeptForm.{KeptForm}
use Rattle.larch_rewrite.specs.declared.level.Frame.{Frame}
use Rattle.larch_rewrite.specs.declared.level.Turn.{Turn}
use Rattle.larch_rewrite.specs.declared.level.Turn.TheVariants.{Begin, Arguments, Root, Finish}
use Rattle.larch_rewrite.specs.Kept.{IsLed}
use Rattle.larch_rewrite.specs.Level.{level_of, start_of, operator_of, further_of}
use Rattle.larch_rewrite.specs.RuleSet.{AreSaid, PlainRule}

-- a term with its first arguments changed
abbrev pub with_done : Numbered → List Numbered → Tree
with_done (leaf k z n s) done = var n s
with_done (branch k z f xs) done =
    app f (forest_of (map term_of done ++ map term_of (drop (length done) (list_of_several xs))))

-- the term that a turn's level has come to
abbrev pub term_reached : Turn → Tree
term_reached (Begin l) = term_of l.term
term_reached (Arguments f) = with_done f.level.term f.done
term_reached (Root l) = term_of l.term
term_reached (Finish l) = term_of l.term

-- a turn's way leads to it from a known start
abbrev pub IsWayTo : Builder → Tree → Turn → Type 0
IsWayTo b start turn = Known b start × Leads b (level_of turn).way start (term_reached turn)

-- the term of a frame, where a term stands for the argument that is waited for
abbrev pub with_argument : Frame → Tree → Tree
with_argument f t = app (operator_of f.level.term) (forest_of (map term_of f.done ++ t ∷ further_of f))

-- the ways of the frames, the innermost first, lead from known starts to terms with the starts inside them
abbrev pub AreWaysTo : Builder → Tree → List Frame → Type 0
AreWaysTo b start [] = Unit {0}
AreWaysTo b start (f ∷ fs) =
    Known b (term_of f.level.start) × Leads b f.level.way (term_of f.level.start) (with_argument f start)
    × AreWaysTo b (term_of f.level.start) fs

-- all lines of the machine say what they should
pub record Says (b : Builder) (rules : List PlainRule) (kept : List KeptForm) (frames : List Frame) (turn : Turn)
    : Type 0 where
  pub rules_said : AreSaid b rules
  pub kept_led : All (IsLed b) kept
  pub way : IsWayTo b (start_of turn) turn
  pub ways : AreWaysTo b (start_of turn) (reverse frames)

-- with a known term, rules that are said and ways to what is kept, the machine may begin
abbrev pub MayBegin : Builder → List PlainRule → List KeptForm → Tree → Type 0
MayBegin b rules kept t = Known b t × AreSaid b rules × All (IsLed b) kept

-- Steps that come to something, or to the answer in which a completion ends.
use Rattle.std.specs.Prelude.{Result, Ok, Err}
use Rattle.larch_rewrite_meaning.specs.Work.{Work, Made, OverLimit, OverSize}
use Rattle.larch_complete_meaning.specs.declared.answer.CompletionAnswer.{CompletionAnswer}
use Rattle.larch_complete_meaning.specs.declared.answer.CompletionAnswer.TheVariants.{Limit, TooLarge}

-- something, or the end of the completion
abbrev pub Step : Type 0 → Type 0
Step A = Result A CompletionAnswer

-- a further step with what a step came to
abbrev pub after : {A B : Type 0} → Step A → (A → Step B) → Step B
after (Ok x) next = next x
after (Err answer) next = Err answer

-- what work under a budget made; an event is the end
abbrev pub unless_event : {A : Type 0} → Work A → Step A
unless_event (Made x b) = Ok x
unless_event OverLimit = Err Limit
unless_event OverSize = Err TooLarge

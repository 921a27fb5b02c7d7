-- When a completion goes no further.
use Rattle.std.specs.Prelude.{◌≡◌, Err}
use Rattle.larch_complete_meaning.specs.Steps.{Step}
use Rattle.larch_complete_meaning.specs.declared.answer.CompletionAnswer.TheVariants.{Limit, TooLarge}
use Rattle.larch_complete_rounds.specs.declared.halt.Halt.{Halt}
use Rattle.larch_complete_rounds.specs.declared.halt.Halt.TheVariants.{Ends, Memory}
use Rattle.larch_pairs.specs.declared.refusal.PairRefusal.{PairRefusal}
use Rattle.larch_pairs.specs.declared.refusal.PairRefusal.TheVariants.{TooLarge as pair_too_large}
use Rattle.larch_pairs.specs.declared.refusal.PairRefusal.TheVariants.{Memory as pair_memory}
use Rattle.larch_rewrite.specs.declared.refusal.RewriteRefusal.{RewriteRefusal}
use Rattle.larch_rewrite.specs.declared.refusal.RewriteRefusal.TheVariants.{Limit as over_limit}
use Rattle.larch_rewrite.specs.declared.refusal.RewriteRefusal.TheVariants.{TooLarge as over_size}
use Rattle.larch_rewrite.specs.declared.refusal.RewriteRefusal.TheVariants.{Memory as no_memory}

-- a halt tells how a step ends; out of memory it tells nothing
abbrev pub Tells : {A : Type 0} → Step A → Halt → Type 0
Tells step (Ends answer) = step ≡ Err answer
Tells step Memory = Unit {0}

-- where a term isn't normalised, and where no pairs are formed
abbrev pub from_rewriting : RewriteRefusal → Halt
from_rewriting over_limit = Ends Limit
from_rewriting over_size = Ends TooLarge
from_rewriting no_memory = Memory

abbrev pub from_pairing : PairRefusal → Halt
from_pairing pair_too_large = Ends TooLarge
from_pairing pair_memory = Memory

-- What the examples of what is told compute with.
use Rattle.std.specs.Fmt.{digits}
use Rattle.larch_complete_meaning.specs.Computing.{completing}

-- all words that an example unfolds
unfoldable pub telling : Unit {0}
unfolding completing digits
telling = tt

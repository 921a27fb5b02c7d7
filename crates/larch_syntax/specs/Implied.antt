-- Outcomes where no whole ends.
use Rattle.std.specs.Prelude.{None}
use Rattle.larch_syntax_heads.specs.declared.outcome.Outcome.{Outcome}
use Rattle.larch_syntax_heads.specs.declared.outcome.Outcome.TheVariants.{Handed, Stops, Taken}

-- the same outcome, where no whole ends before the token
abbrev pub without_whole : Outcome → Outcome
without_whole (Taken mark after) = Taken mark after
without_whole (Handed term frames terminal) = Handed term frames terminal
without_whole (Stops whole) = Stops None

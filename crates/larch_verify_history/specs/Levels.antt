-- Where the innermost open box stands.
use Rattle.std.specs.Prelude.{ℕ, suc, List, [], ◌∷◌, length}
use Rattle.larch_verify_history.specs.declared.event.KeptEvent.{KeptEvent}
use Rattle.larch_verify_history.specs.declared.event.KeptEvent.TheVariants.{Says, Opens, Closes}

-- how many events there were when the innermost open box had been opened; the newest comes first
abbrev pub level : List KeptEvent → ℕ
level [] = 0
level (Says n s ∷ h) = level h
level (Opens b ∷ h) = suc (length h)
level (Closes b s ∷ h) = level h

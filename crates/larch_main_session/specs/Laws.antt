-- What the laws about sessions speak of.
use Rattle.std.specs.Prelude.{ℕ, true, List}
use Rattle.larch_main_status.specs.declared.status.Status.{Status}
use Rattle.larch_main_status.specs.Status.{IsEnd}
use Rattle.larch_main_session.specs.Replies.{Reply, said, reported, derived}
use Rattle.larch_main_session.specs.Session.{State, Course, with_status}

-- from this state, on this whole input, a session ends by itself: with these replies and this status, in this state
abbrev pub Ends : State → List ℕ → Type 0
Ends state input =
    (replies : List Reply) × (status : Status) × (last : State) × IsEnd status
    × Course true state input replies (with_status status) last

-- a reply has one text
abbrev pub HasOneText : Reply → Type 0
HasOneText (said these) = Unit {0}
HasOneText (reported limit files) = Unit {0}
HasOneText (derived limit files stem label) = ⊥

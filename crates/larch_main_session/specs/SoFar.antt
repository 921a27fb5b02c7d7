-- A session so far.
use Rattle.std.specs.Prelude.{◌≡◌, ◌≤◌, ◌+◌, Bool, true, ℕ, List, ◌++◌, sum_by, Option}
use Rattle.std.specs.Io.KnownBytes.{Appends, Consumes, IsAtEnd}
use Rattle.larch_main_session.specs.declared.progress.Progress.{Progress}
use Rattle.larch_main_session.specs.Progress.{state_of, MayFollow}
use Rattle.larch_main_session.specs.Replies.{Reply, IsShown, Texts, steps_of}
use Rattle.larch_main_session.specs.Session.{Course, State, start, Ending}

-- What the source gave, what was replied and written, and which steps were counted since the session began; and that
-- any session that goes on from here completes one from the start.
pub record SoFar (limit : ℕ) (progress : Progress) (left leaves held holds : Option (List ℕ)) (before now : ℕ)
    : Type 0 where
  pub given : List ℕ
  pub written : List ℕ
  pub replies : List Reply
  pub gave : Consumes left leaves given
  pub over : progress.reader.ended ≡ true → IsAtEnd leaves
  pub wrote : Appends held holds written
  pub texts : Texts IsShown replies written
  pub least : before ≤ now
  pub most : now ≤ before + sum_by steps_of replies
  pub next : (ended : Bool) (rest : List ℕ) (others : List Reply) (ending : Ending) (last : State)
      → MayFollow progress.reader.ended ended rest
      → Course ended (state_of progress) (progress.reader.kept ++ rest) others ending last
      → Course ended (start limit) (given ++ rest) (replies ++ others) ending last

-- What the replies of a session show, and how much work they are.
use Rattle.std.specs.Prelude.{◌≤◌, ◌+◌, ℕ, true, List, sum_by, Option}
use Rattle.std.specs.Io.KnownBytes.{Appends}
use Rattle.larch_main_status.specs.declared.status.Status.{Status}
use Rattle.larch_main_session.specs.Replies.{Reply, Front, IsShown, steps_of}
use Rattle.larch_main_session.specs.Session.{State, Course, IsInput, start, with_status}

-- What comes of the replies of a session, whatever its status: each of which something was written shows what it is to
-- show, and there were at most as many steps as they may take. The source had `left`, the sink held `held` and holds
-- `holds`, and so many steps were counted `before` and are `now`.
pub record Reported (limit : ℕ) (left held holds : Option (List ℕ)) (before now : ℕ) : Type 0 where
  pub input : List ℕ
  pub front : List ℕ
  pub replies : List Reply
  pub status : Status
  pub last : State
  pub is_input : IsInput left input
  pub course : Course true (start limit) input replies (with_status status) last
  pub written : Appends held holds front
  pub shown : Front IsShown replies front
  pub least : before ≤ now
  pub most : now ≤ before + sum_by steps_of replies

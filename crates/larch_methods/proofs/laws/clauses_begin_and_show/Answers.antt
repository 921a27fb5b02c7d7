use Rattle.larch_methods.proofs.Begun.{generation_begins, partition_goal_begins}
use Rattle.larch_methods.proofs.Left.{generation_left, partition_goal_left}
use Rattle.larch_methods.proofs.laws.clauses_begin_and_show.Goals as goal

pub returns : goal.returns
returns c =
    record {
      generation_begins = generation_begins;
      generation_shows = generation_left;
      partition_begins = partition_goal_begins;
      partition_shows = partition_goal_left;
    }

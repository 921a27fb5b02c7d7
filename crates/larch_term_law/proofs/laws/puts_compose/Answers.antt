use Rattle.larch_term_law.proofs.Puts.{put_below_put, put_above_put, put_composed, at_elsewhere, puts_exchange}
use Rattle.larch_term_law.proofs.laws.puts_compose.Goals as goal

pub returns : goal.returns
returns c =
    record {
      below = put_below_put;
      above = put_above_put;
      subterm = put_composed;
      elsewhere = at_elsewhere;
      exchange = puts_exchange;
    }

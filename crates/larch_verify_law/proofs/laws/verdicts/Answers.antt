use Rattle.larch_verify_law.proofs.Verdicts.{verdict_accepts, accepted_verdict, bad_verdict, end_verdict}
use Rattle.larch_verify_law.proofs.laws.verdicts.Goals as goal

pub returns : goal.returns
returns c =
    record {
      accepted = λ t s lines. (verdict_accepts t s lines, accepted_verdict t s lines);
      bad = bad_verdict;
      end = end_verdict;
    }

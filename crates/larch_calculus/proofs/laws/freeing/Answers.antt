use Rattle.larch_calculus.proofs.Freeing.{freed_constants, freed_itself, constants_close, with_constants}
use Rattle.larch_calculus.proofs.Freeing.{without_constants, generalised, specialised}
use Rattle.larch_calculus.proofs.laws.freeing.Goals as goal

pub returns : goal.returns
returns c =
    record {
      undone = freed_constants;
      unchanged = freed_itself;
      closed = constants_close;
      over = with_constants;
      back = without_constants;
      generalised = generalised;
      specialised = specialised;
    }

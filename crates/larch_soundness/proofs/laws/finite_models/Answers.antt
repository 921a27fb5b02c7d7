use Rattle.larch_calculus.proofs.WellSorted.{well_sorted}
use Rattle.larch_models_meaning.specs.FiniteModel.{interpretation_of, last_among, last_in, value_among}
use Rattle.larch_soundness.proofs.Computing.{holds_if, model_so}
use Rattle.larch_soundness.proofs.FirstFailing.{none_fails_where_all_hold}
use Rattle.larch_soundness.proofs.Sound.{sound}
use Rattle.larch_soundness.proofs.Standards.{standard_interprets}
use Rattle.larch_soundness.proofs.laws.finite_models.Goals as goal

pub returns : goal.returns
returns c =
    record {
      interprets = λ m fs. standard_interprets (last_among m.sorts) (value_among (last_in m) m.tables) fs;
      sound = λ t s m w h d.
          let i = standard_interprets (last_among m.sorts) (value_among (last_in m) m.tables) t.operators in
          let holding = (none_fails_where_all_hold (interpretation_of m) t.statements).0 h in
          holds_if i s (well_sorted d) (sound d (interpretation_of m) w (model_so i holding));
    }

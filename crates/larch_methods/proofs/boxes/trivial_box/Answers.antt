use Rattle.std.specs.Prelude.{refl, []}
use Rattle.larch_term.specs.Truth.{truth}
use Rattle.larch_derive.proofs.Growth.{extends_grows}
use Rattle.larch_derive_clauses.proofs.DeriveBoxesSupposing.{opens_is_open}
use Rattle.larch_methods.proofs.boxes.trivial_box.Goals as goal

pub returns-clause-shows : goal.returns-clause-shows
returns-clause-shows c k =
    let o = c.in_ok-number.ensures.opens k in
    let there = opens_is_open _ _ _ _ o in
    record {
      box = record { number = c.in_ok-number.number; constants = [] };
      number_is = refl;
      bare = refl;
      result = c.in_ok-close_box.ensures.result _ _ _ _ _ truth o
          (extends_grows _ _ (c.in_ok-line.ensures.extends _ _ _ refl there refl))
          (c.in_ok-line.ensures.says _ _ _ refl there refl);
    }

pub returns-clause-grows : goal.returns-clause-grows
returns-clause-grows c k =
    let o = c.in_ok-number.ensures.opens k in
    let there = opens_is_open _ _ _ _ o in
    c.in_ok-close_box.ensures.grows _ _ _ _ _ truth o
    (extends_grows _ _ (c.in_ok-line.ensures.extends _ _ _ refl there refl))
    (c.in_ok-line.ensures.says _ _ _ refl there refl)

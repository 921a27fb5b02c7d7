-- The constants of a box are new where it is opened.
use Rattle.std.proofs.Common.{◌≡◌, ◌<◌, ℕ, List, Contains, refl, sym, subst}
use Rattle.larch_base.proofs.Lists.{all_from}
use Rattle.larch_term.specs.Operator.{OperatorName, PlainOperator, plain, boxed}
use Rattle.larch_term.specs.declared.statement.Theory.{Theory}
use Rattle.larch_verify_law.specs.CalculusBoxes.{IsOlder, IsOlderName}
use Rattle.larch_verify_law.specs.CalculusRenaming.{HasPlainNames}
use Rattle.larch_verify_law.specs.CalculusTheories.{AreNew}
use Rattle.larch_verify_law.specs.VerifyMeaningContext.{theory_of}
use Rattle.larch_verify_law.specs.VerifyMeaningEvents.{PlainBox, Event, operators_of}
use Rattle.larch_verify_law.proofs.Contexts.{box_new}
use Rattle.larch_derive.proofs.Decoding.{constant_older}
use Rattle.larch_derive.proofs.Runs.{GoDown}

older : (t : Theory) → HasPlainNames t → (h : List Event) (c : ℕ) → GoDown c h → IsOlder c (theory_of t h)
older t p h c g =
    all_from (λ f. IsOlderName c f.name) (theory_of t h).operators (λ f d. by_name f d f.name refl)
  where
    by_name : (f : PlainOperator) → Contains (theory_of t h).operators f → (n : OperatorName) → f.name ≡ n
        → IsOlderName c f.name
    by_name f d (plain n) e = subst (IsOlderName c) (sym e) tt
    by_name f d (boxed b k) e = subst (IsOlderName c) (sym e) (constant_older t p h c b k f g d e).1

pub constants_new : (t : Theory) → HasPlainNames t → (h : List Event) (c : ℕ) (b : PlainBox) → GoDown c h → c < b.number
    → AreNew (theory_of t h) (operators_of b)
constants_new t p h c b g lt = box_new c b (theory_of t h) lt (older t p h c g)

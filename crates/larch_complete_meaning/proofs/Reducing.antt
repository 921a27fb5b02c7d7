-- Both sides of an equation in normal form.
use Rattle.std.specs.Prelude.{◌≡◌, ℕ, List, Ok, refl}
use Rattle.std.proofs.Common.{subst}
use Rattle.larch_term.specs.Tree.{Tree}
use Rattle.larch_rewrite_meaning.specs.NormalForm.{normal}
use Rattle.larch_rewrite_meaning.specs.Sides.{Sides}
use Rattle.larch_rewrite_meaning.specs.Work.{Work, Made, OverLimit, OverSize, then_work}
use Rattle.larch_complete_meaning.specs.Steps.{unless_event}
use Rattle.larch_complete_meaning.specs.Rounds.{normal_sides}

-- the second equation has the first one's normal forms
pub record AreForms (rules : List Sides) (b : ℕ) (e found : Sides) : Type 0 where
  pub between : ℕ
  pub rest : ℕ
  pub left : normal rules e.left b ≡ Made found.left between
  pub right : normal rules e.right between ≡ Made found.right rest

two_sides : Tree → Tree → Sides
two_sides l r = record { left = l; right = r }

pub forms_found : (rules : List Sides) (b : ℕ) (e found : Sides) → unless_event (normal_sides rules e b) ≡ Ok found
    → AreForms rules b e found
unfolding two_sides
forms_found rules b e found h = by_left (normal rules e.left b) refl h
  where
    by_right : (l : Tree) (c : ℕ) (w : Work Tree) → normal rules e.left b ≡ Made l c → normal rules e.right c ≡ w
        → unless_event (then_work w (λ r d. Made (record { left = l; right = r }) d)) ≡ Ok found
        → AreForms rules b e found
    by_right l c (Made r d) p q k =
        let i : two_sides l r ≡ found = cc in
        subst (λ (f : Sides). AreForms rules b e f) i
        (record { between = c; rest = d; left = p; right = q })
    by_right l c OverLimit p q k = cc
    by_right l c OverSize p q k = cc

    by_left : (w : Work Tree) → normal rules e.left b ≡ w
        → unless_event (then_work w (λ l c. then_work (normal rules e.right c)
        (λ r d. Made (record { left = l; right = r }) d))) ≡ Ok found
        → AreForms rules b e found
    by_left (Made l c) p k = by_right l c (normal rules e.right c) p refl k
    by_left OverLimit p k = cc
    by_left OverSize p k = cc

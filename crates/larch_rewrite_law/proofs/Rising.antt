-- Events rise through what waits.
use Rattle.std.specs.Prelude.{◌≡◌, ℕ, List, [], ◌∷◌, ◌++◌}
use Rattle.std.proofs.Common.{ap₂, sym, ◌∙◌}
use Rattle.larch_term.specs.Tree.{Tree}
use Rattle.larch_rewrite_meaning.specs.NormalForm.{normal}
use Rattle.larch_rewrite_meaning.specs.Sides.{Sides}
use Rattle.larch_rewrite_meaning.specs.Work.{Made, OverLimit, OverSize}
use Rattle.larch_rewrite_law.specs.Levels.{arguments_work}
use Rattle.larch_rewrite_law.specs.Stacked.{Waiting, Wait}
use Rattle.larch_rewrite_law.proofs.Turns.{argument_made, argument_limit, argument_size}

pub waiting_limit : (rules : List Sides) (whole t : Tree) (budget b : ℕ) (ws : List Waiting)
    → Wait rules whole budget ws t b → normal rules t b ≡ OverLimit → normal rules whole budget ≡ OverLimit
waiting_limit rules whole t budget b [] h e = ap₂ (λ u c. normal rules u c) (sym h.0) (sym h.1) ∙ e
waiting_limit rules whole t budget b (w ∷ ws) h e =
    waiting_limit rules whole w.start budget w.budget ws h.1
    (h.0 ∙ argument_limit rules w.operator w.done w.further t b e)

pub waiting_size : (rules : List Sides) (whole t : Tree) (budget b : ℕ) (ws : List Waiting)
    → Wait rules whole budget ws t b → normal rules t b ≡ OverSize → normal rules whole budget ≡ OverSize
waiting_size rules whole t budget b [] h e = ap₂ (λ u c. normal rules u c) (sym h.0) (sym h.1) ∙ e
waiting_size rules whole t budget b (w ∷ ws) h e =
    waiting_size rules whole w.start budget w.budget ws h.1
    (h.0 ∙ argument_size rules w.operator w.done w.further t b e)

pub waiting_argument : (rules : List Sides) (whole t u : Tree) (budget b r : ℕ) (w : Waiting) (ws : List Waiting)
    → Wait rules whole budget (w ∷ ws) t b → normal rules t b ≡ Made u r
    → normal rules w.start w.budget ≡ arguments_work rules w.operator (w.done ++ u ∷ []) w.further r
waiting_argument rules whole t u budget b r w ws h e =
    h.0 ∙ argument_made rules w.operator w.done w.further t u b r e

pub waiting_form : (rules : List Sides) (whole t u : Tree) (budget b r : ℕ) → Wait rules whole budget [] t b
    → normal rules t b ≡ Made u r → normal rules whole budget ≡ Made u r
waiting_form rules whole t u budget b r h e = ap₂ (λ v c. normal rules v c) (sym h.0) (sym h.1) ∙ e

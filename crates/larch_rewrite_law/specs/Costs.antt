-- What work costs.
use Rattle.std.specs.Prelude.{◌≡◌, ◌+◌, ◌<◌, ℕ, List}
use Rattle.larch_term.specs.Tree.{Tree}
use Rattle.larch_rewrite_meaning.specs.NormalForm.{normal}
use Rattle.larch_rewrite_meaning.specs.Sides.{Sides}
use Rattle.larch_rewrite_meaning.specs.Work.{Work, Made, OverLimit}

-- work under budgets makes one thing at a cost: it is made of each budget that has the cost, and the rest is left; each
-- smaller budget is used up
pub record Charges {A : Type 0} (k : ℕ) (x : A) (work : ℕ → Work A) : Type 0 where
  pub enough : (c : ℕ) → work (k + c) ≡ Made x c
  pub less : (c : ℕ) → c < k → work c ≡ OverLimit

-- a term has a normal form at a cost
unfoldable pub HasCost : List Sides → Tree → Tree → ℕ → Type 0
HasCost rules t u k = Charges k u (λ b. normal rules t b)

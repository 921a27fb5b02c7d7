-- The duties of a trait, each with the number of its clause `converts`.
use Rattle.std.specs.Prelude.{ℕ, suc, ◌==◌, Bool, false, List, [], ◌∷◌, ◌++◌, map, Option, Some, None}
use Rattle.std.specs.List.{position}
use Rattle.larch_base.specs.declared.label.Label.{Label}
use Rattle.larch_base.specs.declared.label.Label.TheVariants.{Assume, Imply, Convert}
use Rattle.larch_term.specs.declared.statement.Statement.{Statement}
use Rattle.larch_term.specs.declared.statement.Theory.{Theory}
use Rattle.larch_duties_meaning.specs.Duties.{ClauseDuties, Duties, Duty}

-- a duty, with the number of the clause that it belongs to, if it does
pub record Claim : Type 0 where
  pub label : Label
  pub clause : Option ℕ
  pub theory : Theory
  pub statement : Statement

-- a duty of the clause with a number, or of none
abbrev pub claim_of : Option ℕ → Duty → Claim
claim_of clause d = record { label = d.label; clause = clause; theory = d.theory; statement = d.statement }

-- the duties of clauses, with numbers of these from here on
abbrev pub clause_claims : ℕ → List ClauseDuties → List Claim
clause_claims n [] = []
clause_claims n (c ∷ cs) = map (claim_of (Some n)) c.duties ++ clause_claims (suc n) cs

-- all duties of a trait, in order; its clauses are numbered from 1
abbrev pub claims_in : Duties → List Claim
claims_in d = map (claim_of None) d.own ++ clause_claims 1 d.clauses

-- the duty without the number
abbrev pub duty_of : Claim → Duty
duty_of c = record { label = c.label; theory = c.theory; statement = c.statement }

-- whether two labels are one
abbrev pub same_label : Label → Label → Bool
same_label (Assume n) (Assume m) = n == m
same_label (Imply n) (Imply m) = n == m
same_label (Convert n) (Convert m) = n == m
same_label one other = false

-- the place of the first of some duties that has a label
abbrev pub place_of : Label → List Claim → Option ℕ
place_of label claims = position (λ c. same_label label c.label) claims

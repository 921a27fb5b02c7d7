-- Operators as definitions see them.
use Rattle.std.specs.Prelude.{◌≡◌, ℕ, List, [], ◌⊎◌, refl}
use Rattle.std.proofs.Common.{inl, inr}
use Rattle.std.specs.Coded.{Coded, code_by, coded×, coded⊎, coded_ℕ, coded_list}

-- the name of an operator: bytes, or two numbers for a constant of a box, the box's and its own
pub data OperatorName : Type 0 where
  plain : List ℕ → OperatorName
  boxed : ℕ → ℕ → OperatorName

-- an operator is its name with its domain sorts and its range sort
pub record PlainOperator : Type 0 where
  pub name : OperatorName
  pub domain : List (List ℕ)
  pub range : List ℕ

-- the bytes of a name; a constant of a box has none, since it is never printed
abbrev pub name_bytes : OperatorName → List ℕ
name_bytes (plain n) = n
name_bytes (boxed b k) = []

abbrev name_parts : OperatorName → List ℕ ⊎ (ℕ × ℕ)
name_parts (plain n) = inl n
name_parts (boxed b k) = inr (b, k)

abbrev name_of : List ℕ ⊎ (ℕ × ℕ) → OperatorName
name_of (inl n) = plain n
name_of (inr p) = boxed p.0 p.1

pub name_of_parts : (n : OperatorName) → name_of (name_parts n) ≡ n
name_of_parts (plain n) = refl
name_of_parts (boxed b k) = refl

abbrev coded_name : Coded OperatorName
coded_name =
    code_by (List ℕ ⊎ (ℕ × ℕ)) (coded⊎ (coded_list coded_ℕ) (coded× coded_ℕ coded_ℕ)) name_parts name_of name_of_parts

-- operators are told apart by their parts
abbrev pub coded_operator : Coded PlainOperator
coded_operator =
    code_by (OperatorName × (List (List ℕ) × List ℕ))
    (coded× coded_name (coded× (coded_list (coded_list coded_ℕ)) (coded_list coded_ℕ)))
    (λ f. (f.name, (f.domain, f.range))) (λ p. record { name = p.0; domain = p.1.0; range = p.1.1 }) (λ _. refl)

-- Symbols are told apart by numbers.
use Rattle.std.specs.Prelude.{◌≡◌, ℕ, zero, suc, refl}
use Rattle.std.specs.Coded.{Coded, code_by, coded×, coded_ℕ}
use Rattle.larch_term.specs.declared.built_in.BuiltIn.{BuiltIn}
use Rattle.larch_term.specs.declared.built_in.BuiltIn.TheVariants as built
use Rattle.larch_certificate.specs.declared.symbol.Symbol.{Symbol}
use Rattle.larch_certificate.specs.declared.symbol.Symbol.TheVariants as symbol

abbrev number_of : BuiltIn → ℕ
number_of built.True = 0
number_of built.False = 1
number_of built.Not = 2
number_of built.And = 3
number_of built.Or = 4
number_of built.Implies = 5
number_of built.Iff = 6
number_of built.Equal = 7
number_of built.Unequal = 8
number_of built.If = 9

abbrev built_at : ℕ → BuiltIn
built_at zero = built.True
built_at (suc zero) = built.False
built_at (suc (suc zero)) = built.Not
built_at (suc (suc (suc zero))) = built.And
built_at (suc (suc (suc (suc zero)))) = built.Or
built_at (suc (suc (suc (suc (suc zero))))) = built.Implies
built_at (suc (suc (suc (suc (suc (suc zero)))))) = built.Iff
built_at (suc (suc (suc (suc (suc (suc (suc zero))))))) = built.Equal
built_at (suc (suc (suc (suc (suc (suc (suc (suc zero)))))))) = built.Unequal
built_at (suc (suc (suc (suc (suc (suc (suc (suc (suc n))))))))) = built.If

abbrev parts_of : Symbol → ℕ × (ℕ × ℕ)
parts_of (symbol.Own k) = (0, (k, 0))
parts_of (symbol.Constant b k) = (1, (b, k))
parts_of (symbol.BuiltIn b) = (2, (number_of b, 0))

abbrev symbol_from : ℕ → ℕ → ℕ → Symbol
symbol_from zero a b = symbol.Own a
symbol_from (suc zero) a b = symbol.Constant a b
symbol_from (suc (suc n)) a b = symbol.BuiltIn (built_at a)

abbrev symbol_at : ℕ × (ℕ × ℕ) → Symbol
symbol_at p = symbol_from p.0 p.1.0 p.1.1

pub symbol_at_parts : (f : Symbol) → symbol_at (parts_of f) ≡ f
symbol_at_parts (symbol.Own k) = refl
symbol_at_parts (symbol.Constant b k) = refl
symbol_at_parts (symbol.BuiltIn built.True) = refl
symbol_at_parts (symbol.BuiltIn built.False) = refl
symbol_at_parts (symbol.BuiltIn built.Not) = refl
symbol_at_parts (symbol.BuiltIn built.And) = refl
symbol_at_parts (symbol.BuiltIn built.Or) = refl
symbol_at_parts (symbol.BuiltIn built.Implies) = refl
symbol_at_parts (symbol.BuiltIn built.Iff) = refl
symbol_at_parts (symbol.BuiltIn built.Equal) = refl
symbol_at_parts (symbol.BuiltIn built.Unequal) = refl
symbol_at_parts (symbol.BuiltIn built.If) = refl

-- by which of the three it is, and its numbers
abbrev pub coded_symbol : Coded Symbol
coded_symbol = code_by (ℕ × (ℕ × ℕ)) (coded× coded_ℕ (coded× coded_ℕ coded_ℕ)) parts_of symbol_at symbol_at_parts

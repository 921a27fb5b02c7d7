-- Symbols and leaves of terms as texts, both ways.
use Rattle.std.specs.Prelude.{ℕ, ◌==◌, ◌&&◌, List, [], ◌∷◌, ◌++◌, codes, decimal, bytes_eq}
use Rattle.std.specs.Prelude.{Option, Some, None, option_map, option_and_then}
use Rattle.std.specs.Prelude.{if◌then◌else◌}
use Rattle.larch_certificate.specs.BaseWord.{is_word}
use Rattle.larch_certificate_text.specs.declared.here.Here.{Here}
use Rattle.larch_certificate.specs.TermBuilt_inBuiltIn.{BuiltIn}
use Rattle.larch_certificate.specs.TermBuilt_inBuiltIn.TheVariants as built
use Rattle.larch_certificate.specs.declared.symbol.Symbol.{Symbol}
use Rattle.larch_certificate.specs.declared.symbol.Symbol.TheVariants as symbol
use Rattle.larch_certificate_text.specs.Parts.{IsSmall, read_number, ref_text, read_ref, cut_at}
use Rattle.larch_certificate.specs.Coded.{CodedTree, coded_var, coded_app, no_terms}

-- the word of a built-in symbol
abbrev pub built_in_text : BuiltIn → List ℕ
built_in_text built.True = codes "true"
built_in_text built.False = codes "false"
built_in_text built.If = codes "if"
built_in_text built.Not = codes "~"
built_in_text built.And = codes "/\\"
built_in_text built.Or = codes "\\/"
built_in_text built.Implies = codes "=>"
built_in_text built.Iff = codes "<=>"
built_in_text built.Equal = codes "="
built_in_text built.Unequal = codes "~="

-- the built-in symbol that a word is
abbrev pub read_built_in : List ℕ → Option BuiltIn
read_built_in text =
    if bytes_eq text (codes "true") then Some built.True
    else if bytes_eq text (codes "false") then Some built.False
    else if bytes_eq text (codes "if") then Some built.If
    else if bytes_eq text (codes "~") then Some built.Not
    else if bytes_eq text (codes "/\\") then Some built.And
    else if bytes_eq text (codes "\\/") then Some built.Or
    else if bytes_eq text (codes "=>") then Some built.Implies
    else if bytes_eq text (codes "<=>") then Some built.Iff
    else if bytes_eq text (codes "=") then Some built.Equal
    else if bytes_eq text (codes "~=") then Some built.Unequal
    else None

-- the text of a symbol: #k for an operator, @b.k for a constant of a box
abbrev pub symbol_text : Here → Symbol → List ℕ
symbol_text h (symbol.Own k) = 35 ∷ decimal k
symbol_text h (symbol.Constant b k) = 64 ∷ (ref_text h b ++ (46 ∷ decimal k))
symbol_text h (symbol.BuiltIn b) = built_in_text b

-- a symbol whose numbers a text can have
abbrev pub FitSymbol : Symbol → Type 0
FitSymbol (symbol.Own k) = IsSmall k
FitSymbol (symbol.Constant b k) = IsSmall b × IsSmall k
FitSymbol (symbol.BuiltIn b) = Unit {0}

-- the constant of a box that two texts are
abbrev pub constant_of : Here → List ℕ × List ℕ → Option Symbol
constant_of h p = option_and_then (λ b. option_map (λ k. symbol.Constant b k) (read_number p.1)) (read_ref h p.0)

-- the symbol that a text is
abbrev pub read_symbol : Here → List ℕ → Option Symbol
read_symbol h [] = None
read_symbol h (b ∷ bs) =
    if b == 35 then option_map (λ k. symbol.Own k) (read_number bs)
    else if b == 64 then option_and_then (constant_of h) (cut_at 46 bs)
    else option_map (λ c. symbol.BuiltIn c) (read_built_in (b ∷ bs))

-- the variable that two words are
abbrev pub variable_of : List ℕ × List ℕ → Option CodedTree
variable_of p = if is_word p.0 && is_word p.1 then Some (coded_var p.0 p.1) else None

-- a leaf with a colon is a variable, and one without is a symbol
abbrev pub leaf_by : Option (List ℕ × List ℕ) → Option Symbol → Option CodedTree
leaf_by (Some p) f = variable_of p
leaf_by None f = option_map (λ g. coded_app g no_terms) f

-- a variable has a colon, and an operator has none
abbrev pub read_leaf : Here → List ℕ → Option CodedTree
read_leaf h text = leaf_by (cut_at 58 text) (read_symbol h text)

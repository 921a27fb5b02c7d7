-- Equations as texts, both ways.
use Rattle.std.specs.Prelude.{ℕ, ◌==◌, ◌&&◌, not, Bool, true, false, List, [], ◌∷◌, ◌++◌, bytes_eq, Option}
use Rattle.std.specs.Prelude.{Some, None, option_map, option_and_then}
use Rattle.std.specs.Prelude.{if◌then◌else◌}
use Rattle.larch_certificate_text.specs.declared.here.Here.{Here}
use Rattle.larch_certificate.specs.declared.line.CodedEquation.{CodedEquation}
use Rattle.larch_certificate_text.specs.SymbolText.{read_leaf}
use Rattle.larch_certificate_text.specs.Parts.{onto}
use Rattle.larch_certificate_text.specs.TermText.{term_text, FitTerm, Front, fresh, run}
use Rattle.larch_certificate.specs.Coded.{CodedTree}

-- both sides with == between them
abbrev pub equation_text : Here → CodedEquation → List ℕ
equation_text h e = term_text h e.left ++ (61 ∷ 61 ∷ term_text h e.right)

-- an equation whose sides have texts
abbrev pub FitEquation : CodedEquation → Type 0
FitEquation e = FitTerm e.left × FitTerm e.right

-- what stands behind two equality signs
abbrev pub behind_equals : List ℕ → Option (List ℕ)
behind_equals [] = None
behind_equals (a ∷ []) = None
behind_equals (a ∷ b ∷ bs) = if (a == 61) && (b == 61) then Some bs else None

-- nothing before the cut, where it is here
abbrev pub cut_by : Option (List ℕ) → Option (List ℕ × List ℕ) → Option (List ℕ × List ℕ)
cut_by None more = more
cut_by (Some bs) more = Some ([], bs)

-- the text before and behind the first two equality signs, if no parenthesis stands before them
abbrev pub cut_equals : List ℕ → Option (List ℕ × List ℕ)
cut_equals [] = None
cut_equals (b ∷ bs) =
    if b == 40 then None else cut_by (behind_equals (b ∷ bs)) (option_map (onto b) (cut_equals bs))

-- a term goes on with what no operator with an equality sign in front has next
abbrev pub begins_term : List ℕ → Bool
begins_term [] = false
begins_term (b ∷ bs) = not (b == 40) && not (b == 62)

-- the right side begins with an equality sign that belongs to the left side ~=
abbrev pub lends : List ℕ → Bool
lends [] = false
lends (b ∷ bs) = (b == 61) && begins_term bs

-- the bytes behind the first
abbrev pub rest_of : List ℕ → List ℕ
rest_of [] = []
rest_of (b ∷ bs) = bs

-- where the left side seems to be ~ and the right side lends it an equality sign, the left side is ~=
abbrev pub adjust_sides : List ℕ × List ℕ → List ℕ × List ℕ
adjust_sides p = if bytes_eq p.0 (126 ∷ []) && lends p.1 then (126 ∷ 61 ∷ [], rest_of p.1) else p

-- a left side without arguments, and the right side
abbrev pub bare_cut : List ℕ → Option (List ℕ × List ℕ)
bare_cut [] = None
bare_cut (b ∷ bs) = option_map adjust_sides (option_map (onto b) (cut_equals bs))

-- the same before it is adjusted
abbrev pub first_cut : List ℕ → Option (List ℕ × List ℕ)
first_cut [] = None
first_cut (b ∷ bs) = option_map (onto b) (cut_equals bs)

-- with more before the cut
abbrev pub ahead_of : List ℕ → List ℕ × List ℕ → List ℕ × List ℕ
ahead_of xs p = (xs ++ p.0, p.1)

-- whether there are no bytes
abbrev pub is_nothing : List ℕ → Bool
is_nothing [] = true
is_nothing (b ∷ bs) = false

-- a term behind which nothing stands
abbrev pub whole : CodedTree × List ℕ → Option CodedTree
whole p = if is_nothing p.1 then Some p.0 else None

-- a term with nothing behind it
abbrev pub read_term : Here → List ℕ → Option CodedTree
read_term h text = option_and_then whole (run h (fresh []) text)

-- the equation of two terms
abbrev pub equation : CodedTree → CodedTree → CodedEquation
equation l r = record { left = l; right = r }

-- the equation of a left side and the term that a text is
abbrev pub with_right : Here → List ℕ → CodedTree → Option CodedEquation
with_right h text l = option_map (equation l) (read_term h text)

-- the equation of a left side that was read and what stands behind it
abbrev pub behind_left : Here → CodedTree × List ℕ → Option CodedEquation
behind_left h p = option_and_then (λ r. with_right h r p.0) (behind_equals p.1)

-- a left side without arguments ends at the cut, any other at its last parenthesis
abbrev pub equation_by : Here → Option (List ℕ × List ℕ) → Front → Option CodedEquation
equation_by h (Some p) f = option_and_then (with_right h p.1) (read_leaf h p.0)
equation_by h None f = option_and_then (behind_left h) f

-- the equation that a text is
abbrev pub read_equation : Here → List ℕ → Option CodedEquation
read_equation h text = equation_by h (bare_cut text) (run h (fresh []) text)

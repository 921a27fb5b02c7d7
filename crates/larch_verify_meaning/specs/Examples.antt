-- A certificate written out: 0 + x == x over the numbers of the calculus' example, by induction; and what is wrong
-- where it is changed.
use Rattle.std.specs.Prelude.{ℕ, ◌-◌, false, List, [], ◌∷◌, ◌++◌, take, drop, codes}
use Rattle.larch_tables.specs.CalculusExample.{number_sort}
use Rattle.larch_certificate.specs.Coded.{CodedTree, coded_var, coded_app, no_terms, term_then}
use Rattle.larch_certificate.specs.declared.line.Binding.{Binding}
use Rattle.larch_certificate.specs.declared.line.BoxPart.{BoxPart}
use Rattle.larch_certificate.specs.declared.line.CodedEquation.{CodedEquation}
use Rattle.larch_certificate.specs.declared.line.CodedVar.{CodedVar}
use Rattle.larch_certificate.specs.declared.line.Line.{Line}
use Rattle.larch_certificate.specs.declared.line.Line.TheVariants.{Axiom, Hyp, Inst, Repl, BoxLine, Done, Induct}
use Rattle.larch_certificate.specs.declared.symbol.Symbol.{Symbol}
use Rattle.larch_certificate.specs.declared.symbol.Symbol.TheVariants.{Own, Constant}

-- a symbol without arguments, and before one or two of them
abbrev pub coded_constant : Symbol → CodedTree
coded_constant f = coded_app f no_terms

abbrev pub coded_applied : Symbol → CodedTree → CodedTree
coded_applied f c = coded_app f (term_then c no_terms)

abbrev pub coded_joined : Symbol → CodedTree → CodedTree → CodedTree
coded_joined f c d = coded_app f (term_then c (term_then d no_terms))

-- #1, which is 0
abbrev pub coded_nought : CodedTree
coded_nought = coded_constant (Own 1)

-- #3(#1,c)==c, which is 0 + c == c
abbrev pub sum_with : CodedTree → CodedEquation
sum_with c = record { left = coded_joined (Own 3) coded_nought c; right = c }

-- both sides of an equation
abbrev pub coded_equation : CodedTree → CodedTree → CodedEquation
coded_equation c d = record { left = c; right = d }

-- a term for a variable of the numbers
abbrev pub for_number : List ℕ → CodedTree → Binding
for_number n c = record { name = n; sort = number_sort; term = c }

-- x:N
abbrev pub coded_x : CodedVar
coded_x = record { name = codes "x"; sort = number_sort }

-- a constant of the numbers
abbrev pub number_part : BoxPart
number_part = record { sort = number_sort; predicate = false }

-- @7.1
abbrev pub premise : CodedTree
premise = coded_constant (Constant 7 1)

-- 0 + x == x by induction on x, by the clause of line 1 and some boxes
abbrev pub induction_by : List ℕ → Line
induction_by boxes = Induct 1 coded_x (sum_with (coded_var (codes "x") number_sort)) boxes

-- 0 + x == x by induction: line 5 is 0 + 0 == 0, line 7 supposes of a constant c that 0 + c == c, line 8 is
-- 0 + s(c) == s(0 + c), and line 10 is 0 + s(c) == s(c)
abbrev pub sample : List Line
sample =
    Axiom 1 ∷
    Axiom 2 ∷
    Axiom 3 ∷
    BoxLine [] [] ∷
    Inst 2 (for_number (codes "x") coded_nought ∷ []) ∷
    Done ∷
    BoxLine (number_part ∷ []) (sum_with premise ∷ []) ∷
    Inst 3 (for_number (codes "x") coded_nought ∷ for_number (codes "y") premise ∷ []) ∷
    Hyp 7 1 ∷
    Repl 8 (1 ∷ []) 9 ∷
    Done ∷
    induction_by (4 ∷ 7 ∷ []) ∷
    []

-- certificates with another line in the place of the one with a number
abbrev pub with_line : ℕ → Line → List Line → List Line
with_line n line lines = take (n - 1) lines ++ (line ∷ drop n lines)

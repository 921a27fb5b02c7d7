-- Certificates with lines that their ends don't need, and what is left of them.
use Rattle.std.specs.Prelude.{List, [], ◌∷◌, codes}
use Rattle.larch_certificate.specs.declared.line.Line.{Line}
use Rattle.larch_certificate.specs.declared.line.Line.TheVariants.{Axiom, Hyp, Refl, Sym, Inst, Repl, BoxLine, Done}
use Rattle.larch_certificate.specs.declared.line.Line.TheVariants.{Fresh}
use Rattle.larch_certificate.specs.declared.symbol.Symbol.TheVariants.{Constant}
use Rattle.larch_verify_meaning.specs.Examples.{coded_constant, coded_nought, coded_x, for_number, number_part}
use Rattle.larch_verify_meaning.specs.Examples.{sum_with}
use Rattle.larch_verify_meaning.specs.Examples.{induction_by}

-- the worked certificate with 0 == 0 behind its third line
abbrev pub idle_line : List Line
idle_line =
    Axiom 1 ∷
    Axiom 2 ∷
    Axiom 3 ∷
    Refl coded_nought ∷
    BoxLine [] [] ∷
    Inst 2 (for_number (codes "x") coded_nought ∷ []) ∷
    Done ∷
    BoxLine (number_part ∷ []) (sum_with (coded_constant (Constant 8 1)) ∷ []) ∷
    Inst 3
    (for_number (codes "x") coded_nought ∷ for_number (codes "y") (coded_constant (Constant 8 1)) ∷ []) ∷
    Hyp 8 1 ∷
    Repl 9 (1 ∷ []) 10 ∷
    Done ∷
    induction_by (5 ∷ 8 ∷ []) ∷
    []

-- the worked certificate with 0 == 0 as the last line of its second box, which is then the box's result
abbrev pub other_result : List Line
other_result =
    Axiom 1 ∷
    Axiom 2 ∷
    Axiom 3 ∷
    BoxLine [] [] ∷
    Inst 2 (for_number (codes "x") coded_nought ∷ []) ∷
    Done ∷
    BoxLine (number_part ∷ []) (sum_with (coded_constant (Constant 7 1)) ∷ []) ∷
    Inst 3
    (for_number (codes "x") coded_nought ∷ for_number (codes "y") (coded_constant (Constant 7 1)) ∷ []) ∷
    Hyp 7 1 ∷
    Repl 8 (1 ∷ []) 9 ∷
    Refl coded_nought ∷
    Done ∷
    induction_by (4 ∷ 7 ∷ []) ∷
    []

-- x + 0 == x once more, through a constant; with a box that nothing names, in which another one stands, and in the box
-- a line that nothing names
abbrev pub idle_boxes : List Line
idle_boxes =
    BoxLine [] [] ∷
    BoxLine (number_part ∷ []) [] ∷
    Refl (coded_constant (Constant 2 1)) ∷
    Done ∷
    Fresh 2 (coded_x ∷ []) ∷
    Done ∷
    Axiom 2 ∷
    BoxLine (number_part ∷ []) [] ∷
    Refl (coded_constant (Constant 8 1)) ∷
    Inst 7 (for_number (codes "x") (coded_constant (Constant 8 1)) ∷ []) ∷
    Done ∷
    Fresh 8 (coded_x ∷ []) ∷
    []

abbrev pub without_idle_boxes : List Line
without_idle_boxes =
    Axiom 2 ∷
    BoxLine (number_part ∷ []) [] ∷
    Inst 1 (for_number (codes "x") (coded_constant (Constant 2 1)) ∷ []) ∷
    Done ∷
    Fresh 2 (coded_x ∷ []) ∷
    []

-- a constant of an outer box in an inner one, and a hypothesis that is used there: of 0 + c == c both sides exchanged
-- twice
abbrev pub inner_lines : List Line
inner_lines =
    BoxLine (number_part ∷ []) (sum_with (coded_constant (Constant 1 1)) ∷ []) ∷
    Refl coded_nought ∷
    BoxLine [] [] ∷
    Refl (coded_constant (Constant 1 1)) ∷
    Hyp 1 1 ∷
    Done ∷
    Fresh 3 [] ∷
    Sym 7 ∷
    Sym 8 ∷
    []

abbrev pub trimmed_inner_lines : List Line
trimmed_inner_lines =
    BoxLine (number_part ∷ []) (sum_with (coded_constant (Constant 1 1)) ∷ []) ∷
    BoxLine [] [] ∷
    Hyp 1 1 ∷
    Done ∷
    Fresh 2 [] ∷
    Sym 5 ∷
    Sym 6 ∷
    []

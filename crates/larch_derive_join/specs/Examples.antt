-- Two parts to be joined: 0 + x == x by induction, and a certificate that cites it.
use Rattle.std.specs.Prelude.{List, [], ◌∷◌, codes}
use Rattle.larch_calculus.specs.Example.{number_sort}
use Rattle.larch_certificate.specs.Coded.{coded_var}
use Rattle.larch_certificate.specs.declared.line.Line.{Line}
use Rattle.larch_certificate.specs.declared.line.Line.TheVariants.{Axiom, Refl, Inst, BoxLine, Done, Fresh, Induct}
use Rattle.larch_certificate.specs.declared.line.Line.TheVariants.{Generated}
use Rattle.larch_certificate.specs.declared.symbol.Symbol.TheVariants.{Constant}
use Rattle.larch_verify_meaning.specs.Examples.{coded_constant, coded_x, for_number, number_part, sample, sum_with}
use Rattle.larch_derive_join.specs.Joined.{coded_true}
use Rattle.larch_derive_join.specs.declared.part.Part.{Part}

-- 0 + x == x, by induction
abbrev pub lemma_part : Part
lemma_part = record { statements = 3; certificate = sample }

-- the same equation by the lemma, through a box with a constant for x
abbrev pub citing_part : Part
citing_part =
    record {
      statements = 3;
      certificate =
          Axiom 4 ∷ BoxLine (number_part ∷ []) [] ∷
          Inst 1 (for_number (codes "x") (coded_constant (Constant 2 1)) ∷ []) ∷
          Done ∷ Fresh 2 (coded_x ∷ []) ∷ [];
    }

-- what the second part becomes behind the twelve lines of the first
abbrev pub citing_lines : List Line
citing_lines =
    Inst 12 [] ∷ BoxLine (number_part ∷ []) [] ∷
    Inst 13 (for_number (codes "x") (coded_constant (Constant 14 1)) ∷ []) ∷
    Done ∷ Fresh 14 (coded_x ∷ []) ∷ []

-- a clause, by a box that isn't there, and an induction that cites it
abbrev pub clause_part : Part
clause_part = record { statements = 0; certificate = Generated 0 number_sort [] ∷ [] }

abbrev pub induction_part : Part
induction_part =
    record {
      statements = 0;
      certificate =
          Axiom 1 ∷ Induct 1 coded_x (sum_with (coded_var (codes "x") number_sort)) [] ∷ [];
    }

-- both: the line that cited the clause says something else, and the clause is named where it is shown
abbrev pub induction_lines : List Line
induction_lines =
    Generated 0 number_sort [] ∷ Refl coded_true ∷
    Induct 1 coded_x (sum_with (coded_var (codes "x") number_sort)) [] ∷ []

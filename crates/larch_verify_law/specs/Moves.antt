-- Lines of certificates with other numbers, sorts and operators in the places of their own.
use Rattle.std.specs.Prelude.{ℕ, suc, List, [], ◌∷◌, ◌++◌, map, option_map}
use Rattle.larch_verify_meaning.specs.RenamingRenaming.{Renaming, no_renaming, renamed_statement}
use Rattle.larch_certificate.specs.Coded.{CodedTree, CodedForest, coded_var, coded_app, no_terms, term_then}
use Rattle.larch_certificate.specs.declared.line.Binding.{Binding}
use Rattle.larch_certificate.specs.declared.line.BoxPart.{BoxPart}
use Rattle.larch_certificate.specs.declared.line.CodedEquation.{CodedEquation}
use Rattle.larch_certificate.specs.declared.line.CodedVar.{CodedVar}
use Rattle.larch_certificate.specs.declared.line.Line.{Line}
use Rattle.larch_certificate.specs.declared.line.Line.TheVariants.{Axiom, Hyp, Row, Refl, Sym, Inst, Repl, Equal}
use Rattle.larch_certificate.specs.declared.line.Line.TheVariants.{BoxLine, Done, Fresh, Cases, Induct, Observe}
use Rattle.larch_certificate.specs.declared.line.Line.TheVariants.{Generated, Partitioned}
use Rattle.larch_certificate.specs.declared.symbol.Symbol.{Symbol}
use Rattle.larch_certificate.specs.declared.symbol.Symbol.TheVariants.{Own, Constant, BuiltIn}
use Rattle.larch_verify_meaning.specs.Events.{PlainBox}

-- what takes the place of what lines name: the numbers of lines, of boxes, and of a theory's operators and statements;
-- and sorts and operators
pub record Move : Type 0 where
  pub line : ℕ → ℕ
  pub box : ℕ → ℕ
  pub operator : ℕ → ℕ
  pub statement : ℕ → ℕ
  pub renaming : Renaming

-- the move that changes nothing
abbrev pub no_move : Move
no_move =
    record { line = λ n. n; box = λ n. n; operator = λ n. n; statement = λ n. n; renaming = no_renaming }

abbrev pub moved_symbol : Move → Symbol → Symbol
moved_symbol m (Own k) = Own (m.operator k)
moved_symbol m (Constant b k) = Constant (m.box b) k
moved_symbol m (BuiltIn b) = BuiltIn b

abbrev mutual
  -- the coded term with other numbers and sorts
  pub moved_term : Move → CodedTree → CodedTree
  moved_term m (coded_var n s) = coded_var n (m.renaming.sort s)
  moved_term m (coded_app f cs) = coded_app (moved_symbol m f) (moved_terms m cs)

  pub moved_terms : Move → CodedForest → CodedForest
  moved_terms m no_terms = no_terms
  moved_terms m (term_then c cs) = term_then (moved_term m c) (moved_terms m cs)

abbrev pub moved_equation : Move → CodedEquation → CodedEquation
moved_equation m e = record { left = moved_term m e.left; right = moved_term m e.right }

abbrev pub moved_binding : Move → Binding → Binding
moved_binding m b = record { name = b.name; sort = m.renaming.sort b.sort; term = moved_term m b.term }

abbrev pub moved_part : Move → BoxPart → BoxPart
moved_part m p = record { sort = m.renaming.sort p.sort; predicate = p.predicate }

abbrev pub moved_variable : Move → CodedVar → CodedVar
moved_variable m v = record { name = v.name; sort = m.renaming.sort v.sort }

-- the line with other numbers and sorts; its rule stays
abbrev pub moved_line : Move → Line → Line
moved_line m (Axiom k) = Axiom (m.statement k)
moved_line m (Hyp b k) = Hyp (m.box b) k
moved_line m (Row k s) = Row k (option_map m.renaming.sort s)
moved_line m (Refl c) = Refl (moved_term m c)
moved_line m (Sym n) = Sym (m.line n)
moved_line m (Inst n bs) = Inst (m.line n) (map (moved_binding m) bs)
moved_line m (Repl n p k) = Repl (m.line n) p (m.line k)
moved_line m (Equal n) = Equal (m.line n)
moved_line m (BoxLine ps es) = BoxLine (map (moved_part m) ps) (map (moved_equation m) es)
moved_line m Done = Done
moved_line m (Fresh b vs) = Fresh (m.box b) (map (moved_variable m) vs)
moved_line m (Cases b c) = Cases (m.box b) (m.box c)
moved_line m (Induct n x e bs) = Induct (m.line n) (moved_variable m x) (moved_equation m e) (map m.box bs)
moved_line m (Observe n e ns) = Observe (m.line n) (moved_equation m e) (map m.line ns)
moved_line m (Generated b s ks) = Generated (m.box b) (m.renaming.sort s) (map m.operator ks)
moved_line m (Partitioned b s ks) = Partitioned (m.box b) (m.renaming.sort s) (map m.operator ks)

-- the box with another number, and other sorts and operators
abbrev pub moved_box : Move → PlainBox → PlainBox
moved_box m b =
    record {
      number = m.box b.number;
      parts = map (moved_part m) b.parts;
      hypotheses = map (renamed_statement m.renaming) b.hypotheses;
    }

-- lines, the first having a number, each with other lines in its stead: one where it is moved, none where it is left
-- out, several where some are put in
abbrev pub carry_lines : (ℕ → Line → List Line) → ℕ → List Line → List Line
carry_lines f n [] = []
carry_lines f n (l ∷ ls) = f n l ++ carry_lines f (suc n) ls

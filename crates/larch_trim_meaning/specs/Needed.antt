-- Which lines of a certificate its end needs.
use Rattle.std.specs.Prelude.{if◌then◌else◌, ℕ, suc, ◌==◌, ◌-◌, List, [], ◌∷◌, ◌++◌, flat_map, length, drop}
use Rattle.std.specs.Option.{option_map_or}
use Rattle.larch_base.specs.ByNumber.{numbered}
use Rattle.larch_certificate.specs.Coded.{CodedTree, CodedForest, coded_var, coded_app, no_terms, term_then}
use Rattle.larch_certificate.specs.declared.line.Binding.{Binding}
use Rattle.larch_certificate.specs.declared.line.CodedEquation.{CodedEquation}
use Rattle.larch_certificate.specs.declared.line.Line.{Line}
use Rattle.larch_certificate.specs.declared.line.Line.TheVariants.{Axiom, Hyp, Row, Refl, Sym, Inst, Repl, Equal}
use Rattle.larch_certificate.specs.declared.line.Line.TheVariants.{BoxLine, Done, Fresh, Cases, Induct, Observe}
use Rattle.larch_certificate.specs.declared.line.Line.TheVariants.{Generated, Partitioned}
use Rattle.larch_certificate.specs.declared.symbol.Symbol.{Symbol}
use Rattle.larch_certificate.specs.declared.symbol.Symbol.TheVariants.{Own, Constant, BuiltIn}
use Rattle.larch_trim_meaning.specs.Reached.{Reached}

-- the box whose constant a symbol is
abbrev pub box_of_symbol : Symbol → List ℕ
box_of_symbol (Own k) = []
box_of_symbol (Constant b k) = b ∷ []
box_of_symbol (BuiltIn b) = []

abbrev mutual
  -- the boxes whose constants a term has
  pub boxes_in : CodedTree → List ℕ
  boxes_in (coded_var n s) = []
  boxes_in (coded_app f cs) = box_of_symbol f ++ boxes_in_all cs

  pub boxes_in_all : CodedForest → List ℕ
  boxes_in_all no_terms = []
  boxes_in_all (term_then c cs) = boxes_in c ++ boxes_in_all cs

abbrev pub boxes_in_equation : CodedEquation → List ℕ
boxes_in_equation e = boxes_in e.left ++ boxes_in e.right

abbrev pub boxes_in_binding : Binding → List ℕ
boxes_in_binding b = boxes_in b.term

-- the lines and boxes that a line names; a hypothesis and a constant name their box
abbrev pub names : Line → List ℕ
names (Axiom k) = []
names (Hyp b k) = b ∷ []
names (Row k s) = []
names (Refl c) = boxes_in c
names (Sym n) = n ∷ []
names (Inst n bs) = n ∷ flat_map boxes_in_binding bs
names (Repl n p k) = n ∷ k ∷ []
names (Equal n) = n ∷ []
names (BoxLine ps es) = flat_map boxes_in_equation es
names Done = []
names (Fresh b vs) = b ∷ []
names (Cases b c) = b ∷ c ∷ []
names (Induct n x e bs) = n ∷ (boxes_in_equation e ++ bs)
names (Observe n e ns) = n ∷ (boxes_in_equation e ++ ns)
names (Generated b s ks) = b ∷ []
names (Partitioned b s ks) = b ∷ []

-- the boxes that are open behind the line with a number, where these are open in front of it, the innermost first
abbrev pub open_behind : ℕ → List ℕ → Line → List ℕ
open_behind n bs (BoxLine ps es) = n ∷ bs
open_behind n bs Done = drop 1 bs
open_behind n bs line = bs

-- the line with a number, and the one before it, where it closes a box
abbrev pub if_innermost : ℕ → List ℕ → ℕ → List ℕ
if_innermost n [] b = []
if_innermost n (c ∷ bs) b = if c == b then n ∷ (n - 1) ∷ [] else []

abbrev pub end_at : ℕ → List ℕ → Line → ℕ → List ℕ
end_at n bs Done b = if_innermost n bs b
end_at n bs line b = []

-- of lines, the first having a number and these boxes being open in front of it: the done line that closes a box, and
-- the line before it
abbrev pub end_from : ℕ → List ℕ → List Line → ℕ → List ℕ
end_from n bs [] b = []
end_from n bs (l ∷ ls) b = end_at n bs l b ++ end_from (suc n) (open_behind n bs l) ls b

-- what the line with a number needs: the lines and boxes that it names, and where it opens a box, the done line that
-- closes the box and the line before that
abbrev pub needs : List Line → ℕ → List ℕ
needs lines n = option_map_or names (numbered lines n) [] ++ end_from 1 [] lines n

-- the lines that are needed, by their numbers: the last one, and what a needed one needs
abbrev pub Needed : List Line → ℕ → Type 0
Needed lines = Reached (needs lines) (length lines)

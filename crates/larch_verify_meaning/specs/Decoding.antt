-- What coded terms mean. A term that isn't well sorted means nothing.
use Rattle.std.specs.Prelude.{ℕ, if◌then◌else◌, List, [], ◌∷◌, bytes_eq, Option, Some, None, option_map}
use Rattle.std.specs.Prelude.{option_and_then}
use Rattle.std.specs.Cmp.Lexicographic.{pointwise}
use Rattle.larch_certificate.specs.TermOperator.{PlainOperator}
use Rattle.larch_certificate.specs.TermSorts.{sort_of, sorts_of}
use Rattle.larch_certificate.specs.TermTree.{Tree, Forest, var, app, none, more}
use Rattle.larch_certificate.specs.TermStatementStatement.{Statement}
use Rattle.larch_certificate.specs.TermStatementStatement.TheVariants.{Equation}
use Rattle.larch_certificate.specs.TermSubstitutionEntry.{Entry}
use Rattle.larch_certificate.specs.Coded.{CodedTree, CodedForest, coded_var, coded_app, no_terms, term_then}
use Rattle.larch_certificate.specs.declared.line.Binding.{Binding}
use Rattle.larch_certificate.specs.declared.line.CodedEquation.{CodedEquation}
use Rattle.larch_certificate.specs.declared.symbol.Symbol.{Symbol}

-- what is found for each, where something is for all
abbrev pub each : {X Y : Type 0} → (X → Option Y) → List X → Option (List Y)
each find [] = Some []
each find (x ∷ xs) = option_and_then (λ y. option_map (λ ys. y ∷ ys) (each find xs)) (find x)

-- the operator before arguments, if they have the sorts of its domain
abbrev pub applied_to : Forest → PlainOperator → Option Tree
applied_to ts f = if pointwise bytes_eq (sorts_of ts) f.domain then Some (app f ts) else None

abbrev mutual
  -- the well sorted term that a coded one means, where symbols before arguments of some sorts mean these operators
  pub decode : (Symbol → List (List ℕ) → Option PlainOperator) → CodedTree → Option Tree
  decode find (coded_var n s) = Some (var n s)
  decode find (coded_app f cs) =
      option_and_then (λ ts. option_and_then (applied_to ts) (find f (sorts_of ts))) (decode_all find cs)

  pub decode_all : (Symbol → List (List ℕ) → Option PlainOperator) → CodedForest → Option Forest
  decode_all find no_terms = Some none
  decode_all find (term_then c cs) =
      option_and_then (λ t. option_map (λ ts. more t ts) (decode_all find cs)) (decode find c)

-- the equation between terms of one sort
abbrev pub equation_between : Tree → Tree → Option Statement
equation_between l r = if bytes_eq (sort_of l) (sort_of r) then Some (Equation l r) else None

-- the equation that a coded one means
abbrev pub decode_equation : (Symbol → List (List ℕ) → Option PlainOperator) → CodedEquation → Option Statement
decode_equation find e =
    option_and_then (λ l. option_and_then (equation_between l) (decode find e.right)) (decode find e.left)

-- a term for the variable, if it has the variable's sort
abbrev pub entry_for : Binding → Tree → Option Entry
entry_for b t = if bytes_eq (sort_of t) b.sort then Some (record { name = b.name; sort = b.sort; term = t }) else None

-- the replacement of a variable that is written
abbrev pub decode_binding : (Symbol → List (List ℕ) → Option PlainOperator) → Binding → Option Entry
decode_binding find b = option_and_then (entry_for b) (decode find b.term)

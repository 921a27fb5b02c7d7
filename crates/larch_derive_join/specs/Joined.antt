-- Certificates joined into one: those of lemmas in front, and no line that cites a lemma as a statement of the theory.
use Rattle.std.specs.Prelude.{ℕ, ◌+◌, ◌-◌, ◌^◌, if◌then◌else◌, Bool, true, false, List, [], ◌∷◌, ◌++◌, map}
use Rattle.std.specs.Prelude.{length, Option, Some, None, option_and_then, nat_lt}
use Rattle.std.specs.List.{slice_get}
use Rattle.std.specs.Option.{option_map_or}
use Rattle.larch_base.specs.ByNumber.{numbered}
use Rattle.larch_term.specs.Operator.{OperatorName, plain, boxed}
use Rattle.larch_term.specs.declared.built_in.BuiltIn.TheVariants.{True}
use Rattle.larch_renaming.specs.Renaming.{by_name}
use Rattle.larch_certificate.specs.Coded.{CodedTree, coded_app, no_terms}
use Rattle.larch_certificate.specs.declared.line.Line.{Line}
use Rattle.larch_certificate.specs.declared.line.Line.TheVariants.{Axiom, Refl, Inst, Generated, Partitioned}
use Rattle.larch_certificate.specs.declared.symbol.Symbol.TheVariants.{BuiltIn}
use Rattle.larch_verify_law.specs.Moves.{Move, moved_line}
use Rattle.larch_derive_join.specs.declared.lemma.Lemma.{Lemma}
use Rattle.larch_derive_join.specs.declared.part.Part.{Part}

-- a number of a line or box, moved on by a number of lines. Numbers end below 2 ^ 64: one that would be beyond goes
-- round, which no number does that a good line names
abbrev pub moved_on : ℕ → ℕ → ℕ
moved_on o n =
    if nat_lt n (2 ^ 64) then if nat_lt (n + o) (2 ^ 64) then n + o else n + o - 2 ^ 64 else n

-- constants of boxes are of the boxes moved on
abbrev pub name_on : ℕ → OperatorName → OperatorName
name_on o (plain n) = plain n
name_on o (boxed b k) = boxed (moved_on o b) k

-- whether the rule of a line says a clause; of axiom lines this doesn't tell
abbrev pub shows_clause : Line → Bool
shows_clause (Generated b s ks) = true
shows_clause (Partitioned b s ks) = true
shows_clause line = false

-- the lemma that a line cites: the axiom with its number stands behind the theory's own statements
abbrev pub cited_lemma : ℕ → List Lemma → Line → Option Lemma
cited_lemma own lemmas (Axiom k) = numbered lemmas (k - own)
cited_lemma own lemmas line = None

-- the lemma, if it is a clause
abbrev pub if_clause : Lemma → Option Lemma
if_clause y = if y.clause then Some y else None

-- the number that takes the place of a line's: its own, moved on; or that of the last line of the clause that it cites
abbrev pub line_on : ℕ → ℕ → List Lemma → List Line → ℕ → ℕ
line_on o own lemmas lines n =
    option_map_or (λ y. y.line)
    (option_and_then (λ l. option_and_then if_clause (cited_lemma own lemmas l)) (numbered lines n)) (moved_on o n)

-- what takes the place of what the lines of a part name, behind a number of lines
abbrev pub move_on : ℕ → List Lemma → Part → Move
move_on o lemmas p =
    record {
      line = line_on o p.statements lemmas p.certificate;
      box = moved_on o;
      operator = λ k. k;
      statement = λ k. k;
      renaming = by_name (name_on o);
    }

-- the truth value true, as lines write it
abbrev pub coded_true : CodedTree
coded_true = coded_app (BuiltIn True) no_terms

-- what stands for a line that cites a lemma: the lemma's equation once more; or, where it is a clause, any equation
abbrev pub cites : Lemma → Line
cites y = if y.clause then Refl coded_true else Inst y.line []

-- what stands for a line of a part
abbrev pub joined_line : ℕ → List Lemma → Part → Line → Line
joined_line o lemmas p l = option_map_or cites (cited_lemma p.statements lemmas l) (moved_line (move_on o lemmas p) l)

-- the lines of a part, behind a number of lines
abbrev pub joined_lines : ℕ → List Lemma → Part → List Line
joined_lines o lemmas p = map (joined_line o lemmas p) p.certificate

-- the part as a lemma of later ones, behind a number of lines
abbrev pub lemma_of : ℕ → Part → Lemma
lemma_of o p =
    record {
      line = o + length p.certificate;
      clause = option_map_or shows_clause (slice_get p.certificate (length p.certificate - 1)) false;
    }

-- lines with those of further parts behind them
abbrev pub joined_from : List Line → List Lemma → List Part → List Line
joined_from lines lemmas [] = lines
joined_from lines lemmas (p ∷ ps) =
    joined_from (lines ++ joined_lines (length lines) lemmas p) (lemmas ++ lemma_of (length lines) p ∷ []) ps

-- the parts in one: each with its lines, in order
abbrev pub join_parts : List Part → List Line
join_parts ps = joined_from [] [] ps

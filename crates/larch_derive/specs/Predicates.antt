-- What is known of a builder: what its lines say, which terms can be written, and how it grows. Above the crates of the
-- builder nobody looks into these: their laws are enough.
use Rattle.std.specs.Prelude.{◌≡◌, ◌≤◌, ◌<◌, ℕ, List, [], ◌∷◌, ◌++◌, map, All, Some}
use Rattle.larch_term.specs.Operator.{PlainOperator}
use Rattle.larch_term.specs.Sorts.{IsKnown, IsTermOver}
use Rattle.larch_term.specs.Statement.{IsStatementOver}
use Rattle.larch_term.specs.Tree.{Tree}
use Rattle.larch_term.specs.declared.statement.Statement.{Statement}
use Rattle.larch_term.specs.declared.statement.Statement.TheVariants.{Equation}
use Rattle.larch_term.specs.declared.statement.Theory.{Theory}
use Rattle.larch_verify_meaning.specs.RenamingRenaming.{rename_tree, renamed_statement}
use Rattle.larch_verify_meaning.specs.CalculusRenaming.{HasPlainNames}
use Rattle.larch_certificate_text.specs.CertificateLineBoxPart.{BoxPart}
use Rattle.larch_certificate_text.specs.CertificateLineLine.{Line}
use Rattle.larch_certificate_text.specs.CertificateText.{Writable}
use Rattle.larch_verify_meaning.specs.Context.{theory_of, find_line}
use Rattle.larch_verify_meaning.specs.Events.{Event, Said, Opened, Closed, State, start}
use Rattle.larch_verify_meaning.specs.Run.{run}
use Rattle.larch_derive.specs.declared.builder.Builder.{Builder}
use Rattle.larch_derive.specs.declared.open_box.OpenBox.{OpenBox}
use Rattle.larch_derive.specs.Builder.{shape_of}
use Rattle.larch_derive.specs.OpenBox.{naming}
use Rattle.larch_derive.specs.Words.{AreWordedOperators, IsWordedTerm, IsWordedStatement, IsWordedTheory}

-- the operators of a theory and of the boxes that are open in a state
abbrev pub operators_at : Theory → State → List PlainOperator
operators_at t st = (theory_of t st.history).operators

-- a term and a statement as lines write them where boxes are open
abbrev pub written_term : List OpenBox → Tree → Tree
written_term bs t = rename_tree (naming bs) t

abbrev pub written_statement : List OpenBox → Statement → Statement
written_statement bs s = renamed_statement (naming bs) s

-- the operators are neither the theory's nor built in
abbrev pub AreOthers : Theory → List PlainOperator → Type 0
AreOthers t cs = All (λ c. IsKnown t.operators c → ⊥) cs

-- the boxes that are open after events, the outermost first: their numbers and what they make
abbrev pub shapes_of : List Event → List (ℕ × List BoxPart)
shapes_of [] = []
shapes_of (Said n s ∷ h) = shapes_of h
shapes_of (Opened b ∷ h) = shapes_of h ++ (b.number, b.parts) ∷ []
shapes_of (Closed b s ∷ h) = shapes_of h

-- the lines lead to the state, so none is bad, and they have texts; the boxes are those that are open there; no
-- operator of the theory has the name of a box's constant, and what stands for constants of open boxes is neither the
-- theory's nor built in; the theory is in words, and so are the sorts of those constants
pub record StandIn (t : Theory) (bs : List OpenBox) (ls : List Line) (st : State) : Type 0 where
  pub runs : run t start ls ≡ Some st
  pub opened : shapes_of st.history ≡ map shape_of bs
  pub plain : HasPlainNames t
  pub others : All (λ x. AreOthers t x.constants) bs
  pub worded : IsWordedTheory t
  pub parts : All (λ x. AreWordedOperators x.constants) bs
  pub fits : Writable ls

-- and the term is well sorted there, and in words
pub record KnownIn (t : Theory) (bs : List OpenBox) (ls : List Line) (st : State) (a : Tree) : Type 0 where
  pub stand : StandIn t bs ls st
  pub over : IsTermOver (operators_at t st) (written_term bs a)
  pub words : IsWordedTerm a

-- and the line with a number, which stands in an open box or in none, says the statement, which is in words
pub record SaysIn (t : Theory) (bs : List OpenBox) (ls : List Line) (st : State) (n : ℕ) (s : Statement) : Type 0 where
  pub stand : StandIn t bs ls st
  pub says : find_line st.history n ≡ Some (written_statement bs s)
  pub within : n ≤ st.count
  pub over : IsStatementOver (operators_at t st) (written_statement bs s)
  pub words : IsWordedStatement s

-- no line of the builder is bad, and its lines have texts
unfoldable pub HasNoBadLine : Builder → Type 0
HasNoBadLine b = (st : State) × StandIn b.theory b.boxes b.lines st

-- and the term is in words and well sorted over the operators of the theory and those that stand for constants of open
-- boxes
unfoldable pub Known : Builder → Tree → Type 0
Known b a = (st : State) × KnownIn b.theory b.boxes b.lines st a

-- no line of the builder is bad, and the one with the number, which stands in an open box or in none, says the
-- statement
unfoldable pub HasStatement : Builder → ℕ → Statement → Type 0
HasStatement b n s = (st : State) × SaysIn b.theory b.boxes b.lines st n s

-- it says that both sides are equal
abbrev pub HasEquation : Builder → ℕ → Tree → Tree → Type 0
HasEquation b n l r = HasStatement b n (Equation l r)

-- behind a number of lines a line said something
abbrev pub IsSaidBehind : ℕ → Event → Type 0
IsSaidBehind c (Said n s) = c < n
IsSaidBehind c (Opened b) = ⊥
IsSaidBehind c (Closed b s) = ⊥

-- behind a number of lines a line said something, or a box was opened and closed again
abbrev pub IsBehind : ℕ → Event → Type 0
IsBehind c (Said n s) = c < n
IsBehind c (Opened b) = ⊥
IsBehind c (Closed b s) = c < b.number

-- lines of which none is bad lead from a state to another, and all that they leave behind is of a kind
pub record LeadsOn (P : ℕ → Event → Type 0) (t : Theory) (st : State) (ls : List Line) : Type 0 where
  pub state : State
  pub runs : run t st ls ≡ Some state
  pub later : st.count ≤ state.count
  pub events : List Event
  pub history : state.history ≡ events ++ st.history
  pub behind : All (P st.count) events

-- the second builder has the first one's lines and more; where none of the first one's is bad, none of the further is,
-- and all that these leave behind is of a kind; where the first one's lines have texts, so have the second one's
pub record GrowsBy (P : ℕ → Event → Type 0) (t : Theory) (ls ks : List Line) : Type 0 where
  pub more : List Line
  pub lines : ks ≡ ls ++ more
  pub leads : (st : State) → run t start ls ≡ Some st → LeadsOn P t st more
  pub fits : Writable ls → Writable ks

-- the builders have one theory and the same open boxes
pub record AreAlike (a b : Builder) : Type 0 where
  pub theory : b.theory ≡ a.theory
  pub boxes : b.boxes ≡ a.boxes

-- the second builder has further lines, none of which is bad, opens a box or closes one
unfoldable pub Extends : Builder → Builder → Type 0
Extends a b = AreAlike a b × GrowsBy IsSaidBehind a.theory a.lines b.lines

-- the second builder has further lines, none of which is bad, and each box that they open is closed again
unfoldable pub Grows : Builder → Builder → Type 0
Grows a b = AreAlike a b × GrowsBy IsBehind a.theory a.lines b.lines

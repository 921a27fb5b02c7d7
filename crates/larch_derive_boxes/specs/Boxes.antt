-- What is known of boxes: that one was opened, what may be supposed in it, and what is left of it when it is closed. As
-- with the predicates of builders, nobody above looks into these.
use Rattle.std.specs.Prelude.{◌≡◌, ◌≢◌, ◌≤◌, ◌⊎◌, ℕ, suc, List, [], ◌∷◌, ◌++◌, map, length, All, AllPairs, Some, None}
use Rattle.larch_term.specs.BuiltIn.{bool_sort}
use Rattle.larch_term.specs.Operator.{PlainOperator}
use Rattle.larch_term.specs.Sorts.{sort_of, IsTermOver}
use Rattle.larch_term.specs.Substitution.{instance_of}
use Rattle.larch_term.specs.Tree.{Tree}
use Rattle.larch_term.specs.Statement.{IsStatementOver}
use Rattle.larch_term.specs.declared.statement.Statement.{Statement}
use Rattle.larch_term.specs.declared.statement.Statement.TheVariants.{Equation, Generated, Partitioned}
use Rattle.larch_term.specs.declared.statement.Theory.{Theory}
use Rattle.larch_term.specs.declared.substitution.Entry.{Entry}
use Rattle.larch_verify_law.specs.CalculusFreed.{constants_for}
use Rattle.larch_verify_law.specs.CalculusTheories.{AreNew, AreConstants}
use Rattle.larch_certificate.specs.declared.line.CodedVar.{CodedVar}
use Rattle.larch_certificate.specs.declared.line.Line.{Line}
use Rattle.larch_certificate.specs.declared.line.Line.TheVariants.{Inst, Done}
use Rattle.larch_derive.specs.CertificateTextCertificateText.{Writable}
use Rattle.larch_verify_law.specs.VerifyMeaningContext.{theory_of, find_open, find_closed}
use Rattle.larch_verify_law.specs.VerifyMeaningEvents.{PlainBox, Event, Opened, State, start, operators_of}
use Rattle.larch_verify_law.specs.VerifyMeaningMatching.{variable_of}
use Rattle.larch_verify_law.specs.VerifyMeaningRun.{run}
use Rattle.larch_derive.specs.declared.builder.Builder.{Builder}
use Rattle.larch_derive.specs.declared.open_box.OpenBox.{OpenBox}
use Rattle.larch_derive.specs.Builder.{IsPushed, part_for}
use Rattle.larch_derive.specs.OpenBox.{constant_of}
use Rattle.larch_derive.specs.Predicates.{AreOthers, operators_at, written_term, written_statement, StandIn}
use Rattle.larch_derive.specs.Predicates.{HasStatement}
use Rattle.larch_derive.specs.Predicates.{Grows}
use Rattle.larch_derive.specs.Words.{AreWordedOperators, IsWordedTerm, IsWordedStatement, AreWordedStatements}

-- the box that lines open for this one
abbrev pub box_of : OpenBox → List Statement → PlainBox
box_of x hs = record { number = x.number; parts = map part_for x.constants; hypotheses = hs }

-- the operators where it is open besides others
abbrev pub operators_inside : Theory → List Event → OpenBox → List PlainOperator
operators_inside t h x = (theory_of t (Opened (box_of x []) ∷ h)).operators

-- the statement is an equation
abbrev pub IsEquation : Statement → Type 0
IsEquation (Equation l r) = Unit {0}
IsEquation (Generated s fs) = ⊥
IsEquation (Partitioned s fs) = ⊥

-- the statement may be supposed in the box: it is an equation in words that is well sorted there
pub record MaySupposeIn (t : Theory) (bs : List OpenBox) (ls : List Line) (st : State)
    (x : OpenBox) (s : Statement) : Type 0 where
  pub stand : StandIn t bs ls st
  pub equation : IsEquation s
  pub over : IsStatementOver (operators_inside t st.history x) (written_statement (bs ++ x ∷ []) s)
  pub words : IsWordedStatement s

unfoldable pub MaySuppose : Builder → OpenBox → Statement → Type 0
MaySuppose b x s = (st : State) × MaySupposeIn b.theory b.boxes b.lines st x s

-- the operator can stand for a constant or for a predicate of a box
abbrev pub IsPart : PlainOperator → Type 0
IsPart f = (f.domain ≡ []) ⊎ ((s : List ℕ) × (f.domain ≡ s ∷ []) × (f.range ≡ bool_sort))

-- the term, which is in words, can be written in the box once that is open; it may have the box's own constants and
-- predicates
pub record KnownInsideIn (t : Theory) (bs : List OpenBox) (ls : List Line) (st : State)
    (x : OpenBox) (a : Tree) : Type 0 where
  pub stand : StandIn t bs ls st
  pub over : IsTermOver (operators_inside t st.history x) (written_term (bs ++ x ∷ []) a)
  pub words : IsWordedTerm a

unfoldable pub KnownInside : Builder → OpenBox → Tree → Type 0
KnownInside b x a = (st : State) × KnownInsideIn b.theory b.boxes b.lines st x a

-- each entry has such a term, of its variable's sort
abbrev pub AreKnownInside : Builder → OpenBox → List Entry → Type 0
AreKnownInside b x es = All (λ e. KnownInside b x e.term × (sort_of e.term ≡ e.sort)) es

-- the second list of lines has one line more, which opens the box and has a text
pub record OpensIn (t : Theory) (bs : List OpenBox) (ls ks : List Line) (x : OpenBox)
    (hs : List Statement) : Type 0 where
  pub line : Line
  pub lines : ks ≡ ls ++ line ∷ []
  pub number : x.number ≡ suc (length ls)
  pub others : AreOthers t x.constants
  pub parts : AreWordedOperators x.constants
  pub words : AreWordedStatements hs
  pub fits : Writable ls → Writable ks
  pub leads : (st : State) → run t start ls ≡ Some st → run t st (line ∷ []) ≡ Some (record {
    count = suc st.count;
    history = Opened (box_of x (map (written_statement (bs ++ x ∷ [])) hs)) ∷ st.history;
  })
  pub over : (st : State) → run t start ls ≡ Some st
      → All (λ s. IsStatementOver (operators_inside t st.history x) (written_statement (bs ++ x ∷ []) s)) hs

-- the second builder has opened the box besides the first one's lines, with these hypotheses, and no line is bad
pub record OpensOn (a b : Builder) (x : OpenBox) (hs : List Statement) : Type 0 where
  pub stands : (st : State) × StandIn a.theory a.boxes a.lines st
  pub theory : b.theory ≡ a.theory
  pub boxes : b.boxes ≡ a.boxes ++ x ∷ []
  pub box : OpensIn a.theory a.boxes a.lines b.lines x hs

unfoldable pub Opens : Builder → Builder → OpenBox → List Statement → Type 0
Opens a b x hs = OpensOn a b x hs

-- the box is open, and these are its hypotheses
pub record IsOpenIn (t : Theory) (bs : List OpenBox) (ls : List Line) (st : State) (x : OpenBox)
    (hs : List Statement) : Type 0 where
  pub stand : StandIn t bs ls st
  pub found : find_open st.history x.number ≡ Some (box_of x (map (written_statement bs) hs))
  pub within : x.number ≤ st.count
  pub over : All (λ s. IsStatementOver (operators_at t st) (written_statement bs s)) hs
  pub words : AreWordedStatements hs

unfoldable pub IsOpen : Builder → OpenBox → List Statement → Type 0
IsOpen b x hs = (st : State) × IsOpenIn b.theory b.boxes b.lines st x hs

-- the box is closed, directly where the builder stands, where its constants are new, and its result is the statement
pub record ResultIn (t : Theory) (bs : List OpenBox) (ls : List Line) (st : State) (x : OpenBox)
    (hs : List Statement) (s : Statement) : Type 0 where
  pub stand : StandIn t bs ls st
  pub result : find_closed st.history x.number
      ≡ Some (box_of x (map (written_statement (bs ++ x ∷ [])) hs), written_statement (bs ++ x ∷ []) s)
  pub within : x.number ≤ st.count
  pub new : AreNew (theory_of t st.history) (operators_of (box_of x []))
  pub others : AreOthers t x.constants
  pub over : IsStatementOver (operators_inside t st.history x) (written_statement (bs ++ x ∷ []) s)
  pub supposed : All (λ h. IsStatementOver (operators_inside t st.history x) (written_statement (bs ++ x ∷ []) h)) hs
  pub parts : AreWordedOperators x.constants
  pub words : IsWordedStatement s

unfoldable pub HasResult : Builder → OpenBox → List Statement → Statement → Type 0
HasResult b x hs s = (st : State) × ResultIn b.theory b.boxes b.lines st x hs s

-- the operators are different constants, and none stands for one of an outer box
pub record AreOwnConstants (bs : List OpenBox) (x : OpenBox) : Type 0 where
  pub constants : AreConstants x.constants
  pub different : AllPairs (λ f g. f ≢ g) x.constants
  pub outer : All (λ f. constant_of bs f ≡ None) x.constants

-- a term with the constants of a box in the places of variables, in order
abbrev pub with_constants : List CodedVar → OpenBox → Tree → Tree
with_constants vs x t = instance_of (constants_for (map variable_of vs) x.constants) t

-- the steps from before a box is opened to behind its end: opened, grown inside, the result said once more, closed
pub record Closes (a d : Builder) (x : OpenBox) (hs : List Statement) (l r : Tree) : Type 0 where
  pub inside : Builder
  pub grown : Builder
  pub again : Builder
  pub line : ℕ
  pub first : ℕ
  pub last : ℕ
  pub opens : Opens a inside x hs
  pub grows : Grows inside grown
  pub says : HasStatement grown line (Equation l r)
  pub repeats : IsPushed grown again (Inst line []) first
  pub closes : IsPushed again d Done last

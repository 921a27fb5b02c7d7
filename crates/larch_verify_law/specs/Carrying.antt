-- When a move carries lines: what it is to do with the theories, and with what can be named.
use Rattle.std.specs.Prelude.{◌≡◌, ◌↔◌, ◌≤◌, ℕ, suc, List, [], ◌∷◌, Option, Some, None, option_map}
use Rattle.larch_base.specs.ByNumber.{numbered}
use Rattle.larch_term.specs.Operator.{PlainOperator, boxed}
use Rattle.larch_term.specs.declared.statement.Statement.{Statement}
use Rattle.larch_term.specs.declared.statement.Statement.TheVariants.{Equation, Generated, Partitioned}
use Rattle.larch_term.specs.declared.statement.Theory.{Theory}
use Rattle.larch_verify_meaning.specs.RenamingRenaming.{renamed_statement}
use Rattle.larch_verify_meaning.specs.CalculusRenaming.{IsFaithful}
use Rattle.larch_certificate.specs.declared.line.Line.{Line}
use Rattle.larch_certificate.specs.declared.line.Line.TheVariants.{Axiom, Hyp, Row, Refl, Sym, Inst, Repl, Equal}
use Rattle.larch_certificate.specs.declared.line.Line.TheVariants as rule
use Rattle.larch_verify_meaning.specs.Acceptance.{last_statement}
use Rattle.larch_verify_meaning.specs.Context.{find_line, find_open, find_closed, innermost}
use Rattle.larch_verify_meaning.specs.Events.{PlainBox, Event, State}
use Rattle.larch_verify_meaning.specs.Rules.{axiom_says, row_says}
use Rattle.larch_verify_law.specs.Moves.{Move, moved_box}

-- it is an equation
abbrev pub IsEquation : Statement → Type 0
IsEquation (Equation l r) = Unit {0}
IsEquation (Generated s fs) = ⊥
IsEquation (Partitioned s fs) = ⊥

-- a move from a theory to another one: sorts stay apart and operators keep their signatures; the theory's operators
-- are found under their new numbers; exactly what a box makes is of the box with the new number; and rows say what they
-- said, at the new sorts
pub record IsMove (m : Move) (t u : Theory) : Type 0 where
  pub faithful : IsFaithful m.renaming
  pub no_sort : m.renaming.sort [] ≡ []
  pub operators : (k : ℕ) (f : PlainOperator) → numbered t.operators k ≡ Some f
      → numbered u.operators (m.operator k) ≡ Some (m.renaming.operator f)
  pub boxes : (f : PlainOperator) (b k : ℕ)
      → (f.name ≡ boxed b k ↔ (m.renaming.operator f).name ≡ boxed (m.box b) k)
  pub rows : (k : ℕ) (s : Option (List ℕ)) (x : Statement) → row_says k s ≡ Some x
      → row_says k (option_map m.renaming.sort s) ≡ Some (renamed_statement m.renaming x)

-- the statement of the first theory with a number is one of the second under its new number
abbrev pub KeepsStatement : Move → Theory → Theory → ℕ → Type 0
KeepsStatement m t u k =
    (s : Statement) → axiom_says t k ≡ Some s
    → axiom_says u (m.statement k) ≡ Some (renamed_statement m.renaming s)

-- where a line cites a statement of the theory, it is kept
abbrev pub KeepsCited : Move → Theory → Theory → Line → Type 0
KeepsCited m t u (Axiom k) = KeepsStatement m t u k
KeepsCited m t u (Hyp b k) = Unit {0}
KeepsCited m t u (Row k s) = Unit {0}
KeepsCited m t u (Refl c) = Unit {0}
KeepsCited m t u (Sym n) = Unit {0}
KeepsCited m t u (Inst n bs) = Unit {0}
KeepsCited m t u (Repl n p k) = Unit {0}
KeepsCited m t u (Equal n) = Unit {0}
KeepsCited m t u (rule.BoxLine ps es) = Unit {0}
KeepsCited m t u rule.Done = Unit {0}
KeepsCited m t u (rule.Fresh b vs) = Unit {0}
KeepsCited m t u (rule.Cases b c) = Unit {0}
KeepsCited m t u (rule.Induct n x e bs) = Unit {0}
KeepsCited m t u (rule.Observe n e ns) = Unit {0}
KeepsCited m t u (rule.Generated b s ks) = Unit {0}
KeepsCited m t u (rule.Partitioned b s ks) = Unit {0}

-- what can be named where the first events have happened can be named, moved, where the second ones have. Of closed
-- boxes only those count whose result is an equation: no rule uses another one
pub record NamesAlike (m : Move) (h g : List Event) : Type 0 where
  pub lines : (n : ℕ) (s : Statement) → find_line h n ≡ Some s
      → find_line g (m.line n) ≡ Some (renamed_statement m.renaming s)
  pub open_boxes : (b : ℕ) (x : PlainBox) → find_open h b ≡ Some x
      → find_open g (m.box b) ≡ Some (moved_box m x)
  pub closed_boxes : (b : ℕ) (x : PlainBox) (s : Statement) → IsEquation s → find_closed h b ≡ Some (x, s)
      → find_closed g (m.box b) ≡ Some (moved_box m x, renamed_statement m.renaming s)

-- no line that can be named where the events have happened is moved behind the line with a number
abbrev pub IsEarly : Move → ℕ → List Event → Type 0
IsEarly m c h = (n : ℕ) (s : Statement) → find_line h n ≡ Some s → m.line n ≤ c

-- as many boxes are open in both, each the other one moved; and what can be named on each level can be so on the other,
-- by lines up to a number
pub data Matches (m : Move) (c : ℕ) : List Event → List Event → Type 0 where
  outermost : {h g : List Event} → innermost h ≡ None → innermost g ≡ None → NamesAlike m h g → IsEarly m c h
      → Matches m c h g
  inside : {h g : List Event} (k j : List Event) (b : PlainBox) → innermost h ≡ Some (b, k)
      → innermost g ≡ Some (moved_box m b, j) → NamesAlike m h g → IsEarly m c h → Matches m c k j → Matches m c h g

-- where the last line of the first says an equation, the last one of the second says it moved; else that says something
abbrev pub EndsAlike : Move → List Event → List Event → Type 0
EndsAlike m h g =
    (s : Statement) → last_statement h ≡ Some s
    → (r : Statement) × (last_statement g ≡ Some r) × (IsEquation s → r ≡ renamed_statement m.renaming s)

-- what the last line of the first says, the last one of the second says moved
abbrev pub EndsMoved : Move → List Event → List Event → Type 0
EndsMoved m h g =
    (s : Statement) → last_statement h ≡ Some s → last_statement g ≡ Some (renamed_statement m.renaming s)

-- behind a line both states match, the second one's count is a number, and what the line says is said moved
pub record Follows (m : Move) (next other : State) (n : ℕ) : Type 0 where
  pub count : other.count ≡ n
  pub matches : Matches m n next.history other.history
  pub ends : EndsMoved m next.history other.history

-- what holds of each line of a list, the first having a number
abbrev pub EachLine : (ℕ → Line → Type 0) → ℕ → List Line → Type 0
EachLine P n [] = Unit {0}
EachLine P n (l ∷ ls) = P n l × EachLine P (suc n) ls

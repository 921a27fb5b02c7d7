-- What the end of a duty takes.
use Rattle.std.specs.Prelude.{IsSome, Option}
use Rattle.larch_term.specs.declared.statement.Statement.{Statement}
use Rattle.larch_term.specs.declared.statement.Statement.TheVariants.{Equation, Generated, Partitioned}
use Rattle.larch_derive.specs.declared.open_box.OpenBox.{OpenBox}

-- a clause was shown in a box, which may be this one
abbrev pub HasEntrance : Statement → Option OpenBox → Type 0
HasEntrance (Equation l r) entrance = Unit {0}
HasEntrance (Generated s fs) entrance = IsSome entrance
HasEntrance (Partitioned s os) entrance = IsSome entrance

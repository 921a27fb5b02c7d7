-- How a level is left: its boxes are closed, the innermost first.
use Rattle.std.specs.Prelude.{ℕ, List, []}
use Rattle.larch_term.specs.declared.statement.Statement.{Statement}
use Rattle.larch_term.specs.declared.statement.Theory.{Theory}
use Rattle.larch_methods.specs.CertificateLineLine.TheVariants.{Inst, Done}
use Rattle.larch_derive.specs.Builder.{IsPushed}
use Rattle.larch_derive.specs.declared.builder.Builder.{Builder}
use Rattle.larch_prove_invariant.specs.Book.{Kept, SupposingBox}
use Rattle.larch_prove_invariant.specs.Holding.{Holds, Through}

-- the second builder has closed the innermost box with what a line says: it is said once more, and then the box is done
pub record IsClosedWith (b c : Builder) (n : ℕ) : Type 0 where
  pub again : Builder
  pub first : ℕ
  pub last : ℕ
  pub repeats : IsPushed b again (Inst n []) first
  pub closes : IsPushed again c Done last

-- A level is left whose boxes, the outermost first, are still open: an earlier builder held the levels below, before
-- they were opened.
pub record Leaving (t : Theory) (s : Statement) (b : Builder) (xs : List SupposingBox) (ks : List Kept) : Type 0 where
  pub entered : Builder
  pub below : Holds t s entered ks
  pub boxes : Through entered xs b

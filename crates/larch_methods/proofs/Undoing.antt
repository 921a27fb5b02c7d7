-- What was made is what is answered, where a refused call is undone.
use Rattle.std.specs.Prelude.{◌≡◌, ℕ, length, Option, None, Some, Result, Ok, IfNone, IfOk, IfSome, OnOk}
use Rattle.std.proofs.Common.{sym, subst}
use Rattle.larch_term.specs.declared.statement.Statement.{Statement}
use Rattle.larch_derive.specs.VerifyMeaningLastLine.{EndsWithoutStatedClause}
use Rattle.larch_derive.specs.Predicates.{Grows, HasStatement}
use Rattle.larch_derive.specs.declared.builder.Builder.{Builder}

pub made_so : {E : Type 0} (made : Result ℕ E) (n : ℕ) (P : ℕ → Type 0) → IfOk made P → made ≡ Ok n → P n
made_so made n P h e = subst (λ r. IfOk r P) e h

pub made_then : {E : Type 0} (made : Result ℕ E) (n : ℕ) (P : Type 0) → OnOk made P → made ≡ Ok n → P
made_then made n P h e = subst (λ r. OnOk r P) e h

pub says_as : (b c : Builder) (n : ℕ) (s : Statement) → c ≡ b → HasStatement b n s → HasStatement c n s
says_as b c n s e h = subst (λ x. HasStatement x n s) (sym e) h

pub grows_as : (a b c : Builder) → c ≡ b → Grows a b → Grows a c
grows_as a b c e h = subst (Grows a) (sym e) h

pub lasts_as : (b c : Builder) (n : ℕ) → c ≡ b → n ≡ length b.lines → n ≡ length c.lines
lasts_as b c n e h = subst (λ (x : Builder). n ≡ length x.lines) (sym e) h

pub ends_as : (b c : Builder) → c ≡ b → EndsWithoutStatedClause b.theory b.lines
    → EndsWithoutStatedClause c.theory c.lines
ends_as b c e h = subst (λ (x : Builder). EndsWithoutStatedClause x.theory x.lines) (sym e) h

pub found_so : {X : Type 0} (found : Option X) (x : X) (P : X → Type 0) → IfSome found P → found ≡ Some x → P x
found_so found x P h e = subst (λ o. IfSome o P) e h

pub missing_so : {X : Type 0} (found : Option X) (P : Type 0) → IfNone found P → found ≡ None → P
missing_so found P h e = subst (λ o. IfNone o P) e h

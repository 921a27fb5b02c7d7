-- Terms that coded ones mean are well sorted, over the operators that symbols mean.
use Rattle.std.proofs.Common.{◌≡◌, ℕ, List, bytes_eq, Option, Some, option_map, option_and_then, subst}
use Rattle.std.specs.Cmp.Lexicographic.{pointwise}
use Rattle.std.proofs.lemmas.Option.{option_and_then_some, cond_some}
use Rattle.larch_base.proofs.Options.{some_inj}
use Rattle.larch_term.proofs.Decided.{sorts_Decides}
use Rattle.larch_term.specs.Operator.{PlainOperator}
use Rattle.larch_term.specs.Sorts.{sort_of, sorts_of, AllWellSorted, AllOver, IsKnown, IsTermOver}
use Rattle.larch_term.specs.Statement.{IsStatementOver}
use Rattle.larch_term.specs.Tree.{Tree, Forest, app, more}
use Rattle.larch_term.specs.declared.statement.Statement.{Statement}
use Rattle.larch_term.specs.declared.statement.Statement.TheVariants.{Equation}
use Rattle.larch_term.specs.declared.substitution.Entry.{Entry}
use Rattle.larch_certificate.specs.Coded.{CodedTree, CodedForest, coded_var, coded_app, no_terms, term_then}
use Rattle.larch_certificate.specs.declared.line.Binding.{Binding}
use Rattle.larch_certificate.specs.declared.line.CodedEquation.{CodedEquation}
use Rattle.larch_certificate.specs.declared.symbol.Symbol.{Symbol}
use Rattle.larch_verify_meaning.specs.Decoding.{applied_to, decode, decode_all, equation_between, decode_equation}
use Rattle.larch_verify_meaning.specs.Decoding.{entry_for, decode_binding}
use Rattle.larch_verify_law.proofs.Told.{option_map_some, bytes_told}

-- each operator that a symbol means is known
abbrev pub Finds : (Symbol → List (List ℕ) → Option PlainOperator) → List PlainOperator → Type 0
Finds find fs = (f : Symbol) (sorts : List (List ℕ)) (o : PlainOperator) → find f sorts ≡ Some o → IsKnown fs o

mutual
  pub decoded : (find : Symbol → List (List ℕ) → Option PlainOperator) (fs : List PlainOperator) → Finds find fs
      → (c : CodedTree) (t : Tree) → decode find c ≡ Some t → IsTermOver fs t
  decoded find fs k (coded_var n s) t e = subst (IsTermOver fs) (some_inj e) (tt, tt)
  decoded find fs k (coded_app f cs) t e =
      option_and_then_some (λ ts. option_and_then (applied_to ts) (find f (sorts_of ts))) (decode_all find cs) t e
      (λ ts p q. option_and_then_some (applied_to ts) (find f (sorts_of ts)) t q
      (λ o r w.
      let c = cond_some (pointwise bytes_eq (sorts_of ts) o.domain) (app o ts) t w in
      let all = decoded_all find fs k cs ts p in
      subst (IsTermOver fs) c.1
      (((sorts_Decides (sorts_of ts) o.domain).0 c.0, all.0), (k f (sorts_of ts) o r, all.1))))

  decoded_all : (find : Symbol → List (List ℕ) → Option PlainOperator) (fs : List PlainOperator) → Finds find fs
      → (cs : CodedForest) (ts : Forest) → decode_all find cs ≡ Some ts → AllWellSorted ts × AllOver fs ts
  decoded_all find fs k no_terms ts e = subst (λ us. AllWellSorted us × AllOver fs us) (some_inj e) (tt, tt)
  decoded_all find fs k (term_then c cs) ts e =
      option_and_then_some (λ t. option_map (λ us. more t us) (decode_all find cs)) (decode find c) ts e
      (λ t p q. option_map_some (λ us. more t us) (decode_all find cs) ts q
      (λ us r w.
      let one = decoded find fs k c t p in
      let all = decoded_all find fs k cs us r in
      subst (λ us. AllWellSorted us × AllOver fs us) w ((one.0, all.0), (one.1, all.1))))

pub equation_decoded : (find : Symbol → List (List ℕ) → Option PlainOperator) (fs : List PlainOperator) → Finds find fs
    → (e : CodedEquation) (s : Statement) → decode_equation find e ≡ Some s → IsStatementOver fs s
equation_decoded find fs k e s h =
    option_and_then_some (λ l. option_and_then (equation_between l) (decode find e.right)) (decode find e.left) s h
    (λ l p q. option_and_then_some (equation_between l) (decode find e.right) s q
    (λ r m w.
    let c = cond_some (bytes_eq (sort_of l) (sort_of r)) (Equation l r) s w in
    subst (IsStatementOver fs) c.1
    (decoded find fs k e.left l p, decoded find fs k e.right r m, bytes_told (sort_of l) (sort_of r) c.0)))

-- the term is well sorted over operators and has the variable's sort
abbrev pub IsEntryOver : List PlainOperator → Entry → Type 0
IsEntryOver fs e = IsTermOver fs e.term × (sort_of e.term ≡ e.sort)

pub binding_decoded : (find : Symbol → List (List ℕ) → Option PlainOperator) (fs : List PlainOperator) → Finds find fs
    → (b : Binding) (e : Entry) → decode_binding find b ≡ Some e → IsEntryOver fs e
binding_decoded find fs k b e h =
    option_and_then_some (entry_for b) (decode find b.term) e h
    (λ t p q.
    let c = cond_some (bytes_eq (sort_of t) b.sort) (record { name = b.name; sort = b.sort; term = t }) e q in
    subst (IsEntryOver fs) c.1 (decoded find fs k b.term t p, bytes_told (sort_of t) b.sort c.0))

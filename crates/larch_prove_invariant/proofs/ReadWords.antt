-- What is in words to traits is so to certificates, and what commands read as is.
use Rattle.std.specs.Prelude.{◌≡◌, ℕ, List, [], ◌∷◌, ◌++◌, length, All, Ok}
use Rattle.std.proofs.Common.{subst}
use Rattle.std.proofs.Math.Seq.{drop-append_seam, take-append_seam}
use Rattle.std.proofs.lemmas.List.Elements.{All-append, All-cons, All-drop, All-head, All-nil, All-push, All-tail}
use Rattle.std.proofs.lemmas.List.Elements.{All-take, All-weaker}
use Rattle.larch_methods.specs.RawEquationRawEquation.{RawEquation}
use Rattle.larch_term.specs.Operator.{PlainOperator}
use Rattle.larch_term.specs.Tree.{Tree, Forest, var, app, none, more}
use Rattle.larch_term.specs.Variable.{occurrences, occurrences_in}
use Rattle.larch_term.specs.declared.statement.Statement.{Statement}
use Rattle.larch_term.specs.declared.statement.Statement.TheVariants.{Equation, Generated, Partitioned}
use Rattle.larch_term.specs.declared.statement.Theory.{Theory}
use Rattle.larch_term.specs.declared.variable.Variable.{Variable}
use Rattle.larch_derive.specs.CertificateTextParts.{Each}
use Rattle.larch_derive.specs.Words.{AreWordedOperators, AreWordedTerms, IsWordedOperator, IsWordedStatement}
use Rattle.larch_derive.specs.Words.{IsWordedTerm, IsWordedTheory}
use Rattle.larch_derive.specs.declared.builder.Builder.{Builder}
use Rattle.larch_derive.proofs.Words.{theory_worded}
use Rattle.larch_methods.specs.RewriteMeaningSides.{Sides}
use Rattle.larch_methods.specs.SortsMeaningLaws.{ForestSorts, OperatorSorts, TermSorts}
use Rattle.larch_methods.specs.BaseMeaningWord.{IsWord}
use Rattle.larch_methods.specs.ProveMeaningInWords.{AreVariablesInWords, IsStatementInWords, IsTermInWords, NamesWords}
use Rattle.larch_methods.specs.ProveMeaningLevels.{Proof}
use Rattle.larch_methods.specs.ProveMeaningSteps.{read_lone, read_sides}
use Rattle.larch_methods.proofs.ProveMeaningReadWords.{equation_words, term_words}
use Rattle.larch_prove_invariant.specs.Book.{Kept}
use Rattle.larch_prove_invariant.specs.Holding.{HoldsProof, theory_for}
use Rattle.larch_prove_invariant.proofs.Held.{boxes_held, holding_stands}

-- ---- sorts of operators

each_and_last : (ss : List (List ℕ)) (s : List ℕ) → All IsWord (ss ++ s ∷ []) → Each IsWord ss × IsWord s
each_and_last [] s h = (tt, All-head IsWord s [] h)
each_and_last (r ∷ ss) s h =
    let others = each_and_last ss s (All-tail IsWord r (ss ++ s ∷ []) h) in
    ((All-head IsWord r (ss ++ s ∷ []) h, others.0), others.1)

operator_worded : (f : PlainOperator) → OperatorSorts IsWord f → IsWordedOperator f
operator_worded f h = each_and_last f.domain f.range h

operators_worded : (fs : List PlainOperator) → All (OperatorSorts IsWord) fs → AreWordedOperators fs
operators_worded fs h = All-weaker (OperatorSorts IsWord) IsWordedOperator operator_worded fs h

all_of_each : (ss : List (List ℕ)) → Each IsWord ss → All IsWord ss
all_of_each [] h = All-nil IsWord
all_of_each (s ∷ ss) h = All-cons IsWord s ss h.0 (all_of_each ss h.1)

operator_sorts : (f : PlainOperator) → IsWordedOperator f → OperatorSorts IsWord f
operator_sorts f h = All-push IsWord f.domain f.range (all_of_each f.domain h.0) h.1

operators_sorts : (fs : List PlainOperator) → AreWordedOperators fs → All (OperatorSorts IsWord) fs
operators_sorts fs h = All-weaker IsWordedOperator (OperatorSorts IsWord) operator_sorts fs h

-- ---- terms, statements and theories

-- the variable's name is a word
abbrev Named : Variable → Type 0
Named v = IsWord v.name

first_named : (vs ws : List Variable) → All Named (vs ++ ws) → All Named vs
first_named vs ws h = subst (All Named) (take-append_seam vs ws) (All-take Named (length vs) (vs ++ ws) h)

others_named : (vs ws : List Variable) → All Named (vs ++ ws) → All Named ws
others_named vs ws h = subst (All Named) (drop-append_seam vs ws) (All-drop Named (length vs) (vs ++ ws) h)

mutual
  worded : (t : Tree) → TermSorts IsWord t → All Named (occurrences t) → IsWordedTerm t
  worded (var n s) h k = (All-head Named (record { name = n; sort = s }) [] k, h)
  worded (app f ts) h k = (operator_worded f h.0, all_worded ts h.1 k)

  all_worded : (ts : Forest) → ForestSorts IsWord ts → All Named (occurrences_in ts) → AreWordedTerms ts
  all_worded none h k = tt
  all_worded (more t ts) h k = (
    worded t h.0 (first_named (occurrences t) (occurrences_in ts) k),
    all_worded ts h.1 (others_named (occurrences t) (occurrences_in ts) k),
  )

pub term_worded : (t : Tree) → IsTermInWords t → IsWordedTerm t
term_worded t h = worded t h.0 h.1

pub statement_worded : (s : Statement) → IsStatementInWords s → IsWordedStatement s
statement_worded (Equation l r) h = (worded l h.0.0 h.1.0, worded r h.0.1 h.1.1)
statement_worded (Generated s fs) h = (h.0.0, operators_worded fs h.0.1)
statement_worded (Partitioned s fs) h = (h.0.0, operators_worded fs h.0.1)

pub theory_in_words : (t : Theory) → All (OperatorSorts IsWord) t.operators → All IsStatementInWords t.statements
    → IsWordedTheory t
theory_in_words t h k =
    (operators_worded t.operators h, All-weaker IsStatementInWords IsWordedStatement statement_worded t.statements k)

-- ---- proofs that a builder holds

-- what commands can name is in words
names_words : (s : Statement) (b : Builder) (p : Proof) (ks : List Kept) → HoldsProof s b p ks
    → AreVariablesInWords p.scope → NamesWords p
names_words s b p ks h scope =
    let t = theory_for p in
    let held = h.levels.held in
    let own : AreWordedOperators p.theory.operators =
    subst (λ (u : Theory). AreWordedOperators u.operators) (boxes_held t s b ks held).0
    (theory_worded b (holding_stands t s b ks held)).0 in (
      All-append (OperatorSorts IsWord) p.theory.operators p.constants (operators_sorts p.theory.operators own)
          (operators_sorts p.constants h.levels.constants.words),
      scope,
    )

pub equation_read : (s : Statement) (b : Builder) (p : Proof) (ks : List Kept) (raw : RawEquation) (e : Sides)
    → HoldsProof s b p ks → AreVariablesInWords p.scope → read_sides p raw ≡ Ok e
    → IsWordedTerm e.left × IsWordedTerm e.right
equation_read s b p ks raw e h scope k =
    let sides = equation_words p (names_words s b p ks h scope) raw e k in
    (term_worded e.left sides.0, term_worded e.right sides.1)

pub term_read : (s : Statement) (b : Builder) (p : Proof) (ks : List Kept) (z : List ℕ) (raw : RawEquation) (t : Tree)
    → HoldsProof s b p ks → AreVariablesInWords p.scope → read_lone p z raw ≡ Ok t → IsWordedTerm t
term_read s b p ks z raw t h scope k = term_worded t (term_words p (names_words s b p ks h scope) z raw t k)

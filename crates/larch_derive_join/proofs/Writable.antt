-- Parts that can be written are so joined.
use Rattle.std.proofs.Common.{◌≡◌, ℕ, suc, ◌+◌, ◌<◌, ◌≤◌, ◌^◌, zero, ◌-◌, Bool, true, false, cond, List, [], ◌∷◌, ◌++◌}
use Rattle.std.proofs.Common.{map, length}
use Rattle.std.proofs.Common.{Option, Some, None, option_and_then, refl, subst, arith}
use Rattle.std.specs.List.{slice_get}
use Rattle.std.specs.Option.{option_map_or}
use Rattle.std.proofs.lemmas.List.{length-append, length-map}
use Rattle.larch_base.proofs.Options.{some_inj}
use Rattle.larch_base.specs.ByNumber.{numbered}
use Rattle.larch_tables.proofs.Identities.{at_place}
use Rattle.larch_certificate.specs.Coded.{CodedTree, CodedForest, coded_var, coded_app, no_terms, term_then}
use Rattle.larch_certificate.specs.declared.line.Line.{Line}
use Rattle.larch_certificate.specs.declared.line.Line.TheVariants.{Axiom, Hyp, Row, Refl, Sym, Inst, Repl, Equal}
use Rattle.larch_certificate.specs.declared.line.Line.TheVariants.{BoxLine, Done, Fresh, Cases, Induct, Observe}
use Rattle.larch_certificate.specs.declared.line.Line.TheVariants.{Generated, Partitioned}
use Rattle.larch_certificate.specs.declared.symbol.Symbol.{Symbol}
use Rattle.larch_certificate.specs.declared.symbol.Symbol.TheVariants.{Own, Constant, BuiltIn}
use Rattle.larch_certificate_text.specs.CertificateText.{FitLines, Writable}
use Rattle.larch_certificate_text.specs.EquationText.{FitEquation}
use Rattle.larch_certificate_text.specs.LineText.{FitBinding, FitBoxPart, FitVariable, FitLine}
use Rattle.larch_certificate_text.specs.Parts.{IsSmall, Each}
use Rattle.larch_certificate_text.specs.SymbolText.{FitSymbol}
use Rattle.larch_certificate_text.specs.TermText.{FitTerm, FitTerms}
use Rattle.larch_verify_law.specs.Moves.{Move, moved_symbol, moved_term, moved_terms, moved_equation, moved_binding}
use Rattle.larch_verify_law.specs.Moves.{moved_part, moved_variable, moved_line}
use Rattle.larch_derive_join.proofs.Lengths.{grows_longer}
use Rattle.larch_derive_join.proofs.Numbers.{moved_small}
use Rattle.larch_derive_join.specs.Joined.{moved_on, cited_lemma, if_clause, move_on, coded_true, cites}
use Rattle.larch_derive_join.specs.Joined.{joined_line}
use Rattle.larch_derive_join.specs.Joined.{joined_lines, lemma_of, joined_from, join_parts}
use Rattle.larch_derive_join.specs.Promise.{AreWritable}
use Rattle.larch_derive_join.specs.declared.lemma.Lemma.{Lemma}
use Rattle.larch_derive_join.specs.declared.part.Part.{Part}

each_map : {A B : Type 0} (P : A → Type 0) (Q : B → Type 0) (f : A → B) → ((x : A) → P x → Q (f x)) → (xs : List A)
    → Each P xs → Each Q (map f xs)
each_map P Q f k [] w = tt
each_map P Q f k (x ∷ xs) w = (k x w.0, each_map P Q f k xs w.1)

each_append : {A : Type 0} (P : A → Type 0) (xs ys : List A) → Each P xs → Each P ys → Each P (xs ++ ys)
each_append P [] ys w v = v
each_append P (x ∷ xs) ys w v = (w.0, each_append P xs ys w.1 v)

each_got : {A : Type 0} (P : A → Type 0) (xs : List A) → Each P xs → (i : ℕ) (x : A) → slice_get xs i ≡ Some x → P x
each_got P [] w i x e = cc
each_got P (y ∷ ys) w zero x e = subst P (some_inj e) w.0
each_got P (y ∷ ys) w (suc i) x e = each_got P ys w.1 i x e

each_numbered : {A : Type 0} (P : A → Type 0) (xs : List A) → Each P xs → (n : ℕ) (x : A) → numbered xs n ≡ Some x → P x
each_numbered P xs w n x e = each_got P xs w (n - 1) x (at_place xs n x e)

module _ (o : ℕ) (small : IsSmall o) (lemmas : List Lemma) (ends : Each (λ y. IsSmall y.line) lemmas) (p : Part) where
  abbrev moving : Move
  moving = move_on o lemmas p

  box_small : (n : ℕ) → IsSmall n → IsSmall (moved_on o n)
  box_small n lt = moved_small o n small lt

  cited_small : (l : Line) (y : Lemma) → cited_lemma p.statements lemmas l ≡ Some y → IsSmall y.line
  cited_small (Axiom k) y e = each_numbered (λ z. IsSmall z.line) lemmas ends (k - p.statements) y e
  cited_small (Hyp n k) y e = cc
  cited_small (Row k s) y e = cc
  cited_small (Refl c) y e = cc
  cited_small (Sym n) y e = cc
  cited_small (Inst n bs) y e = cc
  cited_small (Repl n q k) y e = cc
  cited_small (Equal n) y e = cc
  cited_small (BoxLine ps es) y e = cc
  cited_small Done y e = cc
  cited_small (Fresh n vs) y e = cc
  cited_small (Cases n k) y e = cc
  cited_small (Induct n x c bs) y e = cc
  cited_small (Observe n c ns) y e = cc
  cited_small (Generated n s ks) y e = cc
  cited_small (Partitioned n s ks) y e = cc

  clause_small : (n : ℕ) → IsSmall n → (l : Line) (z : Option Lemma) → cited_lemma p.statements lemmas l ≡ z
      → IsSmall (option_map_or (λ x. x.line) (option_and_then if_clause z) (moved_on o n))
  clause_small n lt l None e = box_small n lt
  clause_small n lt l (Some y) e = either y.clause
    where
      either : (c : Bool) → IsSmall (option_map_or (λ x. x.line) (cond c (Some y) None) (moved_on o n))
      either true = cited_small l y e
      either false = box_small n lt

  line_small : (n : ℕ) → IsSmall n → IsSmall (moving.line n)
  line_small n lt = by_line (numbered p.certificate n)
    where
      by_line : (z : Option Line)
          → IsSmall (option_map_or (λ x. x.line)
          (option_and_then (λ l. option_and_then if_clause (cited_lemma p.statements lemmas l)) z) (moved_on o n))
      by_line None = box_small n lt
      by_line (Some l) = clause_small n lt l (cited_lemma p.statements lemmas l) refl

  symbol_fits : (f : Symbol) → FitSymbol f → FitSymbol (moved_symbol moving f)
  symbol_fits (Own k) w = w
  symbol_fits (Constant n k) w = (box_small n w.0, w.1)
  symbol_fits (BuiltIn f) w = tt

  mutual
    term_fits : (c : CodedTree) → FitTerm c → FitTerm (moved_term moving c)
    term_fits (coded_var n s) w = w
    term_fits (coded_app f cs) w = (symbol_fits f w.0, terms_fit cs w.1)

    terms_fit : (cs : CodedForest) → FitTerms cs → FitTerms (moved_terms moving cs)
    terms_fit no_terms w = tt
    terms_fit (term_then c cs) w = (term_fits c w.0, terms_fit cs w.1)

  moved_fit : (l : Line) → FitLine l → FitLine (moved_line moving l)
  moved_fit (Axiom k) w = w
  moved_fit (Hyp n k) w = (box_small n w.0, w.1)
  moved_fit (Row k None) w = w
  moved_fit (Row k (Some s)) w = w
  moved_fit (Refl c) w = term_fits c w
  moved_fit (Sym n) w = line_small n w
  moved_fit (Inst n bs) w = (
    line_small n w.0,
    each_map FitBinding FitBinding (moved_binding moving)
        (λ x v. (v.0, (v.1.0, term_fits x.term v.1.1))) bs w.1,
  )
  moved_fit (Repl n q k) w = (line_small n w.0, (w.1.0, line_small k w.1.1))
  moved_fit (Equal n) w = line_small n w
  moved_fit (BoxLine ps es) w = (
    each_map FitBoxPart FitBoxPart (moved_part moving) (λ x v. v) ps w.0,
    each_map FitEquation FitEquation (moved_equation moving) (λ x v.
        (term_fits x.left v.0, term_fits x.right v.1)) es w.1,
  )
  moved_fit Done w = tt
  moved_fit (Fresh n vs) w = (
    box_small n w.0,
    each_map FitVariable FitVariable (moved_variable moving)
        (λ x v. v) vs w.1,
  )
  moved_fit (Cases n k) w = (box_small n w.0, box_small k w.1)
  moved_fit (Induct n x c bs) w = (
    line_small n w.0,
    (
      w.1.0,
      (
        (term_fits c.left w.1.1.0.0, term_fits c.right w.1.1.0.1),
        each_map IsSmall IsSmall moving.box box_small bs w.1.1.1,
      ),
    ),
  )
  moved_fit (Observe n c ns) w = (
    line_small n w.0,
    (
      (term_fits c.left w.1.0.0, term_fits c.right w.1.0.1),
      each_map IsSmall IsSmall moving.line line_small ns w.1.1,
    ),
  )
  moved_fit (Generated n s ks) w =
      (box_small n w.0, (w.1.0, each_map IsSmall IsSmall moving.operator (λ k v. v) ks w.1.1))
  moved_fit (Partitioned n s ks) w =
      (box_small n w.0, (w.1.0, each_map IsSmall IsSmall moving.operator (λ k v. v) ks w.1.1))

  cites_fit : (y : Lemma) → IsSmall y.line → FitLine (cites y)
  cites_fit y lt = either y.clause
    where
      either : (c : Bool) → FitLine (cond c (Refl coded_true) (Inst y.line []))
      either true = (tt, tt)
      either false = (lt, tt)

  joined_fits : (l : Line) → FitLine l → FitLine (joined_line o lemmas p l)
  joined_fits l w = by_lemma (cited_lemma p.statements lemmas l) refl
    where
      by_lemma : (z : Option Lemma) → cited_lemma p.statements lemmas l ≡ z
          → FitLine (option_map_or cites z (moved_line moving l))
      by_lemma None e = moved_fit l w
      by_lemma (Some y) e = cites_fit y (cited_small l y e)

-- a list of lines, wherever it begins
lines_fit : (n : ℕ) (ls : List Line) → FitLines n ls → Each FitLine ls
lines_fit n [] w = tt
lines_fit n (l ∷ ls) w = (w.1, lines_fit (n + 1) ls w.2)

fit_from : (n : ℕ) (ls : List Line) → n + length ls ≤ 2 ^ 64 → Each FitLine ls → FitLines n ls
fit_from n [] lt w = tt
fit_from n (l ∷ ls) lt w = (omega (arith, lt), w.0, fit_from (n + 1) ls (omega (arith, lt)) w.1)

all_fit : (lines : List Line) (lemmas : List Lemma) (ps : List Part) → Each FitLine lines
    → Each (λ y. IsSmall y.line) lemmas → AreWritable ps → length (joined_from lines lemmas ps) < 2 ^ 64
    → Each FitLine (joined_from lines lemmas ps)
all_fit lines lemmas [] w v a lt = w
all_fit lines lemmas (p ∷ ps) w v a lt =
    let o = length lines in
    let more = joined_lines o lemmas p in
    let y = lemma_of o p in
    let long = grows_longer (lines ++ more) (lemmas ++ y ∷ []) ps in
    let both = length-append lines more in
    let many = length-map p.certificate (joined_line o lemmas p) in
    let all : length (joined_from (lines ++ more) (lemmas ++ y ∷ []) ps) < 2 ^ 64 = lt in
    let cut : length more ≡ length p.certificate = many in
    let small : IsSmall o = omega (arith, all, long, both) in
    let end : IsSmall (o + length p.certificate) = omega (arith, all, long, both, cut) in
    all_fit (lines ++ more) (lemmas ++ y ∷ []) ps
    (each_append FitLine lines more w
    (each_map FitLine FitLine (joined_line o lemmas p) (joined_fits o small lemmas v p) p.certificate
    (lines_fit 1 p.certificate a.0)))
    (each_append (λ z. IsSmall z.line) lemmas (y ∷ []) v (end, tt)) a.1 lt

-- what is joined of writable parts is writable
pub joined_writable : (parts : List Part) → AreWritable parts → length (join_parts parts) < 2 ^ 64
    → Writable (join_parts parts)
joined_writable parts w lt =
    fit_from 1 (join_parts parts) (omega (arith, lt)) (all_fit [] [] parts tt tt w lt)

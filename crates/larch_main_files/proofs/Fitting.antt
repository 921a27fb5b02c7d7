-- What is left of a certificate that has a text has one too.
use Rattle.std.proofs.Common.{ℕ, zero, suc, ◌+◌, ◌≤◌, ◌^◌, Bool, true, false, cond, List, [], ◌∷◌, ◌++◌, map}
use Rattle.std.proofs.Common.{length, Some, None, arith}
use Rattle.std.proofs.lemmas.List.{length-append}
use Rattle.larch_certificate.specs.Coded.{CodedTree, CodedForest, coded_var, coded_app, no_terms, term_then}
use Rattle.larch_certificate.specs.declared.line.Line.{Line}
use Rattle.larch_certificate.specs.declared.line.Line.TheVariants.{Axiom, Hyp, Row, Refl, Sym, Inst, Repl, Equal}
use Rattle.larch_certificate.specs.declared.line.Line.TheVariants.{BoxLine, Done, Fresh, Cases, Induct, Observe}
use Rattle.larch_certificate.specs.declared.line.Line.TheVariants.{Generated, Partitioned}
use Rattle.larch_certificate.specs.declared.symbol.Symbol.{Symbol}
use Rattle.larch_certificate.specs.declared.symbol.Symbol.TheVariants.{Own, Constant, BuiltIn}
use Rattle.larch_certificate_text.specs.CertificateText.{FitLines, Writable}
use Rattle.larch_certificate_text.specs.EquationText.{FitEquation}
use Rattle.larch_certificate_text.specs.LineText.{FitBinding, FitBoxPart, FitVariable, FitLine}
use Rattle.larch_certificate_text.specs.Parts.{IsSmall, Each}
use Rattle.larch_certificate_text.specs.SymbolText.{FitSymbol}
use Rattle.larch_certificate_text.specs.TermText.{FitTerm, FitTerms}
use Rattle.larch_trim.proofs.TrimLawNumbers.{new_is, ranked}
use Rattle.larch_trim_meaning.specs.Reached.{is_marked}
use Rattle.larch_trim_meaning.specs.Trimmed.{kept_line, kept_lines, needed_marks, new_number, number_move, trim_lines}
use Rattle.larch_verify_law.specs.Moves.{Move, carry_lines, moved_binding, moved_equation, moved_line, moved_part}
use Rattle.larch_verify_law.specs.Moves.{moved_symbol, moved_term, moved_terms, moved_variable}

each_map : {A B : Type 0} (P : A → Type 0) (Q : B → Type 0) (f : A → B) → ((x : A) → P x → Q (f x)) → (xs : List A)
    → Each P xs → Each Q (map f xs)
each_map P Q f k [] w = tt
each_map P Q f k (x ∷ xs) w = (k x w.0, each_map P Q f k xs w.1)

each_append : {A : Type 0} (P : A → Type 0) (xs ys : List A) → Each P xs → Each P ys → Each P (xs ++ ys)
each_append P [] ys w v = v
each_append P (x ∷ xs) ys w v = (w.0, each_append P xs ys w.1 v)

-- a new number isn't greater than the old one
ranked_least : (ms : List Bool) (n : ℕ) → ranked ms n ≤ n
ranked_least [] n = omega arith
ranked_least (m ∷ ms) zero = omega arith
ranked_least (true ∷ ms) (suc n) = let le = ranked_least ms n in omega (arith, le)
ranked_least (false ∷ ms) (suc n) = let le = ranked_least ms n in omega (arith, le)

module _ (ms : List Bool) where
  abbrev moving : Move
  moving = number_move (new_number ms)

  number_small : (n : ℕ) → IsSmall n → IsSmall (new_number ms n)
  number_small n lt = let is = new_is ms n in let le = ranked_least ms n in omega (arith, is, le, lt)

  symbol_fits : (f : Symbol) → FitSymbol f → FitSymbol (moved_symbol moving f)
  symbol_fits (Own k) w = w
  symbol_fits (Constant n k) w = (number_small n w.0, w.1)
  symbol_fits (BuiltIn f) w = tt

  mutual
    term_fits : (c : CodedTree) → FitTerm c → FitTerm (moved_term moving c)
    term_fits (coded_var n s) w = w
    term_fits (coded_app f cs) w = (symbol_fits f w.0, terms_fit cs w.1)

    terms_fit : (cs : CodedForest) → FitTerms cs → FitTerms (moved_terms moving cs)
    terms_fit no_terms w = tt
    terms_fit (term_then c cs) w = (term_fits c w.0, terms_fit cs w.1)

  numbers_fit : (ns : List ℕ) → Each IsSmall ns → Each IsSmall (map (new_number ms) ns)
  numbers_fit ns w = each_map IsSmall IsSmall (new_number ms) number_small ns w

  operators_fit : (ks : List ℕ) → Each IsSmall ks → Each IsSmall (map moving.operator ks)
  operators_fit ks w = each_map IsSmall IsSmall moving.operator (λ k v. v) ks w

  moved_fit : (l : Line) → FitLine l → FitLine (moved_line moving l)
  moved_fit (Axiom k) w = w
  moved_fit (Hyp n k) w = (number_small n w.0, w.1)
  moved_fit (Row k None) w = w
  moved_fit (Row k (Some s)) w = w
  moved_fit (Refl c) w = term_fits c w
  moved_fit (Sym n) w = number_small n w
  moved_fit (Inst n bs) w = (
    number_small n w.0,
    each_map FitBinding FitBinding (moved_binding moving)
        (λ x v. (v.0, (v.1.0, term_fits x.term v.1.1))) bs w.1,
  )
  moved_fit (Repl n q k) w = (number_small n w.0, (w.1.0, number_small k w.1.1))
  moved_fit (Equal n) w = number_small n w
  moved_fit (BoxLine ps es) w = (
    each_map FitBoxPart FitBoxPart (moved_part moving) (λ x v. v) ps w.0,
    each_map FitEquation FitEquation (moved_equation moving)
        (λ x v. (term_fits x.left v.0, term_fits x.right v.1)) es w.1,
  )
  moved_fit Done w = tt
  moved_fit (Fresh n vs) w = (
    number_small n w.0,
    each_map FitVariable FitVariable (moved_variable moving) (λ x v. v) vs w.1,
  )
  moved_fit (Cases n k) w = (number_small n w.0, number_small k w.1)
  moved_fit (Induct n x c bs) w = (
    number_small n w.0,
    (w.1.0, ((term_fits c.left w.1.1.0.0, term_fits c.right w.1.1.0.1), numbers_fit bs w.1.1.1)),
  )
  moved_fit (Observe n c ns) w = (
    number_small n w.0,
    ((term_fits c.left w.1.0.0, term_fits c.right w.1.0.1), numbers_fit ns w.1.1),
  )
  moved_fit (Generated n s ks) w = (number_small n w.0, (w.1.0, operators_fit ks w.1.1))
  moved_fit (Partitioned n s ks) w = (number_small n w.0, (w.1.0, operators_fit ks w.1.1))

  line_fits : (n : ℕ) (l : Line) → FitLine l → Each FitLine (kept_line ms n l)
  line_fits n l w = either (is_marked ms n)
    where
      either : (b : Bool) → Each FitLine (cond b (moved_line moving l ∷ []) [])
      either true = (moved_fit l w, tt)
      either false = tt

  line_short : (n : ℕ) (l : Line) → length (kept_line ms n l) ≤ 1
  line_short n l = either (is_marked ms n)
    where
      either : (b : Bool) → length (cond b (moved_line moving l ∷ []) []) ≤ 1
      either true = omega arith
      either false = omega arith

  kept_fit : (n : ℕ) (ls : List Line) → Each FitLine ls → Each FitLine (carry_lines (kept_line ms) n ls)
  kept_fit n [] w = tt
  kept_fit n (l ∷ ls) w =
      each_append FitLine (kept_line ms n l) (carry_lines (kept_line ms) (suc n) ls) (line_fits n l w.0)
      (kept_fit (suc n) ls w.1)

  kept_short : (n : ℕ) (ls : List Line) → length (carry_lines (kept_line ms) n ls) ≤ length ls
  kept_short n [] = omega arith
  kept_short n (l ∷ ls) =
      let one = line_short n l in
      let rest = kept_short (suc n) ls in
      let both = length-append (kept_line ms n l) (carry_lines (kept_line ms) (suc n) ls) in
      omega (arith, one, rest, both)

-- a list of lines, wherever it begins
lines_fit : (n : ℕ) (ls : List Line) → FitLines n ls → Each FitLine ls
lines_fit n [] w = tt
lines_fit n (l ∷ ls) w = (w.1, lines_fit (n + 1) ls w.2)

fit_from : (n : ℕ) (ls : List Line) → n + length ls ≤ 2 ^ 64 → Each FitLine ls → FitLines n ls
fit_from n [] lt w = tt
fit_from n (l ∷ ls) lt w = (omega (arith, lt), w.0, fit_from (n + 1) ls (omega (arith, lt)) w.1)

fit_length : (n : ℕ) (ls : List Line) → n ≤ 2 ^ 64 → FitLines n ls → n + length ls ≤ 2 ^ 64
fit_length n [] lt w = omega (arith, lt)
fit_length n (l ∷ ls) lt w =
    let small = w.0 in let rest = fit_length (n + 1) ls (omega (arith, small)) w.2 in omega (arith, rest)

-- what is left of a writable certificate is writable
pub left_writable : (lines : List Line) → Writable lines → Writable (trim_lines lines)
left_writable lines w =
    let ms = needed_marks lines in
    let long = fit_length 1 lines (omega arith) w in
    let short = kept_short ms 1 lines in
    fit_from 1 (kept_lines ms lines) (omega (arith, long, short)) (kept_fit ms 1 lines (lines_fit 1 lines w))
